-- What a walk keeps after a step, fact by fact.
use Rattle.std.proofs.Common.{◌≡◌, ◌&&◌, ℕ, Bool, true, false, cond, List, Option, Some, None, refl}
use Rattle.std.proofs.Common.{arith, inl, inr, ⊎_elim}
use Rattle.std.specs.Prelude.{◌==◌, not, slice_get, position}
use Rattle.std.proofs.lemmas.Bool.{false≢true, or_cases}
use Rattle.ir.specs.declared.instruction.Target.TheVariants.{Root, Field}
use Rattle.ir.specs.declared.instruction.Instruction.{Instruction}
use Rattle.ir.specs.declared.instruction.Instruction.TheVariants.{Const, Copy, Bin, Load, Store}
use Rattle.ir.specs.declared.instruction.Instruction.TheVariants.{New}
use Rattle.ir.specs.declared.fact.Fact.{Fact}
use Rattle.ir.specs.declared.fact.Fact.TheVariants.{Here, Unwritten, RootUnwritten, ReadRoot}
use Rattle.ir.specs.declared.fact.Fact.TheVariants.{ReadField, Freed}
use Rattle.ir.specs.declared.fact.Origins.{Origins}
use Rattle.ir.specs.declared.fact.Origins.TheVariants.{Nowhere, One, Two}
use Rattle.ir.specs.declared.fact.Back.{Back}
use Rattle.ir.specs.declared.fact.Back.TheVariants.{FromReturn, Stays}
use Rattle.ir.specs.Walk.{Kept, facts_after, facts_passed, facts_at_entry, facts_taken, given_back}
use Rattle.ir.specs.Table.{holds, AmongOrigins, origins, argument_fact, at_call, from_parameter}
use Rattle.ir.specs.Table.{back}
use Rattle.ir.specs.inside.Table.{holds_any}

-- negation inside a conditional
on_not : (k : Kept) (t u v : Bool) (a b : Origins) → not u ≡ holds_any k a → not v ≡ holds_any k b
    → not (cond t u v) ≡ holds_any k (cond t a b)
on_not k true u v a b h j = h
on_not k false u v a b h j = j

on_test : (k : Kept) (t u v : Bool) (a b : Origins) → u ≡ holds_any k a → v ≡ holds_any k b
    → cond t u v ≡ holds_any k (cond t a b)
on_test k true u v a b h j = h
on_test k false u v a b h j = j

unwritten-after : (i : Instruction) (k : Kept) (r s x : ℕ)
    → holds (facts_after i k) (Unwritten r s x) ≡ holds_any k (origins i (Unwritten r s x))
unwritten-after (Const to v) k r s x =
    on_not k (r == to) _ _ (One Here) (One (Unwritten r s x)) refl refl
unwritten-after (Bin op to left right) k r s x =
    on_not k (r == to) _ _ (One Here) (One (Unwritten r s x)) refl refl
unwritten-after (Copy to from) k r s x =
    on_not k (r == to) _ _ (One (Unwritten from s x)) (One (Unwritten r s x)) refl refl
unwritten-after (Load to (Root y i)) k r s x =
    on_not k (r == to) _ _ (One Here) (One (Unwritten r s x)) refl refl
unwritten-after (Load to (Field b t y i)) k r s x =
    on_not k (r == to) _ _ (One Here) (One (Unwritten r s x)) refl refl
unwritten-after (New to kind log_fill line) k r s x =
    on_not k (r == to) _ _ Nowhere (One (Unwritten r s x)) refl refl
unwritten-after (Store (Field b t y None) from line) k r s x =
    on_not k ((r == b) && ((s == t) && (x == y))) _ _ Nowhere (One (Unwritten r s x)) refl refl
unwritten-after (Store (Field b t y (Some i)) from line) k r s x = refl
unwritten-after (Store (Root y None) from line) k r s x = refl
unwritten-after (Store (Root y (Some i)) from line) k r s x = refl
unwritten-after _ k r s x = refl

root_unwritten-after : (i : Instruction) (k : Kept) (x : ℕ)
    → holds (facts_after i k) (RootUnwritten x) ≡ holds_any k (origins i (RootUnwritten x))
root_unwritten-after (Store (Root y None) from line) k x =
    on_not k (x == y) _ _ Nowhere (One (RootUnwritten x)) refl refl
root_unwritten-after (Store (Root y (Some i)) from line) k x = refl
root_unwritten-after (Store (Field b t y None) from line) k x = refl
root_unwritten-after (Store (Field b t y (Some i)) from line) k x = refl
root_unwritten-after (Load to (Root y i)) k x = refl
root_unwritten-after (Load to (Field b t y i)) k x = refl
root_unwritten-after _ k x = refl

root_read-after : (i : Instruction) (k : Kept) (x : ℕ) → holds (facts_after i k) (ReadRoot x)
    ≡ holds_any k (origins i (ReadRoot x))
root_read-after (Load to (Root y i)) k x =
    on_test k (x == y) _ _ (Two (ReadRoot x) (RootUnwritten x)) (One (ReadRoot x)) refl refl
root_read-after (Load to (Field b t y i)) k x = refl
root_read-after (Store (Root y None) from line) k x = refl
root_read-after (Store (Root y (Some i)) from line) k x = refl
root_read-after (Store (Field b t y None) from line) k x = refl
root_read-after (Store (Field b t y (Some i)) from line) k x = refl
root_read-after _ k x = refl

field_read-after : (i : Instruction) (k : Kept) (s x : ℕ) → holds (facts_after i k) (ReadField s x)
    ≡ holds_any k (origins i (ReadField s x))
field_read-after (Load to (Field b t y i)) k s x =
    on_test k ((s == t) && (x == y)) _ _ (Two (ReadField s x) (Unwritten b s x))
    (One (ReadField s x)) refl refl
field_read-after (Load to (Root y i)) k s x = refl
field_read-after (Store (Root y None) from line) k s x = refl
field_read-after (Store (Root y (Some i)) from line) k s x = refl
field_read-after (Store (Field b t y None) from line) k s x = refl
field_read-after (Store (Field b t y (Some i)) from line) k s x = refl
field_read-after _ k s x = refl

freed-after : (i : Instruction) (k : Kept)
    → holds (facts_after i k) Freed ≡ holds_any k (origins i Freed)
freed-after (Load to (Root y i)) k = refl
freed-after (Load to (Field b t y i)) k = refl
freed-after (Store (Root y None) from line) k = refl
freed-after (Store (Root y (Some i)) from line) k = refl
freed-after (Store (Field b t y None) from line) k = refl
freed-after (Store (Field b t y (Some i)) from line) k = refl
freed-after _ k = refl

-- after an instruction that is neither a call nor a return, a fact holds exactly if one of its
-- origins held before
pub holds-after : (i : Instruction) (k : Kept) (b : Fact)
    → holds (facts_after i k) b ≡ holds_any k (origins i b)
holds-after i k Here = refl
holds-after i k (Unwritten r s x) = unwritten-after i k r s x
holds-after i k (RootUnwritten x) = root_unwritten-after i k x
holds-after i k (ReadRoot x) = root_read-after i k x
holds-after i k (ReadField s x) = field_read-after i k s x
holds-after i k Freed = freed-after i k

-- if one of the origins holds, some origin holds
pub holds_any-origin : (k : Kept) (o : Origins) (a : Fact) → AmongOrigins a o → holds k a ≡ true
    → holds_any k o ≡ true
holds_any-origin k Nowhere a m h = absurd m
holds_any-origin k (One b) a m h = rw m at h
holds_any-origin k (Two b c) a (inl m) h = let h' = rw m at h in grind arith
holds_any-origin k (Two b c) a (inr m) h = let h' = rw m at h in grind arith

pub origin_of : (k : Kept) (o : Origins) → holds_any k o ≡ true → (a : Fact) × AmongOrigins a o
    × (holds k a ≡ true)
origin_of k Nowhere h = absurd (false≢true h)
origin_of k (One b) h = (b, refl, h)
origin_of k (Two b c) h = ⊎_elim (λ e. (b, inl refl, e)) (λ e. (c, inr refl, e))
    (or_cases (holds k b) (holds k c) h)

-- at a called function's entry
pub holds-entered : (args : List ℕ) (k : Kept) (x : Fact)
    → holds (facts_at_entry args k) x ≡ holds k (at_call args x)
holds-entered args k Here = refl
holds-entered args k (Unwritten r s x) = of_argument (slice_get args r)
  where
    of_argument : (o : Option ℕ) → not (facts_passed o k.written s x)
        ≡ holds k (argument_fact o s x)
    of_argument None = refl
    of_argument (Some a) = refl
holds-entered args k (RootUnwritten x) = refl
holds-entered args k (ReadRoot x) = refl
holds-entered args k (ReadField s x) = refl
holds-entered args k Freed = refl

-- whether the origin of a fact after a call held, at the return or at the call
abbrev pub held : Kept → Kept → Fact → Back → Bool
held before k b (FromReturn y) = holds k y
held before k b Stays = holds before b

pub holds-given_back : (to : ℕ) (args : List ℕ) (before k : Kept) (b : Fact)
    → holds (given_back to args before k) b ≡ held before k b (back to args b)
holds-given_back to args before k Here = refl
holds-given_back to args before k (Unwritten r s x) =
    of_result (r == to) (position (λ a. a == r) args)
  where
    of_result : (t : Bool) (o : Option ℕ)
        → not (cond t false (facts_taken o k.written (before.written r) s x))
        ≡ held before k (Unwritten r s x) (cond t (FromReturn Here) (from_parameter o s x))
    of_result true o = refl
    of_result false None = refl
    of_result false (Some j) = refl
holds-given_back to args before k (RootUnwritten x) = refl
holds-given_back to args before k (ReadRoot x) = refl
holds-given_back to args before k (ReadField s x) = refl
holds-given_back to args before k Freed = refl
