-- The marks of all topics.
use Rattle.std.proofs.Common.{◌≡◌, ◌<◌, ◌≤◌, ◌+◌, ◌-◌, ℕ, zero, suc, true, List, [], ◌∷◌, ◌++◌}
use Rattle.std.proofs.Common.{Option, Some, length, sym, ◌∙◌, ap, subst, arith, inl, inr}
use Rattle.std.proofs.Common.{slice_get}
use Rattle.std.specs.Borrow.{Bor}
use Rattle.std.specs.Prelude.{◌==◌, ◌&&◌, ◌%◌}
use Rattle.std.proofs.lemmas.Bool.{eq-eqb, and_from}
use Rattle.std.proofs.lemmas.Option.{slice_get_within}
use mathlib.Core.Logic.{◌⊎◌}
use Rattle.ir.specs.declared.function.IrFunction.{IrFunction}
use Rattle.ir.specs.declared.instruction.Target.{Target}
use Rattle.ir.specs.declared.instruction.Target.TheVariants.{Root, Field}
use Rattle.ir.specs.declared.fact.Fact.TheVariants.{Unwritten, ReadField}
use Rattle.clobber_pass.specs.declared.topic.StructField.{StructField}
use Rattle.clobber_pass.specs.declared.topic.Topic.{Topic}
use Rattle.clobber_pass.specs.declared.topic.Topic.TheVariants.{Root as Roots, Fields}
use Rattle.clobber_pass.specs.inside.Class.{class_of, is_about}
use Rattle.clobber_pass.specs.inside.Marking.{AllMarked, Covers, KeepsRows}
use Rattle.clobber_pass.specs.inside.Classes.{Has, TargetMarked, RootMarked, FieldMarked}
use Rattle.clobber_pass.specs.inside.Classes.{RootsMarked, FieldsMarked, TopicMarked, OthersMarked}
use Rattle.clobber_pass.proofs.bits.Rounds.{below_next}
use Rattle.clobber_pass.proofs.marked.PlaceMarks.{same_true}

-- a target that a topic covers
pub covered : (functions : List IrFunction) (topic : Topic) (table : List (List ℕ))
    (target : Target) → AllMarked functions topic table → Covers topic target
    → TargetMarked functions table target
covered functions topic table target all covers = record {
  stores = λ f p from line inside is bare before.
      (all f inside).stores p target from line covers is bare before;
}

-- a root's field is in the topic of its 16
root_covers : (first y : ℕ) (i : Option ℕ) → y - y % 16 ≡ first → Covers (Roots first) (Root y i)
root_covers first y i is =
    let low : y ≡ first + y % 16 = omega (arith, is) in
    let few : y % 16 < 16 = omega arith in
    record {
      x = y % 16;
      few = few;
      bare = eq-eqb y (first + y % 16) low;
      before = eq-eqb y (first + y % 16) low;
    }

pub root_marked : (functions : List IrFunction) (first : ℕ) (table : List (List ℕ))
    → AllMarked functions (Roots first) table → RootMarked functions table first
root_marked functions first table all = record {
  each = λ y i is. covered functions (Roots first) table (Root y i) all (root_covers first y i is);
}

field_covers : (all : Bor (List StructField)) (x b : ℕ) (i : Option ℕ) (c : StructField)
    → x < 16 → slice_get all.now x ≡ Some c → Covers (Fields all) (Field b c.kind c.field i)
field_covers all x b i c few is =
    let both : ((c.kind == c.kind) && (c.field == c.field)) ≡ true =
    and_from (c.kind == c.kind) (c.field == c.field) (same_true c.kind) (same_true c.field) in
    let bare : is_about (class_of (slice_get all.now x)) (Unwritten b c.kind c.field) ≡ true =
    ap (λ o. is_about (class_of o) (Unwritten b c.kind c.field)) is ∙ both in
    let before : is_about (class_of (slice_get all.now x)) (ReadField c.kind c.field) ≡ true =
    ap (λ o. is_about (class_of o) (ReadField c.kind c.field)) is ∙ both in
    record { x = x; few = few; bare = bare; before = before }

pub topic_marked : (functions : List IrFunction) (all : Bor (List StructField))
    (table : List (List ℕ)) → AllMarked functions (Fields all) table
    → TopicMarked functions all.now table
topic_marked functions all table marked = record {
  each = λ c has few. record {
    each = λ b i. covered functions (Fields all) table (Field b c.kind c.field i) marked
        (field_covers all has.at b i c few has.is);
  };
}

-- marks stay
target_keeps : (functions : List IrFunction) (table new : List (List ℕ)) (target : Target)
    → KeepsRows table new → TargetMarked functions table target
    → TargetMarked functions new target
target_keeps functions table new target kept marked = record {
  stores = λ f p from line inside is bare before.
      kept.keeps f 0 p (marked.stores f p from line inside is bare before);
}

pub root_keeps : (functions : List IrFunction) (table new : List (List ℕ)) (first : ℕ)
    → KeepsRows table new → RootMarked functions table first → RootMarked functions new first
root_keeps functions table new first kept marked = record {
  each = λ y i is. target_keeps functions table new (Root y i) kept (marked.each y i is);
}

field_keeps : (functions : List IrFunction) (table new : List (List ℕ)) (c : StructField)
    → KeepsRows table new → FieldMarked functions table c → FieldMarked functions new c
field_keeps functions table new c kept marked = record {
  each = λ b i. target_keeps functions table new (Field b c.kind c.field i) kept (marked.each b i);
}

pub roots_keep : (functions : List IrFunction) (roots : List ℕ) (table new : List (List ℕ))
    → KeepsRows table new → RootsMarked functions roots table → RootsMarked functions roots new
roots_keep functions roots table new kept marked = record {
  each = λ first has. root_keeps functions table new first kept (marked.each first has);
}

-- the root's topics before a place of their list
abbrev pub RootsBelow : List IrFunction → List ℕ → List (List ℕ) → ℕ → Type 0
RootsBelow functions roots table n = (k : ℕ) → k < n → (first : ℕ)
    → slice_get roots k ≡ Some first → RootMarked functions table first

pub more_roots : (functions : List IrFunction) (roots : List ℕ) (table new : List (List ℕ))
    (n first : ℕ) → slice_get roots n ≡ Some first → KeepsRows table new
    → RootMarked functions new first → RootsBelow functions roots table n
    → RootsBelow functions roots new (n + 1)
more_roots functions roots table new n first there kept marked below =
    below_next (λ k. (one : ℕ) → slice_get roots k ≡ Some one → RootMarked functions new one) n
    (λ k less one is. root_keeps functions table new one kept (below k less one is))
    (λ one is. let both : Some first ≡ Some one = sym there ∙ is in
    let same : first ≡ one = cc in subst (RootMarked functions new) same marked)

pub all_roots : (functions : List IrFunction) (roots : List ℕ) (table : List (List ℕ)) (n : ℕ)
    → length roots ≤ n → RootsBelow functions roots table n → RootsMarked functions roots table
all_roots functions roots table n past below = record {
  each = λ first has. let less : has.at < n =
      omega (arith, slice_get_within roots has.at first has.is) in
      below has.at less first has.is;
}

-- an item of two lists
has_split : {T : Type 0} (one two : List T) (k : ℕ) (item : T)
    → slice_get (one ++ two) k ≡ Some item
    → ((k < length one) × (slice_get one k ≡ Some item)) ⊎ Has two item
has_split [] two k item is = inr (record { at = k; is = is })
has_split (i ∷ one) two zero item is = inl (omega arith, is)
has_split (i ∷ one) two (suc k) item is = shift (has_split one two k item is)
  where
    shift : ((k < length one) × (slice_get one k ≡ Some item)) ⊎ Has two item
        → ((suc k < suc (length one)) × (slice_get one k ≡ Some item)) ⊎ Has two item
    shift (inl (less, there)) = inl (omega (arith, less), there)
    shift (inr has) = inr has

-- one more topic of fields
pub more_fields : (functions : List IrFunction) (fields left all others : List StructField)
    (table new : List (List ℕ)) → left ≡ all ++ others → length all ≤ 16 → KeepsRows table new
    → TopicMarked functions all new → OthersMarked functions fields left table
    → OthersMarked functions fields others new
more_fields functions fields left all others table new is few kept marked before =
    record { each = λ c has. next c (before.each c has) }
  where
    chosen : (c : StructField) (has : Has left c)
        → ((has.at < length all) × (slice_get all has.at ≡ Some c)) ⊎ Has others c
        → Has others c ⊎ FieldMarked functions new c
    chosen c has (inl (less, there)) =
        inr (marked.each c (record { at = has.at; is = there }) (omega (arith, less, few)))
    chosen c has (inr found) = inl found

    next : (c : StructField) → Has left c ⊎ FieldMarked functions table c
        → Has others c ⊎ FieldMarked functions new c
    next c (inr was) = inr (field_keeps functions table new c kept was)
    next c (inl has) = chosen c has (has_split all others has.at c
        (ap (λ l. slice_get l has.at) (sym is) ∙ has.is))

pub all_fields : (functions : List IrFunction) (fields left : List StructField)
    (table : List (List ℕ)) → length left ≡ 0 → OthersMarked functions fields left table
    → FieldsMarked functions fields table
all_fields functions fields left table empty others =
    record { each = λ c has. done c (others.each c has) }
  where
    done : (c : StructField) → Has left c ⊎ FieldMarked functions table c
        → FieldMarked functions table c
    done c (inr marked) = marked
    done c (inl has) = absurd (omega (arith, slice_get_within left has.at c has.is, empty))
