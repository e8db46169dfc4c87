-- The newest local is the last entry; the effect of forgetting it.
use Rattle.std.proofs.Common.{◌≡◌, ℕ, zero, suc, ◌-◌, ◌<◌, ◌≤◌, List, [], ◌∷◌, ◌++◌, length, drop}
use Rattle.std.proofs.Common.{map, reverse, refl, sym, ap, subst, ◌∙◌, arith, ℤ, Bool, true, false}
use Rattle.std.proofs.Common.{Option, None, Some, set, get_or}
use Rattle.std.specs.Prelude.{if◌then◌else◌, bytes_eq}
use Rattle.std.proofs.lemmas.List.{reverse-append, map-append, length-append}
use Rattle.interpreter.specs.declared.entry.Entry.{Entry}
use Rattle.c_meaning.specs.Locals.{Local, oldest, assigned, scopes_of}
use Rattle.interpreter.specs.inside.Entries.{entry_local, seen_locals, with_entry_value, Found}

pub seen-one_more : (es : List Entry) (e : Entry) → seen_locals (es ++ e ∷ []) ≡ entry_local e
    ∷ seen_locals es
seen-one_more es e = ap reverse (map-append entry_local es (e ∷ []))
    ∙ reverse-append (map entry_local es) (entry_local e ∷ [])

pub oldest-all : (n : ℕ) (ls : List Local) → length ls ≤ n → oldest n ls ≡ ls
oldest-all n ls le = let e : length ls - n ≡ 0 = omega arith in rw e refl

pub oldest-drop : (n : ℕ) (ls : List Local) → n < length ls → oldest n (drop 1 ls) ≡ oldest n ls
oldest-drop n [] lt = absurd (omega arith)
oldest-drop n (l ∷ ls) lt = let e : suc (length ls) - n ≡ suc (length ls - n) = omega arith in
    rw e refl

pub with_value-set : (es : List Entry) (i : ℕ) (d : Entry) (v : ℤ) → i < length es
    → set es i (record (get_or es i d) { value = v }) ≡ with_entry_value es i v
with_value-set [] i d v lt = absurd (omega arith)
with_value-set (e ∷ es) zero d v lt = refl
with_value-set (e ∷ es) (suc i) d v lt = ap (λ l. e ∷ l) (with_value-set es i d v (omega arith))

pub scopes_of-assigned : (name : List ℕ) (v : ℤ) (ls : List Local)
    → scopes_of (assigned name v ls) ≡ scopes_of ls
scopes_of-assigned name v [] = refl
scopes_of-assigned name v (l ∷ ls) = by_test (scopes_of-assigned name v ls) (bytes_eq name l.name)
  where
    by_test : scopes_of (assigned name v ls) ≡ scopes_of ls → (b : Bool)
        → scopes_of (if b then record { name = l.name; ty = l.ty; value = v } ∷ ls
        else l ∷ assigned name v ls) ≡ scopes_of (l ∷ ls)
    by_test h true = refl
    by_test h false = ap (λ ss. record { names = l.name ∷ []; types = l.ty ∷ [] } ∷ ss) h

with_value-last : (es : List Entry) (e : Entry) (v : ℤ)
    → with_entry_value (es ++ e ∷ []) (length es) v ≡ es ++ record e { value = v } ∷ []
with_value-last [] e v = refl
with_value-last (x ∷ es) e v = ap (λ l. x ∷ l) (with_value-last es e v)

with_value-others : (es : List Entry) (e : Entry) (i : ℕ) (v : ℤ) → i < length es
    → with_entry_value (es ++ e ∷ []) i v ≡ with_entry_value es i v ++ e ∷ []
with_value-others [] e i v lt = absurd (omega arith)
with_value-others (x ∷ es) e zero v lt = refl
with_value-others (x ∷ es) e (suc i) v lt =
    ap (λ l. x ∷ l) (with_value-others es e i v (omega arith))

pub found-last : (name : List ℕ) (es others : List Entry) (e : Entry) → es ≡ others ++ e ∷ []
    → bytes_eq name e.name.now ≡ true → Found name es (Some (length others))
found-last name es others e is same = subst (λ l. Found name l (Some (length others))) (sym is) (
  omega (arith, length-append others (e ∷ [])),
  λ v. ap seen_locals (with_value-last others e v)
      ∙ seen-one_more others (record e { value = v })
      ∙ sym (ap (assigned name v) (seen-one_more others e) ∙ rw same refl),
)

pub found-others : (name : List ℕ) (es others : List Entry) (e : Entry) (r : Option ℕ)
    → es ≡ others ++ e ∷ [] → bytes_eq name e.name.now ≡ false → Found name others r
    → Found name es r
found-others name es others e None is other h = subst (λ l. Found name l None) (sym is)
    (λ v. ap (assigned name v) (seen-one_more others e)
    ∙ rw other (ap (λ l. entry_local e ∷ l) (h v)) ∙ sym (seen-one_more others e))
found-others name es others e (Some i) is other h = subst (λ l. Found name l (Some i)) (sym is) (
  omega (arith, h.0, length-append others (e ∷ [])),
  λ v. ap seen_locals (with_value-others others e i v h.0)
      ∙ seen-one_more (with_entry_value others i v) e
      ∙ ap (λ l. entry_local e ∷ l) (h.1 v)
      ∙ sym (ap (assigned name v) (seen-one_more others e) ∙ rw other refl),
)

pub ruleset ends = (seen-one_more, oldest-all, oldest-drop, with_value-set, scopes_of-assigned)
