-- For each word the oldest record decides.
use Rattle.std.proofs.Common.{◌≡◌, ◌≢◌, ◌⊎◌, inl, inr, ⊎_elim, ℕ, zero, suc, ◌<◌, ◌≤◌, cond, Bool}
use Rattle.std.proofs.Common.{true, false, Option, Some, None, ℤ, pos, refl, sym, ap, ◌∙◌, subst}
use Rattle.std.proofs.Common.{arith, int_eq, unwrap_or}
use Rattle.std.proofs.lemmas.Bool.{cases_eq, cases_lt}
use Rattle.std.proofs.lemmas.Bool.Decides.{Decides-int_eq}
use Rattle.cache_model.specs.Cache.{Words, put}
use Rattle.pool_layout.specs.declared.places.Place.TheVariants.{RecordStamp}
use Rattle.pool_layout.specs.declared.places.Layout.{Layout}
use Rattle.pool_layout.specs.Places.{at}
use Rattle.pool_layout.specs.Image.{IsUpTo}
use Rattle.pool_layout.specs.Log.{WellMade}
use Rattle.pool_layout.proofs.Records.{pos_inj}
use Rattle.pool_layout.specs.Restored.{undo, undone}
use Rattle.cache_model.proofs.Versions.{put_same, put_other}

pub names : (w : ℕ) → int_eq (pos w) (pos w) ≡ true
names w = (Decides-int_eq (pos w) (pos w)).1 refl

pub named : (u w : ℕ) → int_eq (pos u) (pos w) ≡ true → u ≡ w
named u w e = pos_inj u w ((Decides-int_eq (pos u) (pos w)).0 e)

abbrev or_else : Option ℤ → Option ℤ → Option ℤ
or_else None o = o
or_else (Some x) o = Some x

abbrev if_named : ℤ → ℕ → ℤ → Option ℤ
if_named x w old = cond (int_eq x (pos w)) (Some old) None

-- the old value of the oldest of the first n records of w
unfoldable pub found : (ℕ → ℤ) → (ℕ → ℤ) → ℕ → ℕ → Option ℤ
found word old zero w = None
found word old (suc n) w = or_else (found word old n w) (if_named (word n) w (old n))

-- words of no record
abbrev pub nothing : ℕ → ℤ
nothing = λ j. pos 0

abbrev pub HasRecord : Option ℤ → Type 0
HasRecord o = (x : ℤ) × (o ≡ Some x)

undone_step : (o : Option ℤ) (b : Bool) (old x : ℤ)
    → unwrap_or o (cond b old x) ≡ unwrap_or (or_else o (cond b (Some old) None)) x
undone_step (Some y) b old x = refl
undone_step None true old x = refl
undone_step None false old x = refl

pub undone_found : (word old : ℕ → ℤ) (n : ℕ) (h : ℕ → ℤ) (w : ℕ)
    → undone word old n h w ≡ unwrap_or (found word old n w) (h w)
unfolding found
undone_found word old zero h w = refl
undone_found word old (suc n) h w = undone_found word old n (undo (word n) (old n) h) w
    ∙ undone_step (found word old n w) (int_eq (word n) (pos w)) (old n) (h w)

pub found_cong : (word old word' old' : ℕ → ℤ) (n : ℕ) → ((j : ℕ) → j < n → word j ≡ word' j)
    → ((j : ℕ) → j < n → old j ≡ old' j) → (w : ℕ) → found word old n w ≡ found word' old' n w
unfolding found
found_cong word old word' old' zero hw ho w = refl
found_cong word old word' old' (suc n) hw ho w =
    let rest = found_cong word old word' old' n (λ j lt. hw j (omega arith))
    (λ j lt. ho j (omega arith)) w in
    let x = hw n (omega arith) in
    let o = ho n (omega arith) in
    λ i. or_else (rest i) (if_named (x i) w (o i))

-- one more record
pub found_push : (word old : ℕ → ℤ) (n : ℕ) (x o : ℤ) (w : ℕ)
    → found (put word n x) (put old n o) (suc n) w ≡ or_else (found word old n w) (if_named x w o)
unfolding found
found_push word old n x o w =
    let rest = found_cong (put word n x) (put old n o) word old n
    (λ j lt. put_other word n j x (omega arith)) (λ j lt. put_other old n j o (omega arith)) w in
    λ i. or_else (rest i) (if_named (put_same word n x i) w (put_same old n o i))

or_else_has : (a b : Option ℤ) → HasRecord a → HasRecord (or_else a b)
or_else_has None b h = absurd (cc (h.1))
or_else_has (Some x) b h = (x, refl)

pub found_grows : (word old : ℕ → ℤ) (n : ℕ) (x o : ℤ) (w : ℕ) → HasRecord (found word old n w)
    → HasRecord (found (put word n x) (put old n o) (suc n) w)
found_grows word old n x o w h =
    subst HasRecord (sym (found_push word old n x o w))
    (or_else_has (found word old n w) (if_named x w o) h)

or_else_named : (a : Option ℤ) (b : Bool) (o : ℤ) → b ≡ true
    → HasRecord (or_else a (cond b (Some o) None))
or_else_named None b o e = (o, ap (λ (t : Bool). cond t (Some o) None) e)
or_else_named (Some x) b o e = (x, refl)

pub found_new : (word old : ℕ → ℤ) (n w : ℕ) (o : ℤ)
    → HasRecord (found (put word n (pos w)) (put old n o) (suc n) w)
found_new word old n w o = subst HasRecord (sym (found_push word old n (pos w) o w))
    (or_else_named (found word old n w) (int_eq (pos w) (pos w)) o (names w))

pub record Pushed (before : Option ℤ) (u w : ℕ) (y o : ℤ) : Type 0 where
  pub none : before ≡ None
  pub word : u ≡ w
  pub value : y ≡ o

pushed_of : (a : Option ℤ) (b : Bool) (u w : ℕ) (y o : ℤ) → (b ≡ true → u ≡ w)
    → or_else a (cond b (Some o) None) ≡ Some y → (a ≡ Some y) ⊎ Pushed a w u y o
pushed_of (Some x) b u w y o h e = inl e
pushed_of None true u w y o h e = inr (record { none = refl; word = sym (h refl); value = cc })
pushed_of None false u w y o h e = absurd (cc)

-- if one more record of a word counts, there was none before
pub found_pushed : (word old : ℕ → ℤ) (n u : ℕ) (o : ℤ) (w : ℕ) (y : ℤ)
    → found (put word n (pos u)) (put old n o) (suc n) w ≡ Some y → (found word old n w ≡ Some y)
    ⊎ Pushed (found word old n w) w u y o
found_pushed word old n u o w y e =
    pushed_of (found word old n w) (int_eq (pos u) (pos w)) u w y o (named u w)
    (sym (found_push word old n (pos u) o w) ∙ e)

record_of : (a : Option ℤ) (b : Bool) (o y : ℤ) (n w : ℕ) (word : ℕ → ℤ)
    → ((x : ℤ) → a ≡ Some x → (j : ℕ) × (j < n) × (word j ≡ pos w)) → (b ≡ true → word n ≡ pos w)
    → or_else a (cond b (Some o) None) ≡ Some y → (j : ℕ) × (j < suc n) × (word j ≡ pos w)
record_of (Some x) b o y n w word earlier here e = let r = earlier x refl in
    (r.0, omega (arith, r.1), r.2)
record_of None true o y n w word earlier here e = (n, omega arith, here refl)
record_of None false o y n w word earlier here e = absurd (cc)

-- a value that is found is that of a record
pub found_record : (word old : ℕ → ℤ) (n w : ℕ) (y : ℤ) → found word old n w ≡ Some y
    → (j : ℕ) × (j < n) × (word j ≡ pos w)
unfolding found
found_record word old zero w y e = absurd (cc)
found_record word old (suc n) w y e =
    record_of (found word old n w) (int_eq (word n) (pos w)) (old n) y n w word
    (λ x is. found_record word old n w x is) ((Decides-int_eq (word n) (pos w)).0) e

-- a log whose first n records are valid
pub well_made : (C : Layout) (a n : ℕ) (image : Words)
    → ((j : ℕ) → j < C.sizes.records → j < n → image (at C (RecordStamp j)) ≡ pos (suc a))
    → ((j : ℕ) → j < C.sizes.records → n ≤ j → IsUpTo a (image (at C (RecordStamp j))))
    → WellMade C a image
well_made C a n image good bad = record {
  stamps = λ j lt. ⊎_elim (λ (below : j < n). (suc a, omega arith, good j lt below))
      (λ (ge : n ≤ j). let u = bad j lt ge in (u.0, omega (arith, u.1), u.2)) (cases_lt j n);
  first = λ j k jk kC valid_k. ⊎_elim
      (λ (below : k < n). good j (omega arith) (omega arith))
      (λ (ge : n ≤ k). let u = bad k kC ge in
      absurd (omega (arith, u.1, pos_inj (suc a) u.0 (sym valid_k ∙ u.2))))
      (cases_lt k n);
}

or_else_right : (a b : Option ℤ) → HasRecord b → HasRecord (or_else a b)
or_else_right None b h = h
or_else_right (Some x) b h = (x, refl)

if_has : (b : Bool) (o : ℤ) → b ≡ true → HasRecord (cond b (Some o) None)
if_has true o e = (o, refl)
if_has false o e = absurd (cc)

-- a word that a record names has a record
pub found_has : (word old : ℕ → ℤ) (n j w : ℕ) → j < n → word j ≡ pos w
    → HasRecord (found word old n w)
unfolding found
found_has word old zero j w lt e = absurd (omega arith)
found_has word old (suc n) j w lt e = ⊎_elim
    (λ (same : j ≡ n). or_else_right (found word old n w) (if_named (word n) w (old n))
    (if_has (int_eq (word n) (pos w)) (old n)
    ((Decides-int_eq (word n) (pos w)).1 (subst (λ (k : ℕ). word k ≡ pos w) same e))))
    (λ (ne : j ≢ n). or_else_has (found word old n w) (if_named (word n) w (old n))
    (found_has word old n j w (omega arith) e))
    (cases_eq j n)

pub found_zero : (word old : ℕ → ℤ) (n w : ℕ) → n ≡ 0 → found word old n w ≡ None
unfolding found
found_zero word old zero w e = refl
found_zero word old (suc n) w e = absurd (omega arith)
