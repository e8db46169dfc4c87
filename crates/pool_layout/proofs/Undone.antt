-- Records undone from the newest to the oldest: for each word, the oldest record decides.
use Rattle.std.proofs.Common.{◌≡◌, ◌≢◌, ⊎_elim, ℕ, zero, suc, ◌<◌, cond, Bool, true, false, ℤ, pos}
use Rattle.std.proofs.Common.{refl, sym, ap, ◌∙◌, subst, arith, int_eq}
use Rattle.std.proofs.lemmas.Bool.{cases_eq}
use Rattle.std.proofs.lemmas.Bool.Decides.{Decides-int_eq}
use Rattle.pool_layout.specs.Restored.{undo, undone}

pub if_false : (b : Bool) (x y : ℤ) → (b ≡ true → ⊥) → cond b x y ≡ y
if_false true x y no_test = absurd (no_test refl)
if_false false x y no_test = refl

pub undo_other : (x old : ℤ) (h : ℕ → ℤ) (w : ℕ) → x ≢ pos w → undo x old h w ≡ h w
undo_other x old h w ne = if_false (int_eq x (pos w)) old (h w)
    (λ e. ne ((Decides-int_eq x (pos w)).0 e))

pub undo_same : (x old : ℤ) (h : ℕ → ℤ) (w : ℕ) → x ≡ pos w → undo x old h w ≡ old
undo_same x old h w is = ap (λ (b : Bool). cond b old (h w)) ((Decides-int_eq x (pos w)).1 is)

-- a word that no record names stays
pub undone_other : (word old : ℕ → ℤ) (n : ℕ) (h : ℕ → ℤ) (w : ℕ)
    → ((j : ℕ) → j < n → word j ≢ pos w) → undone word old n h w ≡ h w
undone_other word old zero h w none = refl
undone_other word old (suc n) h w none =
    undone_other word old n (undo (word n) (old n) h) w (λ j lt. none j (omega arith))
    ∙ undo_other (word n) (old n) h w (none n (omega arith))

-- the oldest record of a word gives its value
pub undone_oldest : (word old : ℕ → ℤ) (n : ℕ) (h : ℕ → ℤ) (w j : ℕ) → j < n → word j ≡ pos w
    → ((i : ℕ) → i < j → word i ≢ pos w) → undone word old n h w ≡ old j
undone_oldest word old zero h w j lt is oldest = absurd (omega arith)
undone_oldest word old (suc n) h w j lt is oldest = ⊎_elim
    (λ (same : j ≡ n).
    undone_other word old n (undo (word n) (old n) h) w (λ i below. oldest i (omega arith))
    ∙ undo_same (word n) (old n) h w (subst (λ (k : ℕ). word k ≡ pos w) same is)
    ∙ ap old (sym same))
    (λ (ne : j ≢ n). undone_oldest word old n (undo (word n) (old n) h) w j (omega arith) is oldest)
    (cases_eq j n)

-- a property of the word, and of the old value of each of its records, also holds of what is
-- restored
pub undone_each : (P : ℤ → Type 0) (word old : ℕ → ℤ) (n : ℕ) (h : ℕ → ℤ) (w : ℕ)
    → ((j : ℕ) → j < n → word j ≡ pos w → P (old j)) → P (h w) → P (undone word old n h w)
undone_each P word old zero h w each here = here
undone_each P word old (suc n) h w each here =
    undone_each P word old n (undo (word n) (old n) h) w (λ j lt is. each j (omega arith) is)
    (one (int_eq (word n) (pos w))
    (λ e. each n (omega arith) ((Decides-int_eq (word n) (pos w)).0 e)))
  where
    one : (b : Bool) → (b ≡ true → P (old n)) → P (cond b (old n) (h w))
    one true f = f refl
    one false f = here
