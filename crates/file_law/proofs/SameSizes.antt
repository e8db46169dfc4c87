-- Sizes are the same if their five numbers are.
use Rattle.std.proofs.Common.{◌≡◌, ℕ, ap, ◌∙◌, subst}
use Rattle.std.proofs.Math.Bridge.{le_prop}
use Rattle.pool_layout.specs.declared.limits.Sizes.{Sizes}
use Rattle.pool_layout.specs.Limits.{IsWithin}
use Rattle.pool_map.specs.declared.limits.TheConstants.{RECORDS, ROOT_WORDS, SLOTS, TICKS}

one_within : (low high n : ℕ) (a b : IsWithin low high n) → a ≡ b
one_within low high n a b = λ i. (le_prop a.0 b.0 i, le_prop a.1 b.1 i)

with_number : (low high : ℕ) (f : (n : ℕ) → IsWithin low high n → Sizes) (m n : ℕ) → m ≡ n
    → (a : IsWithin low high m) (b : IsWithin low high n) → f m a ≡ f n b
with_number low high f m n e a b =
    subst (λ (k : ℕ). (c : IsWithin low high k) → f m a ≡ f k c) e
    (λ c. ap (f m) (one_within low high m a c)) b

pub same_sizes : (y z : Sizes) → y.slots ≡ z.slots → y.records ≡ z.records
    → y.root_words ≡ z.root_words → y.slot_lines ≡ z.slot_lines → y.ticks ≡ z.ticks → y ≡ z
same_sizes y z slots records root_words slot_lines ticks =
    with_number 1 SLOTS (λ n fits. record y { slots = n; slots_fit = fits }) y.slots z.slots slots
    y.slots_fit z.slots_fit
    ∙ with_number 1 RECORDS (λ n fits. record y {
      slots = z.slots;
      slots_fit = z.slots_fit;
      records = n;
      records_fit = fits;
    }) y.records z.records records y.records_fit z.records_fit
    ∙ with_number 1 ROOT_WORDS (λ n fits. record z {
      root_words = n;
      root_words_fit = fits;
      slot_lines = y.slot_lines;
      slot_fits = y.slot_fits;
      ticks = y.ticks;
      ticks_fit = y.ticks_fit;
    }) y.root_words z.root_words root_words y.root_words_fit z.root_words_fit
    ∙ with_number 2 64 (λ n fits. record z {
      slot_lines = n;
      slot_fits = fits;
      ticks = y.ticks;
      ticks_fit = y.ticks_fit;
    }) y.slot_lines z.slot_lines slot_lines y.slot_fits z.slot_fits
    ∙ with_number 1 TICKS (λ n fits. record z { ticks = n; ticks_fit = fits }) y.ticks z.ticks
    ticks y.ticks_fit z.ticks_fit
