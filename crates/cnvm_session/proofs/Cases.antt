-- What holds of a call by what line 2 of the pool says, and of a recovery by what the pool holds.
use Rattle.std.proofs.Common.{◌≡◌, ◌≢◌, Bool, true, false, ◌&&◌, if◌then◌else◌, ⊎_elim, pos, refl}
use Rattle.std.proofs.Common.{int_eq}
use Rattle.std.proofs.lemmas.Bool.Decides.{Decides-int_eq}
use Rattle.cache_model.specs.Cache.{view}
use Rattle.pmem.specs.Device.{Device}
use Rattle.pool_layout.specs.declared.places.TheConstants.{DONE, ATTEMPT, MARK}
use Rattle.pool_layout.proofs.Records.{decided}
use Rattle.pool_layout.specs.Image.{is_sealed}
use Rattle.pool_map.specs.declared.trap.TrapKind.{TrapKind}
use Rattle.pm_machine.specs.declared.image.Image.{Image}
use Rattle.tx_run.specs.declared.standing.Standing.{Standing}
use Rattle.tx_run.specs.declared.standing.Standing.TheVariants as stands
use Rattle.tx_run.specs.Standing.{standing_of, is_number, trap_of_mark}
use Rattle.recovery.specs.Found.{names_tx}
use Rattle.recovery.specs.Recovered.{numbers_out, tx_in}

-- what line 2 of a pool says is never that the device is off
never_off : (marked fit : Bool) (kind : TrapKind)
    → (if marked then (if fit then stands.Ready else stands.Numbers) else stands.Unusable kind)
    ≡ stands.Off → ⊥
never_off true true kind e = absurd cc
never_off true false kind e = absurd cc
never_off false fit kind e = absurd cc

module _ (P : Type 0) (d : Device)
    (ready : d.on ≡ true → standing_of (view d.cache) ≡ stands.Ready → P)
    (unusable : (kind : TrapKind) → d.on ≡ true
    → standing_of (view d.cache) ≡ stands.Unusable kind → P)
    (numbers : d.on ≡ true → standing_of (view d.cache) ≡ stands.Numbers → P)
    (off : d.on ≡ false → P) where
  by_line : (s : Standing) → d.on ≡ true → standing_of (view d.cache) ≡ s → P
  by_line stands.Ready on is = ready on is
  by_line (stands.Unusable kind) on is = unusable kind on is
  by_line stands.Numbers on is = numbers on is
  by_line stands.Off on is = absurd
      (never_off (int_eq (view d.cache MARK) (pos 0)) (is_number (view d.cache DONE)
      && is_number (view d.cache ATTEMPT)) (trap_of_mark (view d.cache MARK)) is)

  by_power : (on : Bool) → d.on ≡ on → P
  by_power true on = by_line (standing_of (view d.cache)) on refl
  by_power false is = off is

  pub by_standing : P
  by_standing = by_power d.on refl

module _ (P : Type 0) (image : Image) (d : Device)
    (unusable : d.on ≡ true → view d.cache MARK ≢ pos 0 → P)
    (numbers : d.on ≡ true → view d.cache MARK ≡ pos 0 → numbers_out image d ≡ true → P)
    (unsealed : d.on ≡ true → view d.cache MARK ≡ pos 0 → numbers_out image d ≡ false
    → is_sealed (view d.cache) ≡ false → P)
    (named : d.on ≡ true → view d.cache MARK ≡ pos 0 → numbers_out image d ≡ false
    → is_sealed (view d.cache) ≡ true → names_tx image (tx_in d) ≡ true → P)
    (unnamed : d.on ≡ true → view d.cache MARK ≡ pos 0 → numbers_out image d ≡ false
    → is_sealed (view d.cache) ≡ true → names_tx image (tx_in d) ≡ false → P)
    (off : d.on ≡ false → P) where
  by_record : (names : Bool) → d.on ≡ true → view d.cache MARK ≡ pos 0 → numbers_out image d ≡ false
      → is_sealed (view d.cache) ≡ true → names_tx image (tx_in d) ≡ names → P
  by_record true on mark fit sealed is = named on mark fit sealed is
  by_record false on mark fit sealed is = unnamed on mark fit sealed is

  by_seal : (sealed : Bool) → d.on ≡ true → view d.cache MARK ≡ pos 0 → numbers_out image d ≡ false
      → is_sealed (view d.cache) ≡ sealed → P
  by_seal true on mark fit sealed = by_record (names_tx image (tx_in d)) on mark fit sealed refl
  by_seal false on mark fit is = unsealed on mark fit is

  by_numbers : (out : Bool) → d.on ≡ true → view d.cache MARK ≡ pos 0
      → numbers_out image d ≡ out → P
  by_numbers true on mark out = numbers on mark out
  by_numbers false on mark fit = by_seal (is_sealed (view d.cache)) on mark fit refl

  by_mark : d.on ≡ true → P
  by_mark on = ⊎_elim
      (λ (mark : view d.cache MARK ≡ pos 0). by_numbers (numbers_out image d) on mark refl)
      (λ (marked : view d.cache MARK ≢ pos 0). unusable on marked)
      (decided (int_eq (view d.cache MARK) (pos 0)) ((Decides-int_eq (view d.cache MARK) (pos 0)).0)
      ((Decides-int_eq (view d.cache MARK) (pos 0)).1))

  by_switch : (on : Bool) → d.on ≡ on → P
  by_switch true on = by_mark on
  by_switch false is = off is

  pub by_found : P
  by_found = by_switch d.on refl
