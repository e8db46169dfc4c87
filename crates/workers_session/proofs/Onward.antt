-- A turn or a recovery that wasn't interrupted leaves the device on.
use Rattle.std.proofs.Common.{◌≡◌, ◌≢◌, ◌∙◌, ℕ, Bool, true, false, ⊎_elim, List, Option, ℤ, pos}
use Rattle.std.proofs.Common.{refl, ap, int_eq}
use Rattle.std.proofs.lemmas.Bool.Decides.{Decides-int_eq}
use Rattle.cache_model.specs.Event.{CacheEvent}
use Rattle.cache_model.specs.Cache.{view}
use Rattle.pmem.specs.Device.{Device}
use Rattle.pmem.specs.declared.answer.Phase.TheVariants as phase
use Rattle.pmem.proofs.Refused.{all_on}
use Rattle.pool_layout.specs.declared.places.TheConstants.{MARK}
use Rattle.pool_layout.proofs.Records.{decided}
use Rattle.pool_layout.specs.Image.{is_sealed}
use Rattle.pm_machine.specs.declared.image.Image.{Image}
use Rattle.pm_machine.specs.declared.records.Policy.{Policy}
use Rattle.recovery.specs.Found.{names_tx}
use Rattle.recovery.specs.Recovered.{Cleaned, Redid, IsRecovered, numbers_out, tx_in}
use Rattle.recovery.specs.declared.answer.RecoverAnswer.{RecoverAnswer}
use Rattle.recovery.specs.declared.answer.RecoverAnswer.TheVariants as recovered
use Rattle.pool_workers.specs.declared.answer.TurnAnswer.{TurnAnswer}
use Rattle.pool_workers.specs.declared.answer.TurnAnswer.TheVariants as turned
use Rattle.pool_workers.specs.declared.task.Task.{Task}
use Rattle.pool_workers.specs.Task.{piece_of, Turned, IsGoing}
use Rattle.workers_session.specs.WorkersCommands.{is_interrupted, ends_power}

pub turned_on : (a : TurnAnswer) (image : Image) (t : Task) (o : Option Task) (d b : Device) →
    Turned a image t o d b → is_interrupted a ≡ false → b.on ≡ d.on
turned_on turned.Idle image t o d b h e = absurd h
turned_on turned.Went image t o d b h e = all_on (piece_of image t d.cache) d b h.2
turned_on (turned.Done v l) image t o d b h e = all_on (piece_of image t d.cache) d b h.2
turned_on (turned.Trap k) image t o d b h e = all_on (piece_of image t d.cache) d b h.2
turned_on (turned.Aborted k) image t o d b h e = all_on (piece_of image t d.cache) d b h.2
turned_on turned.Off image t o d b h e = absurd cc
turned_on turned.Failed image t o d b h e = absurd cc
turned_on turned.NoMemory image t o d b h e = absurd cc

pub goes_on : (a : TurnAnswer) → is_interrupted a ≡ false → IsGoing a
goes_on turned.Idle e = tt
goes_on turned.Went e = tt
goes_on (turned.Done v l) e = tt
goes_on (turned.Trap k) e = tt
goes_on (turned.Aborted k) e = tt
goes_on turned.Off e = absurd cc
goes_on turned.Failed e = absurd cc
goes_on turned.NoMemory e = absurd cc

cleaned_on : (r : RecoverAnswer) (d : Device) (es : List CacheEvent) (b : Device) → Cleaned r d es b
    → ends_power r ≡ false → b.on ≡ d.on
cleaned_on recovered.Clean d es b h e = all_on es d b h
cleaned_on (recovered.Off phase.Unsealed) d es b h e = absurd cc
cleaned_on (recovered.Off phase.Sealing) d es b h e = absurd h
cleaned_on (recovered.Off phase.Sealed) d es b h e = absurd h
cleaned_on recovered.Failed d es b h e = absurd cc
cleaned_on recovered.NoMemory d es b h e = absurd cc
cleaned_on (recovered.Redone v l) d es b h e = absurd h
cleaned_on (recovered.Trap t) d es b h e = absurd h
cleaned_on (recovered.Aborted t) d es b h e = absurd h
cleaned_on (recovered.Unusable t) d es b h e = absurd h
cleaned_on recovered.Numbers d es b h e = absurd h

redid_on : (r : RecoverAnswer) (p : Policy) (image : Image) (tx : ℕ) (args : List ℤ) (n : ℕ)
    (d b : Device) (k k1 : ℕ) → Redid r p image tx args n d b k k1 → ends_power r ≡ false →
    b.on ≡ d.on
redid_on (recovered.Redone v l) p image tx args n d b k k1 h e = all_on _ d b h.0.played
redid_on (recovered.Trap t) p image tx args n d b k k1 h e = all_on _ d b h.1.played
redid_on (recovered.Aborted t) p image tx args n d b k k1 h e = all_on _ d b h.1.played
redid_on (recovered.Off phase.Sealed) p image tx args n d b k k1 h e = absurd cc
redid_on (recovered.Off phase.Unsealed) p image tx args n d b k k1 h e = absurd h
redid_on (recovered.Off phase.Sealing) p image tx args n d b k k1 h e = absurd h
redid_on recovered.Failed p image tx args n d b k k1 h e = absurd cc
redid_on recovered.NoMemory p image tx args n d b k k1 h e = absurd cc
redid_on recovered.Clean p image tx args n d b k k1 h e = absurd h
redid_on (recovered.Unusable t) p image tx args n d b k k1 h e = absurd h
redid_on recovered.Numbers p image tx args n d b k k1 h e = absurd h

same_on : (d b : Device) → b ≡ d → b.on ≡ d.on
same_on d b e = ap (λ (x : Device). x.on) e

module _ (r : RecoverAnswer) (p : Policy) (image : Image) (d b : Device) (k k1 : ℕ)
    (h : IsRecovered r p image d b k k1) (goes : ends_power r ≡ false) where
  by_record : (named : Bool) → d.on ≡ true → view d.cache MARK ≡ pos 0 → numbers_out image d ≡ false
      → is_sealed (view d.cache) ≡ true
      → names_tx image (tx_in d) ≡ named → b.on ≡ d.on
  by_record true on mark fit sealed named =
      redid_on r p image _ _ _ d b k k1 (h.redid on mark fit sealed named) goes
  by_record false on mark fit sealed named =
      same_on d b (h.unnamed on mark fit sealed named).1

  by_seal : (sealed : Bool) → d.on ≡ true → view d.cache MARK ≡ pos 0 → numbers_out image d ≡ false
      → is_sealed (view d.cache) ≡ sealed → b.on ≡ d.on
  by_seal true on mark fit sealed = by_record (names_tx image (tx_in d)) on mark fit sealed refl
  by_seal false on mark fit unsealed = cleaned_on r d _ b (h.clean on mark fit unsealed) goes

  by_numbers : (out : Bool) → d.on ≡ true → view d.cache MARK ≡ pos 0
      → numbers_out image d ≡ out → b.on ≡ d.on
  by_numbers true on mark out = same_on d b (h.numbers on mark out).1
  by_numbers false on mark fit = by_seal (is_sealed (view d.cache)) on mark fit refl

  pub recovered_on : d.on ≡ true → b.on ≡ true
  recovered_on on = ⊎_elim
      (λ (mark : view d.cache MARK ≡ pos 0).
      by_numbers (numbers_out image d) on mark refl ∙ on)
      (λ (marked : view d.cache MARK ≢ pos 0). same_on d b (h.unusable on marked).1 ∙ on)
      (decided (int_eq (view d.cache MARK) (pos 0)) ((Decides-int_eq (view d.cache MARK) (pos 0)).0)
      ((Decides-int_eq (view d.cache MARK) (pos 0)).1))
