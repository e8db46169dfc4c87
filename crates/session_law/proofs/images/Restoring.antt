-- The heap that an image's log restores, by what a power cut may leave.
use Rattle.std.proofs.Common.{◌≡◌, ◌≢◌, ◌⊎◌, inl, inr, ⊎_elim, ℕ, suc, ◌<◌, if◌then◌else◌, Bool}
use Rattle.std.proofs.Common.{true, false, List, [], ◌∷◌, ℤ, pos, sym, ap, ◌∙◌, arith}
use Rattle.std.proofs.lemmas.Bool.{cases_eq}
use Rattle.cache_model.specs.Cache.{Words}
use Rattle.pool_layout.specs.declared.places.TheConstants.{DONE, MARK, SEAL}
use Rattle.pool_layout.specs.declared.places.Place.TheVariants.{Heap}
use Rattle.pool_layout.specs.Sizes.{heap_words}
use Rattle.pool_layout.specs.Places as places
use Rattle.pool_layout.specs.Restored.{restored}
use Rattle.pool_layout.specs.Good.{Good}
use Rattle.pool_layout.proofs.Records.{pos_inj}
use Rattle.clobber_log.specs.Logs.{attempt_of, attempt_in}
use Rattle.pm_machine.specs.declared.effect.Effect.{Effect}
use Rattle.pm_machine.specs.declared.effect.Effect.TheVariants.{Loads, Scans, Stores, Logs, Flushes}
use Rattle.pm_machine.specs.declared.effect.Effect.TheVariants.{Fences, Quiet}
use Rattle.pm_machine.specs.declared.effect.End.{End}
use Rattle.pm_machine.specs.declared.effect.End.TheVariants.{Halted, Trapped}
use Rattle.pm_machine.specs.declared.records.Policy.TheVariants.{EndPool, RollBack}
use Rattle.pm_machine.specs.Inputs.{IsOverwritten}
use Rattle.pool_map.specs.Trap.{trap_number}
use Rattle.crash_law.specs.Pools.{Call, IsKept, Owed}
use Rattle.crash_law.specs.Law.{IsCut, IsEnd}
use Rattle.run_law.specs.Seen.{result_of, E, W}
use Rattle.cut_law.specs.Law.{pool_with}
use Rattle.cnvm_session.specs.declared.program.Program.{Program}
use Rattle.cnvm_session.specs.Marks.{policy_of}
use Rattle.cnvm_session.specs.Pool.{sizes_of}
use Rattle.session_law.specs.Opened.{opened_heap}
use Rattle.session_law.proofs.images.Retired.{attempt_small}
use Rattle.session_law.proofs.images.Reading.{is_marked, is_unsealed, is_owed}

-- the image's log restores this heap, word for word
abbrev pub Restores : Program → Words → Words → Type 0
Restores program h image =
    (w : ℕ) → w < heap_words (sizes_of program) → opened_heap program image w ≡ h w

-- an image in which a call isn't counted yet or, of one without the mark, isn't sealed yet,
-- restores the heap from before it
abbrev pub KeepsIn : (marked : Bool) → Program → (done : ℕ) → (h image : Words) → Type 0
KeepsIn true program done h image = image DONE ≡ pos done → Restores program h image
KeepsIn false program done h image =
    image MARK ≡ pos 0 → image SEAL ≢ pos (suc done) → Restores program h image

-- one more than a number isn't that number
pub not_next : (x : ℤ) (n : ℕ) → x ≡ pos n → x ≡ pos (suc n) → ⊥
not_next x n is more =
    let same : n ≡ suc n = pos_inj n (suc n) (sym is ∙ more) in absurd (omega arith)

-- a run stores a word or doesn't
stores_or_not : (es : List Effect) (u : ℕ) → (IsOverwritten es u → ⊥) ⊎ IsOverwritten es u
stores_or_not [] u = inl (λ over. over)
stores_or_not (Loads w ∷ es) u = stores_or_not es u
stores_or_not (Scans w apart many ∷ es) u = stores_or_not es u
stores_or_not (Stores w x ∷ es) u =
    ⊎_elim (λ same. inr (inl same))
    (λ other. ⊎_elim (λ none. inl (λ over. ⊎_elim other none over)) (λ later. inr (inr later))
    (stores_or_not es u)) (cases_eq u w)
stores_or_not (Logs w ∷ es) u = stores_or_not es u
stores_or_not (Flushes l ∷ es) u = stores_or_not es u
stores_or_not (Fences ∷ es) u = stores_or_not es u
stores_or_not (Quiet ∷ es) u = stores_or_not es u

-- so the log of a run that may be rolled back keeps every word
all_kept : (es : List Effect) (u : ℕ) → IsKept (E RollBack es) (W es) u
all_kept es u = ⊎_elim (λ none. inl none) (λ over. inr (inr over)) (stores_or_not es u)

module _ (program : Program) (super : Words) where
  abbrev opened_by : Words → Bool → Words
  opened_by image x =
      if x then restored (places.pool_of (sizes_of program))
      (attempt_in (sizes_of program) image) image
      else (λ v. image (places.at (places.pool_of (sizes_of program)) (Heap v)))

  -- an image that is good with a heap has its words
  pub good_restores : (done : ℕ) (g image : Words)
      → Good (pool_with program.image super) done g image → Restores program g image
  good_restores done g image good w less =
      ap (λ (x : Bool). opened_by image x w)
      (is_unsealed image done good.done good.unsealed) ∙ good.heap w less

  pub owed_restores : (call : Call) (es : List Effect) (g : Words) (kept : ℤ → Type 0)
      (image : Words)
      → Owed (pool_with program.image super) call (E RollBack es) (W es) g kept image
      → Restores program g image
  owed_restores call es g kept image sealed w less =
      ap (λ (x : Bool). opened_by image x w) (is_owed image call.done sealed.done sealed.sealed)
      ∙ ap (λ (a : ℕ). restored (places.pool_of (sizes_of program)) a image w)
      (ap attempt_of sealed.attempt_is ∙ attempt_small sealed.attempt
      (let fits = sealed.attempt_fits in omega arith))
      ∙ sealed.restores w less (all_kept es w)

  -- the end of a marked call is counted
  end_counted : (call : Call) (h h' : Words) (last : ℤ) (end : End) (image : Words)
      → IsEnd (pool_with program.image super) call h h' (result_of RollBack last end) image
      → image DONE ≡ pos (suc call.done)
  end_counted call h h' last (Halted v) image seen = seen.good.done
  end_counted call h h' last (Trapped k) image seen = seen.good.done

  -- what a cut of a marked call leaves, before the call is counted
  pub cut_restores : (call : Call) (es : List Effect) (h h' : Words) (last : ℤ) (end : End)
      (image : Words)
      → IsCut (pool_with program.image super) call (E RollBack es) (W es) h h' last
      (result_of RollBack last end) image
      → image DONE ≡ pos call.done → Restores program h image
  cut_restores call es h h' last end image (inl before) done =
      good_restores call.done h image before.good
  cut_restores call es h h' last end image (inr (inl sealed)) done =
      owed_restores call es h _ image sealed
  cut_restores call es h h' last end image (inr (inr seen)) done =
      absurd (not_next (image DONE) call.done done (end_counted call h h' last end image seen))

  -- the end of an unmarked call has its seal, or a mark
  pub end_sealed : (call : Call) (h h' : Words) (last : ℤ) (end : End) (image : Words)
      → IsEnd (pool_with program.image super) call h h' (result_of EndPool last end) image
      → image MARK ≡ pos 0 → image SEAL ≢ pos (suc call.done) → ⊥
  end_sealed call h h' last (Halted v) image seen mark unsealed = unsealed seen.seal_is
  end_sealed call h h' last (Trapped kind) image lost mark unsealed =
      is_marked (image MARK) (trap_number kind) lost.0 lost.1 mark

  -- what a cut of an unmarked call leaves, as long as the call isn't sealed
  pub unsealed_restores : (call : Call) (es : List Effect) (h h' : Words) (last : ℤ) (end : End)
      (image : Words)
      → IsCut (pool_with program.image super) call (E EndPool es) (W es) h h' last
      (result_of EndPool last end) image
      → image MARK ≡ pos 0 → image SEAL ≢ pos (suc call.done) → Restores program h image
  unsealed_restores call es h h' last end image (inl before) mark unsealed =
      good_restores call.done h image before.good
  unsealed_restores call es h h' last end image (inr (inl sealed)) mark unsealed =
      absurd (unsealed sealed.sealed)
  unsealed_restores call es h h' last end image (inr (inr seen)) mark unsealed =
      absurd (end_sealed call h h' last end image seen mark unsealed)

  -- so does what a cut of a call leaves
  pub cut_keeps : (marked : Bool) (call : Call) (es : List Effect) (h h' : Words) (last : ℤ)
      (end : End) (image : Words)
      → IsCut (pool_with program.image super) call (E (policy_of marked) es) (W es) h h' last
      (result_of (policy_of marked) last end) image
      → KeepsIn marked program call.done h image
  cut_keeps true call es h h' last end image cut = cut_restores call es h h' last end image cut
  cut_keeps false call es h h' last end image cut = unsealed_restores call es h h' last end image
      cut
