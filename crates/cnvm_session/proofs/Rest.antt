-- The recovery of a pool at rest stores only the attempt's word.
use Rattle.std.proofs.Common.{◌≡◌, ◌≢◌, inl, inr, Bool, false, ◌&&◌, ℕ, zero, suc}
use Rattle.std.proofs.Common.{if◌then◌else◌, nat_lt, List, []}
use Rattle.std.proofs.Common.{◌∷◌, ℤ, pos, refl, sym, ap, ◌∙◌, subst, arith}
use Rattle.cache_model.specs.Event.{CacheEvent, Store, Flush, Fence}
use Rattle.cache_model.specs.Cache.{Words, Cache, view}
use Rattle.cache_model.specs.Play.{apply}
use Rattle.cache_model.specs.Image.{Images}
use Rattle.cache_model.specs.declared.choice.Choice.{Choice}
use Rattle.cache_model.proofs.Collapses.{left_image}
use Rattle.cache_model.proofs.Views.{view_other, view_flush, view_fence}
use Rattle.pmem.specs.Device.{Device, powered, spent}
use Rattle.pmem.specs.Played.{PlaysAll, PlaysPart, Refuses}
use Rattle.pmem.specs.declared.answer.Phase.TheVariants as phase
use Rattle.pmem.specs.declared.answer.Refusal.{Refusal}
use Rattle.pmem.specs.declared.answer.Refusal.TheVariants as refusal
use Rattle.pmem.proofs.Parts.{refused_cache}
use Rattle.pool_layout.specs.declared.places.TheConstants.{LAST, DONE, ATTEMPT}
use Rattle.pool_layout.specs.declared.limits.Sizes.{Sizes}
use Rattle.pool_layout.specs.declared.places.Place.TheVariants.{Heap}
use Rattle.pool_layout.specs.Places.{at, pool_of}
use Rattle.pool_layout.specs.Sizes.{heap_words}
use Rattle.pm_machine.specs.HeapPool.{heap_of}
use Rattle.clobber_log.specs.Logs.{count_in}
use Rattle.recovery.specs.Due.{due_clean}
use Rattle.recovery.specs.Recovered.{Cleaned, tx_in}
use Rattle.recovery.specs.declared.answer.RecoverAnswer.{RecoverAnswer}
use Rattle.recovery.specs.declared.answer.RecoverAnswer.TheVariants as recovered
use Rattle.cnvm_session.specs.declared.mode.Mode.{Mode}
use Rattle.cnvm_session.specs.declared.mode.Mode.TheVariants as mode
use Rattle.cnvm_session.specs.declared.answer.Answer.{Answer}
use Rattle.cnvm_session.specs.declared.answer.Answer.TheVariants as answer
use Rattle.cnvm_session.specs.declared.program.Program.{Program}
use Rattle.cnvm_session.specs.Marks.{rolls_back_of, owes_unsigned}
use Rattle.cnvm_session.specs.Outcomes.{RecoversBy, Recovers}
use Rattle.cnvm_session.specs.Outcomes.{answer_of_recovery, mode_of_recovery}
use Rattle.cnvm_session.specs.Laws.{TellTheSame, IsQuiet, IsCacheAtRest, OwesNothing}

-- each store of the list is to the attempt's word
abbrev Attempts : List CacheEvent → Type 0
Attempts [] = Unit {0}
Attempts (Store q x ∷ es) = (q ≡ ATTEMPT) × Attempts es
Attempts (Flush l ∷ es) = Attempts es
Attempts (Fence ∷ es) = Attempts es

alike_same : (s : Sizes) (v w : Words) → v ≡ w → TellTheSame s v w
alike_same s v w is = record {
  heap = ap (heap_of s) is;
  done = ap (λ (u : Words). u DONE) is;
  value = ap (λ (u : Words). u LAST) is;
}

alike_next : (s : Sizes) (u v w : Words) → TellTheSame s u v → TellTheSame s v w → TellTheSame s u w
alike_next s u v w first rest =
    record {
      heap = first.heap ∙ rest.heap;
      done = first.done ∙ rest.done;
      value = first.value
          ∙ rest.value;
    }

-- words that differ only in the attempt are alike in the heap and in line 2
alike_at : (s : Sizes) (v w : Words) → ((p : ℕ) → p ≢ ATTEMPT → v p ≡ w p) → TellTheSame s v w
alike_at s v w same =
    record {
      heap = λ i p. (if nat_lt p (heap_words s)
          then same (at (pool_of s) (Heap p)) (λ e. absurd (omega arith)) i else pos 0);
      done = same DONE (λ e. absurd (omega arith));
      value = same LAST (λ e. absurd (omega arith));
    }

stored_else : (c : Cache) (q p : ℕ) (x : ℤ) → q ≡ ATTEMPT → p ≢ ATTEMPT
    → view (apply c (Store q x)) p ≡ view c p
stored_else c q p x is ne = view_other c q p x (λ e. ne (e ∙ is))

alike_all : (s : Sizes) (d : Device) (es : List CacheEvent) (b : Device) → Attempts es
    → PlaysAll d es b → TellTheSame s (view b.cache) (view d.cache)
alike_all s d [] b only all = alike_same s (view b.cache) (view d.cache)
    (ap (λ (e : Device). view e.cache) all)
alike_all s d (Store q x ∷ es) b only all =
    alike_next s _ _ _ (alike_all s (spent d (Store q x)) es b only.1 all.1)
    (alike_at s _ _ (λ p ne. stored_else d.cache q p x only.0 ne))
alike_all s d (Flush l ∷ es) b only all =
    alike_next s _ _ _ (alike_all s (spent d (Flush l)) es b only all.1)
    (alike_at s _ _ (λ p ne. view_flush d.cache l p))
alike_all s d (Fence ∷ es) b only all =
    alike_next s _ _ _ (alike_all s (spent d Fence) es b only all.1)
    (alike_at s _ _ (λ p ne. view_fence d.cache p))

alike_refused : (s : Sizes) (why : Refusal) (d b : Device) → Refuses why d b
    → TellTheSame s (view b.cache) (view d.cache)
alike_refused s why d b h = alike_same s (view b.cache) (view d.cache)
    (ap view (refused_cache why d b h))

alike_part : (s : Sizes) (why : Refusal) (d : Device) (es : List CacheEvent) (b : Device)
    → Attempts es → PlaysPart why d es b → TellTheSame s (view b.cache) (view d.cache)
alike_part s why d [] b only part = absurd part
alike_part s why d (e ∷ es) b only (inl refused) = alike_refused s why d b refused.1
alike_part s why d (Store q x ∷ es) b only (inr rest) =
    alike_next s _ _ _ (alike_part s why (spent d (Store q x)) es b only.1 rest.1)
    (alike_at s _ _ (λ p ne. stored_else d.cache q p x only.0 ne))
alike_part s why d (Flush l ∷ es) b only (inr rest) =
    alike_next s _ _ _ (alike_part s why (spent d (Flush l)) es b only rest.1)
    (alike_at s _ _ (λ p ne. view_flush d.cache l p))
alike_part s why d (Fence ∷ es) b only (inr rest) =
    alike_next s _ _ _ (alike_part s why (spent d Fence) es b only rest.1)
    (alike_at s _ _ (λ p ne. view_fence d.cache p))

clean_attempts : (s : Sizes) (n : ℕ) (c : Cache) → Attempts (due_clean s n c)
clean_attempts s zero c = tt
clean_attempts s (suc n) c = (refl, tt)

cleaned_alike : (s : Sizes) (u : Bool) (r : RecoverAnswer) (d : Device) (es : List CacheEvent)
    (b : Device)
    → Attempts es → Cleaned r d es b
    → TellTheSame s (view b.cache) (view d.cache) × OwesNothing (answer_of_recovery u r)
    (mode_of_recovery r)
cleaned_alike s u recovered.Clean d es b only h = (alike_all s d es b only h, refl)
cleaned_alike s u (recovered.Off phase.Unsealed) d es b only h =
    (alike_part s refusal.Off d es b only h, refl)
cleaned_alike s u (recovered.Off phase.Sealing) d es b only h = absurd h
cleaned_alike s u (recovered.Off phase.Sealed) d es b only h = absurd h
cleaned_alike s u recovered.Failed d es b only h = (alike_part s refusal.Failed d es b only h, refl)
cleaned_alike s u recovered.NoMemory d es b only h =
    (alike_part s refusal.NoMemory d es b only h, refl)
cleaned_alike s u (recovered.Redone v l) d es b only h = absurd h
cleaned_alike s u (recovered.Trap t) d es b only h = absurd h
cleaned_alike s u (recovered.Aborted t) d es b only h = absurd h
cleaned_alike s u (recovered.Unusable t) d es b only h = absurd h
cleaned_alike s u recovered.Numbers d es b only h = absurd h

-- a recovery without events
cleaned_none : (r : RecoverAnswer) (d b : Device) → Cleaned r d [] b
    → (r ≡ recovered.Clean) × (b ≡ d)
cleaned_none recovered.Clean d b h = (refl, h)
cleaned_none (recovered.Off phase.Unsealed) d b h = absurd h
cleaned_none (recovered.Off phase.Sealing) d b h = absurd h
cleaned_none (recovered.Off phase.Sealed) d b h = absurd h
cleaned_none recovered.Failed d b h = absurd h
cleaned_none recovered.NoMemory d b h = absurd h
cleaned_none (recovered.Redone v l) d b h = absurd h
cleaned_none (recovered.Trap t) d b h = absurd h
cleaned_none (recovered.Aborted t) d b h = absurd h
cleaned_none (recovered.Unusable t) d b h = absurd h
cleaned_none recovered.Numbers d b h = absurd h

module _ (program : Program) (choice : Choice) (n : Mode) (d b : Device) (a : Answer) (k k1 : ℕ)
    (rests : IsCacheAtRest program.image.parts.sizes d.cache)
    (does : Recovers program (powered choice d) a n b k k1) where
  abbrev s : Sizes
  s = program.image.parts.sizes

  abbrev left : Device
  left = powered choice d

  abbrev owes : Bool
  owes = owes_unsigned program left

  quiet : IsQuiet s (view left.cache)
  quiet = rests.quiet (view left.cache) (left_image d.cache choice.rest choice.picks)

  -- nothing is sealed, so no marked transaction is owed
  recovers : RecoversBy false owes program.image left a n b k k1
  recovers = subst (λ (marks : Bool). RecoversBy marks owes program.image left a n b k k1)
      (ap (λ (sealed : Bool). sealed && rolls_back_of program (tx_in left)) quiet.unsealed) does

  cleaned : Cleaned recovers.tx_answer left (due_clean s (count_in s (view left.cache)) left.cache)
      b
  cleaned = recovers.recovered.clean refl quiet.mark quiet.numbers quiet.unsealed

  told : TellTheSame s (view b.cache) (view left.cache)
      × OwesNothing (answer_of_recovery owes recovers.tx_answer)
      (mode_of_recovery recovers.tx_answer)
  told = cleaned_alike s owes recovers.tx_answer left _ b
      (clean_attempts s (count_in s (view left.cache)) left.cache) cleaned

  pub rest_alike : TellTheSame s (view b.cache) (view d.cache)
  rest_alike = alike_next s (view b.cache) (view left.cache) (view d.cache) told.0
      (rests.alike (view left.cache) (left_image d.cache choice.rest choice.picks))

  pub rest_owes : OwesNothing a n
  rest_owes = subst (λ (x : Answer). OwesNothing x n) (sym recovers.answer)
      (subst (λ (x : Mode). OwesNothing (answer_of_recovery owes recovers.tx_answer) x)
      (sym recovers.mode) told.1)

  pub rest_none : Images (λ i. count_in s i ≡ 0) d.cache → (a ≡ answer.RecoveredNone)
      × (n ≡ mode.Ready) × (b ≡ left)
  rest_none none =
      let counted : count_in s (view left.cache) ≡ 0 =
      none (view left.cache) (left_image d.cache choice.rest choice.picks) in
      let ends = cleaned_none recovers.tx_answer left b
      (subst (λ (m : ℕ). Cleaned recovers.tx_answer left (due_clean s m left.cache) b) counted
      cleaned) in (
        recovers.answer ∙ ap (answer_of_recovery owes) ends.0,
        recovers.mode ∙ ap mode_of_recovery ends.0,
        ends.1,
      )
