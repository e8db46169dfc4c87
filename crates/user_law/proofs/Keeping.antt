-- What the device holds by session_law is what the user knows of its images.
use Rattle.std.proofs.Common.{◌≡◌, ◌≢◌, inl, inr, ℕ, ◌<◌, ◌≤◌, Bool, true, false, Some}
use Rattle.std.proofs.Common.{if◌then◌else◌, nat_lt, ltb, ℤ, pos, refl, sym, ◌∙◌, arith}
use Rattle.std.proofs.lemmas.Bool.{ltb-false}
use Rattle.cache_model.specs.Cache.{Words, view}
use Rattle.cache_model.specs.Image.{IsImage, Images}
use Rattle.pmem.specs.Device.{Device}
use Rattle.pmem.specs.declared.answer.Phase.TheVariants as phase
use Rattle.pool_layout.specs.declared.limits.Sizes.{Sizes}
use Rattle.pool_layout.specs.declared.places.Place.TheVariants.{Heap}
use Rattle.pool_layout.specs.declared.places.TheConstants.{MARK}
use Rattle.pool_layout.specs.Places as places
use Rattle.pool_layout.specs.Sizes.{heap_words}
use Rattle.pool_layout.proofs.Records.{pos_inj}
use Rattle.pool_map.specs.Trap.{trap_number}
use Rattle.pm_machine.specs.HeapPool.{heap_of}
use Rattle.pm_machine.specs.declared.effect.End.{End}
use Rattle.pm_machine.specs.declared.effect.End.TheVariants.{Halted, Trapped}
use Rattle.pm_machine.specs.Effects.{heap_end}
use Rattle.crash_law.specs.Pools.{IsBefore}
use Rattle.crash_law.specs.Law.{IsCut, IsEnd}
use Rattle.run_law.specs.Seen.{result_of, E, W}
use Rattle.cut_law.specs.Law.{call_of, pool_with}
use Rattle.cnvm_session.specs.declared.mode.Mode.{Mode}
use Rattle.cnvm_session.specs.declared.program.Program.{Program}
use Rattle.cnvm_session.specs.Marks.{rolls_back_of, policy_of}
use Rattle.cnvm_session.specs.Pool.{sizes_of}
use Rattle.session_law.specs.State.{Pending}
use Rattle.session_law.specs.State as session
use Rattle.session_law.specs.Holds.{HoldsPool, HoldsAs, OwesBy}
use Rattle.session_law.proofs.images.Ones.{rest_one}
use Rattle.session_law.proofs.images.Heaps.{pool_same}
use Rattle.user_law.specs.Source.{Logs}
use Rattle.user_law.specs.State.{UserStanding, Ready, Idle, Owed, Unusable, UserState}
use Rattle.user_law.specs.Keeps.{HasState, IsOwedAt, UserKeepsAs}
use Rattle.user_law.specs.Seen.{source_in, plain, plain_standing, HasOwedPhase, KeepsLaw}

-- the heap of an image, below the heap's end
heap_is : (s : Sizes) (image : Words) (w : ℕ) → w < heap_words s →
    heap_of s image w ≡ image (places.at (places.pool_of s) (Heap w))
heap_is s image w less = go (nat_lt w (heap_words s)) refl
  where
    go : (b : Bool) → ltb w (heap_words s) ≡ b
        → (if b then image (places.at (places.pool_of s) (Heap w)) else pos 0)
        ≡ image (places.at (places.pool_of s) (Heap w))
    go true e = refl
    go false e = let more : heap_words s ≤ w = ltb-false w (heap_words s) e in absurd (omega arith)

-- a mark that is a trap's number
has_mark : (x : ℤ) (k : ℕ) → x ≡ pos k → 0 < k → x ≢ pos 0
has_mark x k is more none = let zero_is : k ≡ 0 = pos_inj k 0 (sym is ∙ none) in
    absurd (omega (arith, zero_is))

module _ (program : Program) (logs : Logs) (super : Words) (d : Device) (s : UserState) where
  pub state_of : (h : Words) → HoldsPool program h (plain s) → (image : Words) →
      IsBefore (pool_with program.image super) s.done h s.last image →
      HasState (source_in program logs) s image
  state_of h holds image before = record {
    mark = before.good.mark;
    unsealed = before.good.unsealed;
    done = before.good.done;
    last = before.last_is;
    pool = pool_same program (heap_of (sizes_of program) image) h
        (λ w less. heap_is (sizes_of program) image w less ∙ before.good.heap w less)
        ∙ holds.pool;
  }

  module _ (call : Pending) where
    abbrev Cut : Words → Type 0
    Cut = IsOwedAt phase.Sealing (source_in program logs) s

    ended : (marked : Bool) (owes : OwesBy marked program super call d (plain s)) (image : Words)
        (end : End) →
        IsEnd (pool_with program.image super) (call_of s.done call.tx call.args) owes.heap
        (heap_end owes.heap owes.effects) (result_of (policy_of marked) s.last end) image
        → Cut image
    ended marked owes image (Halted v) is = inr (inl is.seal_is)
    ended true owes image (Trapped kind) is = inr (inl is.seal_is)
    ended false owes image (Trapped kind) is =
        inr (inr (has_mark (image MARK) (trap_number kind) is.0 is.1))

    cut_one : (marked : Bool) (owes : OwesBy marked program super call d (plain s))
        (image : Words) →
        IsCut (pool_with program.image super) (call_of s.done call.tx call.args)
        (E (policy_of marked) owes.effects) (W owes.effects) owes.heap
        (heap_end owes.heap owes.effects) s.last (result_of (policy_of marked) s.last owes.end)
        image → Cut image
    cut_one marked owes image (inl before) = inl (state_of owes.heap owes.holds image before)
    cut_one marked owes image (inr (inl sealed)) = inr (inl sealed.sealed)
    cut_one marked owes image (inr (inr is)) = ended marked owes image owes.end is

    cut_by : (marked : Bool) → OwesBy marked program super call d (plain s) → (image : Words) →
        IsImage d.cache image → Cut image
    cut_by marked owes image is = cut_one marked owes image (owes.left image is)

  pub owed_sealing : (m : Mode) (call : Pending)
      → HoldsAs (session.Down (Some call)) program super m d (plain s)
      → Images (IsOwedAt phase.Sealing (source_in program logs) s) d.cache
  owed_sealing m call holds = cut_by call (rolls_back_of program call.tx) holds.1

  pub keeps_as : (m : Mode) (st : UserStanding)
      → HoldsAs (plain_standing st) program super m d (plain s)
      → HasOwedPhase st (source_in program logs) d s → UserKeepsAs st (source_in program logs) d s
  keeps_as m Ready holds seal = (
    rest_one d.cache holds.1.rest,
    state_of _ holds.1.holds (view d.cache) holds.1.before,
  )
  keeps_as m Idle holds seal =
      λ image is. state_of holds.1.heap holds.1.holds image (holds.1.left image is)
  keeps_as m (Owed call p) holds seal =
      (cut_by call (rolls_back_of program call.tx) holds.1, seal)
  keeps_as m (Unusable kind) holds seal = λ image is. (holds.1 image is).0

pub keeps_law : KeepsLaw
keeps_law program logs super m d s holds seal =
    keeps_as program logs super d s m s.standing holds seal
