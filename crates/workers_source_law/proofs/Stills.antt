-- A compartment alone, as a device that refuses nothing: what it holds when it is at rest, and what
-- is left of that where a fence or a power cut comes.
use Rattle.std.proofs.Common.{◌≡◌, ℕ, Bool, true, false, List, [], ◌∷◌}
use Rattle.std.proofs.Common.{Some, None, refl, sym, subst}
use Rattle.cache_model.specs.Event.{CacheEvent, Fence}
use Rattle.cache_model.specs.Cache.{Words, Cache, view}
use Rattle.cache_model.specs.Play.{apply, play}
use Rattle.cache_model.specs.Image.{IsImage}
use Rattle.cache_model.specs.Collapse.{left_cache}
use Rattle.cache_model.specs.declared.choice.Rest.{Rest}
use Rattle.cache_model.specs.declared.choice.Pick.{Pick}
use Rattle.pmem.specs.Device.{Device}
use Rattle.pool_layout.specs.declared.places.Place.TheVariants.{Heap}
use Rattle.pool_layout.specs.Places as places
use Rattle.clobber_log.specs.Logs.{count_in}
use Rattle.crash_law.specs.Pools.{IsBefore}
use Rattle.crash_law.specs.Law.{IsAtRest, AreMarked}
use Rattle.pm_machine.specs.Runs.{heap_in}
use Rattle.cut_law.specs.Law.{pool_with}
use Rattle.pool_workers.specs.Crew.{compartment}
use Rattle.workers_law.specs.AsCall.{quiet_on}
use Rattle.workers_law.specs.Fenced.{fenced_cache}
use Rattle.workers_law.proofs.Powers.{fenced, marks}
use Rattle.cnvm_session.specs.declared.program.Program.{Program}
use Rattle.cnvm_session.specs.Marks.{rolls_back_of}
use Rattle.cnvm_session.specs.Pool.{sizes_of}
use Rattle.session_law.specs.State.{Pending, Standing, Ready, Down, Unusable, SourceState}
use Rattle.session_law.specs.State.{standing_as}
use Rattle.session_law.specs.Holds.{HoldsPool, IsResting, OwesNone, OwesBy, HeldAs}
use Rattle.session_law.proofs.images.Ones.{rest_images, left_rest, at_left}

-- a device with this cache
abbrev pub still : Cache → Device
still c = quiet_on 0 c

-- the cache of a worker's compartment
abbrev pub own : Program → ℕ → Device → Cache
own program worker d = (compartment program.image worker d).cache

-- each image of the second is one of the first
abbrev pub AreFewer : (c b : Cache) → Type 0
AreFewer c b = (image : Words) → IsImage b image → IsImage c image

pub fewer_fenced : (k : Bool) (c : Cache) → AreFewer c (fenced_cache k c)
fewer_fenced k c = (fenced k c).0

pub fewer_left : (c : Cache) (rest : Rest) (picks : List Pick)
    → AreFewer c (left_cache c rest picks)
fewer_left c rest picks =
    rest_images (IsImage c) (left_cache c rest picks) (left_rest c rest picks)
    (at_left (IsImage c) c rest picks (λ image is. is))

pub marks_fenced : (k : Bool) (c : Cache) → AreMarked c → AreMarked (fenced_cache k c)
marks_fenced true c marked = marks.1 c Fence marked
marks_fenced false c marked = marked

pub marks_play : (es : List CacheEvent) (c : Cache) → AreMarked c → AreMarked (play c es)
marks_play [] c marked = marked
marks_play (e ∷ es) c marked = marks_play es (apply c e) (marks.1 c e marked)

-- a pool that is held doesn't depend on how the state stands
pub pool_stands : (program : Program) (h : Words) (s : SourceState) (st : Standing)
    → HoldsPool program h s → HoldsPool program h (standing_as st s)
pool_stands program h s st holds =
    record { headers = holds.headers; pool = holds.pool; words = holds.words }

pub rest_stands : (program : Program) (super : Words) (d : Device) (s : SourceState)
    (st : Standing) → IsResting program super d s → IsResting program super d (standing_as st s)
rest_stands program super d s st r = record {
  on = r.on;
  rest = r.rest;
  before = r.before;
  empty = r.empty;
  holds = pool_stands program (heap_in (sizes_of program) d.cache) s st r.holds;
}

module _ (program : Program) (super : Words) where
  -- a cache at rest with the same view is at rest with the same pool
  pub rest_same : (c b : Cache) (s : SourceState) → IsAtRest b → view b ≡ view c
      → IsResting program super (still c) s → IsResting program super (still b) s
  rest_same c b s rest same r =
      let back : view c ≡ view b = sym same in
      let heap : heap_in (sizes_of program) c ≡ heap_in (sizes_of program) b =
      λ i w. back i (places.at (places.pool_of (sizes_of program)) (Heap w)) in
      record {
        on = refl;
        rest = rest;
        before = subst (λ (v : Words). IsBefore (pool_with program.image super) s.done
            (λ w. v (places.at (places.pool_of (sizes_of program)) (Heap w))) s.last v) back
            r.before;
        empty = subst (λ (v : Words). count_in (sizes_of program) v ≡ 0) back r.empty;
        holds = subst (λ (h : Words). HoldsPool program h s) heap r.holds;
      }

  pub rest_fenced : (k : Bool) (c : Cache) (s : SourceState)
      → IsResting program super (still c) s → IsResting program super (still (fenced_cache k c)) s
  rest_fenced k c s r =
      rest_same c (fenced_cache k c) s ((fenced k c).2 r.rest) (fenced k c).1 r

  fewer_owed : (owed : Pending) (d e : Device) (s : SourceState) → AreFewer d.cache e.cache
      → (marked : Bool) → OwesBy marked program super owed d s
      → OwesBy marked program super owed e s
  fewer_owed owed d e s fewer marked r = record {
    heap = r.heap;
    holds = r.holds;
    takes = r.takes;
    words = r.words;
    end = r.end;
    effects = r.effects;
    ran = r.ran;
    left = λ image is. r.left image (fewer image is);
  }

  fewer_none : (d e : Device) (s : SourceState) → AreFewer d.cache e.cache
      → OwesNone program super d s → OwesNone program super e s
  fewer_none d e s fewer r = record {
    heap = r.heap;
    holds = r.holds;
    left = λ image is. r.left image (fewer image is);
  }

  -- what is held of a device is held of one with fewer images
  pub fewer_held : (st : Standing) (d e : Device) (s : SourceState) → AreFewer d.cache e.cache
      → HeldAs st program super d s → HeldAs st program super e s
  fewer_held Ready d e s fewer r = fewer_none d e s fewer r
  fewer_held (Down None) d e s fewer r = fewer_none d e s fewer r
  fewer_held (Down (Some owed)) d e s fewer r =
      fewer_owed owed d e s fewer (rolls_back_of program owed.tx) r
  fewer_held (Unusable kind) d e s fewer r = λ image is. r image (fewer image is)
