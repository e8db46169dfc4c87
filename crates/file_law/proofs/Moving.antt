-- A moved pool holds what it held.
use Rattle.std.proofs.Common.{◌≡◌, inl, ⊎_elim, ℕ, ◌+◌, true, false, List}
use Rattle.std.proofs.Common.{length, Some, None, pos, sym, ap, ◌∙◌, subst}
use Rattle.std.proofs.Common.{◌+ℤ◌, int_eq, arith, length-append}
use Rattle.cache_model.specs.Event.{CacheEvent}
use Rattle.cache_model.specs.Cache.{Words, Cache, view}
use Rattle.cache_model.specs.Play.{play}
use Rattle.cache_model.specs.Image.{IsImage, Images}
use Rattle.pmem.specs.Device.{Device}
use Rattle.pmem.specs.Played.{PlaysAll}
use Rattle.pmem.proofs.Refused.{all_cache, all_on}
use Rattle.pmem.proofs.Parts.{all_during, part_during}
use Rattle.pool_layout.specs.declared.limits.Sizes.{Sizes}
use Rattle.pool_layout.specs.declared.places.TheConstants.{DONE, MARK, SEAL}
use Rattle.pool_layout.specs.declared.places.Place.TheVariants.{Heap}
use Rattle.pool_layout.specs.Places.{at, pool_of}
use Rattle.pool_layout.specs.Image.{is_sealed}
use Rattle.pool_layout.specs.Headers.{HasHeaders}
use Rattle.pool_layout.specs.Good.{Lost}
use Rattle.pool_map.specs.declared.shapes.StructShape.{StructShape}
use Rattle.pool_map.specs.Trap.{trap_number}
use Rattle.pm_machine.specs.HeapPool.{words_from, objects_from, pool_in}
use Rattle.pm_machine.specs.Runs.{heap_in}
use Rattle.clobber_log.specs.Logs.{count_in}
use Rattle.crash_law.specs.Law.{IsAtRest}
use Rattle.crash_law.specs.Pools.{IsBefore}
use Rattle.c_types.specs.Shapes.{shapes_of}
use Rattle.cnvm_session.specs.declared.mode.Mode.{Mode}
use Rattle.cnvm_session.specs.declared.mode.Mode.TheVariants as mode
use Rattle.cnvm_session.specs.declared.program.Program.{Program}
use Rattle.cnvm_session.specs.Moving.{is_recovered, moving_events}
use Rattle.cnvm_session.specs.Pool.{sizes_of}
use Rattle.session_law.specs.Holds.{HoldsPool, IsResting, HoldsAs}
use Rattle.session_law.specs.State.{Standing, Ready, Down, Unusable, SourceState}
use Rattle.session_law.proofs.images.Reading.{is_marked, is_unsealed}
use Rattle.session_law.proofs.images.Resting.{resting_owes}
use Rattle.file_law.specs.Moved.{with_digest, moved_words, HasShapesOf}
use Rattle.file_law.specs.Moved.{MovesPart, AreBetween, IsUnowed, MovedLaw, MovingCutLaw}
use Rattle.file_law.specs.Moved.{UnowedLaw}
use Rattle.file_law.proofs.Moves.{moved_view, moved_rest, Near, moving_near}
use Rattle.file_law.proofs.Objects.{objects_more}
use Rattle.file_law.proofs.Places.{heap_word, count_moved, before_moved}
use Rattle.file_law.proofs.Shapes.{same_shapes}

-- what a power cut leaves of a move

pub moving_cut : MovingCutLaw
moving_cut new d b moves =
    let Q : Cache → Type 0 = Images (Near new.digest (IsImage d.cache)) in
    let es : List CacheEvent = moving_events new.digest in
    let near = moving_near new.digest (IsImage d.cache) d.cache (λ image is. is) in
    ⊎_elim (λ whole. all_during Q es d b whole near)
    (λ part. part_during Q part.0 es d b part.1 near) moves

-- the mark is no word of the digest
pub mark_between : (new : Program) (before between : Words) → AreBetween new before between
    → between MARK ≡ before MARK
mark_between new before between near = ⊎_elim (λ same. same)
    (λ set. let clash : false ≡ true = set.0 in absurd (cc)) (near MARK)

-- nor are the number of transactions done and the seal
sealed_between : (new : Program) (before between : Words) → AreBetween new before between
    → is_sealed between ≡ is_sealed before
sealed_between new before between near =
    let seal : between SEAL ≡ before SEAL = ⊎_elim (λ same. same)
    (λ set. let clash : false ≡ true = set.0 in absurd (cc)) (near SEAL) in
    let done : between DONE ≡ before DONE = ⊎_elim (λ same. same)
    (λ set. let clash : false ≡ true = set.0 in absurd (cc)) (near DONE) in
    λ i. int_eq (seal i) (done i +ℤ pos 1)

pub owing : (m : Mode) → is_recovered m ≡ true → m ≡ mode.Down → ⊥
owing m recovered down = let clash : false ≡ true = sym (ap is_recovered down) ∙ recovered in cc

-- no image of a move owes a transaction
module _ (former new : Program) (super : Words) (d b : Device) (s : SourceState)
    (moves : MovesPart new d b) where
  rested : IsResting former super d s → Images IsUnowed b.cache
  rested resting image is mark =
      let near = moving_cut new d b moves image is in
      let good = ((resting_owes former super d s resting).left near.0 near.1).good in
      sealed_between new near.0 image near.2
      ∙ is_unsealed near.0 s.done good.done good.unsealed

  lost : (k : ℕ) → Images (Lost (sizes_of former) k) d.cache → Images IsUnowed b.cache
  lost k all image is mark =
      let near = moving_cut new d b moves image is in
      let was = all near.0 near.1 in
      absurd (is_marked (image MARK) k (mark_between new near.0 image near.2 ∙ was.0) was.1 mark)

  unowed_as : (st : Standing) (m : Mode) → is_recovered m ≡ true → HoldsAs st former super m d s
      → Images IsUnowed b.cache
  unowed_as Ready m recovered holds = rested holds.1
  unowed_as (Down None) m recovered holds = absurd (owing m recovered holds.0)
  unowed_as (Down (Some owed)) m recovered holds = absurd (owing m recovered holds.0)
  unowed_as (Unusable kind) m recovered holds = lost (trap_number kind) holds.1

pub unowed : UnowedLaw
unowed former new super m d b s recovered holds moves =
    unowed_as former new super d b s moves s.standing m recovered holds

module _ (former new : Program) (shapes : HasShapesOf former new)
    (sizes : sizes_of new ≡ sizes_of former) where
  abbrev z : Sizes
  z = sizes_of former

  abbrev old_structs : List StructShape
  old_structs = (shapes_of former.typed).structs

  abbrev structs : List StructShape
  structs = (shapes_of new.typed).structs

  longer : (h : Words) → HasHeaders z (length old_structs) h → HasHeaders z (length structs) h
  longer h headers slot first last =
      let up_to = headers slot first last in
      let more : length structs ≡ length old_structs + length shapes.more =
      ap (length {A = StructShape}) shapes.structs ∙ length-append old_structs shapes.more in
      (up_to.0, omega (arith, up_to.1, more), up_to.2)

  same_objects : (h : Words) → HasHeaders z (length old_structs) h
      → objects_from z structs h 1 z.slots ≡ objects_from z old_structs h 1 z.slots
  same_objects h headers =
      ap (λ (ss : List StructShape). objects_from z ss h 1 z.slots) shapes.structs
      ∙ objects_more z old_structs shapes.more h headers

  same_pool : (h : Words) → HasHeaders z (length old_structs) h
      → pool_in (shapes_of new.typed) z h ≡ pool_in (shapes_of former.typed) z h
  same_pool h headers =
      let slots = same_objects h headers in
      λ i. record { root = words_from h 0 z.root_words; slots = slots i }

  -- a heap of the former program's pool is one of the new program's
  pub holds_pool : (h : Words) (s : SourceState) → HoldsPool former h s → HoldsPool new h s
  holds_pool h s holds = record {
    headers = subst (λ (y : Sizes). HasHeaders y (length structs) h) (sym sizes)
        (longer h holds.headers);
    pool = ap (λ (y : Sizes). pool_in (shapes_of new.typed) y h) sizes
        ∙ same_pool h holds.headers ∙ holds.pool;
    words = holds.words;
  }

  module _ (super : Words) (d b : Device) (s : SourceState)
      (all : PlaysAll d (moving_events new.digest) b) where
    abbrev moved : Words → Words
    moved w = with_digest new.digest w

    played : b.cache ≡ play d.cache (moving_events new.digest)
    played = all_cache (moving_events new.digest) d b all

    seen : view b.cache ≡ moved (view d.cache)
    seen = ap view played ∙ (λ i k. moved_view new.digest d.cache k i)

    same_heap : heap_in z b.cache ≡ heap_in z d.cache
    same_heap = λ i w. (ap (λ (v : Words). v (at (pool_of z) (Heap w))) seen
        ∙ heap_word new.digest z (view d.cache) w) i

    abbrev Before : Sizes → (heap image : Words) → Type 0
    Before y heap image =
        IsBefore (record { sizes = y; super = moved super }) s.done heap s.last image

    before : IsResting former super d s → Before (sizes_of new) (heap_in (sizes_of new) b.cache)
        (view b.cache)
    before resting =
        subst (λ (y : Sizes). Before y (heap_in y b.cache) (view b.cache)) (sym sizes)
        (subst (λ (g : Words). Before z g (view b.cache)) (sym same_heap)
        (subst (λ (v : Words). Before z (heap_in z d.cache) v) (sym seen)
        (before_moved new.digest z super s.done (heap_in z d.cache) s.last (view d.cache)
        resting.before)))

    rests : IsResting former super d s → IsResting new (moved_words new super) b s
    rests resting = record {
      on = all_on (moving_events new.digest) d b all ∙ resting.on;
      rest = subst IsAtRest (sym played) (moved_rest new.digest d.cache resting.rest);
      before = before resting;
      empty = ap (λ (y : Sizes). count_in y (view b.cache)) sizes ∙ ap (count_in z) seen
          ∙ count_moved new.digest z (view d.cache) ∙ resting.empty;
      holds = subst (λ (y : Sizes). HoldsPool new (heap_in y b.cache) s) (sym sizes)
          (subst (λ (g : Words). HoldsPool new g s) (sym same_heap)
          (holds_pool (heap_in z d.cache) s resting.holds));
    }

    loses : (k : ℕ) → Images (Lost z k) d.cache → Images (Lost (sizes_of new) k) b.cache
    loses k lost image is =
        let near = moving_cut new d b (inl all) image is in
        let was = lost near.0 near.1 in
        (mark_between new near.0 image near.2 ∙ was.0, was.1)

    by_standing : (st : Standing) (m : Mode) → is_recovered m ≡ true → HoldsAs st former super m d s
        → HoldsAs st new (moved_words new super) m b s
    by_standing Ready m recovered holds = (holds.0, rests holds.1)
    by_standing (Down None) m recovered holds = absurd (owing m recovered holds.0)
    by_standing (Down (Some owed)) m recovered holds = absurd (owing m recovered holds.0)
    by_standing (Unusable kind) m recovered holds = (
      holds.0,
      loses (trap_number kind) holds.1,
      all_on (moving_events new.digest) d b all ∙ holds.2,
    )

pub moved_holds : MovedLaw
moved_holds former new super m d b s none sizes recovered holds all =
    by_standing former new (same_shapes former new none) sizes super d b s all s.standing m
    recovered holds
