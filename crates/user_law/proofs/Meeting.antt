-- A new pool has a step, each text a run; a call comes to its end, one only looks, and one is cut
-- off at its seal.
use Rattle.std.proofs.Common.{◌≡◌, ◌≢◌, ◌⊎◌, inl, inr, ⊎_elim, ℕ, zero, suc, ◌≤◌, ◌/◌, ◌==◌}
use Rattle.std.proofs.Common.{cond, Bool, true, false, if◌then◌else◌, nat_lt, List, [], ◌∷◌}
use Rattle.std.proofs.Common.{replicate, Option, Some, None, ℤ, pos, refl, sym, ap, ◌∙◌, subst}
use Rattle.std.proofs.Common.{arith, ne_eqb}
use Rattle.std.proofs.lemmas.Bool.{le-ltb}
use Rattle.std.specs.Prelude.{codes}
use Rattle.cache_model.specs.Event.{CacheEvent, Store, Flush, Fence}
use Rattle.cache_model.specs.Cache.{Words, put, Line, Cache, view, blank_line, blank}
use Rattle.cache_model.specs.Collapse.{kept, left_cache}
use Rattle.cache_model.specs.Image.{IsImage, IsVersion}
use Rattle.cache_model.specs.Play.{store_line, flush_line, fence_line, apply}
use Rattle.cache_model.specs.declared.choice.Rest.TheVariants.{Old}
use Rattle.cache_model.proofs.Versions.{store_other}
use Rattle.pmem.specs.Device.{Device, MayTakeEvent, MayGo, spent, off_of, powered, with_left}
use Rattle.pmem.specs.Device.{less_one, armed_less}
use Rattle.pmem.specs.Played.{PlaysAll}
use Rattle.pmem.specs.declared.answer.Phase.TheVariants as phase
use Rattle.pool_layout.specs.declared.limits.Sizes.{Sizes}
use Rattle.pool_layout.specs.declared.places.Place.TheVariants.{Heap}
use Rattle.pool_layout.specs.declared.places.TheConstants.{LAST, DONE, MARK, SEAL}
use Rattle.pool_layout.specs.Places as places
use Rattle.pool_layout.specs.Sizes.{heap_words}
use Rattle.pool_layout.proofs.Records.{pos_inj}
use Rattle.pool_map.specs.declared.object.Object.{Object}
use Rattle.pool_map.specs.declared.shapes.StructShape.{StructShape}
use Rattle.pool_map.specs.PoolMap.{empty_pool}
use Rattle.c_types.specs.Shapes.{shapes_in}
use Rattle.pm_machine.specs.HeapPool.{heap_of, words_from, objects_from, pool_in}
use Rattle.crash_law.specs.Law.{IsAtRest}
use Rattle.c_meaning.specs.Transaction.{Outcome, Done, Trap, transaction_means}
use Rattle.pool_map.specs.declared.trap.TrapKind.TheVariants.{LogFull}
use Rattle.cnvm_script.specs.declared.command.Command.TheVariants as command
use Rattle.cnvm_session.specs.declared.answer.Answer.TheVariants as answer
use Rattle.session_law.specs.Ran.{found_by}
use Rattle.session_law.proofs.images.Ones.{rest_one, left_rest}
use Rattle.user_law.specs.Source.{Source, pool_of_image, comes_to}
use Rattle.user_law.specs.State.{Ready, Idle, Owed, UserState, stands_as, state_after, first_state}
use Rattle.user_law.specs.Answers.{call_told, call_told_by, recovery_told, finished}
use Rattle.user_law.specs.Answers.{has_next_seal, RecoveryEnds}
use Rattle.user_law.specs.Keeps.{HasState, IsOwedAt, UserKeeps}
use Rattle.user_law.specs.Ran.{UserMoment, UserStep}
use Rattle.user_law.specs.Run.{first_moment, source_with}
use Rattle.user_law.specs.Met.{blank_device, blank_moment, StepMetLaw, RunMetLaw}
use Rattle.user_law.specs.Met.{seven_source, call_of_seven, CallMetLaw, looking_source}
use Rattle.user_law.specs.Met.{LookMetLaw, keep_old, keep_new, CutMetLaw, CountNeededLaw}

-- a heap of zeros is the empty pool

abbrev zeros : Words
zeros w = pos 0

zero_words : (w n : ℕ) → words_from zeros w n ≡ replicate n (pos 0)
zero_words w zero = refl
zero_words w (suc n) = ap (λ (xs : List ℤ). pos 0 ∷ xs) (zero_words (suc w) n)

zero_objects : (s : Sizes) (structs : List StructShape) (slot n : ℕ)
    → objects_from s structs zeros slot n ≡ replicate n None
zero_objects s structs slot zero = refl
zero_objects s structs slot (suc n) =
    ap (λ (xs : List (Option Object)). None ∷ xs) (zero_objects s structs (suc slot) n)

zero_heap : (s : Sizes) (image : Words) → ((q : ℕ) → 48 ≤ q → image q ≡ pos 0)
    → heap_of s image ≡ zeros
zero_heap s image none = λ i w. word w (nat_lt w (heap_words s)) i
  where
    word : (w : ℕ) (b : Bool)
        → (if b then image (places.at (places.pool_of s) (Heap w)) else pos 0) ≡ pos 0
    word w true = none (places.at (places.pool_of s) (Heap w)) (omega arith)
    word w false = refl

module _ (p : Source) where
  zero_pool : pool_in (shapes_in p.tables) p.sizes zeros
      ≡ empty_pool p.sizes.root_words p.sizes.slots
  zero_pool = λ i. record {
    root = zero_words 0 p.sizes.root_words i;
    slots = zero_objects p.sizes (shapes_in p.tables).structs 1 p.sizes.slots i;
  }

  image_pool : (image : Words) → ((q : ℕ) → 48 ≤ q → image q ≡ pos 0)
      → pool_of_image p image ≡ empty_pool p.sizes.root_words p.sizes.slots
  image_pool image none =
      ap (λ (h : Words). pool_in (shapes_in p.tables) p.sizes h) (zero_heap p.sizes image none)
      ∙ zero_pool

-- a step on blank lines

never : (x : ℤ) (k : ℕ) → x ≡ pos 0 → x ≢ pos (suc k)
never x k none some =
    let clash : 0 ≡ suc k = pos_inj 0 (suc k) (sym none ∙ some) in absurd (omega (arith, clash))

-- an image of zeros is as the user knows at first, but for the standing
zero_state : (p : Source) (s : UserState) (image : Words) → s.done ≡ 0 → s.last ≡ pos 0
    → s.pool ≡ empty_pool p.sizes.root_words p.sizes.slots → image MARK ≡ pos 0
    → image SEAL ≡ pos 0 → image DONE ≡ pos 0 → image LAST ≡ pos 0
    → ((q : ℕ) → 48 ≤ q → image q ≡ pos 0) → HasState p s image
zero_state p s image done last pool mark seal counted value none = record {
  mark = mark;
  unsealed = never (image SEAL) s.done seal;
  done = counted ∙ sym (ap pos done);
  last = value ∙ sym last;
  pool = image_pool p image none ∙ sym pool;
}

blank_rest : IsAtRest blank
blank_rest l = refl

module _ (p : Source) where
  blank_state : HasState p (first_state p) (view blank)
  unfolding view
  blank_state = zero_state p (first_state p) (view blank) refl refl refl refl refl refl refl
      (λ q far. refl)

  blank_keeps : UserKeeps p (blank_device p.sizes) (first_state p)
  blank_keeps = (rest_one blank blank_rest, blank_state)

  last_step : UserStep p command.Last (blank_moment p) (answer.Last (pos 0) (pos 0))
      (blank_moment p)
  last_step = record {
    events = [];
    few = omega arith;
    played = refl;
    picks = tt;
    meant = (refl, refl);
    kept = blank_keeps;
    history = refl;
  }

pub step_met : StepMetLaw
step_met p = record { quiet = (refl, (refl, refl)); keeps = blank_keeps p; step = last_step p }

pub run_met : RunMetLaw
run_met text meaning sizes = let p : Source = source_with meaning sizes in record {
  holds = blank_keeps p;
  commands = command.Last ∷ [];
  spelled = refl;
  answers = answer.Last (pos 0) (pos 0) ∷ [];
  last = blank_moment p;
  ran = (blank_moment p, last_step p, refl);
  ends = refl;
  written_is = refl;
}

-- Events on a line, by whether it is theirs.

abbrev stored : (at : Bool) → ℕ → ℤ → Line → Line
stored at p x y = cond at (store_line y p x) y

abbrev flushed : (at : Bool) → Line → Line
flushed at y = cond at (flush_line y) y

-- a line with one version
abbrev plain_line : Words → Line
plain_line w = record { older = []; newest = w; mark = None }

abbrev with_seal : (at : Bool) → Words → Words
with_seal at w = cond at (put w SEAL (pos 1)) w

abbrev with_counts : (at : Bool) → Words → Words
with_counts at w = cond at (put (put w LAST (pos 7)) DONE (pos 1)) w

sealed_by : (at : Bool) (w : Words)
    → fence_line (flushed at (stored at SEAL (pos 1) (plain_line w)))
    ≡ plain_line (with_seal at w)
sealed_by true w = refl
sealed_by false w = refl

counted_by : (at : Bool) (w : Words)
    → fence_line (flushed at (stored at DONE (pos 1) (stored at LAST (pos 7) (plain_line w))))
    ≡ plain_line (with_counts at w)
counted_by true w = refl
counted_by false w = refl

-- the device after the seal, and after the counts
abbrev sealed_device : Device → Device
sealed_device d = spent (spent (spent d (Store SEAL (pos 1))) (Flush 5)) Fence

abbrev count_events : List CacheEvent
count_events = Store LAST (pos 7) ∷ Store DONE (pos 1) ∷ Flush 2 ∷ Fence ∷ []

abbrev counted_device : Device → Device
counted_device d =
    spent (spent (spent (spent d (Store LAST (pos 7))) (Store DONE (pos 1))) (Flush 2)) Fence

-- nothing is refused
abbrev IsCalm : Device → Type 0
IsCalm d = (d.on ≡ true) × (d.left ≡ None) × (d.armed ≡ Some None)

may_take : (d : Device) → IsCalm d → MayTakeEvent d
may_take d calm = (
  (calm.0, λ e. let clash : None ≡ Some 0 = sym calm.1 ∙ e in absurd cc),
  subst MayGo (sym calm.2) (λ e. absurd cc),
)

still_calm : (d : Device) (e : CacheEvent) → IsCalm d → IsCalm (spent d e)
still_calm d e calm = (calm.0, ap less_one calm.1, ap armed_less calm.2)

plays_counts : (d : Device) → IsCalm d → PlaysAll d count_events (counted_device d)
plays_counts d calm =
    let one : Device = spent d (Store LAST (pos 7)) in
    let two : Device = spent one (Store DONE (pos 1)) in
    let three : Device = spent two (Flush 2) in
    let calm_one : IsCalm one = still_calm d (Store LAST (pos 7)) calm in
    let calm_two : IsCalm two = still_calm one (Store DONE (pos 1)) calm_one in
    let calm_three : IsCalm three = still_calm two (Flush 2) calm_two in (
      may_take d calm,
      (
        may_take one calm_one,
        (
          may_take two calm_two,
          (
            may_take three calm_three,
            refl,
          ),
        ),
      ),
    )

plays_seal : (d b : Device) (es : List CacheEvent) → IsCalm d → PlaysAll (sealed_device d) es b
    → PlaysAll d (Store SEAL (pos 1) ∷ Flush 5 ∷ Fence ∷ es) b
plays_seal d b es calm rest =
    let one : Device = spent d (Store SEAL (pos 1)) in
    let two : Device = spent one (Flush 5) in
    let calm_one : IsCalm one = still_calm d (Store SEAL (pos 1)) calm in
    let calm_two : IsCalm two = still_calm one (Flush 5) calm_one in
    (may_take d calm, (may_take one calm_one, (may_take two calm_two, rest)))

sealed_calm : (d : Device) → IsCalm d → IsCalm (sealed_device d)
sealed_calm d calm =
    let one : Device = spent d (Store SEAL (pos 1)) in
    let two : Device = spent one (Flush 5) in
    still_calm two Fence (still_calm one (Flush 5) (still_calm d (Store SEAL (pos 1)) calm))

-- what a device with one version of each line holds then
module _ (d : Device) (w : ℕ → Words) (lines : (l : ℕ) → d.cache l ≡ plain_line (w l)) where
  sealed_line : (l : ℕ) → (sealed_device d).cache l ≡ plain_line (with_seal (l == 5) (w l))
  unfolding apply
  sealed_line l =
      ap (λ (y : Line). fence_line (flushed (l == 5) (stored (l == 5) SEAL (pos 1) y))) (lines l)
      ∙ sealed_by (l == 5) (w l)

  counted_line : (l : ℕ) → (counted_device d).cache l ≡ plain_line (with_counts (l == 2) (w l))
  unfolding apply
  counted_line l =
      ap (λ (y : Line). fence_line (flushed (l == 2) (stored (l == 2) DONE (pos 1)
      (stored (l == 2) LAST (pos 7) y)))) (lines l)
      ∙ counted_by (l == 2) (w l)

  counted_rest : IsAtRest (counted_device d).cache
  counted_rest l = ap (λ (y : Line). y.older) (counted_line l)

  counted_word : (q : ℕ)
      → view (counted_device d).cache q ≡ with_counts (q / 8 == 2) (w (q / 8)) q
  unfolding view
  counted_word q = ap (λ (y : Line). y.newest q) (counted_line (q / 8))

module _ (sizes : Sizes) where
  abbrev p : Source
  p = seven_source sizes

  abbrev first : UserState
  first = first_state p

  abbrev done_state : UserState
  done_state = record { pool = first.pool; done = 1; last = pos 7; standing = Ready }

  -- it takes no record, so its log isn't full
  seven_comes : comes_to p first.pool call_of_seven ≡ Done first.pool (pos 7)
  seven_comes = ap (λ (b : Bool). if b then Trap LogFull
      else transaction_means p.tables first.pool 1 [] sizes.ticks)
      (le-ltb sizes.records 0 (omega arith))

  -- where line 2 is blank, line 5 has the seal, and the heap is blank
  module _ (d : Device) (w : ℕ → Words) (lines : (l : ℕ) → d.cache l ≡ plain_line (w l))
      (counts : w 2 ≡ zeros) (seal : w 5 SEAL ≡ pos 1) (heap : (l : ℕ) → 6 ≤ l → w l ≡ zeros)
    where
      at_counts : (q : ℕ) → q / 8 ≡ 2 → view (counted_device d).cache q
          ≡ put (put zeros LAST (pos 7)) DONE (pos 1) q
      at_counts q is =
          counted_word d w lines q
          ∙ ap (λ (l : ℕ). with_counts (l == 2) (w l) q) is
          ∙ ap (λ (v : Words). put (put v LAST (pos 7)) DONE (pos 1) q) counts

      at_seal : view (counted_device d).cache SEAL ≡ pos 1
      at_seal = counted_word d w lines SEAL ∙ seal

      at_heap : (q : ℕ) → 48 ≤ q → view (counted_device d).cache q ≡ pos 0
      at_heap q far =
          counted_word d w lines q
          ∙ ap (λ (b : Bool). with_counts b (w (q / 8)) q)
          (ne_eqb (q / 8) 2 (λ e. absurd (omega (arith, e))))
          ∙ ap (λ (v : Words). v q) (heap (q / 8) (omega arith))

      done_has : HasState p done_state (view (counted_device d).cache)
      unfolding put
      done_has = record {
        mark = at_counts MARK refl;
        unsealed = λ e. let clash : 1 ≡ 2 = pos_inj 1 2 (sym at_seal ∙ e) in
            absurd (omega (arith, clash));
        done = at_counts DONE refl;
        last = at_counts LAST refl;
        pool = image_pool p (view (counted_device d).cache) at_heap;
      }

      done_keeps : UserKeeps p (counted_device d) done_state
      done_keeps = (rest_one (counted_device d).cache (counted_rest d w lines), done_has)

  -- a call that comes to its end

  abbrev seal_words : ℕ → Words
  seal_words l = with_seal (l == 5) zeros

  abbrev called_device : Device
  called_device = counted_device (sealed_device (blank_device sizes))

  abbrev called_moment : UserMoment
  called_moment = record {
    device = called_device;
    state = done_state;
    history = call_of_seven ∷ [];
  }

  seal_word : seal_words 5 SEAL ≡ pos 1
  unfolding put
  seal_word = refl

  seal_far : (l : ℕ) → 6 ≤ l → seal_words l ≡ zeros
  seal_far l far = ap (λ (b : Bool). with_seal b zeros)
      (ne_eqb l 5 (λ e. absurd (omega (arith, e))))

  call_meant : (answer.Done (pos 7) false 0 ≡ call_told_by p first call_of_seven)
      × (done_state ≡ finished Ready p first call_of_seven)
  call_meant = (
    ap (λ (o : Outcome). call_told false false 0 o) (sym seven_comes),
    ap (λ (o : Outcome). state_after Ready false o first) (sym seven_comes),
  )

  call_step : UserStep p (command.Call (codes "seven") []) (blank_moment p)
      (answer.Done (pos 7) false 0) called_moment
  call_step = record {
    events = Store SEAL (pos 1) ∷ Flush 5 ∷ Fence ∷ count_events;
    few = omega arith;
    played = plays_seal (blank_device sizes) called_device count_events (refl, refl, refl)
        (plays_counts (sealed_device (blank_device sizes))
        (sealed_calm (blank_device sizes) (refl, refl, refl)));
    picks = tt;
    meant = call_meant;
    kept = done_keeps (sealed_device (blank_device sizes)) seal_words
        (sealed_line (blank_device sizes) (λ l. zeros) (λ l. refl)) refl seal_word seal_far;
    history = refl;
  }

pub call_met : CallMetLaw
call_met sizes = (called_moment sizes, call_step sizes, refl)

looking_step : (sizes : Sizes) → UserStep (looking_source sizes)
    (command.Call (codes "seven") []) (blank_moment (looking_source sizes))
    (answer.Done (pos 7) false 0) (blank_moment (looking_source sizes))
looking_step sizes = record {
  events = [];
  few = omega arith;
  played = refl;
  picks = tt;
  meant = (refl, refl, refl, refl);
  kept = blank_keeps (looking_source sizes);
  history = refl;
}

pub look_met : LookMetLaw
look_met sizes = (refl, looking_step sizes)

-- a call that is cut off right after the store of its seal

abbrev sealing : Cache
sealing = apply blank (Store SEAL (pos 1))

sealing_line : sealing 5 ≡ store_line blank_line SEAL (pos 1)
unfolding apply
sealing_line = refl

-- each image of these lines: any word is 0, but for those of line 5
module _ (image : Words) (is : IsImage sealing image) where
  blank_word : (q : ℕ) (l : Line) (v : Words) → l ≡ blank_line → IsVersion l v
      → image q ≡ v q → image q ≡ pos 0
  blank_word q l v line version word =
      word ∙ ap (λ (w : Words). w q) (⊎_elim (λ (e : v ≡ zeros). e) (λ (among : ⊥). absurd among)
      (subst (λ (y : Line). IsVersion y v) line version))

  other_word : (q : ℕ) → q / 8 ≢ 5 → image q ≡ pos 0
  other_word q other =
      let version = is (q / 8) in
      blank_word q (sealing (q / 8)) version.0 (store_other blank SEAL (q / 8) (pos 1) other)
      version.1 (version.2 q refl)

  far_word : (q : ℕ) → 48 ≤ q → image q ≡ pos 0
  far_word q far = other_word q (λ e. absurd (omega (arith, e)))

  seal_from : (v : Words) → IsVersion (store_line blank_line SEAL (pos 1)) v → image SEAL ≡ v SEAL
      → (image SEAL ≡ pos 0) ⊎ (image SEAL ≡ pos 1)
  unfolding put
  seal_from v (inl new) word = inr (word ∙ ap (λ (w : Words). w SEAL) new)
  seal_from v (inr (inl old)) word = inl (word ∙ ap (λ (w : Words). w SEAL) old)
  seal_from v (inr (inr none)) word = absurd none

  either_seal : (image SEAL ≡ pos 0) ⊎ (image SEAL ≡ pos 1)
  either_seal =
      let version = is 5 in
      seal_from version.0 (subst (λ (y : Line). IsVersion y version.0) sealing_line version.1)
      (version.2 SEAL refl)

module _ (sizes : Sizes) where
  abbrev stop_device : Device
  stop_device = with_left 1 (blank_device sizes)

  abbrev cut_device : Device
  cut_device = off_of (spent stop_device (Store SEAL (pos 1)))

  one_left : MayTakeEvent stop_device
  one_left = ((refl, λ e. absurd cc), λ e. absurd cc)

  abbrev owing : UserState
  owing = stands_as (Owed call_of_seven phase.Sealing) (first sizes)

  abbrev cut_moment : UserMoment
  cut_moment = record { device = cut_device; state = owing; history = [] }

  owed_image : (image : Words) → IsImage sealing image
      → IsOwedAt phase.Sealing (p sizes) owing image
  owed_image image is =
      ⊎_elim (λ (none : image SEAL ≡ pos 0). inl (zero_state (p sizes) owing image refl refl refl
      (other_word image is MARK (λ e. absurd (omega (arith, e)))) none
      (other_word image is DONE (λ e. absurd (omega (arith, e))))
      (other_word image is LAST (λ e. absurd (omega (arith, e)))) (far_word image is)))
      (λ (has : image SEAL ≡ pos 1). inr (inl has)) (either_seal image is)

  stop_step : UserStep (p sizes) (command.Stop 1) (blank_moment (p sizes)) answer.Silent
      (first_moment (p sizes) stop_device)
  stop_step = record {
    events = [];
    few = omega arith;
    played = refl;
    picks = tt;
    meant = (refl, refl);
    kept = blank_keeps (p sizes);
    history = refl;
  }

  cut_step : UserStep (p sizes) (command.Call (codes "seven") [])
      (first_moment (p sizes) stop_device) (answer.Stopped phase.Sealing) cut_moment
  cut_step = record {
    events = Store SEAL (pos 1) ∷ Flush 5 ∷ [];
    few = omega arith;
    played = inr (one_left, inl (tt, (inr refl, refl)));
    picks = tt;
    meant = refl;
    kept = (owed_image, owed_image);
    history = refl;
  }

  -- the cut keeps the seal

  abbrev kept_device : Device
  kept_device = powered keep_new cut_device

  abbrev done_moment : UserMoment
  done_moment = record {
    device = counted_device kept_device;
    state = done_state sizes;
    history = call_of_seven ∷ [];
  }

  abbrev found : UserState
  found = stands_as (Owed call_of_seven phase.Sealed) owing

  redo_meant : RecoveryEnds (Owed call_of_seven phase.Sealed) (p sizes) found
      (answer.RecoveredRedone (pos 7) false 0) (done_state sizes)
  redo_meant = (
    ap (λ (o : Outcome). recovery_told false false 0 o) (sym (seven_comes sizes)),
    ap (λ (o : Outcome). state_after Ready false o found) (sym (seven_comes sizes)),
  )

  kept_by : (at : Bool)
      → plain_line (stored at SEAL (pos 1) blank_line).newest ≡ plain_line (with_seal at zeros)
  kept_by true = refl
  kept_by false = refl

  kept_line : (l : ℕ) → kept_device.cache l ≡ plain_line (seal_words sizes l)
  unfolding apply left_cache
  kept_line l = kept_by (l == 5)

  redo_step : UserStep (p sizes) (command.Power keep_new) cut_moment
      (answer.RecoveredRedone (pos 7) false 0) done_moment
  unfolding view apply put left_cache
  redo_step = record {
    events = count_events;
    few = omega arith;
    played = plays_counts kept_device (refl, refl, refl);
    picks = refl;
    meant = (refl, redo_meant);
    kept = done_keeps sizes kept_device (seal_words sizes) kept_line refl (seal_word sizes)
        (seal_far sizes);
    history = refl;
  }

  -- the cut loses the seal

  abbrev lost_device : Device
  lost_device = powered keep_old cut_device

  lost_by : (at : Bool) → kept Old None (stored at SEAL (pos 1) blank_line) ≡ zeros
  lost_by true = refl
  lost_by false = refl

  lost_word : (q : ℕ) → view lost_device.cache q ≡ pos 0
  unfolding view apply left_cache
  lost_word q = ap (λ (w : Words). w q) (lost_by (q / 8 == 5))

  lost_keeps : UserKeeps (p sizes) lost_device (first sizes)
  lost_keeps = (
    rest_one lost_device.cache (left_rest sealing keep_old.rest keep_old.picks),
    zero_state (p sizes) (first sizes) (view lost_device.cache) refl refl refl (lost_word MARK)
        (lost_word SEAL) (lost_word DONE) (lost_word LAST) (λ q far. lost_word q),
  )

  lost_step : UserStep (p sizes) (command.Power keep_old) cut_moment answer.RecoveredNone
      (first_moment (p sizes) lost_device)
  unfolding view apply put left_cache
  lost_step = record {
    events = [];
    few = omega arith;
    played = refl;
    picks = refl;
    meant = (refl, (refl, refl));
    kept = lost_keeps;
    history = refl;
  }

  has_seal : has_next_seal owing (found_by (command.Power keep_new) cut_device) ≡ true
  unfolding view apply put left_cache
  has_seal = refl

  no_seal : has_next_seal owing (found_by (command.Power keep_old) cut_device) ≡ false
  unfolding view apply put left_cache
  no_seal = refl

pub cut_met : CutMetLaw
cut_met sizes = record {
  cut = cut_moment sizes;
  before = (
    first_moment (seven_source sizes) (stop_device sizes),
    stop_step sizes,
    (cut_moment sizes, cut_step sizes, refl),
  );
  owed = refl;
  safe = (refl, refl);
  sealed = has_seal sizes;
  done = done_moment sizes;
  redone = redo_step sizes;
  ready = refl;
  counted = refl;
  unsealed = no_seal sizes;
  undone = first_moment (seven_source sizes) (lost_device sizes);
  lost = lost_step sizes;
  again = refl;
  uncounted = refl;
}

-- the image of a call that was finished before the cut
abbrev finished_image : Words
finished_image q = cond (q == SEAL) (pos 1) (cond (q == DONE) (pos 1) (pos 0))

module _ (sizes : Sizes) where
  abbrev before_cut : UserState
  before_cut = finished Idle (p sizes) (owing sizes) call_of_seven

  abbrev idle_state : UserState
  idle_state = stands_as Idle (done_state sizes)

  before_is : before_cut ≡ idle_state
  before_is = ap (λ (o : Outcome). state_after Idle false o (owing sizes)) (seven_comes sizes)

  before_ends : RecoveryEnds before_cut.standing (p sizes) before_cut answer.RecoveredNone
      (done_state sizes)
  before_ends =
      subst (λ (f : UserState).
      RecoveryEnds f.standing (p sizes) f answer.RecoveredNone (done_state sizes)) (sym before_is)
      (refl, refl)

pub count_needed : CountNeededLaw
count_needed sizes = (
  owing sizes,
  done_state sizes,
  first sizes,
  finished_image,
  zeros,
  (refl, before_ends sizes),
  (refl, (refl, refl)),
  refl,
  refl,
)
