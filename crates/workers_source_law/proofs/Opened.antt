-- A run of a script on compartments that are opened from images is a chain of commands.
use Rattle.std.proofs.Common.{◌≡◌, inl, inr, ℕ, zero, suc, ◌+◌, ◌*◌, ◌/◌, ◌<◌, ◌≤◌, Bool, true}
use Rattle.std.proofs.Common.{false, nat_lt, cond, List, [], ◌∷◌, length, map, take, drop}
use Rattle.std.proofs.Common.{slice_index_or, replicate, Option, None, ℤ, pos, refl, sym, ap, ◌∙◌}
use Rattle.std.proofs.Common.{subst, arith}
use Rattle.std.specs.List.{AllByRecursion}
use Rattle.std.proofs.lemmas.Bool.{ltb-true, ltb-false}
use Rattle.std.proofs.lemmas.List.{length-replicate, get_or-drop}
use Rattle.cache_model.specs.Event.{CacheEvent}
use Rattle.cache_model.specs.Cache.{Words, Line, Cache, blank_line, view, blank}
use Rattle.cache_model.specs.Play.{play}
use Rattle.pmem.specs.Device.{Device, blanked}
use Rattle.pmem.proofs.Refused.{all_cache, all_on}
use Rattle.pool_layout.specs.declared.limits.Sizes.{Sizes}
use Rattle.pool_layout.specs.Sizes.{pool_lines}
use Rattle.crash_law.specs.Law.{IsAtRest}
use Rattle.pool_workers.specs.declared.task.Task.{Task}
use Rattle.pool_workers.specs.Compartment.{words_from, line_counted_from, cache_in, first_line}
use Rattle.pool_workers.specs.Compartment.{words_within}
use Rattle.pool_workers.proofs.Windows.{view_in}
use Rattle.workers_law.proofs.Asides.{marked_in}
use Rattle.cnvm_session.specs.declared.program.Program.{Program}
use Rattle.cnvm_session.specs.Opening.{opening_events}
use Rattle.cnvm_session.specs.Pool.{sizes_of}
use Rattle.cnvm_session.proofs.Writing.{written_word, written_rest}
use Rattle.workers_script.specs.declared.command.WorkersCommand.{WorkersCommand}
use Rattle.workers_session.specs.declared.line.WorkersLine.{WorkersLine}
use Rattle.workers_session.specs.WorkersState.{new_workers}
use Rattle.workers_session.specs.WorkersCommands.{Scene, scene_of}
use Rattle.workers_run.specs.WorkersRan.{OpensWorkers, RunsOpened, BreaksOffOpened}
use Rattle.session_law.specs.Agrees.{Agrees}
use Rattle.session_law.specs.Holds.{HeldAs}
use Rattle.session_law.proofs.answers.Opening.{opened_held}
use Rattle.workers_source_law.specs.States.{States}
use Rattle.workers_source_law.specs.Opened.{AreOpened, image_at, all_opened}
use Rattle.workers_source_law.specs.Law.{HasWordArgs, OpenedStep, OpenedWorkersLaw}
use Rattle.workers_source_law.specs.Law.{OpenedWorkersPartLaw}
use Rattle.workers_source_law.specs.Reopened.{RanHeld, BrokeOffHeld, OpenedHeldLaw}
use Rattle.workers_source_law.specs.Reopened.{OpenedHeldPartLaw}
use Rattle.workers_source_law.proofs.Stills.{still, marks_play}
use Rattle.workers_source_law.proofs.Invariants.{AllStand}
use Rattle.workers_source_law.proofs.Recoveries.{IsLeft}
use Rattle.workers_source_law.proofs.Powering.{IsHalf, recoveries_give}
use Rattle.workers_source_law.proofs.Commands.{all_hold}
use Rattle.workers_source_law.proofs.Runs.{runs_give, breaks_give, held_all}

-- a compartment of lines that are at rest

rest_case : (f : ℕ) (b : Bool) (l : Line) → l.older ≡ []
    → (cond b (line_counted_from f l) blank_line).older ≡ []
rest_case f true l is = ap (map (words_from f)) is
rest_case f false l is = refl

rest_in : (f n : ℕ) (c : Cache) → IsAtRest c → IsAtRest (cache_in f n c)
unfolding cache_in
rest_in f n c rest l = rest_case f (nat_lt l n) (c (f + l)) (rest (f + l))

-- past its lines all words are 0
past_case : (f n p : ℕ) (c : Cache) (b : Bool) → nat_lt (p / 8) n ≡ b → 8 * n ≤ p
    → (cond b (line_counted_from f (c (f + p / 8))) blank_line).newest p ≡ pos 0
past_case f n p c true is more =
    let less : p / 8 < n = ltb-true (p / 8) n is in absurd (let h : ⊥ = omega arith in h)
past_case f n p c false is more = refl

view_past : (f n p : ℕ) (c : Cache) → 8 * n ≤ p → view (cache_in f n c) p ≡ pos 0
unfolding view cache_in
view_past f n p c more = past_case f n p c (nat_lt (p / 8) n) refl more

-- a piece of a list

index_take : (n p : ℕ) (xs : List ℤ) → p < n
    → slice_index_or (take n xs) p (pos 0) ≡ slice_index_or xs p (pos 0)
index_take zero p xs less = absurd (omega arith)
index_take (suc n) p [] less = refl
index_take (suc n) zero (x ∷ xs) less = refl
index_take (suc n) (suc p) (x ∷ xs) less = index_take n p xs (omega arith)

pub index_taken : (n p : ℕ) (xs : List ℤ) → n ≤ p → slice_index_or (take n xs) p (pos 0) ≡ pos 0
index_taken zero p xs more = refl
index_taken (suc n) p [] more = refl
index_taken (suc n) zero (x ∷ xs) more = absurd (omega arith)
index_taken (suc n) (suc p) (x ∷ xs) more = index_taken n p xs (omega arith)

-- a word of a compartment's words
pub within : (f n p : ℕ) (words : List ℤ) → p < 8 * n
    → slice_index_or (take (8 * n) (drop (8 * f) words)) p (pos 0)
    ≡ slice_index_or words (8 * f + p) (pos 0)
within f n p words less =
    index_take (8 * n) p (drop (8 * f) words) less ∙ get_or-drop (8 * f) words p (pos 0)

module _ (program : Program) (count : ℕ) (words : List ℤ)
    (whole : length words ≡ 8 * (pool_lines (sizes_of program) * count)) where
  abbrev z : Sizes
  z = sizes_of program

  abbrev n : ℕ
  n = pool_lines z

  abbrev events : List CacheEvent
  events = opening_events (n * count) words

  abbrev written : Cache
  written = play blank events

  -- the cache of a worker's compartment after the words are written
  abbrev pub opened_cache : ℕ → Cache
  opened_cache worker = cache_in (first_line z worker) n written

  -- each compartment has the words of its image
  seen_at : (worker p : ℕ) (b : Bool) → nat_lt p (8 * n) ≡ b
      → view (opened_cache worker) p ≡ image_at program words worker p
  seen_at worker p true is =
      let f : ℕ = first_line z worker in
      let less : p < 8 * n = ltb-true p (8 * n) is in
      view_in f n p written less ∙ written_word words (n * count) (8 * f + p)
      ∙ sym (within f n p words less)
  seen_at worker p false is =
      let f : ℕ = first_line z worker in
      let more : 8 * n ≤ p = ltb-false p (8 * n) is in
      view_past f n p written more ∙ sym (index_taken (8 * n) p (drop (8 * f) words) more)

  pub seen : (worker : ℕ) → view (opened_cache worker) ≡ image_at program words worker
  seen worker = λ i p. seen_at worker p (nat_lt p (8 * n)) refl i

  pub opened_rest : (worker : ℕ) → IsAtRest (opened_cache worker)
  opened_rest worker =
      rest_in (first_line z worker) n written (written_rest words (n * count) whole)

  -- The compartments hold what was held of the workers that left them.
  module _ (agrees : Agrees program) (supers : ℕ → Words) (from : States)
      (held : (worker : ℕ) → worker < count → HeldAs (from worker).standing program (supers worker)
      (still (opened_cache worker)) (from worker)) where
    left_at : (worker : ℕ) → worker < count
        → IsLeft program (supers worker) (opened_cache worker) (from worker)
    left_at worker less = record {
      rest = opened_rest worker;
      marked = marked_in (first_line z worker) n written (marks_play events blank (λ l. tt));
      held = held worker less;
    }

    abbrev Opened : (d : Device) → (k : ℕ) → List WorkersLine → Scene → Type 0
    Opened d k lines y =
        (t : States)
        × OpenedStep program count from words d k lines (record { scene = y; states = t })
        × AllStand program supers y t

    pub opened_gives : (d : Device) (k : ℕ) (lines : List WorkersLine) (y : Scene)
        → OpensWorkers program count words d k lines y → Opened d k lines y
    opened_gives d k lines y opens =
        let e : Device = opens.opened in
        let played : e.cache ≡ written =
        all_cache events (blanked (n * count) d) e opens.written in
        let on : e.on ≡ true = all_on events (blanked (n * count) d) e opens.written in
        let long : length (replicate {A = Option Task} count None) ≡ count =
        length-replicate count None in
        let begins : IsHalf program supers agrees (image_at program words) 0
        (scene_of (new_workers count) e k) from =
        record {
          done = λ j fits below. absurd (omega (arith, below));
          left = λ j fits more.
              subst (λ (c : Cache). IsLeft program (supers j) (cache_in (first_line z j) n c)
              (from j)) (sym played) (left_at j (omega (arith, fits, long)));
          seen = λ j fits more.
              ap (λ (c : Cache). view (cache_in (first_line z j) n c)) played ∙ seen j;
        }
        in
        let done = recoveries_give program supers agrees (image_at program words) count 0
        (scene_of (new_workers count) e k) y from lines (omega (arith, long)) begins on
        opens.resumes in (
          done.0,
          record {
            did = opens;
            meant = done.1;
            holds = all_hold program supers y done.0 done.2;
          },
          done.2,
        )

    pub run_from : (commands : List WorkersCommand) (w w' : Option (List ℕ)) (d d' : Device)
        (k k' : ℕ) → AllByRecursion HasWordArgs commands
        → RunsOpened program count commands words w w' d d' k k'
        → RanHeld program count supers from commands words w w' d d' k k'
    run_from commands w w' d d' k k' args is =
        let step = opened_gives d k is.0 is.1 is.4 in
        let ran = runs_give program supers agrees commands is.1 (scene_of is.3 d' k') step.0 is.2
        w' args step.2 is.6 in (
          (
            is.0,
            record { scene = is.1; states = step.0 },
            is.2,
            is.3,
            ran.0,
            step.1,
            is.5,
            ran.1,
          ),
          held_all program supers (scene_of is.3 d' k') ran.0 ran.2,
        )

    pub part_from : (commands : List WorkersCommand) (w w' : Option (List ℕ)) (d d' : Device)
        (k k' : ℕ) → AllByRecursion HasWordArgs commands
        → BreaksOffOpened program count commands words w w' d d' k k'
        → BrokeOffHeld program count supers from commands words w w' d d' k k'
    part_from commands w w' d d' k k' args (inl is) =
        let step = opened_gives d k is.0 (scene_of is.1 d' k') is.2 in (
          (is.0, is.1, step.0, inl (step.1, is.3)),
          held_all program supers (scene_of is.1 d' k') step.0 step.2,
        )
    part_from commands w w' d d' k k' args (inr is) =
        let step = opened_gives d k is.0 is.1 is.4 in
        let broke = breaks_give program supers agrees commands is.1 (scene_of is.3 d' k') step.0
        is.2 w' args step.2 is.6 in (
          (
            is.0,
            is.3,
            broke.0,
            inr (record { scene = is.1; states = step.0 }, is.2, step.1, is.5, broke.1),
          ),
          held_all program supers (scene_of is.3 d' k') broke.0 broke.2,
        )

-- The source knows of each image what it knows of one that is opened.
image_held : (program : Program) (count : ℕ) (words : List ℤ) (agrees : Agrees program)
    (are : AreOpened program count words) (worker : ℕ) → worker < count
    → HeldAs (all_opened program words worker).standing program (image_at program words worker)
    (still (opened_cache program count words are.whole worker)) (all_opened program words worker)
image_held program count words agrees are worker less =
    opened_held program agrees (words_within (sizes_of program) worker words)
    (are.fit worker less) (are.each worker less).opens
    (still (opened_cache program count words are.whole worker))
    (opened_rest program count words are.whole worker) (seen program count words are.whole worker)

pub opened_held_run : OpenedHeldLaw
opened_held_run program count commands words w w' d d' k k' agrees args are is =
    run_from program count words are.whole agrees (image_at program words)
    (all_opened program words) (image_held program count words agrees are) commands w w' d d' k k'
    args is

pub opened_held_part : OpenedHeldPartLaw
opened_held_part program count commands words w w' d d' k k' agrees args are is =
    part_from program count words are.whole agrees (image_at program words)
    (all_opened program words) (image_held program count words agrees are) commands w w' d d' k k'
    args is

pub opened_run : OpenedWorkersLaw
opened_run program count commands words w w' d d' k k' agrees args are is =
    (opened_held_run program count commands words w w' d d' k k' agrees args are is).0

pub opened_part : OpenedWorkersPartLaw
opened_part program count commands words w w' d d' k k' agrees args are is =
    (opened_held_part program count commands words w w' d d' k k' agrees args are is).0
