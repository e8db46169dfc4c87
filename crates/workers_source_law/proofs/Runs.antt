-- A run of a script is a chain of commands, from new compartments on.
use Rattle.std.proofs.Common.{◌≡◌, inl, inr, ℕ, zero, suc, false, List, [], ◌∷◌, length, replicate}
use Rattle.std.proofs.Common.{Option, None, refl, sym, ap, subst, arith}
use Rattle.std.specs.List.{AllByRecursion}
use Rattle.cache_model.specs.Event.{CacheEvent}
use Rattle.cache_model.specs.Cache.{Words, Cache, blank}
use Rattle.cache_model.specs.Play.{play}
use Rattle.pmem.specs.Device.{Device}
use Rattle.pool_layout.specs.Sizes.{pool_lines}
use Rattle.args_log.specs.Created.{creation_events}
use Rattle.crash_law.specs.Law.{AreMarked}
use Rattle.pool_workers.specs.declared.task.Task.{Task}
use Rattle.pool_workers.specs.Crew.{compartment}
use Rattle.workers_law.specs.AsCall.{quiet_on}
use Rattle.workers_law.specs.Standing.{ShowsPlayed}
use Rattle.workers_law.proofs.AsCalls.{plays_quiet}
use Rattle.workers_law.proofs.Stands.{shown_images}
use Rattle.workers_law.proofs.Powers as laws
use Rattle.cnvm_session.specs.declared.program.Program.{Program}
use Rattle.cnvm_session.specs.Pool.{sizes_of}
use Rattle.workers_script.specs.declared.command.WorkersCommand.{WorkersCommand}
use Rattle.workers_session.specs.WorkersCommands.{Scene, scene_of}
use Rattle.workers_session.proofs.Crews.{idle_at}
use Rattle.workers_session.specs.WorkersState.{new_workers}
use Rattle.workers_run.specs.WorkersRan.{RunsWorkers, BreaksOff, AreCreated}
use Rattle.session_law.specs.Agrees.{Agrees}
use Rattle.session_law.specs.State.{created}
use Rattle.session_law.specs.Holds.{IsResting}
use Rattle.session_law.specs.Law.{super_words}
use Rattle.session_law.proofs.answers.Creating.{created_rests}
use Rattle.workers_source_law.specs.States.{States, all_created}
use Rattle.workers_source_law.specs.Law.{HasWordArgs, RanWorkers, BrokeOff, WorkersLaw}
use Rattle.workers_source_law.specs.Law.{WorkersPartLaw}
use Rattle.workers_source_law.specs.Reopened.{AllHeld, new_firsts, NewHeldLaw, NewHeldPartLaw}
use Rattle.workers_source_law.proofs.Stills.{still, own, marks_play, rest_same, fewer_held}
use Rattle.workers_source_law.proofs.Invariants.{Stands, AllStand, stands_rest}
use Rattle.workers_source_law.proofs.Recoveries.{still_rest}
use Rattle.workers_source_law.proofs.Commands.{command_gives, all_hold}

-- new compartments

pub count_new : (n : ℕ) → length (replicate {A = Option Task} n None) ≡ n
count_new zero = refl
count_new (suc n) = ap suc (count_new n)

module _ (program : Program) where
  abbrev super : Words
  super = super_words program

  abbrev events : List CacheEvent
  events = creation_events (sizes_of program) program.digest

  abbrev made : Cache
  made = play blank events

  made_rests : IsResting program super (still made) (created program)
  made_rests =
      let n = pool_lines (sizes_of program) in
      still_rest program super (quiet_on n made) (created program)
      (created_rests program (quiet_on n blank) (quiet_on n made) (plays_quiet n events blank)).1

  new_stands : (count : ℕ) (d b : Device) (k : ℕ) → AreCreated program count d b
      → AllStand program (new_firsts program) (scene_of (new_workers count) b k)
      (all_created program)
  new_stands count d b k is j less =
      let shown : ShowsPlayed events [] blank (own program j b) =
      laws.created (sizes_of program) program.digest count d b is j
      (let same = count_new count in omega (arith, same, less)) in
      let looks = shown_images events blank (own program j b) (λ l. tt) in
      subst (λ (o : Option Task). Stands program super false o (own program j b) (created program))
      (sym (idle_at count j))
      (stands_rest program super false (own program j b) (created program) refl
      (subst AreMarked (sym shown.now_is) (marks_play shown.shown blank (λ l. tt)))
      (rest_same program super made (own program j b) (created program)
      (looks.2 shown made_rests.rest) (looks.3 shown) made_rests))

  module _ (supers : ℕ → Words) (agrees : Agrees program) where
    pub runs_give : (commands : List WorkersCommand) (x y : Scene) (s : States)
        (w w' : Option (List ℕ)) → AllByRecursion HasWordArgs commands
        → AllStand program supers x s → RunsWorkers program commands x w y w'
        → (t : States) × RanWorkers program commands (record { scene = x; states = s }) w
        (record { scene = y; states = t }) w' × AllStand program supers y t
    runs_give [] x y s w w' words all is = (
      s,
      (λ i. record { scene = is.0 i; states = s }, is.1),
      subst (λ (v : Scene). AllStand program supers v s) (sym is.0) all,
    )
    runs_give (c ∷ commands) x y s w w' words all is =
        let z = is.1 in
        let one = command_gives program supers agrees c x z s is.0 words.0 all is.3 in
        let more = runs_give commands z y one.0 is.2 w' words.1 one.2 is.5 in (
          more.0,
          (
            is.0,
            record { scene = z; states = one.0 },
            is.2,
            record {
              did = is.3;
              meant = one.1;
              holds = all_hold program supers z one.0 one.2;
              phases = one.3;
            },
            is.4,
            more.1,
          ),
          more.2,
        )

    pub breaks_give : (commands : List WorkersCommand) (x y : Scene) (s : States)
        (w w' : Option (List ℕ)) → AllByRecursion HasWordArgs commands
        → AllStand program supers x s → BreaksOff program commands x w y w'
        → (t : States) × BrokeOff program commands (record { scene = x; states = s }) w
        (record { scene = y; states = t }) w' × AllStand program supers y t
    breaks_give [] x y s w w' words all is = absurd is
    breaks_give (c ∷ commands) x y s w w' words all (inl is) =
        let one = command_gives program supers agrees c x y s is.0 words.0 all is.1 in (
          one.0,
          inl (
            is.0,
            record {
              did = is.1;
              meant = one.1;
              holds = all_hold program supers y one.0 one.2;
              phases = one.3;
            },
            is.2,
          ),
          one.2,
        )
    breaks_give (c ∷ commands) x y s w w' words all (inr is) =
        let z = is.1 in
        let one = command_gives program supers agrees c x z s is.0 words.0 all is.3 in
        let more = breaks_give commands z y one.0 is.2 w' words.1 one.2 is.5 in (
          more.0,
          inr (
            is.0,
            record { scene = z; states = one.0 },
            is.2,
            record {
              did = is.3;
              meant = one.1;
              holds = all_hold program supers z one.0 one.2;
              phases = one.3;
            },
            is.4,
            more.1,
          ),
          more.2,
        )

-- what is held of each compartment, as the laws say it
pub held_all : (program : Program) (supers : ℕ → Words) (y : Scene) (t : States)
    → AllStand program supers y t → AllHeld program supers (record { scene = y; states = t })
held_all program supers y t all j less =
    fewer_held program (supers j) (t j).standing (still (own program j y.device))
    (compartment program.image j y.device) (t j) (λ image is. is) (all j less).held

pub new_run : NewHeldLaw
new_run program count commands w w' d d' k k' agrees words is =
    let supers = new_firsts program in
    let begins : Scene = scene_of (new_workers count) is.0 k in
    let ends : Scene = scene_of is.1 d' k' in
    let all = new_stands program count d is.0 k is.2 in
    let ran = runs_give program supers agrees commands begins ends (all_created program) w w' words
    all is.3 in (
      (
        is.0,
        is.1,
        ran.0,
        is.2,
        all_hold program supers begins (all_created program) all,
        ran.1,
      ),
      held_all program supers ends ran.0 ran.2,
    )

pub new_part : NewHeldPartLaw
new_part program count commands w w' d d' k k' agrees words is =
    let supers = new_firsts program in
    let begins : Scene = scene_of (new_workers count) is.0 k in
    let ends : Scene = scene_of is.1 d' k' in
    let all = new_stands program count d is.0 k is.2 in
    let broke = breaks_give program supers agrees commands begins ends (all_created program) w w'
    words all is.3 in (
      (
        is.0,
        is.1,
        broke.0,
        is.2,
        all_hold program supers begins (all_created program) all,
        broke.1,
      ),
      held_all program supers ends broke.0 broke.2,
    )

pub workers_run : WorkersLaw
workers_run program count commands w w' d d' k k' agrees words is =
    (new_run program count commands w w' d d' k k' agrees words is).0

pub workers_part : WorkersPartLaw
workers_part program count commands w w' d d' k k' agrees words is =
    (new_part program count commands w w' d d' k k' agrees words is).0
