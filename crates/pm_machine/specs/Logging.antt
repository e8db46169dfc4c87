-- Which steps of a run take a record first, and the run that they make. A word takes at most one
-- record in a run. A step that asks for one where the log is full ends the run before it.
use Rattle.std.specs.Prelude.{ℕ, zero, suc, ◌+◌, ◌++◌, List, [], ◌∷◌, Bool, true, Option, Some}
use Rattle.std.specs.Prelude.{None}
use Rattle.std.specs.Prelude.{if◌then◌else◌, nat_lt, nat_eq, ℤ}
use Rattle.std.specs.List.{list_any}
use Rattle.indexmap.specs.IndexSet.{insert_key}
use Rattle.cache_model.specs.Cache.{Words}
use Rattle.pool_map.specs.declared.trap.TrapKind.TheVariants.{LogFull}
use Rattle.pm_machine.specs.declared.effect.Effect.{Effect}
use Rattle.pm_machine.specs.declared.effect.Effect.TheVariants.{Loads, Scans, Stores, Logs, Flushes}
use Rattle.pm_machine.specs.declared.effect.Effect.TheVariants.{Fences, Quiet}
use Rattle.pm_machine.specs.declared.effect.End.{End}
use Rattle.pm_machine.specs.declared.effect.End.TheVariants.{Trapped}
use Rattle.pm_machine.specs.declared.records.Policy.{Policy}
use Rattle.pm_machine.specs.declared.records.Policy.TheVariants.{EndPool, RollBack}
use Rattle.pm_machine.specs.declared.image.Image.{Image}
use Rattle.pm_machine.specs.Effects.{heap_end}
use Rattle.pm_machine.specs.Machine.{State, StepOutcome, Goes, Ends, step, start, Run, Unfinished}
use Rattle.pm_machine.specs.Machine.{Finished}

-- what a run knows of the log: its policy, the number of records, and the words of which this run
-- has one, in their order
pub record Logging : Type 0 where
  pub policy : Policy
  pub count : ℕ
  pub words : List ℕ

-- the word that an effect asks a record of: a LOG its word, and in a run that may roll back each
-- store its own
abbrev pub rolled : Policy → ℕ → Option ℕ
rolled EndPool w = None
rolled RollBack w = Some w

abbrev pub asks : Policy → Effect → Option ℕ
asks p (Logs w) = Some w
asks p (Stores w x) = rolled p w
asks p (Loads w) = None
asks p (Scans w apart m) = None
asks p (Flushes l) = None
asks p Fences = None
asks p Quiet = None

-- the word, if none of these records is of it
abbrev pub unlisted : List ℕ → Option ℕ → Option ℕ
unlisted ws None = None
unlisted ws (Some w) = if list_any (nat_eq w) ws then None else Some w

-- the word that takes a record before an effect
abbrev pub missing : Logging → Effect → Option ℕ
missing g e = unlisted g.words (asks g.policy e)

-- the effect itself: of a LOG nothing is left but its record
abbrev pub bare : Effect → Effect
bare (Logs w) = Quiet
bare (Loads w) = Loads w
bare (Scans w apart m) = Scans w apart m
bare (Stores w x) = Stores w x
bare (Flushes l) = Flushes l
bare Fences = Fences
bare Quiet = Quiet

-- a record, if one is taken, and then the effect
abbrev pub with_record : Option ℕ → Effect → List Effect
with_record None e = bare e ∷ []
with_record (Some w) e = Logs w ∷ bare e ∷ []

abbrev pub noted : Logging → Option ℕ → Logging
noted g None = g
noted g (Some w) =
    record { policy = g.policy; count = suc g.count; words = insert_key nat_eq g.words w }

-- a log of C records has room for this one
abbrev pub has_room : (C : ℕ) → Logging → Option ℕ → Bool
has_room C g None = true
has_room C g (Some w) = nat_lt g.count C

-- a turn of a run: a step with its record, or the run's end
pub data Turn : Type 0 where
  Plays : List Effect → Logging → State → Turn
  Stops : End → Turn

abbrev pub turn : (C : ℕ) → Logging → StepOutcome → Turn
turn C g (Ends end) = Stops end
turn C g (Goes e s) = if has_room C g (missing g e)
    then Plays (with_record (missing g e) e) (noted g (missing g e)) s
    else Stops (Trapped LogFull)

abbrev pub turn_of : Image → Logging → State → Words → Turn
turn_of image g s heap = turn image.parts.sizes.records g (step image s heap)

-- a run that begins with these effects
abbrev pub begun : List Effect → Run → Run
begun es Unfinished = Unfinished
begun es (Finished end fs) = Finished end (es ++ fs)

abbrev pub follows : (List Effect → Logging → State → Run) → Turn → Run
follows rest (Plays es h t) = begun es (rest es h t)
follows rest (Stops end) = Finished end []

-- the run with its records, of at most k turns
abbrev pub logged_run : Image → (k : ℕ) → Logging → State → Words → Run
logged_run image zero g s heap = Unfinished
logged_run image (suc k) g s heap =
    follows (λ es h t. logged_run image k h t (heap_end heap es)) (turn_of image g s heap)

-- no record
abbrev pub blank : Policy → Logging
blank p = record { policy = p; count = 0; words = [] }

-- the run of a transaction on a heap, from an empty log
abbrev pub tx_run : Policy → Image → ℕ → Words → ℕ → List ℤ → Run
tx_run p image k heap tx args = logged_run image k (blank p) (start image tx args) heap

-- The records that a finished run takes, put between its effects: what such a run does with its
-- log.
abbrev pub with_records : (C : ℕ) → Logging → End → List Effect → Run
with_records C g end [] = Finished end []
with_records C g end (e ∷ es) = if has_room C g (missing g e)
    then begun (with_record (missing g e) e) (with_records C (noted g (missing g e)) end es)
    else Finished (Trapped LogFull) []

-- how many words take a record
abbrev pub one_if : Option ℕ → ℕ
one_if None = 0
one_if (Some w) = 1

abbrev pub takes : Logging → List Effect → ℕ
takes g [] = 0
takes g (e ∷ es) = one_if (missing g e) + takes (noted g (missing g e)) es
