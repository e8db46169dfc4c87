-- A program's image agrees with its source if, from every heap with valid headers, the run of each
-- transaction without its log is sound, ends as the source says on the heap's pool, and takes as
-- many records as the source's stores ask for. Each compiled program agrees with its source.
use Rattle.std.specs.Prelude.{ℕ, ◌^◌, ◌<◌, ◌≤◌, ◌≡◌, List, Bool, true, length, Some, ℤ}
use Rattle.cache_model.specs.Cache.{Words}
use Rattle.pool_map.specs.PoolFits.{words_of}
use Rattle.pool_map.specs.Width as width
use Rattle.pool_layout.specs.Sizes.{slot_words}
use Rattle.c_types.specs.Shapes.{shapes_of}
use Rattle.c_meaning.specs.Transaction.{Outcome, Done, Trap}
use Rattle.pm_machine.specs.declared.effect.Effect.{Effect}
use Rattle.pm_machine.specs.declared.effect.End.{End}
use Rattle.pm_machine.specs.declared.effect.End.TheVariants.{Halted, Trapped}
use Rattle.pm_machine.specs.declared.records.Policy.TheVariants.{EndPool}
use Rattle.pm_machine.specs.Effects.{heap_end}
use Rattle.pm_machine.specs.Machine.{Finished, mrun}
use Rattle.pm_machine.specs.Logging.{blank, takes}
use Rattle.pm_machine.specs.Looking.{AreLooks}
use Rattle.run_law.specs.Sound.{IsSoundRun}
use Rattle.cnvm_session.specs.declared.program.Program.{Program}
use Rattle.cnvm_session.specs.Commands.{tx_parameters}
use Rattle.cnvm_session.specs.Marks.{policy_of, looks_of}
use Rattle.cnvm_session.specs.Pool.{sizes_of}
use Rattle.session_law.specs.Words.{AreWords, HasPoolWords}
use Rattle.session_law.specs.Source.{source_parameters, means, LogsBy, source_pool}
use Rattle.session_law.specs.Source.{HasSourceHeaders}

-- a run ends as the outcome says: with its value, on a heap that holds its pool, or with its trap
abbrev pub Matches : Program → Outcome → End → Words → Type 0
Matches program (Done pool value) (Halted v) h = (v ≡ value) × HasSourceHeaders program h
    × (source_pool program h ≡ pool) × HasPoolWords pool
Matches program (Done pool value) (Trapped k) h = ⊥
Matches program (Trap trap) (Halted v) h = ⊥
Matches program (Trap trap) (Trapped k) h = k ≡ trap

-- The run of a transaction from a heap, without its log: it ends as the source says. With its log
-- it takes this number of records, marked or not, where the log has room for them.
-- The run of one that only looks has no event but the fence at its end.
pub record RunsAs (program : Program) (h : Words) (tx : ℕ) (args : List ℤ) : Type 0 where
  pub end : End
  pub effects : List Effect
  pub ran : mrun program.image program.image.parts.most h tx args ≡ Finished end effects
  pub sound : IsSoundRun EndPool end effects
  pub matches : Matches program (means program (source_pool program h) tx args) end
      (heap_end h effects)
  pub logs : (marked : Bool) → LogsBy marked program (source_pool program h) tx args
      (takes (blank (policy_of marked)) effects)
  pub looks : looks_of program tx ≡ true → AreLooks effects

-- The root has as many words as the source's root struct, and a slot has the width of the source's
-- structs. The image has the transactions of the source, each with as many parameters. A
-- transaction's number is below 2^63 and it has at most 22 parameters, as the front end and the
-- pool's argument record require.
pub record Agrees (program : Program) : Type 0 where
  pub root : words_of (shapes_of program.typed).root ≡ (sizes_of program).root_words
  pub width : slot_words (sizes_of program) ≡ width.slot_words (shapes_of program.typed).structs
  pub parameters : (tx : ℕ) → tx_parameters program.image tx ≡ source_parameters program tx
  pub few : (tx n : ℕ) → tx_parameters program.image tx ≡ Some n → (tx < 2 ^ 63) × (n ≤ 22)
  pub runs : (h : Words) (tx : ℕ) (args : List ℤ) → HasSourceHeaders program h
      → HasPoolWords (source_pool program h) → AreWords args
      → tx_parameters program.image tx ≡ Some (length args) → RunsAs program h tx args
