-- A transaction comes to a full log exactly if it has more logged stores than the log has records.
use Rattle.std.proofs.Common.{◌≡◌, ◌≢◌, ◌⊎◌, ⊎_elim, ℕ, ◌<◌, ◌≤◌, Bool, true, false}
use Rattle.std.proofs.Common.{if◌then◌else◌, nat_lt, List, ℤ, refl, sym, ap, ◌∙◌, arith}
use Rattle.std.proofs.lemmas.Bool.{ltb-false}
use Rattle.cache_model.specs.Cache.{Words}
use Rattle.pool_map.specs.declared.trap.TrapKind.{TrapKind}
use Rattle.pool_map.specs.declared.trap.TrapKind.TheVariants.{LogFull}
use Rattle.pool_map.specs.PoolMap.{PoolMap}
use Rattle.c_meaning.specs.Transaction.{Trap}
use Rattle.sound_law.proofs.Ticks.{never_full}
use Rattle.cnvm_session.specs.declared.answer.Answer.TheVariants as answer
use Rattle.cnvm_session.specs.declared.program.Program.{Program}
use Rattle.cnvm_session.specs.Marks.{rolls_back_of, looks_of}
use Rattle.cnvm_session.specs.Pool.{sizes_of}
use Rattle.session_law.specs.Source.{means, program_tables, outcome_with, LogsBy, ComesBy}
use Rattle.session_law.specs.State.{SourceState}
use Rattle.session_law.specs.Answers.{TrapsAs, RunsAs}
use Rattle.session_law.specs.Law.{IsFullAt, FullLogLaw}
use Rattle.session_law.proofs.logs.Coming.{comes_trap}
use Rattle.session_law.proofs.logs.Logging.{one_logged}

module _ (program : Program) (pool : PoolMap) (tx : ℕ) (args : List ℤ) where
  abbrev records : ℕ
  records = (sizes_of program).records

  exceeds : (n : ℕ) → outcome_with program pool tx args n ≡ Trap LogFull → records < n
  exceeds n is = ⊎_elim (λ full. full.0)
      (λ room. absurd (never_full (program_tables program) pool tx args (sizes_of program).ticks
      room.1)) (comes_trap program pool tx args n LogFull is)

  full_at : (n : ℕ) → records < n → outcome_with program pool tx args n ≡ Trap LogFull
  full_at n less = by_test (nat_lt records n) refl
    where
      by_test : (b : Bool) → nat_lt records n ≡ b
          → (if b then Trap LogFull else means program pool tx args) ≡ Trap LogFull
      by_test true is = refl
      by_test false is = let few : n ≤ records = ltb-false records n is in absurd (omega arith)

  -- what a trap says of the number of logged stores
  module _ (marked : Bool) (n : ℕ) (kind : TrapKind)
      (logs : LogsBy marked program pool tx args n) where
    at_trap : (m : ℕ) → ComesBy marked program pool tx args m (Trap kind) → IsFullAt records n kind
    at_trap m comes =
        let number : m ≡ n = one_logged marked program pool tx args m n comes.logs logs in
        let is : outcome_with program pool tx args n ≡ Trap kind =
        ap (outcome_with program pool tx args) (sym number) ∙ comes.is in (
          λ full. exceeds n (is ∙ ap Trap full),
          λ less. let e : Trap kind ≡ Trap LogFull = sym is ∙ full_at n less in cc,
        )

-- the trap of a call that doesn't look
traps_of : (looks marked : Bool) (program : Program) (s t : SourceState) (image : Words) (tx : ℕ)
    (args : List ℤ) (kind : TrapKind) → looks ≡ false →
    RunsAs looks marked program s image tx args (answer.Aborted kind) t ⊎
    RunsAs looks marked program s image tx args (answer.Trap kind) t →
    TrapsAs marked program s tx args kind
traps_of true marked program s t image tx args kind not either = absurd cc
traps_of false marked program s t image tx args kind not either =
    ⊎_elim (λ rolled. rolled.1) (λ trapped. trapped.1) either

-- and of one that looks
look_traps : (looks marked : Bool) (program : Program) (s t : SourceState) (image : Words) (tx : ℕ)
    (args : List ℤ) (kind : TrapKind) → looks ≡ true →
    RunsAs looks marked program s image tx args (answer.Aborted kind) t ⊎
    RunsAs looks marked program s image tx args (answer.Trap kind) t → kind ≢ LogFull
look_traps true marked program s t image tx args kind is either full =
    ⊎_elim (λ aborted. never_full (program_tables program) s.pool tx args
    (sizes_of program).ticks (aborted.0 ∙ ap Trap full)) (λ trapped. trapped) either
look_traps false marked program s t image tx args kind is either full = absurd cc

pub full_log : FullLogLaw
full_log = (
  λ marked program pool tx args n o comes. (
    (λ full. exceeds program pool tx args n (comes.is ∙ full)),
    (λ less. sym comes.is ∙ full_at program pool tx args n less),
  ),
  λ program s t image tx args n kind stores logs either.
      let traps : TrapsAs (rolls_back_of program tx) program s tx args kind =
      traps_of (looks_of program tx) (rolls_back_of program tx) program s t image tx args kind
      stores either in
      at_trap program s.pool tx args (rolls_back_of program tx) n kind logs traps.0 traps.1,
  λ program owed s t image n kind logs either.
      let traps : TrapsAs (rolls_back_of program owed.tx) program s owed.tx owed.args kind =
      ⊎_elim (λ rolled. rolled.1) (λ trapped. trapped.1) either in
      at_trap program s.pool owed.tx owed.args (rolls_back_of program owed.tx) n kind logs
      traps.0 traps.1,
  λ program s t image tx args kind looks either.
      look_traps (looks_of program tx) (rolls_back_of program tx) program s t image tx args kind
      looks either,
)
