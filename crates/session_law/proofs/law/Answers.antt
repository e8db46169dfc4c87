use Rattle.session_law.proofs.answers.Commands.{each_command}
use Rattle.session_law.proofs.answers.Creating.{created_rests}
use Rattle.session_law.proofs.chains.Chains.{run_chain, chain_kept, chain_grows, chain_whole}
use Rattle.session_law.proofs.chains.Chains.{created_after, opened_after, open_step}
use Rattle.session_law.proofs.answers.Opening.{opened_answers}
use Rattle.session_law.proofs.chains.Phases.{stopped_phase}
use Rattle.session_law.proofs.chains.PowerPhases.{recovery_phase}
use Rattle.session_law.proofs.Scripts.{script_words}
use Rattle.session_law.proofs.chains.Steps.{redone_steps}
use Rattle.session_law.proofs.chains.CallSteps.{call_steps}
use Rattle.session_law.proofs.chains.Running.{exactly_sealed}
use Rattle.session_law.proofs.chains.Unchanged.{step_unchanged}
use Rattle.session_law.proofs.chains.Bounded.{chain_bounded}
use Rattle.session_law.proofs.logs.Logging.{one_outcome, one_led, full_law}
use Rattle.session_law.proofs.logs.FullLogs.{full_log}
use Rattle.session_law.proofs.chains.RolledBack.{call_rolled_back, power_rolled_back}
use Rattle.session_law.proofs.chains.KeepingChains.{chain_rolled_back}
use Rattle.session_law.proofs.logs.Exact.{run_exact, run_held}
use Rattle.session_law.proofs.chains.Ending.{uninterrupted, each_recovery_ends}
use Rattle.session_law.proofs.chains.LookedAt.{looked_at}
use Rattle.session_law.proofs.law.Goals as goal

pub returns-clause-session : goal.returns-clause-session
returns-clause-session c = each_command

pub returns-clause-sealed : goal.returns-clause-sealed
returns-clause-sealed c = exactly_sealed

pub returns-clause-phase : goal.returns-clause-phase
returns-clause-phase c = stopped_phase

pub returns-clause-recovery_phase : goal.returns-clause-recovery_phase
returns-clause-recovery_phase c = recovery_phase

pub returns-clause-steps : goal.returns-clause-steps
returns-clause-steps c = (redone_steps, call_steps)

pub returns-clause-created : goal.returns-clause-created
returns-clause-created c = created_rests

pub returns-clause-opened : goal.returns-clause-opened
returns-clause-opened c = open_step opened_answers

pub returns-clause-run : goal.returns-clause-run
returns-clause-run c = run_chain each_command

pub returns-clause-kept : goal.returns-clause-kept
returns-clause-kept c = chain_kept

pub returns-clause-history : goal.returns-clause-history
returns-clause-history c = chain_grows

pub returns-clause-begun : goal.returns-clause-begun
returns-clause-begun c = (created_after, opened_after)

pub returns-clause-whole : goal.returns-clause-whole
returns-clause-whole c = chain_whole

pub returns-clause-script : goal.returns-clause-script
returns-clause-script c = script_words

pub returns-clause-unchanged : goal.returns-clause-unchanged
returns-clause-unchanged c = step_unchanged

pub returns-clause-bound : goal.returns-clause-bound
returns-clause-bound c = chain_bounded

pub returns-clause-determined : goal.returns-clause-determined
returns-clause-determined c = one_outcome

pub returns-clause-full : goal.returns-clause-full
returns-clause-full c = full_law

pub returns-clause-full_log : goal.returns-clause-full_log
returns-clause-full_log c = full_log

pub returns-clause-led : goal.returns-clause-led
returns-clause-led c = one_led

pub returns-clause-rollback : goal.returns-clause-rollback
returns-clause-rollback c = (call_rolled_back, power_rolled_back, chain_rolled_back)

pub returns-clause-exact : goal.returns-clause-exact
returns-clause-exact c = run_exact

pub returns-clause-held_run : goal.returns-clause-held_run
returns-clause-held_run c = run_held

pub returns-clause-ends : goal.returns-clause-ends
returns-clause-ends c = (uninterrupted, each_recovery_ends)

pub returns-clause-look : goal.returns-clause-look
returns-clause-look c = looked_at
