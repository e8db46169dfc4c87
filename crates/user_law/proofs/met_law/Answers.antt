use Rattle.user_law.proofs.Meeting.{step_met, run_met, call_met, look_met, cut_met}
use Rattle.user_law.proofs.Meeting.{count_needed}
use Rattle.user_law.proofs.met_law.Goals as goal

pub returns-clause-step : goal.returns-clause-step
returns-clause-step c = step_met

pub returns-clause-run : goal.returns-clause-run
returns-clause-run c = run_met

pub returns-clause-call : goal.returns-clause-call
returns-clause-call c = call_met

pub returns-clause-look : goal.returns-clause-look
returns-clause-look c = look_met

pub returns-clause-cut : goal.returns-clause-cut
returns-clause-cut c = cut_met

pub returns-clause-count : goal.returns-clause-count
returns-clause-count c = count_needed
