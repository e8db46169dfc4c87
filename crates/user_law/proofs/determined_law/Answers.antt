use Rattle.user_law.proofs.Answering.{some_end_law}
use Rattle.user_law.proofs.Determining.{one_state_law, one_end_law, same_answers_law}
use Rattle.user_law.proofs.Determining.{same_script_law, same_output_law}
use Rattle.user_law.proofs.Picking.{one_pick_law}
use Rattle.user_law.proofs.determined_law.Goals as goal

pub returns-clause-state : goal.returns-clause-state
returns-clause-state c = one_state_law

pub returns-clause-end : goal.returns-clause-end
returns-clause-end c = one_end_law

pub returns-clause-some : goal.returns-clause-some
returns-clause-some c = some_end_law

pub returns-clause-pick : goal.returns-clause-pick
returns-clause-pick c = one_pick_law

pub returns-clause-answers : goal.returns-clause-answers
returns-clause-answers c = same_answers_law

pub returns-clause-script : goal.returns-clause-script
returns-clause-script c = same_script_law

pub returns-clause-output : goal.returns-clause-output
returns-clause-output c = same_output_law
