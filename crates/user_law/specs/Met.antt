-- The premises of the laws of chains can be met: a new pool has a step, a text with a meaning has a
-- run, a call comes to its end, one only looks, and one is cut off at its seal, after which both
-- recoveries are possible.
use Rattle.std.specs.Prelude.{◌≡◌, ℕ, true, false, List, [], ◌∷◌, Some, None, pos, codes, flat_map}
use Rattle.cache_model.specs.Cache.{Words, blank}
use Rattle.cache_model.specs.declared.choice.Rest.TheVariants.{Old, New}
use Rattle.cache_model.specs.declared.choice.Choice.{Choice}
use Rattle.pmem.specs.Device.{Device}
use Rattle.pmem.specs.declared.answer.Phase.TheVariants as phase
use Rattle.pool_layout.specs.declared.limits.Sizes.{Sizes}
use Rattle.pool_layout.specs.Sizes.{pool_lines}
use Rattle.c_tree.specs.declared.expr.IntType.TheVariants.{Signed}
use Rattle.c_tree.specs.ExprTree as expr
use Rattle.c_tree.specs.StmtTree as stmt
use Rattle.c_tree.specs.declared.item.Marked.{Marked}
use Rattle.c_tree.specs.declared.item.Marked.TheVariants.{Plain, Const}
use Rattle.c_tree.specs.ItemTree.{FunctionTree, Function}
use Rattle.cnvm_script.specs.declared.command.Command.TheVariants as command
use Rattle.cnvm_session.specs.declared.answer.Answer.TheVariants as answer
use Rattle.cnvm_session.specs.AnswerText.{answer_text}
use Rattle.session_law.specs.State.{Pending}
use Rattle.session_law.specs.Ends.{IsSafe}
use Rattle.session_law.specs.Ran.{found_by}
use Rattle.user_law.specs.Source.{Source}
use Rattle.user_law.specs.State.{Ready, Owed, UserState, first_state}
use Rattle.user_law.specs.Answers.{has_next_seal, UserAnswers}
use Rattle.user_law.specs.Played.{only_looks}
use Rattle.user_law.specs.Keeps.{UserKeeps}
use Rattle.user_law.specs.Ran.{UserMoment, UserStep, UserRan}
use Rattle.user_law.specs.Run.{source_of, first_moment, TextMeaning, IsUserRun}
use Rattle.user_law.specs.Ends.{IsQuiet}

-- a device of blank lines that refuses nothing
abbrev pub blank_device : Sizes → Device
blank_device sizes = record {
  lines = pool_lines sizes;
  cache = blank;
  on = true;
  left = None;
  armed = Some None;
  faults = 0;
}

abbrev pub blank_moment : Source → UserMoment
blank_moment p = first_moment p (blank_device p.sizes)

-- what the laws of chains ask of a first moment; and `last` is answered
pub record MeetsStep (p : Source) : Type 0 where
  pub quiet : IsQuiet (blank_device p.sizes)
  pub keeps : UserKeeps p (blank_device p.sizes) (first_state p)
  pub step : UserStep p command.Last (blank_moment p) (answer.Last (pos 0) (pos 0))
      (blank_moment p)

-- A step of each source.
abbrev pub StepMetLaw : Type 0
StepMetLaw = (p : Source) → MeetsStep p

-- A run of each text that has a meaning: the script asks for the last value.
abbrev pub RunMetLaw : Type 0
RunMetLaw =
    (text : List ℕ) (meaning : TextMeaning text) (sizes : Sizes) →
    IsUserRun text (codes "last") meaning sizes (blank_device sizes) (blank_device sizes)
    (flat_map answer_text (answer.Last (pos 0) (pos 0) ∷ []))

-- a transaction that returns 7, and a program that has no other
abbrev pub seven : Marked → FunctionTree
seven mark = record {
  tx = true;
  mark = mark;
  result_type = Some (stmt.Int Signed);
  name = record { text = codes "seven"; place = 2 };
  parameters = [];
  body = stmt.Then (stmt.Return 7 (Some (expr.Number (pos 7)))) stmt.Nothing;
}

abbrev pub seven_source : Sizes → Source
seven_source sizes = source_of (Function (seven Plain) ∷ []) 10 sizes (λ pool call. 0)

abbrev pub call_of_seven : Pending
call_of_seven = record { tx = 1; args = [] }

-- A call that comes to its end, in a pool of any sizes.
abbrev pub CallMetLaw : Type 0
CallMetLaw =
    (sizes : Sizes) → (y : UserMoment)
    × UserStep (seven_source sizes) (command.Call (codes "seven") [])
    (blank_moment (seven_source sizes)) (answer.Done (pos 7) false 0) y
    × (y.history ≡ call_of_seven ∷ [])

-- the same of a transaction that only looks
abbrev pub looking_source : Sizes → Source
looking_source sizes = source_of (Function (seven Const) ∷ []) 11 sizes (λ pool call. 0)

-- A call of it comes to its end, and leaves all as it was.
abbrev pub LookMetLaw : Type 0
LookMetLaw =
    (sizes : Sizes) →
    (only_looks (looking_source sizes) (command.Call (codes "seven") []) ≡ true)
    × UserStep (looking_source sizes) (command.Call (codes "seven") [])
    (blank_moment (looking_source sizes)) (answer.Done (pos 7) false 0)
    (blank_moment (looking_source sizes))

-- the power cuts that keep the oldest versions, and the newest
abbrev pub keep_old : Choice
keep_old = record { rest = Old; picks = [] }

abbrev pub keep_new : Choice
keep_new = record { rest = New; picks = [] }

-- On a new pool the power goes in a call, right after the event that stores its seal. If the cut
-- keeps the seal, the call is redone and is in the history; if it loses the seal, nothing is done.
pub record MeetsCut (p : Source) : Type 0 where
  pub cut : UserMoment
  pub before : UserRan p (command.Stop 1 ∷ command.Call (codes "seven") [] ∷ [])
      (answer.Silent ∷ answer.Stopped phase.Sealing ∷ []) (blank_moment p) cut
  pub owed : cut.state.standing ≡ Owed call_of_seven phase.Sealing
  pub safe : IsSafe cut.device
  pub sealed : has_next_seal cut.state (found_by (command.Power keep_new) cut.device) ≡ true
  pub done : UserMoment
  pub redone : UserStep p (command.Power keep_new) cut (answer.RecoveredRedone (pos 7) false 0)
      done
  pub ready : done.state.standing ≡ Ready
  pub counted : done.history ≡ call_of_seven ∷ []
  pub unsealed : has_next_seal cut.state (found_by (command.Power keep_old) cut.device) ≡ false
  pub undone : UserMoment
  pub lost : UserStep p (command.Power keep_old) cut answer.RecoveredNone undone
  pub again : undone.state ≡ first_state p
  pub uncounted : undone.history ≡ []

-- Such a cut, in a pool of any sizes.
abbrev pub CutMetLaw : Type 0
CutMetLaw = (sizes : Sizes) → MeetsCut (seven_source sizes)

-- Why the seal and the count are asked of an image: where a call is owed, the answer is `recovered
-- none` if it was finished before the cut, and also if nothing of it is there.
abbrev pub CountNeededLaw : Type 0
CountNeededLaw =
    (sizes : Sizes) → (s : UserState) × (t : UserState) × (u : UserState)
    × (image : Words) × (other : Words)
    × UserAnswers (seven_source sizes) s image (command.Power keep_new) answer.RecoveredNone t
    × UserAnswers (seven_source sizes) s other (command.Power keep_new) answer.RecoveredNone u
    × (t.done ≡ 1) × (u.done ≡ 0)
