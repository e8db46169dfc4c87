-- A recovery keeps the seal, whatever it answers.
use Rattle.std.proofs.Common.{◌≡◌, ◌≢◌, ℕ, suc, Option, Some, None, pos, refl, subst}
use Rattle.cache_model.specs.Cache.{Words, view}
use Rattle.cache_model.specs.Image.{Images}
use Rattle.cache_model.specs.Collapse.{bad}
use Rattle.cache_model.specs.declared.choice.Choice.{Choice}
use Rattle.pmem.specs.Device.{Device, memory_of, powered}
use Rattle.pool_layout.specs.declared.places.TheConstants.{DONE, MARK}
use Rattle.cnvm_session.specs.declared.mode.Mode.{Mode}
use Rattle.cnvm_session.specs.declared.answer.Answer.TheVariants as answer
use Rattle.cnvm_session.specs.declared.answer.Answer.{Answer}
use Rattle.cnvm_session.specs.declared.program.Program.{Program}
use Rattle.cnvm_session.specs.Marks.{rolls_back_of}
use Rattle.cnvm_session.specs.Commands as commanded
use Rattle.cnvm_session.specs.Commands.{fallen}
use Rattle.session_law.specs.Agrees.{Agrees}
use Rattle.session_law.specs.State.{Pending, Standing, Down, SourceState}
use Rattle.session_law.specs.Answers.{HasSeal}
use Rattle.session_law.specs.Holds.{Holds, HeldAs}
use Rattle.session_law.proofs.images.Ones.{left_rest}
use Rattle.session_law.proofs.chains.PowerPhases.{from_owed}
use Rattle.session_law.proofs.answers.Powers.{left_held}
use Rattle.user_law.specs.Stays as user
use Rattle.user_law.specs.Seen.{SealKeptLaw}

module _ (program : Program) (super : Words) (choice : Choice) (owed : Pending) (m n : Mode)
    (d b : Device) (s : SourceState) (a : Answer) (k k1 : ℕ) (agrees : Agrees program)
    (holds : Holds program super m d s) (standing : s.standing ≡ Down (Some owed))
    (cut : user.IsPowerCut a) (mark : view (powered choice d).cache MARK ≡ pos 0)
    (not_done : view (powered choice d).cache DONE ≢ pos (suc s.done))
    (seal : HasSeal s (view (powered choice d).cache)) where
  no_pick : (line : ℕ) → a ≡ answer.RefusedPick line → ⊥
  no_pick line is = subst user.IsPowerCut is cut

  by_picks : (first pick : Option ℕ) → fallen 0 choice.picks ≡ first
      → bad (memory_of d) choice.picks ≡ pick
      → commanded.Powers program choice m d a n b k k1 → Images (HasSeal s) b.cache
  by_picks (Some line) pick falls fits powers = absurd (no_pick line (powers.0 line falls).0)
  by_picks None (Some line) rises fits powers = absurd (no_pick line (powers.1 line rises fits).0)
  by_picks None None rises fits powers =
      from_owed program super agrees (powered choice d) s refl
      (left_rest d.cache choice.rest choice.picks) a n b k k1 (powers.2 rises fits) owed mark
      not_done seal (rolls_back_of program owed.tx) refl
      (subst (λ (st : Standing). HeldAs st program super (powered choice d) s) standing
      (left_held program super choice d s m s.standing holds))

pub seal_kept : SealKeptLaw
seal_kept program super choice owed m n d b s a k k1 agrees holds standing cut is mark not_done
    seal =
    by_picks program super choice owed m n d b s a k k1 agrees holds standing cut mark not_done seal
    (fallen 0 choice.picks) (bad (memory_of d) choice.picks) refl refl is
