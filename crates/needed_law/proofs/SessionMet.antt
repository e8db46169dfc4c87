-- A new pool on a device that refuses nothing, and a session that asks for its last value.
use Rattle.std.proofs.Common.{◌≡◌, ℕ, true, Some, None, List, [], ◌∷◌, pos, refl, sym}
use Rattle.std.proofs.Common.{ap, ◌∙◌, subst}
use Rattle.cache_model.specs.Event.{CacheEvent}
use Rattle.cache_model.specs.Cache.{view}
use Rattle.pmem.specs.Device.{Device, MayTakeEvent, MayGo, spent, less_one, armed_less, blanked}
use Rattle.pmem.specs.Played.{PlaysAll}
use Rattle.pool_layout.specs.declared.places.TheConstants.{DONE, LAST}
use Rattle.pool_layout.specs.Sizes.{pool_lines}
use Rattle.args_log.specs.Created.{creation_events}
use Rattle.cnvm_session.specs.declared.answer.Answer.TheVariants as answer
use Rattle.cnvm_session.specs.Pool.{sizes_of}
use Rattle.session_law.specs.Ran.{fresh_moment}
use Rattle.session_law.proofs.answers.Creating.{created_rests}
use Rattle.needed_law.specs.MetSession.{calm_device, SessionMetLaw}

may_take : (d : Device) → d.on ≡ true → d.left ≡ None → d.armed ≡ Some None → MayTakeEvent d
may_take d on left armed = (
  (on, λ e. let clash : None ≡ Some 0 = sym left ∙ e in absurd cc),
  subst MayGo (sym armed) (λ e. absurd cc),
)

-- such a device plays each list
play_calm : (es : List CacheEvent) (d : Device) → d.on ≡ true → d.left ≡ None
    → d.armed ≡ Some None → (b : Device) × PlaysAll d es b
play_calm [] d on left armed = (d, refl)
play_calm (e ∷ es) d on left armed =
    let rest = play_calm es (spent d e) on (ap less_one left) (ap armed_less armed) in
    (rest.0, (may_take d on left armed, rest.1))

pub session_met : SessionMetLaw
session_met program =
    let lines : ℕ = pool_lines (sizes_of program) in
    let made = play_calm (creation_events (sizes_of program) program.digest)
    (blanked lines calm_device) refl refl refl in
    let holds = created_rests program calm_device made.0 made.1 in
    let done : view made.0.cache DONE ≡ pos 0 = holds.1.before.good.done in
    let last : view made.0.cache LAST ≡ pos 0 = holds.1.before.last_is in
    record {
      device = made.0;
      made = made.1;
      holds = holds;
      ran = (
        fresh_moment program made.0 0,
        record {
          did = ((λ on i. answer.Last (sym done i) (sym last i)), refl, refl, refl);
          meant = (refl, refl);
          holds = holds;
          history = refl;
        },
        refl,
      );
    }
