use Rattle.std.proofs.Common.{◌≡◌, ◌*◌, ◌/◌, length, rules, arith, sym, ap, ◌∙◌, subst}
use Rattle.std.specs.Prelude.{OnOk, IfErr, IsErrOf}
use Rattle.std.proofs.lemmas.Result.{on_ok_weaker}
use Rattle.pmem.specs.Device.{Device, FaultsRose, blanked}
use Rattle.pmem.specs.Played.{PlaysAll}
use Rattle.cnvm_session.specs.declared.creating.StartFault.TheVariants.{Failed}
use Rattle.cnvm_session.specs.Opening.{opening_events}
use Rattle.cnvm_session.specs.Unmade.{IsUnmade}
use Rattle.cnvm_session.proofs.Filling.{filled_plays}
use Rattle.cnvm_session.proofs.opening.open_lines.Goals as goal

pub returns-then-done-clause-done : goal.returns-then-done-clause-done
returns-then-done-clause-done g c =
    let d : Device = g.P.PmemWork.device c.args.dev.now in
    let whole : length c.args.words.now ≡ 8 * c.args.lines = search rules in
    subst (PlaysAll (blanked c.args.lines d) (opening_events c.args.lines c.args.words.now))
    (sym (c.in-Ok.ensures.done c.if-done.true))
    (filled_plays c.args.lines c.args.words.now d whole)

pub returns-then-done-clause-lines : goal.returns-then-done-clause-lines
returns-then-done-clause-lines g c =
    let whole : length c.args.words.now ≡ 8 * c.args.lines = search rules in
    let count : length c.args.words.now / 8 ≡ c.args.lines = omega arith in
    ap (λ (d : Device). d.lines) (c.in-Ok.ensures.done c.if-done.true) ∙ count

pub returns-clause-done : goal.returns-clause-done
returns-clause-done g c =
    let device = g.P.PmemWork.device in
    subst (λ (d : Device). OnOk c.write_lines.result (PlaysAll (blanked c.args.lines d)
    (opening_events c.args.lines c.args.words.now) (device c.write_lines.new.dev)))
    (c.in-Ok.ensures.other c.if-done.false) c.write_lines.ensures.done

pub returns-clause-whole : goal.returns-clause-whole
returns-clause-whole g c =
    let whole : length c.args.words.now ≡ 8 * c.args.lines = search rules in
    on_ok_weaker c.write_lines.result (λ lines. whole) c.write_lines.ensures.lines

pub returns-clause-refused : goal.returns-clause-refused
returns-clause-refused g c =
    let device = g.P.PmemWork.device in
    subst (λ (d : Device). IfErr c.write_lines.result (λ why. IsUnmade why c.args.lines
    (opening_events c.args.lines c.args.words.now) d (device c.write_lines.new.dev)))
    (c.in-Ok.ensures.other c.if-done.false) c.write_lines.ensures.refused

pub returns-clause-failed : goal.returns-clause-failed
returns-clause-failed g c =
    let device = g.P.PmemWork.device in
    subst (λ (d : Device). IsErrOf c.write_lines.result Failed
    → FaultsRose d.faults (device c.write_lines.new.dev).faults)
    (c.in-Ok.ensures.other c.if-done.false) c.write_lines.ensures.failed
