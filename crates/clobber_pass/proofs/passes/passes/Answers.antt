use Rattle.std.proofs.Common.{◌≡◌, ◌∙◌, sym, ap, subst, length, replicate, false, List}
use Rattle.ir.specs.declared.function.IrFunction.{IrFunction}
use Rattle.clobber_pass.specs.inside.Closed.{ShapedExits, no_exits}
use Rattle.clobber_pass.specs.inside.Sound.{SoundExits}
use Rattle.clobber_pass.specs.inside.Calling.{all_called, edges_from}
use Rattle.clobber_pass.proofs.derived.Columns.{no_exits_sound, no_exits_shaped}
use Rattle.clobber_pass.proofs.Recalling.{passing_first}
use Rattle.clobber_pass.proofs.passes.passes.Goals as goal

pub loop-waiting-init : goal.loop-waiting-init
loop-waiting-init c =
    let functions = c.args.ir.now.functions in
    let none = sym (c.in_ok-exits.ensures ∙ ap no_exits c.as_slice-functions.ensures) in
    let count : length c.as_slice-functions.result.now ≡ length functions =
    ap (λ (l : List IrFunction). length l) c.as_slice-functions.ensures in
    let waiting : c.in_ok-waiting.waiting.items ≡ all_called (edges_from 0 functions)
    (replicate (length functions) false) =
    c.in_ok-waiting.ensures ∙ ap (λ es.
    all_called es (replicate (length c.as_slice-functions.result.now) false)) c.requires.edges
    ∙ ap (λ n. all_called (edges_from 0 functions) (replicate n false)) count in
    passing_first functions c.args.topic c.in_ok-exits.exits c.in_ok-waiting.waiting.items
    (subst (ShapedExits functions c.args.topic) none (no_exits_shaped functions c.args.topic))
    (subst (SoundExits functions c.args.topic) none (no_exits_sound functions c.args.topic))
    waiting
