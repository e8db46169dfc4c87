use Rattle.std.proofs.Common.{rules, ◌≡◌, ◌<◌, ◌≤◌, true, false, Ok, ◌∙◌}
use Rattle.clobber_pass.specs.inside.Closed.{Ended}
use Rattle.clobber_pass.specs.inside.Calling.{EndedAlone}
use Rattle.clobber_pass.specs.inside.Room.{all_room}
use Rattle.clobber_pass.proofs.Recalling.{apart_both, alone_keeps}
use Rattle.clobber_pass.proofs.bits.Rounds.{below_next, next_quiet}
use Rattle.clobber_pass.proofs.passes.columns.Goals as goal
use Rattle.clobber_pass.proofs.passes.columns.Goals.{then-branch, else-branch}

pub loop-at-preserved : goal.loop-at-preserved
loop-at-preserved c =
    let quiet : c.if-branch.grew ≡ false → (c.loop-at.grew ≡ false) × (c.column.result ≡ Ok false) =
    elim c.if-branch.branch [ then-branch w ↦ search rules | else-branch w ↦ search rules ] in
    let fell : c.if-branch.grew ≡ true → all_room c.column.new.exits < all_room c.args.exits.now =
    elim c.if-branch.branch [ then-branch w ↦ search rules | else-branch w ↦ search rules ] in
    let most : all_room c.column.new.exits ≤ all_room c.args.exits.now = search rules in (
      c.in_ok-column.ensures.shaped,
      c.in_ok-column.ensures.sound,
      (λ still. let q = quiet still in c.column.ensures.same q.1 ∙ c.loop-at.invariant.2 q.0),
      (λ still. let q = quiet still in
          next_quiet (λ exits at. Ended c.args.ir.now.functions c.args.topic exits
          c.args.function at)
          c.args.exits.now c.loop-at.exits c.loop-at.at (c.loop-at.invariant.2 q.0)
          (c.column.ensures.ended q.1) (c.loop-at.invariant.3 q.0)),
      fell,
      most,
      apart_both c.args.function c.args.exits.now c.loop-at.exits c.column.new.exits
          c.loop-at.invariant.6 c.in_ok-column.ensures.apart,
      below_next (EndedAlone c.args.ir.now.functions c.args.topic c.column.new.exits
          c.args.function) c.loop-at.at (λ d less.
          alone_keeps c.args.ir.now.functions c.args.topic c.loop-at.exits c.column.new.exits
          c.args.function d c.in_ok-column.ensures.apart (c.loop-at.invariant.7 d less))
          c.in_ok-column.ensures.alone,
    )
