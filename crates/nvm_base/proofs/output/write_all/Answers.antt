use Rattle.std.proofs.Common.{arith}
use Rattle.std.proofs.lemmas.Grind.{common_steps}
use Rattle.nvm_base.proofs.Pieces.{appends_take_more, appends_part}
use Rattle.nvm_base.proofs.output.write_all.Goals as goal

pub loop-at-preserved : goal.loop-at-preserved
loop-at-preserved g c =
    let written = g.K.Sink.written in
    record {
      given = appends_take_more (written c.args.sink.now) (written c.loop-at.sink)
          (written c.write.new.self)
          c.args.bytes.now c.loop-at.at c.in-Count.count c.loop-at.invariant.given
          c.in-Count.ensures.bytes;
      within = grind (arith, common_steps, c.in-Count.ensures.within);
      count = omega (arith, c.loop-at.invariant.count, c.in-Count.ensures.count);
    }

pub returns-in-Failed-clause-part : goal.returns-in-Failed-clause-part
returns-in-Failed-clause-part g c =
    let written = g.K.Sink.written in
    appends_part (written c.args.sink.now) (written c.loop-at.sink) (written c.write.new.self)
    c.args.bytes.now
    c.loop-at.at c.loop-at.invariant.given c.in-Failed.ensures.kept
