use Rattle.std.proofs.Common.{◌*◌, arith}
use Rattle.std.proofs.lemmas.Grind.{common_steps}
use Rattle.cache_model.specs.Cache.{view}
use Rattle.session_run.proofs.Pieces.{piece_written, part_written, all_written}
use Rattle.session_run.proofs.image.write_lines.Goals as goal

pub writing-preserved : goal.writing-preserved
writing-preserved g c =
    let written = g.O.Sink.written in
    record {
      written = piece_written (written c.args.out.now) (written c.writing.out)
          (written c.write_piece.new.out) (view (g.P.PmemWork.device c.args.dev.now).cache)
          c.writing.from c.min-count.result c.writing.invariant.written
          c.in-Ok.ensures.ok;
      within = grind (arith, common_steps, c.min-count.ensures);
      count = omega (arith, c.writing.invariant.count, c.in-Ok.ensures.count);
    }

pub returns-in-Err-clause-part : goal.returns-in-Err-clause-part
returns-in-Err-clause-part g c =
    let written = g.O.Sink.written in
    part_written (written c.args.out.now) (written c.writing.out)
    (written c.write_piece.new.out) (view (g.P.PmemWork.device c.args.dev.now).cache)
    c.writing.from c.min-count.result _ (grind (arith, common_steps, c.min-count.ensures))
    c.writing.invariant.written c.in-Err.ensures.part

pub returns-clause-ok : goal.returns-clause-ok
returns-clause-ok g c =
    let written = g.O.Sink.written in
    (all_written (written c.args.out.now) (written c.writing.out) (written c.finish.new.self)
    (view (g.P.PmemWork.device c.args.dev.now).cache) c.writing.from (8 * c.args.lines)
    c.finish.result c.writing.invariant.within c.writing-test.false c.writing.invariant.written
    c.finish.ensures.kept).0

pub returns-clause-part : goal.returns-clause-part
returns-clause-part g c =
    let written = g.O.Sink.written in
    (all_written (written c.args.out.now) (written c.writing.out) (written c.finish.new.self)
    (view (g.P.PmemWork.device c.args.dev.now).cache) c.writing.from (8 * c.args.lines)
    c.finish.result c.writing.invariant.within c.writing-test.false c.writing.invariant.written
    c.finish.ensures.kept).1
