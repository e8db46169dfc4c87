use Rattle.std.proofs.Common.{◌≡◌, ◌+◌, ◌*◌, ◌++◌, List, ℕ, take, subst, arith, rules, w64}
use Rattle.std.proofs.Common.{FitsSigned}
use Rattle.std.specs.Prelude.{OnOk, OnErr}
use Rattle.std.specs.Io.KnownBytes.{Appends}
use Rattle.std.proofs.lemmas.Int.{to_z-of_z}
use Rattle.nvm_base.specs.Parts.{AppendsPart}
use Rattle.cache_model.specs.Cache.{view}
use Rattle.pool_layout.specs.Bytes.{bytes_of_word}
use Rattle.session_run.proofs.Pieces.{word_put, all_put}
use Rattle.session_run.proofs.image.write_piece.Goals as goal

pub loop-k-preserved : goal.loop-k-preserved
loop-k-preserved g c =
    let k = c.loop-k.k in
    let fits : FitsSigned w64 c.newest.result = search rules in
    let put : take (8 * (k + 1)) c.put_word.new.piece
    ≡ take (8 * k) c.loop-k.piece ++ bytes_of_word c.newest.result =
    simp to_z-of_z at c.put_word.ensures.put in record {
      bytes = word_put (view (g.P.PmemWork.device c.args.dev.now).cache) c.args.from k
          c.loop-k.piece c.put_word.new.piece c.newest.result c.newest.ensures
          c.loop-k.invariant.bytes put;
      long = omega (arith, c.loop-k.invariant.long, c.put_word.ensures.length);
    }

pub returns-clause-ok : goal.returns-clause-ok
returns-clause-ok g c =
    let written = g.O.Sink.written in
    subst (λ (bs : List ℕ). OnOk c.write_all.result (Appends (written c.args.out.now)
    (written c.write_all.new.sink) bs))
    (all_put (view (g.P.PmemWork.device c.args.dev.now).cache) c.args.from c.loop-k.k c.args.count
    c.loop-k.piece (omega (arith, c.loop-k-test.false)) c.loop-k.invariant.bytes)
    c.write_all.ensures.ok

pub returns-clause-part : goal.returns-clause-part
returns-clause-part g c =
    let written = g.O.Sink.written in
    subst (λ (bs : List ℕ). OnErr c.write_all.result (AppendsPart (written c.args.out.now)
    (written c.write_all.new.sink) bs))
    (all_put (view (g.P.PmemWork.device c.args.dev.now).cache) c.args.from c.loop-k.k c.args.count
    c.loop-k.piece (omega (arith, c.loop-k-test.false)) c.loop-k.invariant.bytes)
    c.write_all.ensures.part
