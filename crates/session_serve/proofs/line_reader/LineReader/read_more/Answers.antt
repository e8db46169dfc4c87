use Rattle.std.proofs.Common.{◌≡◌, ◌++◌, ◌∙◌, ap, take, arith}
use Rattle.session_serve.proofs.Reading.{moved_kept, read_front, resized_front}
use Rattle.session_serve.proofs.line_reader.LineReader.read_more.Goals as goal

pub returns-in-Count-clause-kept : goal.returns-in-Count-clause-kept
returns-in-Count-clause-kept g c =
    let ahead = c.args.self.now.ahead.items in
    let n = c.in-Count.count in
    let k = c.len-size.result in
    let buffer = c.deref_mut.result.now in
    let front : take k buffer ≡ ahead =
    resized_front ahead _ buffer k 4096 (grind arith) (c.deref_mut.ensures.value
    ∙ (rw c.in_ok-resize.was at c.resize.ensures.items)) in
    let got : c.truncate.new.self.items ≡ ahead ++ take n c.read.new.piece =
    c.truncate.ensures.items
    ∙ read_front buffer c.read.new.piece _ _ k n c.resize.new.self.len (grind arith)
    c.in-Count.ensures.within (grind arith)
    ∙ ap (λ z. z ++ take n c.read.new.piece) front in
    rw got (moved_kept (g.S.Source.left c.args.source.now) (g.S.Source.left c.read.new.self)
    ahead (take n c.read.new.piece) c.in-Count.ensures.bytes)
