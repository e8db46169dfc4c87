use Rattle.std.proofs.Common.{arith}
use Rattle.pmem.proofs.Zeros.{known_cleared, known_stored}
use Rattle.pmem.proofs.full_words.FullWords.store.Goals as goal

pub returns-in_default : goal.returns-in_default
returns-in_default c = λ words within known. known_stored words c.args.self.now.first
    c.args.self.now.apart c.args.self.now.count c.args.self.now.chunks.items
    c.args.self.now.areas.items c.args.word c.args.value
    (λ i same. absurd (c.in_default.ensures.none i same)) within known

pub returns : goal.returns
returns c = λ words within known. known_cleared words c.args.self.now.first c.args.self.now.apart
    c.in-Some.number c.args.self.now.count c.min-self.result c.args.self.now.chunks.items
    c.args.self.now.areas.items c.clear_flag.new.chunks.items c.clear_flag-2.new.chunks.items
    c.args.word c.args.value c.args.self.now.some c.in-Some.ensures.some
    (omega (arith, c.min-self.ensures)) (omega (arith, c.min-self.ensures)) c.clear_flag.ensures
    c.clear_flag-2.ensures known
