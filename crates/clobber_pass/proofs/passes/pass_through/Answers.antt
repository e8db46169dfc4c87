use Rattle.std.proofs.Common.{rules, ◌≡◌, Ok, false, slice_set, refl}
use Rattle.clobber_pass.proofs.Recalling.{passing_quiet}
use Rattle.clobber_pass.proofs.passes.pass_through.Goals as goal

pub returns-clause-passing : goal.returns-clause-passing
returns-clause-passing c =
    let still : c.columns.result ≡ Ok false = search rules in
    passing_quiet c.args.ir.now.functions c.args.topic c.args.exits.now c.columns.new.exits
    c.args.waiting.now (slice_set c.args.waiting.now c.args.function false) c.args.function
    c.requires.passing (c.columns.ensures.ended still)
    (c.columns.ensures.same still) refl
