use Rattle.std.proofs.Common.{◌≡◌, ◌<◌, length, rules}
use Rattle.std.specs.Prelude.{Err}
use Rattle.c_constants.proofs.OneEach.{refused_there}
use Rattle.c_constants.proofs.declaration.one_name_each.Goals as goal

pub returns-in_err-out : goal.returns-in_err-out
returns-in_err-out c =
    let at = c.loop-place in
    let inside : at.place < length c.args.tokens.now.tokens = search rules in
    let is : c.put_at.result ≡ Err c.in_err-out.field-0.0 = search rules in
    let same : c.from_residual.result ≡ Err c.in_err-out.field-0.0 = search rules in
    refused_there c.args.tokens.now at.out at.stand at.place c.put_at.result
    c.from_residual.result c.in_err-out.field-0.0 at.invariant inside is same c.put_at.ensures
