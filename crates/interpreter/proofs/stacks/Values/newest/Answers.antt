use Rattle.std.proofs.Common.{◌≡◌, reverse, length, vec_len}
use Rattle.std.proofs.lemmas.List.{take_rest}
use Rattle.interpreter.proofs.Tops.{drop-newest}
use Rattle.interpreter.proofs.stacks.Values.newest.Goals as goal

pub returns : goal.returns
returns c =
    let long : vec_len c.self.inside.all ≡ length c.self.inside.all.items =
    cc c.self.inside.all.ok.0 in
    let now : c.args.self.now ≡ reverse c.self.inside.all.items = cc c.self.view_is in
    rw (c.deref.ensures.value, take_rest, c.saturating_sub-first.ensures, c.len.ensures, long, now)
    (drop-newest c.args.count c.self.inside.all.items)
