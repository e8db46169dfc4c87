use Rattle.std.proofs.Common.{◌≡◌, ◌<◌, ◌++◌, ◌∷◌, [], slice_set, length, refl, rules}
use Rattle.pmem.proofs.Placed.{kept_push}
use Rattle.pmem.proofs.kept_lines.add.Goals as goal

pub returns-clause-done : goal.returns-clause-done
returns-clause-done c =
    let lt : c.args.line < length c.args.places.now.items = search rules in
    let is : c.push.new.self.items ≡ c.args.entries.now.items ++ (c.args.line, c.args.kept) ∷ [] =
    search rules in
    kept_push c.args.places.now.items
    (slice_set c.args.places.now.items c.args.line (length c.args.entries.now.items))
    c.args.entries.now.items c.push.new.self.items c.args.line
    (length c.args.entries.now.items) c.args.kept c.requires.placed c.requires.none lt refl refl
    is
