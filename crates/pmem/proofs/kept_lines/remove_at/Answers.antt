use Rattle.std.proofs.Common.{◌≡◌, ◌<◌, ◌≤◌, ◌∙◌, Some, slice_get, slice_set, length}
use Rattle.std.proofs.Common.{refl, sym, ap, rules}
use Rattle.std.proofs.lemmas.Option.{slice_get-get_or}
use Rattle.pmem.proofs.Placed.{placed_moved, placed_last, moved_within, swap_gone}
use Rattle.pmem.proofs.kept_lines.remove_at.Goals as goal

pub index_mut-requires : goal.index_mut-requires
index_mut-requires c =
    let here : c.args.place < length c.swap_remove-kept.new.self.items = search rules in
    let moved : slice_get c.swap_remove-kept.new.self.items c.args.place
    ≡ Some c.index.result.now =
    slice_get-get_or c.swap_remove-kept.new.self.items c.args.place c.index.result.now here
    ∙ ap Some (sym c.index.ensures) in
    let lt : c.index.result.now.0 < length c.args.places.now.items =
    moved_within c.args.places.now.items c.args.entries.now.items
    c.swap_remove-kept.new.self.items c.args.place c.swap_remove-kept.result
    (c.args.line, c.requires.entry.0) c.index.result.now c.requires.placed c.requires.entry.1
    c.swap_remove-kept.ensures.items moved in
    search rules

pub returns-then-place-len-clause-placed : goal.returns-then-place-len-clause-placed
returns-then-place-len-clause-placed c =
    let here : c.args.place < length c.swap_remove-kept.new.self.items = search rules in
    let moved : slice_get c.swap_remove-kept.new.self.items c.args.place
    ≡ Some c.index.result.now =
    slice_get-get_or c.swap_remove-kept.new.self.items c.args.place c.index.result.now here
    ∙ ap Some (sym c.index.ensures) in
    placed_moved c.args.places.now.items
    (slice_set c.args.places.now.items c.index.result.now.0 c.args.place)
    c.args.entries.now.items c.swap_remove-kept.new.self.items c.args.place
    c.swap_remove-kept.result (c.args.line, c.requires.entry.0) c.index.result.now
    c.requires.placed c.requires.entry.1 c.swap_remove-kept.ensures.items moved refl

pub returns-then-place-len-clause-gone : goal.returns-then-place-len-clause-gone
returns-then-place-len-clause-gone c =
    swap_gone c.args.places.now.items
    (slice_set c.args.places.now.items c.index.result.now.0 c.args.place)
    c.args.entries.now.items c.swap_remove-kept.new.self.items c.args.place c.args.line
    c.swap_remove-kept.result c.requires.entry.0 c.requires.placed
    (returns-then-place-len-clause-placed c)
    c.requires.entry.1 c.swap_remove-kept.ensures.items

pub returns-else-place-len-clause-placed : goal.returns-else-place-len-clause-placed
returns-else-place-len-clause-placed c =
    let past : length c.swap_remove-kept.new.self.items ≤ c.args.place = search rules in
    placed_last c.args.places.now.items c.args.entries.now.items
    c.swap_remove-kept.new.self.items c.args.place c.swap_remove-kept.result
    (c.args.line, c.requires.entry.0) c.requires.placed c.requires.entry.1
    c.swap_remove-kept.ensures.items past

pub returns-else-place-len-clause-gone : goal.returns-else-place-len-clause-gone
returns-else-place-len-clause-gone c =
    swap_gone c.args.places.now.items c.args.places.now.items c.args.entries.now.items
    c.swap_remove-kept.new.self.items c.args.place c.args.line c.swap_remove-kept.result
    c.requires.entry.0 c.requires.placed (returns-else-place-len-clause-placed c)
    c.requires.entry.1 c.swap_remove-kept.ensures.items
