use Rattle.std.proofs.Common.{◌≡◌, ◌<◌, ◌≤◌, ◌∙◌, Some, slice_get, length, sym, ap, rules}
use Rattle.std.proofs.lemmas.Option.{slice_get-get_or}
use Rattle.pmem.proofs.Placed.{absent_past, absent_beyond, absent_here, is_here}
use Rattle.pmem.proofs.kept_lines.place_of.Goals as goal

pub returns-then-line-len-clause-none : goal.returns-then-line-len-clause-none
returns-then-line-len-clause-none c =
    let past : length c.args.places.now.items ≤ c.args.line = search rules in
    absent_past c.args.places.now.items c.args.entries.now.items c.args.line c.requires past

pub returns-then-place-len-clause-none : goal.returns-then-place-len-clause-none
returns-then-place-len-clause-none c =
    let within : c.args.line < length c.args.places.now.items = search rules in
    let some : slice_get c.args.places.now.items c.args.line ≡ Some c.index-place.result.now =
    slice_get-get_or c.args.places.now.items c.args.line c.index-place.result.now within
    ∙ ap Some (sym c.index-place.ensures) in
    let past : length c.args.entries.now.items ≤ c.index-place.result.now = search rules in
    absent_beyond c.args.places.now.items c.args.entries.now.items c.args.line
    c.index-place.result.now c.requires some past

pub returns-then-index-line-clause-found : goal.returns-then-index-line-clause-found
returns-then-index-line-clause-found c =
    let lt : c.index-place.result.now < length c.args.entries.now.items = search rules in
    is_here c.args.entries.now.items c.index-place.result.now c.args.line c.index.result.now lt
    c.index.ensures c.if-index-line.true

pub returns-else-index-line-clause-none : goal.returns-else-index-line-clause-none
returns-else-index-line-clause-none c =
    let within : c.args.line < length c.args.places.now.items = search rules in
    let some : slice_get c.args.places.now.items c.args.line ≡ Some c.index-place.result.now =
    slice_get-get_or c.args.places.now.items c.args.line c.index-place.result.now within
    ∙ ap Some (sym c.index-place.ensures) in
    absent_here c.args.places.now.items c.args.entries.now.items c.args.line
    c.index-place.result.now c.index.result.now c.requires some c.index.ensures
    c.if-index-line.false
