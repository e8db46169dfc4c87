use Rattle.std.proofs.Common.{rules, ◌≡◌, ◌<◌, ◌≤◌, ◌∙◌, sym, ap, subst, length, slice_set, get_or}
use Rattle.std.proofs.Common.{bit_or}
use Rattle.std.specs.Vec.{with_items}
use Rattle.std.proofs.lemmas.List.{with_items_is}
use Rattle.clobber_pass.specs.Row.{word}
use Rattle.clobber_pass.specs.inside.Room.{room, words_room}
use Rattle.clobber_pass.proofs.bits.Rooms.{written, raised_row, raised_length, raised_most}
use Rattle.clobber_pass.proofs.rows.Rows.raise.Goals as goal

pub returns-clause-row : goal.returns-clause-row
returns-clause-row c =
    let rows = c.self.inside.rows.items in
    let table = c.args.self.now in
    let p = c.args.place in
    let s = c.args.slot in
    let bits = c.args.bits in
    let was = c.index_mut.result.now in
    let row = c.raise_in.new.row in
    let inside : p < length rows = search rules in
    let was_is : was ≡ get_or rows p was = search rules in
    let more : row ≡ slice_set was.items s (bit_or (word was.items s) bits) = search rules in
    let whole = with_items_is was row
    (raised_length rows table c.self.view_is p inside was was_is s bits row more
    ∙ sym was.ok.0) in
    written rows table c.self.view_is p (with_items was row) ∙ ap (slice_set table p) whole
    ∙ ap (slice_set table p)
    (raised_row rows table c.self.view_is p inside was was_is s bits row more)

pub returns-clause-room : goal.returns-clause-room
returns-clause-room c =
    let rows = c.self.inside.rows.items in
    let table = c.args.self.now in
    let p = c.args.place in
    let s = c.args.slot in
    let bits = c.args.bits in
    let was = c.index_mut.result.now in
    let row = c.raise_in.new.row in
    let inside : p < length rows = search rules in
    let was_is : was ≡ get_or rows p was = search rules in
    let more : row ≡ slice_set was.items s (bit_or (word was.items s) bits) = search rules in
    let most : words_room row ≤ words_room was.items = search rules in
    let whole = with_items_is was row
    (raised_length rows table c.self.view_is p inside was was_is s bits row more
    ∙ sym was.ok.0) in
    subst (λ t. room t ≤ room table)
    (sym (written rows table c.self.view_is p (with_items was row) ∙ ap (slice_set table p) whole))
    (raised_most rows table c.self.view_is p inside was was_is s bits row more most)
