use Rattle.std.proofs.Common.{rules, ◌≡◌, ◌<◌, ◌≤◌, ◌∙◌, sym, ap, subst, ℕ, List, length, slice_set}
use Rattle.std.proofs.Common.{get_or}
use Rattle.std.specs.Vec.{with_items}
use Rattle.std.proofs.lemmas.List.{with_items_is}
use Rattle.clobber_pass.proofs.bits.Joins.{length_or}
use Rattle.clobber_pass.specs.inside.Sweep.{or_from}
use Rattle.clobber_pass.specs.inside.Room.{room, words_room}
use Rattle.clobber_pass.proofs.bits.Rooms.{written, joined_row, joined_same, joined_less}
use Rattle.clobber_pass.proofs.bits.Rooms.{joined_most}
use Rattle.clobber_pass.proofs.rows.Rows.meet.Goals as goal

pub returns-clause-row : goal.returns-clause-row
returns-clause-row c =
    let rows = c.self.inside.rows.items in
    let table = c.args.self.now in
    let p = c.args.place in
    let was = c.index_mut.result.now in
    let row = c.join_words.new.row in
    let inside : p < length rows = search rules in
    let was_is : was ≡ get_or rows p was = search rules in
    let joined : row ≡ or_from c.args.more.now 0 was.items = search rules in
    let whole = with_items_is was row (ap (λ (r : List ℕ). length r) joined
    ∙ length_or c.args.more.now was.items 0 ∙ sym was.ok.0) in
    let is = written rows table c.self.view_is p (with_items was row)
    ∙ ap (slice_set table p) whole in
    is ∙ ap (slice_set table p) (joined_row rows table c.self.view_is p inside was was_is
    c.args.more.now row joined)

pub returns-clause-same : goal.returns-clause-same
returns-clause-same c still =
    let rows = c.self.inside.rows.items in
    let table = c.args.self.now in
    let p = c.args.place in
    let was = c.index_mut.result.now in
    let row = c.join_words.new.row in
    let inside : p < length rows = search rules in
    let was_is : was ≡ get_or rows p was = search rules in
    let joined : row ≡ or_from c.args.more.now 0 was.items = search rules in
    let same : row ≡ was.items = search rules in
    let whole = with_items_is was row (ap (λ (r : List ℕ). length r) joined
    ∙ length_or c.args.more.now was.items 0 ∙ sym was.ok.0) in
    let is = written rows table c.self.view_is p (with_items was row)
    ∙ ap (slice_set table p) whole in
    is ∙ joined_same rows table c.self.view_is p inside was was_is c.args.more.now row joined same

pub returns-clause-grew : goal.returns-clause-grew
returns-clause-grew c more =
    let rows = c.self.inside.rows.items in
    let table = c.args.self.now in
    let p = c.args.place in
    let was = c.index_mut.result.now in
    let row = c.join_words.new.row in
    let inside : p < length rows = search rules in
    let was_is : was ≡ get_or rows p was = search rules in
    let joined : row ≡ or_from c.args.more.now 0 was.items = search rules in
    let less : words_room row < words_room was.items = search rules in
    let whole = with_items_is was row (ap (λ (r : List ℕ). length r) joined
    ∙ length_or c.args.more.now was.items 0 ∙ sym was.ok.0) in
    let is = written rows table c.self.view_is p (with_items was row)
    ∙ ap (slice_set table p) whole in
    subst (λ t. room t < room table) (sym is)
    (joined_less rows table c.self.view_is p inside was was_is c.args.more.now row joined less)

pub returns-clause-room : goal.returns-clause-room
returns-clause-room c =
    let rows = c.self.inside.rows.items in
    let table = c.args.self.now in
    let p = c.args.place in
    let was = c.index_mut.result.now in
    let row = c.join_words.new.row in
    let inside : p < length rows = search rules in
    let was_is : was ≡ get_or rows p was = search rules in
    let joined : row ≡ or_from c.args.more.now 0 was.items = search rules in
    let most : words_room row ≤ words_room was.items = search rules in
    let whole = with_items_is was row (ap (λ (r : List ℕ). length r) joined
    ∙ length_or c.args.more.now was.items 0 ∙ sym was.ok.0) in
    let is = written rows table c.self.view_is p (with_items was row)
    ∙ ap (slice_set table p) whole in
    subst (λ t. room t ≤ room table) (sym is)
    (joined_most rows table c.self.view_is p inside was was_is c.args.more.now row joined most)
