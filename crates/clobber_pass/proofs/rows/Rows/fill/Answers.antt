use Rattle.std.proofs.Common.{rules, ◌<◌, ◌∙◌, ◌^◌, sym, ap, subst, length, slice_set, arith, refl}
use Rattle.clobber_pass.specs.inside.Room.{room}
use Rattle.clobber_pass.proofs.bits.Rooms.{written, filled_room}
use Rattle.clobber_pass.proofs.rows.Rows.fill.Goals as goal

pub returns-clause-row : goal.returns-clause-row
returns-clause-row c =
    let row = c.in_ok-self-inside.field-0 in
    written c.self.inside.rows.items c.args.self.now c.self.view_is c.args.place row
    ∙ ap (slice_set c.args.self.now c.args.place) c.in_ok-self-inside.ensures

pub returns-clause-grew : goal.returns-clause-grew
returns-clause-grew c is =
    let inside : c.args.place < length c.self.inside.rows.items = search rules in
    let some : 0 < length c.args.row.now = search rules in
    let few : length c.args.row.now < 2 ^ 64 = search rules in
    subst (λ t. room t < room c.args.self.now) (sym (returns-clause-row c))
    (filled_room c.self.inside.rows.items c.args.self.now c.self.view_is c.args.place
    c.args.row.now inside c.requires some few)

pub returns-clause-room : goal.returns-clause-room
returns-clause-room c = let less = returns-clause-grew c refl in omega (arith, less)
