use Rattle.std.proofs.Common.{rules, ◌≡◌, ◌<◌, ◌+◌, ◌-◌, ◌++◌, [], ◌∷◌, true, false, Some, length}
use Rattle.std.proofs.Common.{subst, sym}
use Rattle.std.specs.Prelude.{slice_get}
use Rattle.walk_maker.specs.inside.Reading as reading
use Rattle.walk_maker.proofs.Fuel.{pieces_next}
use Rattle.walk_maker.proofs.reading.pieces_of.Goals as goal

pub loop-preserved : goal.loop-preserved
loop-preserved c =
    let entries = c.args.entries.now in
    let functions = c.args.functions.now in
    let less : c.loop.counter < length entries = search rules in
    let enters : reading.entered_from (slice_get entries (reading.piece_end entries (length entries)
    c.loop.at)) ≡ Some c.in-Some.next = search rules in
    let pushed : c.push.new.self ≡ c.loop.pieces
    ++ reading.piece_from functions entries c.loop.opens
    c.loop.at ∷ [] = search rules in
    let whole = reading.pieces_of functions entries (length entries) true c.args.number in
    subst (λ xs. xs ++ reading.pieces_of functions entries (length entries - (c.loop.counter + 1))
    false c.in-Some.next ≡ whole) (sym pushed)
    (pieces_next functions entries (length entries) c.loop.counter c.loop.opens c.loop.at
    c.in-Some.next c.loop.pieces whole less enters c.loop.invariant)
