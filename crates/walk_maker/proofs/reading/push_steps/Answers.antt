use Rattle.std.proofs.Common.{rules, ◌≡◌, ◌<◌, ◌+◌, ◌-◌, ◌++◌, [], ◌∷◌}
use Rattle.std.proofs.Common.{Some, None, length, subst, sym}
use Rattle.std.specs.Prelude.{slice_get}
use Rattle.walk_maker.specs.inside.Table.{step_of}
use Rattle.walk_maker.specs.inside.Reading as reading
use Rattle.walk_maker.proofs.Fuel.{push_none, push_last, push_next}
use Rattle.walk_maker.proofs.reading.push_steps.Goals as goal

pub returns-in-None : goal.returns-in-None
returns-in-None c =
    let entries = c.args.entries.now in
    let less : c.loop.counter < length entries = search rules in
    let is : slice_get entries c.loop.at ≡ None = search rules in
    push_none entries (length entries) c.loop.counter c.loop.at c.loop.steps
    (c.args.steps.now ++ reading.steps_of entries (length entries) c.args.number) less
    c.loop.invariant is

pub returns-in-None-next_of : goal.returns-in-None-next_of
returns-in-None-next_of c =
    let entries = c.args.entries.now in
    let less : c.loop.counter < length entries = search rules in
    let is : slice_get entries c.loop.at ≡ Some c.in-Some.entry = search rules in
    let stops : reading.next_of c.in-Some.entry.link ≡ None = search rules in
    let pushed : c.push.new.self ≡ c.loop.steps ++ step_of c.in-Some.entry ∷ [] = search rules in
    let whole = c.args.steps.now ++ reading.steps_of entries (length entries) c.args.number in
    subst (λ xs. xs ≡ whole) (sym pushed)
    (push_last entries (length entries) c.loop.counter c.loop.at c.loop.steps whole less
    c.loop.invariant c.in-Some.entry is stops)

pub loop-preserved : goal.loop-preserved
loop-preserved c =
    let entries = c.args.entries.now in
    let less : c.loop.counter < length entries = search rules in
    let is : slice_get entries c.loop.at ≡ Some c.in-Some.entry = search rules in
    let next : reading.next_of c.in-Some.entry.link ≡ Some c.in-Some-next_of.next = search rules in
    let pushed : c.push.new.self ≡ c.loop.steps ++ step_of c.in-Some.entry ∷ [] = search rules in
    let whole = c.args.steps.now ++ reading.steps_of entries (length entries) c.args.number in
    subst (λ xs. xs ++ reading.steps_of entries (length entries - (c.loop.counter + 1))
    c.in-Some-next_of.next ≡ whole) (sym pushed)
    (push_next entries (length entries) c.loop.counter c.loop.at c.loop.steps whole less
    c.loop.invariant c.in-Some.entry c.in-Some-next_of.next is next)
