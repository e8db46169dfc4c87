use Rattle.pm_machine.proofs.Searches.{headers_inside, headers_fit, none_least, none_looks}
use Rattle.pm_machine.proofs.find.search.Goals as goal

pub first_zero-requires-clause-inside : goal.first_zero-requires-clause-inside
first_zero-requires-clause-inside g c =
    headers_inside c.args.sizes.now _ _ _ _ _ c.heap_start.ensures c.slot_word.ensures
    c.slot_words.ensures c.slots-slots.ensures c.requires.lines

pub first_zero-requires-clause-fits : goal.first_zero-requires-clause-fits
first_zero-requires-clause-fits g c =
    headers_fit c.args.sizes.now _ _ _ _ c.heap_start.ensures c.slot_word.ensures
    c.slot_words.ensures c.slots-slots.ensures

pub returns-else-used-slots-clause-slot : goal.returns-else-used-slots-clause-slot
returns-else-used-slots-clause-slot g c =
    none_least c.args.sizes.now _ _ _ _ _ _ c.heap_start.ensures c.slot_word.ensures
    c.slot_words.ensures c.slots-slots.ensures c.in_ok-used.ensures.value c.if-used-slots.false

pub returns-else-used-slots-clause-looks : goal.returns-else-used-slots-clause-looks
returns-else-used-slots-clause-looks g c =
    none_looks c.args.sizes.now _ _ _ _ _ _ c.heap_start.ensures c.slot_word.ensures
    c.slot_words.ensures c.slots-slots.ensures c.in_ok-used.ensures.value c.if-used-slots.false
