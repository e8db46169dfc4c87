use Rattle.std.proofs.Common.{◌≡◌, ◌+◌, ◌<◌, ◌≤◌, ℕ, false, sym, ap, ◌∙◌, subst, arith}
use Rattle.cache_model.specs.Cache.{Words}
use Rattle.pool_layout.specs.declared.places.Place.TheVariants.{Heap}
use Rattle.pool_layout.specs.declared.rules.Rules.{Rules}
use Rattle.pool_layout.specs.Sizes.{heap_words, slot_word}
use Rattle.pool_layout.specs.Places.{at}
use Rattle.pool_layout.specs.Bytes.{word_in}
use Rattle.pool_layout.specs.Content.{breaks_rule, KeepsBelow}
use Rattle.pool_layout.specs.inside.Content.{KeepsToSlot}
use Rattle.pool_layout.proofs.Kept.{slot_inside}
use Rattle.pool_layout.proofs.Skipping.{past_header, past_slots}
use Rattle.pool_layout.proofs.rules.Rules.broken_header.Goals as goal

pub loop-slot-preserved : goal.loop-slot-preserved
loop-slot-preserved c =
    let r : Rules = c.args.self.now in
    let image : Words = word_in c.args.bytes.now in
    past_header r image c.loop-slot.slot (omega arith) c.loop-slot.invariant
    (subst (λ (w : ℕ). breaks_rule r image (Heap w) ≡ false) c.slot_word-header.ensures
    (sym c.breaks_heap.ensures ∙ c.if-breaks_heap.false))

pub returns-then-breaks_heap-clause-broken : goal.returns-then-breaks_heap-clause-broken
returns-then-breaks_heap-clause-broken c =
    let r : Rules = c.args.self.now in
    let image : Words = word_in c.args.bytes.now in
    let slot : ℕ = c.loop-slot.slot in
    let last : slot ≤ r.layout.sizes.slots = omega (arith, c.slots-slot-end.ensures) in
    let here : at r.layout (Heap (slot_word r.layout.sizes slot)) ≡ c.word.result =
    ap (λ (w : ℕ). at r.layout (Heap w)) (sym c.slot_word-header.ensures)
    ∙ sym c.word.ensures.value in
    record {
      place = Heap c.slot_word-header.result;
      inside = subst (λ (w : ℕ). w < heap_words r.layout.sizes) (sym c.slot_word-header.ensures)
          (slot_inside r.layout.sizes slot (omega arith) last);
      word = sym c.word.ensures.value;
      broken = sym c.breaks_heap.ensures ∙ c.if-breaks_heap.true;
      least = subst (KeepsBelow r image) here c.loop-slot.invariant;
    }

pub returns-clause-kept : goal.returns-clause-kept
returns-clause-kept c =
    let r : Rules = c.args.self.now in
    let image : Words = word_in c.args.bytes.now in
    let end : c.loop-slot.slot ≡ r.layout.sizes.slots + 1 =
    omega (arith, c.slots-slot-end.ensures, c.loop-slot-test.false) in
    past_slots r image (subst (KeepsToSlot r image) end c.loop-slot.invariant)
