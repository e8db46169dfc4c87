use Rattle.pool_layout.proofs.Apart.{same_heap_place}
use Rattle.pool_layout.proofs.places.places_law.Goals as goal

pub returns-clause-heap_apart : goal.returns-clause-heap_apart
returns-clause-heap_apart c = same_heap_place
