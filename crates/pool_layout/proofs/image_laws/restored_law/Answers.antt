use Rattle.std.proofs.Common.{ℕ}
use Rattle.pool_layout.specs.declared.places.Place.TheVariants.{RecordWord, RecordOld, Heap}
use Rattle.pool_layout.specs.Places.{at}
use Rattle.pool_layout.specs.Log.{count}
use Rattle.pool_layout.specs.Restored.{restored}
use Rattle.pool_layout.proofs.Undone.{undone_other, undone_oldest}
use Rattle.pool_layout.proofs.image_laws.restored_law.Goals as goal

pub returns-clause-oldest : goal.returns-clause-oldest
unfolding restored
returns-clause-oldest c = λ l a image w j is. undone_oldest (λ (i : ℕ). image (at l (RecordWord i)))
    (λ (i : ℕ). image (at l (RecordOld i))) (count l a image) (λ (u : ℕ). image (at l (Heap u))) w j
    is.valid is.word is.oldest

pub returns-clause-others : goal.returns-clause-others
unfolding restored
returns-clause-others c = λ l a image w none. undone_other (λ (i : ℕ). image (at l (RecordWord i)))
    (λ (i : ℕ). image (at l (RecordOld i))) (count l a image) (λ (u : ℕ).
    image (at l (Heap u))) w none
