-- How many words take a record in a run, by a function that says which sites are logged: those of
-- its stores of words at these sites and of all its stores of headers, and where the run may roll
-- back those of all its stores. Each counts once.
use Rattle.std.specs.Prelude.{ℕ, suc, Bool, ◌||◌, List, [], ◌∷◌, if◌then◌else◌}
use Rattle.nvm_base.specs.Listed.{is_listed}
use Rattle.ir.specs.declared.site.Site.{Site}
use Rattle.code_meaning.specs.Deeds.{Deed, Reads, Writes, Heads}
use Rattle.pool_layout.specs.declared.limits.Sizes.{Sizes}
use Rattle.machine_law.specs.pieces.Stands.{heap_word, header_word}

-- the words of the stores that ask for a record, in order
abbrev pub asked_of : (rolls : Bool) → (Site → Bool) → Sizes → List Deed → List ℕ
asked_of rolls logged s [] = []
asked_of rolls logged s (Reads x ∷ ds) = asked_of rolls logged s ds
asked_of rolls logged s (Writes site x v ∷ ds) =
    if rolls || logged site then heap_word s x ∷ asked_of rolls logged s ds
    else asked_of rolls logged s ds
asked_of rolls logged s (Heads site q v ∷ ds) = header_word s q ∷ asked_of rolls logged s ds

-- how many different words these are, beside the words `ls`
abbrev pub fresh : (ls : List ℕ) → List ℕ → ℕ
fresh ls [] = 0
fresh ls (w ∷ ws) = if is_listed w ls then fresh ls ws else suc (fresh (w ∷ ls) ws)
