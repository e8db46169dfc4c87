-- How the machine's loads, stores and logs show the code's deeds, in order: a load of a word by a
-- load, a store by a store, right after a LOG of the word if the store's site is logged. A store to
-- a header is always logged; a load of a header, or of the first headers, shows no deed.
use Rattle.std.specs.Prelude.{ℕ, ◌≤◌, ◌≡◌, Bool, true, false, List, [], ◌∷◌, ◌++◌, ℤ}
use Rattle.pool_layout.specs.declared.limits.Sizes.{Sizes}
use Rattle.pool_layout.specs.declared.places.HeapPlace.TheVariants.{Header}
use Rattle.pool_layout.specs.Places.{IsHeapPlace}
use Rattle.pool_layout.specs.Sizes.{slot_words}
use Rattle.ir.specs.declared.site.Site.{Site}
use Rattle.code_meaning.specs.Code.{Spot}
use Rattle.code_meaning.specs.Deeds.{Deed, Reads, Writes, Heads}
use Rattle.pm_machine.specs.declared.effect.Effect.{Effect}
use Rattle.pm_machine.specs.declared.effect.Effect.TheVariants.{Loads, Scans, Stores, Logs}
use Rattle.machine_law.specs.pieces.Stands.{place_of, heap_word, header_word}

-- the word is a word of the heap
abbrev pub IsThere : Sizes → Spot → Type 0
IsThere s x = IsHeapPlace s (place_of x)

pub data ShowsDeeds (s : Sizes) (logged : Site → Bool) : List Deed → List Effect → Type 0 where
  done : ShowsDeeds s logged [] []
  looks : {ds : List Deed} {es : List Effect} (q : ℕ) → IsHeapPlace s (Header q)
      → ShowsDeeds s logged ds es → ShowsDeeds s logged ds (Loads (header_word s q) ∷ es)
  scans : {ds : List Deed} {es : List Effect} (n : ℕ) → n ≤ s.slots → ShowsDeeds s logged ds es →
      ShowsDeeds s logged ds (Scans (header_word s 1) (slot_words s) n ∷ es)
  reads : {ds : List Deed} {es : List Effect} (x : Spot) → IsThere s x → ShowsDeeds s logged ds es
      → ShowsDeeds s logged (Reads x ∷ ds) (Loads (heap_word s x) ∷ es)
  plain : {ds : List Deed} {es : List Effect} (site : Site) (x : Spot) (v : ℤ) → IsThere s x
      → logged site ≡ false → ShowsDeeds s logged ds es
      → ShowsDeeds s logged (Writes site x v ∷ ds) (Stores (heap_word s x) v ∷ es)
  logs : {ds : List Deed} {es : List Effect} (site : Site) (x : Spot) (v : ℤ) → IsThere s x
      → logged site ≡ true → ShowsDeeds s logged ds es
      → ShowsDeeds s logged (Writes site x v ∷ ds)
      (Logs (heap_word s x) ∷ Stores (heap_word s x) v ∷ es)
  heads : {ds : List Deed} {es : List Effect} (site : Site) (q : ℕ) (v : ℤ)
      → IsHeapPlace s (Header q) → ShowsDeeds s logged ds es
      → ShowsDeeds s logged (Heads site q v ∷ ds)
      (Logs (header_word s q) ∷ Stores (header_word s q) v ∷ es)

-- deeds that effects show one after another are shown together
abbrev pub ShowsLaw : Type 0
ShowsLaw = (s : Sizes) (logged : Site → Bool) (ds cs : List Deed) (es fs : List Effect) →
    ShowsDeeds s logged ds es → ShowsDeeds s logged cs fs
    → ShowsDeeds s logged (ds ++ cs) (es ++ fs)
