-- Which words take a log record in a run: those of its stores at the sites that the definition of
-- clobber writes names, and in a transaction that rolls back those of all its stores. A word takes
-- one record, however often it is stored. The fill of a new object does one store for each of its
-- words.
use Rattle.std.specs.Prelude.{◌≡◌, ◌⊎◌, ℕ, suc, Bool, true, false, List, [], ◌∷◌, ◌++◌}
use Rattle.nvm_base.specs.Listed.{is_listed}
use Rattle.pool_layout.specs.declared.limits.Sizes.{Sizes}
use Rattle.pool_layout.specs.declared.places.HeapPlace.TheVariants.{Root, Header, Field}
use Rattle.pool_layout.specs.Places.{heap_at}
use Rattle.ir.specs.declared.function.IrFunction.{IrFunction}
use Rattle.ir.specs.declared.site.Site.{Site}
use Rattle.ir.specs.Clobber.{IsLogged}
use Rattle.code_meaning.specs.Code.{Spot, InRoot, InSlot}
use Rattle.code_meaning.specs.Deeds.{Deed, Reads, Writes, Heads}

-- a store of a run: its site, and its word in the heap of a pool
pub record StoreAt : Type 0 where
  pub site : Site
  pub word : ℕ

abbrev pub spot_word : Sizes → Spot → ℕ
spot_word s (InRoot i) = heap_at s (Root i)
spot_word s (InSlot q i) = heap_at s (Field q i)

-- the stores, in order
abbrev pub stores_in : Sizes → List Deed → List StoreAt
stores_in s [] = []
stores_in s (Reads spot ∷ ds) = stores_in s ds
stores_in s (Writes site spot word ∷ ds) =
    record { site = site; word = spot_word s spot } ∷ stores_in s ds
stores_in s (Heads site slot word ∷ ds) =
    record { site = site; word = heap_at s (Header slot) } ∷ stores_in s ds

-- a store at this site asks for a record of its word; rolls: the transaction rolls back
abbrev pub Asks : (rolls : Bool) → List IrFunction → Site → Type 0
Asks true functions site = Unit {0}
Asks false functions site = IsLogged functions site

-- n words of these stores take a record, beside the words `ls`, which have one
abbrev pub TakeRecords : (rolls : Bool) → List IrFunction → (ls : List ℕ) → List StoreAt → ℕ
    → Type 0
TakeRecords rolls functions ls [] n = n ≡ 0
TakeRecords rolls functions ls (a ∷ stores) n =
    ((m : ℕ) × (n ≡ suc m) × Asks rolls functions a.site × (is_listed a.word ls ≡ false)
    × TakeRecords rolls functions (a.word ∷ ls) stores m)
    ⊎ ((Asks rolls functions a.site → is_listed a.word ls ≡ true)
    × TakeRecords rolls functions ls stores n)

-- a store takes a record after as many others as the log has room for
pub record FillsLog (rolls : Bool) (functions : List IrFunction) (ls : List ℕ) (records : ℕ)
    (stores : List StoreAt) : Type 0 where
  pub before : List StoreAt
  pub due : StoreAt
  pub later : List StoreAt
  pub is : stores ≡ before ++ due ∷ later
  pub full : TakeRecords rolls functions ls before records
  pub more : TakeRecords rolls functions ls (before ++ due ∷ []) (suc records)
