-- The buckets of entries, and what a table keeps so that a fact is looked for in its bucket alone.
use Rattle.std.specs.Prelude.{◌≡◌, ◌+◌, ◌-◌, ◌*◌, ◌%◌, ◌<◌, ◌≤◌, ◌⊎◌, ◌++◌, ℕ, true, false, List}
use Rattle.std.specs.Prelude.{[]}
use Rattle.std.specs.Prelude.{◌∷◌, Option, Some, None, length, slice_get}
use Rattle.ir.specs.declared.fact.Fact.{Fact}
use Rattle.ir.specs.declared.fact.Fact.TheVariants.{Here, Unwritten, RootUnwritten, ReadRoot}
use Rattle.ir.specs.declared.fact.Fact.TheVariants.{ReadField, Freed}
use Rattle.walk_maker.specs.declared.table.Entry.{Entry}
use Rattle.walk_maker.specs.declared.table.Look.{Look}
use Rattle.walk_maker.specs.declared.table.Look.TheVariants.{Known, New, Below}
use Rattle.walk_maker.specs.inside.Table.{same_spot, has}

-- the register of which a fact speaks
abbrev pub fact_register : Fact → ℕ
fact_register (Unwritten r s x) = r
fact_register Here = 0
fact_register (RootUnwritten x) = 0
fact_register (ReadRoot x) = 0
fact_register (ReadField s x) = 0
fact_register Freed = 0

-- the number of an entry's bucket among `count`
unfoldable pub bucket_of : (count : ℕ) → Entry → ℕ
bucket_of count e =
    (e.place + 61 * e.function + 1009 * fact_register e.fact) % (count - 1 + 1)

-- each entry of the bucket has a smaller number
abbrev pub IsAbove : List Entry → (count bucket n : ℕ) → Type 0
IsAbove t count bucket n =
    (m : ℕ) (x : Entry) → slice_get t m ≡ Some x → bucket_of count x ≡ bucket → m < n

-- each earlier entry in the bucket of entry k has a smaller number
abbrev pub IsAboveBefore : List Entry → (count k n : ℕ) → Type 0
IsAboveBefore t count k n = (m : ℕ) (x y : Entry) → slice_get t k ≡ Some y
    → slice_get t m ≡ Some x → m < k → bucket_of count x ≡ bucket_of count y → m < n

-- the same for each entry, and its number in the list
abbrev pub AreAbove : List Entry → (count : ℕ) → (befores : List ℕ) → Type 0
AreAbove t count befores =
    (k n : ℕ) → slice_get befores k ≡ Some n → IsAboveBefore t count k n

-- each number that is kept is at least what it bounds
pub record IsChained (count : ℕ) (t : List Entry) (lasts befores : List ℕ) : Type 0 where
  pub above_all : (b n : ℕ) → slice_get lasts b ≡ Some n → IsAbove t count b n
  pub not_longer : length befores ≤ length t
  pub above_before : AreAbove t count befores

abbrev pub or_other : Option ℕ → ℕ → ℕ
or_other None other = other
or_other (Some n) other = n

-- the number at place p, or `other` if the list is shorter
abbrev pub number_or_other : List ℕ → (p other : ℕ) → ℕ
number_or_other numbers p other = or_other (slice_get numbers p) other

-- no entry from number n on has the same aim, function, place and fact
abbrev pub IsPast : List Entry → Entry → ℕ → Type 0
IsPast t e n = (m : ℕ) (x : Entry) → slice_get t m ≡ Some x → n ≤ m → same_spot x e ≡ false

abbrev pub LookTells : List Entry → Entry → Look → Type 0
LookTells t e Known = has t e ≡ true
LookTells t e New = has t e ≡ false
LookTells t e (Below n) = IsPast t e n

-- the list has this number more at its end, or is as it was
abbrev pub IsNoted : List ℕ → ℕ → List ℕ → Type 0
IsNoted old n new = (new ≡ old) ⊎ (new ≡ old ++ n ∷ [])

-- .. and it has it only if there were exactly `count` numbers
abbrev pub IsNotedAt : List ℕ → (count n : ℕ) → List ℕ → Type 0
IsNotedAt old count n new = (new ≡ old) ⊎ ((length old ≡ count) × (new ≡ old ++ n ∷ []))
