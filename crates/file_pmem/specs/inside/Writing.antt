-- Lines that are written one after another.
use Rattle.std.specs.Prelude.{ℕ, ◌/◌, ◌<◌, ◌≡◌, ◌⊎◌, Bool, true, List, ℤ, Option, Some, None}
use Rattle.cache_model.specs.Cache.{Words, Memory}
use Rattle.cache_model.specs.Image.{IsVersion}
use Rattle.file_pmem.specs.File.{FileLines, AgreesAt, StaysFile, WritesFile}
use Rattle.file_pmem.specs.declared.link.MirrorState.{MirrorState}
use Rattle.file_pmem.specs.declared.link.MirrorState.TheVariants.{Awake}

-- the newest copies of the lines before `at` are the newest versions of the memory
abbrev pub AreNewest : Option FileLines → Memory → ℕ → Type 0
AreNewest None n at = Unit {0}
AreNewest (Some f) n at = (k : ℕ) → k < at → AgreesAt k (f k).newest (n.cache k).newest

-- the newest version of each line of n is a version of that line of m
abbrev pub IsOneOf : Memory → Memory → Type 0
IsOneOf m n = (l : ℕ) → l < m.lines → (u : Words) × IsVersion (m.cache l) u
    × ((p : ℕ) → p / 8 ≡ l → (n.cache l).newest p ≡ u p)

-- The newest version of line l was written from file a to b.
abbrev pub WroteNewest : Option FileLines → ℕ → Option FileLines → Memory → Type 0
WroteNewest a l b m = (w : List ℤ) × AgreesAt l w (m.cache l).newest × WritesFile a l w b

-- The same where it was asked for and the file is awake; else it was written or nothing was.
abbrev pub WritesNewest : (asked : Bool) → MirrorState → Option FileLines → ℕ → Option FileLines
    → Memory → Type 0
WritesNewest asked s a l b m = (asked ≡ true → s ≡ Awake → WroteNewest a l b m)
    × (StaysFile a b ⊎ WroteNewest a l b m)
