-- A certificate's facts, as facts of walks.
use Rattle.std.specs.Prelude.{◌==◌, ◌&&◌, ◌||◌, Bool, true, false}
use Rattle.ir.specs.declared.fact.Fact.{Fact as WalkFact}
use Rattle.ir.specs.declared.fact.Fact.TheVariants.{Here, Unwritten, RootUnwritten, ReadRoot}
use Rattle.ir.specs.declared.fact.Fact.TheVariants.{ReadField, Freed}
use Rattle.ir.specs.declared.fact.Origins.{Origins}
use Rattle.ir.specs.declared.fact.Origins.TheVariants.{Nowhere, One, Two}
use Rattle.walk_check.specs.declared.certificate.Class.TheVariants.{Root, Field}
use Rattle.walk_check.specs.declared.certificate.Fact.{Fact}
use Rattle.walk_check.specs.declared.certificate.Fact.TheVariants.{Start, Unwritten as NotWritten}
use Rattle.walk_check.specs.declared.certificate.Fact.TheVariants.{UnwrittenRoot, Read}
use Rattle.walk_check.specs.declared.certificate.Fact.TheVariants.{Freed as Passed}

abbrev pub fact_of : Fact → WalkFact
fact_of Start = Here
fact_of (NotWritten r s x) = Unwritten r s x
fact_of (UnwrittenRoot x) = RootUnwritten x
fact_of (Read (Root x)) = ReadRoot x
fact_of (Read (Field s x)) = ReadField s x
fact_of Passed = Freed

-- a fact of walks, as a certificate's fact
abbrev pub told : WalkFact → Fact
told Here = Start
told (Unwritten r s x) = NotWritten r s x
told (RootUnwritten x) = UnwrittenRoot x
told (ReadRoot x) = Read (Root x)
told (ReadField s x) = Read (Field s x)
told Freed = Passed

-- whether two facts are the same
abbrev pub same : WalkFact → WalkFact → Bool
same Here Here = true
same (Unwritten q t y) (Unwritten r s x) = (q == r) && ((t == s) && (y == x))
same (RootUnwritten y) (RootUnwritten x) = y == x
same (ReadRoot y) (ReadRoot x) = y == x
same (ReadField t y) (ReadField s x) = (t == s) && (y == x)
same Freed Freed = true
same _ _ = false

-- whether a fact is one of those named
abbrev pub among : WalkFact → Origins → Bool
among a Nowhere = false
among a (One b) = same a b
among a (Two b c) = same a b || same a c
