-- What a certificate proves, and that there is one.
use Rattle.std.specs.Prelude.{◌≡◌, ◌<◌, ℕ, Bool, true, false, List, Option, Some, None, map}
use Rattle.std.specs.Prelude.{slice_get}
use Rattle.std.specs.List.{AllByRecursion}
use Rattle.ir.specs.declared.function.Ir.{Ir}
use Rattle.ir.specs.declared.site.Site.{Site}
use Rattle.ir.specs.Clobber.{IsLogged}
use Rattle.ir.specs.WellFormed.{IsWellFormed}
use Rattle.walk_check.specs.declared.certificate.Reason.{Reason}
use Rattle.walk_check.specs.declared.certificate.Certificate.{Certificate}
use Rattle.walk_check.specs.declared.checker.CheckFault.{CheckFault}
use Rattle.walk_check.specs.declared.checker.CheckFault.TheVariants.{BadPiece, BadReason}
use Rattle.walk_check.specs.Keeps.{keeps_piece, keeps_reason, certificate_fault}

-- each listed site is logged: it is a header, or it is clobber
abbrev pub AllLogged : Ir → Certificate → Type 0
AllLogged ir c = AllByRecursion (λ (r : Site × Reason). IsLogged ir.functions r.0) c.reasons

-- the sites that a certificate lists, in order
abbrev pub listed : Certificate → List Site
listed c = map (λ (r : Site × Reason). r.0) c.reasons

-- some certificate lists just these sites, and keeps the rules
abbrev pub HasCertificate : Ir → List Site → Type 0
HasCertificate ir sites = (c : Certificate) × (listed c ≡ sites) × (certificate_fault ir c ≡ None)

-- for any logged sites there is a certificate
abbrev pub LoggedHaveCertificates : Type 0
LoggedHaveCertificates = (ir : Ir) → IsWellFormed ir → (sites : List Site)
    → AllByRecursion (IsLogged ir.functions) sites → HasCertificate ir sites

-- each of a list keeps the rules
abbrev pub AllKeep : {X : Type 0} → (ℕ → X → Bool) → List X → Type 0
AllKeep {X = X} keeps xs = (n : ℕ) (x : X) → slice_get xs n ≡ Some x → keeps n x ≡ true

-- number n is the first that breaks the rules
abbrev pub IsFirstBad : {X : Type 0} → (ℕ → X → Bool) → List X → ℕ → Type 0
IsFirstBad {X = X} keeps xs n =
    ((x : X) × (slice_get xs n ≡ Some x) × (keeps n x ≡ false))
    × ((k : ℕ) (x : X) → k < n → slice_get xs k ≡ Some x → keeps k x ≡ true)

-- a fault is the first bad piece, or if there is none the first bad reason; there is no other
abbrev pub Names : Ir → Certificate → Option CheckFault → Type 0
Names ir c (Some (BadPiece n)) = IsFirstBad (keeps_piece ir c.passed) c.passed n
Names ir c (Some (BadReason n)) =
    AllKeep (keeps_piece ir c.passed) c.passed × IsFirstBad (keeps_reason ir c.passed) c.reasons n
Names ir c None =
    AllKeep (keeps_piece ir c.passed) c.passed × AllKeep (keeps_reason ir c.passed) c.reasons

abbrev pub FaultsAreFirst : Type 0
FaultsAreFirst = (ir : Ir) (c : Certificate) → Names ir c (certificate_fault ir c)
