-- The rules of pieces, of walks and of reasons.
use Rattle.std.specs.Prelude.{◌==◌, ◌&&◌, ◌||◌, ◌+◌, not, ℕ, Bool, true, false, List, [], ◌∷◌}
use Rattle.std.specs.Prelude.{Option, Some, None, slice_get, take, nat_le, nat_lt, is_some}
use Rattle.std.specs.Prelude.{if◌then◌else◌}
use Rattle.pool_map.specs.declared.shapes.Shapes.{Shapes}
use Rattle.ir.specs.declared.instruction.Instruction.{Instruction}
use Rattle.ir.specs.declared.instruction.Instruction.TheVariants.{Store, New, Free, Call, Return}
use Rattle.ir.specs.declared.function.IrFunction.{IrFunction}
use Rattle.ir.specs.declared.function.Ir.{Ir}
use Rattle.ir.specs.declared.site.Site.{Site}
use Rattle.ir.specs.declared.fact.Fact.{Fact as WalkFact}
use Rattle.ir.specs.declared.fact.Fact.TheVariants.{Here, Unwritten, RootUnwritten, ReadRoot}
use Rattle.ir.specs.declared.fact.Fact.TheVariants.{ReadField, Freed}
use Rattle.ir.specs.declared.fact.Origins.{Origins}
use Rattle.ir.specs.declared.fact.Origins.TheVariants.{One}
use Rattle.ir.specs.WellFormed.{shape_field}
use Rattle.ir.specs.Places.{instruction_at}
use Rattle.ir.specs.Table.{back}
use Rattle.ir.specs.Clobber.{read_fact}
use Rattle.walk_check.specs.declared.certificate.Fact.TheVariants.{Start}
use Rattle.walk_check.specs.declared.certificate.Step.{Step}
use Rattle.walk_check.specs.declared.certificate.Piece.{Piece}
use Rattle.walk_check.specs.declared.certificate.Walk.{Walk}
use Rattle.walk_check.specs.declared.certificate.Reason.{Reason}
use Rattle.walk_check.specs.declared.certificate.Reason.TheVariants.{Always, PastFree, Clobber}
use Rattle.walk_check.specs.declared.certificate.Certificate.{Certificate}
use Rattle.walk_check.specs.declared.checker.CheckFault.{CheckFault}
use Rattle.walk_check.specs.declared.checker.CheckFault.TheVariants.{BadPiece, BadReason}
use Rattle.walk_check.specs.Facts.{fact_of, same, among}
use Rattle.walk_check.specs.Follow.{leads, along, binds, passes, unwritten_ends}

-- the register, the struct and the field that a fact names exist
abbrev pub fact_is_there : Shapes → IrFunction → WalkFact → Bool
fact_is_there shapes u Here = true
fact_is_there shapes u (Unwritten r s x) = nat_lt r u.registers && is_some (shape_field shapes s x)
fact_is_there shapes u (RootUnwritten x) = is_some (slice_get shapes.root x)
fact_is_there shapes u (ReadRoot x) = is_some (slice_get shapes.root x)
fact_is_there shapes u (ReadField s x) = is_some (shape_field shapes s x)
fact_is_there shapes u Freed = true

abbrev pub all_there : Shapes → IrFunction → List Step → Bool
all_there shapes u [] = true
all_there shapes u (a ∷ rest) = fact_is_there shapes u (fact_of a.fact) && all_there shapes u rest

-- the first and the last step of a piece
abbrev pub blank_step : Step
blank_step = record { place = 0; fact = Start; through = None }

abbrev pub first_step : List Step → Step
first_step [] = blank_step
first_step (a ∷ rest) = a

abbrev pub last_step : Step → List Step → Step
last_step a [] = a
last_step a (b ∷ rest) = last_step b rest

abbrev pub first_fact : Piece → WalkFact
first_fact piece = fact_of (first_step piece.steps).fact

abbrev pub last_place : Piece → ℕ
last_place piece = (last_step blank_step piece.steps).place

abbrev pub last_fact : Piece → WalkFact
last_fact piece = fact_of (last_step blank_step piece.steps).fact

-- along the instruction at the step's place
abbrev pub goes_along : Option Instruction → (a b : Step) → Bool
goes_along None a b = false
goes_along (Some i) a b = leads i a.place b.place && along i (fact_of a.fact) (fact_of b.fact)

-- past the call at the step's place, through a piece of the called function
abbrev pub past_call : Instruction → Piece → (a b : Step) → Bool
past_call (Call to g args) piece a b =
    (piece.function == g) && ((b.place == a.place + 1)
    && passes args (fact_of a.fact) (first_fact piece) (last_fact piece) (fact_of b.fact)
    (back to args (fact_of b.fact)))
past_call _ piece a b = false

abbrev pub goes_past : Option Instruction → Option Piece → (a b : Step) → Bool
goes_past None piece a b = false
goes_past (Some i) None a b = false
goes_past (Some i) (Some piece) a b = past_call i piece a b

-- the next step follows
abbrev pub follows : List Piece → IrFunction → (a b : Step) → Option ℕ → Bool
follows passed u a b None = goes_along (slice_get u.code a.place) a b
follows passed u a b (Some n) = goes_past (slice_get u.code a.place) (slice_get passed n) a b

-- what a walk has at an entry: in the first piece everything that isn't written, in any other
-- everything that isn't about a parameter
abbrev pub holds_at_entry : (opens : Bool) → IrFunction → WalkFact → Bool
holds_at_entry opens u (Unwritten r s x) = opens || nat_le u.parameters r
holds_at_entry opens u (RootUnwritten x) = opens
holds_at_entry opens u _ = false

-- the second step may be at the entry too
abbrev pub begins_piece : (opens : Bool) → IrFunction → (a b : Step) → Bool
begins_piece opens u a b =
    not (is_some a.through) && ((b.place == 0)
    && (same (fact_of a.fact) Here && holds_at_entry opens u (fact_of b.fact)))

-- each step follows from the one before, and no call is passed at the last one
abbrev pub chain : List Piece → (opens : Bool) → IrFunction → (entry : Bool) → Step → List Step
    → Bool
chain passed opens u entry a [] = not (is_some a.through)
chain passed opens u entry a (b ∷ rest) =
    ((entry && begins_piece opens u a b) || follows passed u a b a.through)
    && chain passed opens u false b rest

abbrev pub steps_keep : Ir → List Piece → (opens : Bool) → List Step → Option IrFunction → Bool
steps_keep ir passed opens steps None = false
steps_keep ir passed opens [] (Some u) = false
steps_keep ir passed opens (a ∷ rest) (Some u) =
    (a.place == 0) && (all_there ir.shapes u (a ∷ rest) && chain passed opens u true a rest)

-- a piece keeps the rules, with the pieces that may pass its calls
abbrev pub piece_keeps : Ir → List Piece → (opens : Bool) → Piece → Bool
piece_keeps ir passed opens piece =
    steps_keep ir passed opens piece.steps (slice_get ir.functions piece.function)

abbrev pub is_return : Option Instruction → Bool
is_return (Some (Return from)) = true
is_return _ = false

-- a piece that passes calls, which ends at a return
abbrev pub passing_keeps : Ir → List Piece → Piece → Bool
passing_keeps ir earlier piece =
    piece_keeps ir earlier false piece && is_return
    (instruction_at ir.functions piece.function (last_place piece))

abbrev pub is_tx : Option IrFunction → Bool
is_tx None = false
is_tx (Some u) = u.tx

abbrev pub by_call : Option Instruction → (a b : Piece) → Bool
by_call (Some (Call to g args)) a b = (b.function == g) && binds args (last_fact a) (first_fact b)
by_call _ a b = false

-- the first piece ends at a call, and the next begins with the bound fact
abbrev pub enters : Ir → (a b : Piece) → Bool
enters ir a b = by_call (instruction_at ir.functions a.function (last_place a)) a b

-- the last piece ends at this place, with one of the named facts
abbrev pub ends_at : Site → Origins → Piece → Bool
ends_at site ends piece =
    (piece.function == site.function) && ((last_place piece == site.place)
    && among (last_fact piece) ends)

abbrev pub pieces_keep : Ir → List Piece → Site → Origins → (opens : Bool) → Piece → List Piece
    → Bool
pieces_keep ir passed site ends opens a [] = piece_keeps ir passed opens a && ends_at site ends a
pieces_keep ir passed site ends opens a (b ∷ rest) =
    piece_keeps ir passed opens a && (enters ir a b
    && pieces_keep ir passed site ends false b rest)

-- a walk keeps the rules, and reaches the site's place with one of the named facts
abbrev pub walk_keeps : Ir → List Piece → Site → Origins → List Piece → Bool
walk_keeps ir passed site ends [] = false
walk_keeps ir passed site ends (a ∷ rest) =
    (is_tx (slice_get ir.functions a.function) && same (first_fact a) Here)
    && pieces_keep ir passed site ends true a rest

abbrev pub writes_header : Instruction → Bool
writes_header (New to kind log_fill line) = true
writes_header (Free from kind line) = true
writes_header _ = false

abbrev pub is_new : Instruction → Bool
is_new (New to kind log_fill line) = true
is_new _ = false

abbrev pub clobbers : Ir → List Piece → Site → Instruction → Walk → Walk → Bool
clobbers ir passed site (Store target from line) unwrites reads =
    walk_keeps ir passed site (unwritten_ends target) unwrites.pieces
    && walk_keeps ir passed site (One (read_fact target)) reads.pieces
clobbers ir passed site _ unwrites reads = false

abbrev pub gives_reason : Ir → List Piece → Site → Option Instruction → Reason → Bool
gives_reason ir passed site None reason = false
gives_reason ir passed site (Some i) Always = writes_header i && not site.fill
gives_reason ir passed site (Some i) (PastFree walk) =
    (is_new i && site.fill) && walk_keeps ir passed site (One Freed) walk.pieces
gives_reason ir passed site (Some i) (Clobber unwrites reads) =
    not site.fill && clobbers ir passed site i unwrites reads

-- a reason keeps the rules
abbrev pub reason_keeps : Ir → List Piece → Site → Reason → Bool
reason_keeps ir passed site reason =
    gives_reason ir passed site (instruction_at ir.functions site.function site.place) reason

-- the number of the first element that fails the test, counted from n on
abbrev pub first_bad : {X : Type 0} → (ℕ → X → Bool) → ℕ → List X → Option ℕ
first_bad keeps n [] = None
first_bad keeps n (x ∷ xs) = if keeps n x then first_bad keeps (n + 1) xs else Some n

-- each piece that passes calls may use those before it
abbrev pub keeps_piece : Ir → List Piece → ℕ → Piece → Bool
keeps_piece ir passed n piece = passing_keeps ir (take n passed) piece

abbrev pub keeps_reason : Ir → List Piece → ℕ → Site × Reason → Bool
keeps_reason ir passed n r = reason_keeps ir passed r.0 r.1

-- the first of the pieces from number n on that breaks a rule
abbrev pub bad_piece : Ir → List Piece → ℕ → List Piece → Option ℕ
bad_piece ir passed n rest = first_bad (keeps_piece ir passed) n rest

-- the first of the reasons from number n on that breaks a rule
abbrev pub bad_reason : Ir → List Piece → ℕ → List (Site × Reason) → Option ℕ
bad_reason ir passed n rest = first_bad (keeps_reason ir passed) n rest

abbrev pub fault_from : Option ℕ → Option ℕ → Option CheckFault
fault_from (Some n) reasons = Some (BadPiece n)
fault_from None (Some n) = Some (BadReason n)
fault_from None None = None

-- the first fault of a certificate
abbrev pub certificate_fault : Ir → Certificate → Option CheckFault
certificate_fault ir c = fault_from (bad_piece ir c.passed 0 c.passed)
    (bad_reason ir c.passed 0 c.reasons)
