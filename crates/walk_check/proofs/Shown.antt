-- If the checker finds no fault, each listed site is logged.
use Rattle.std.proofs.Common.{◌≡◌, ◌+◌, ℕ, Bool, true, false, List, [], ◌∷◌, Option, Some, None}
use Rattle.std.proofs.Common.{refl, sym, subst, inl, inr, ⊎_elim}
use Rattle.std.specs.Prelude.{not, slice_get, if◌then◌else◌}
use Rattle.std.specs.List.{AllByRecursion}
use Rattle.std.proofs.lemmas.Bool.{false≢true, and_parts, eqb-true, leb-true, not-true}
use Rattle.ir.specs.declared.instruction.Target.{Target}
use Rattle.ir.specs.declared.instruction.Target.TheVariants.{Root, Field}
use Rattle.ir.specs.declared.instruction.Instruction.{Instruction}
use Rattle.ir.specs.declared.instruction.Instruction.TheVariants.{Store, New, Free, Call}
use Rattle.ir.specs.declared.function.IrFunction.{IrFunction}
use Rattle.ir.specs.declared.function.Ir.{Ir}
use Rattle.ir.specs.declared.site.Site.{Site}
use Rattle.ir.specs.declared.fact.Fact.{Fact}
use Rattle.ir.specs.declared.fact.Fact.TheVariants.{Here, Unwritten, RootUnwritten, ReadRoot}
use Rattle.ir.specs.declared.fact.Fact.TheVariants.{ReadField, Freed}
use Rattle.ir.specs.declared.fact.Origins.{Origins}
use Rattle.ir.specs.declared.fact.Origins.TheVariants.{One}
use Rattle.ir.specs.Places.{instruction_at, IsTransaction}
use Rattle.ir.specs.Table.{AmongOrigins}
use Rattle.ir.specs.Derived.{Flows}
use Rattle.ir.specs.Derived.Flows.{first, called}
use Rattle.ir.specs.Clobber.{unwritten, read_fact, SomeWalk, IsClobber, WritesHeader, LoggedAt}
use Rattle.ir.specs.Clobber.{IsLogged}
use Rattle.ir.specs.WellFormed.{IsWellFormed}
use Rattle.ir.proofs.Law.{exact}
use Rattle.walk_check.specs.declared.certificate.Piece.{Piece}
use Rattle.walk_check.specs.declared.certificate.Walk.{Walk}
use Rattle.walk_check.specs.declared.certificate.Reason.{Reason}
use Rattle.walk_check.specs.declared.certificate.Reason.TheVariants.{Always, PastFree, Clobber}
use Rattle.walk_check.specs.declared.certificate.Certificate.{Certificate}
use Rattle.walk_check.specs.Follow.{binds, unwritten_ends}
use Rattle.walk_check.specs.Keeps.{first_fact, last_place, last_fact, holds_at_entry, is_tx}
use Rattle.walk_check.specs.Keeps.{by_call, ends_at, pieces_keep, walk_keeps, writes_header, is_new}
use Rattle.walk_check.specs.Keeps.{clobbers, gives_reason, reason_keeps, bad_piece, bad_reason}
use Rattle.walk_check.specs.Keeps.{fault_from, certificate_fault}
use Rattle.walk_check.specs.Law.{AllLogged}
use Rattle.walk_check.proofs.Tests.{same-true, among-true}
use Rattle.walk_check.proofs.Standing.{array_never_stored}
use Rattle.walk_check.proofs.Reach.{flow_reach}
use Rattle.walk_check.proofs.Bound.{AllSound, bound}
use Rattle.walk_check.proofs.Along.{Begins, piece_there, all_sound}

module _ (ir : Ir) (well : IsWellFormed ir) (passed : List Piece) (sound : AllSound ir passed)
  where
    abbrev Flow : ℕ → ℕ → Fact → Type 0
    Flow f p b = Flows ir.functions f p b

    -- a walk's pieces: the fact at the end of each, at the entry of the next, and at last at the
    -- site
    abbrev Ends : Site → Origins → Type 0
    Ends site ends = (b : Fact) × AmongOrigins b ends × Flow site.function site.place b

    ends_there : (site : Site) (ends : Origins) (piece : Piece) → ends_at site ends piece ≡ true
        → Flow piece.function (last_place piece) (last_fact piece) → Ends site ends
    ends_there site ends piece h d =
        let parts = and_parts _ _ h in
        let more = and_parts _ _ parts.1 in
        let function_is : piece.function ≡ site.function =
        eqb-true piece.function site.function parts.0 in
        let place_is : last_place piece ≡ site.place =
        eqb-true (last_place piece) site.place more.0 in (
          last_fact piece,
          among-true (last_fact piece) ends more.1,
          subst (λ p. Flow site.function p (last_fact piece)) place_is
              (subst (λ f. Flow f (last_place piece) (last_fact piece)) function_is d),
        )

    -- the next piece's first fact, and what else holds at its entry
    record Entered (b : Piece) : Type 0 where
      pub first_there : Flow b.function 0 (first_fact b)
      pub inner_there : Begins ir b.function false (Flows ir.functions b.function)

    entered : (a b : Piece) (o : Option Instruction)
        → instruction_at ir.functions a.function (last_place a) ≡ o → by_call o a b ≡ true
        → Flow a.function (last_place a) (last_fact a) → Entered b
    entered a b (Some (Call to g args)) is h d =
        let parts = and_parts _ _ h in
        let named : b.function ≡ g = eqb-true b.function g parts.0 in
        let call : instruction_at ir.functions a.function (last_place a)
        ≡ Some (Call to b.function args) = rw named is in
        record {
          first_there =
              called (bound ir well a.function (Flows ir.functions a.function)
              (flow_reach ir a.function) (last_place a) b.function to args (last_fact a)
              (first_fact b) (first_fact b) call d parts.1 (inl refl)) call;
          inner_there = λ u c there e. inner u c there e to args call parts.1;
        }
      where
        inner : (u : IrFunction) (c : Fact) → slice_get ir.functions b.function ≡ Some u
            → holds_at_entry false u c ≡ true → (to : ℕ) (args : List ℕ)
            → instruction_at ir.functions a.function (last_place a)
            ≡ Some (Call to b.function args)
            → binds args (last_fact a) (first_fact b) ≡ true → Flow b.function 0 c
        inner u (Unwritten r s x) there e to args call m =
            called (bound ir well a.function (Flows ir.functions a.function)
            (flow_reach ir a.function) (last_place a) b.function to args (last_fact a)
            (first_fact b) (Unwritten r s x) call d m
            (inr (inr (inl (u, there, leb-true u.parameters r e))))) call
        inner u (RootUnwritten x) there e to args call m = absurd (false≢true e)
        inner u Here there e to args call m = absurd (false≢true e)
        inner u (ReadRoot x) there e to args call m = absurd (false≢true e)
        inner u (ReadField s x) there e to args call m = absurd (false≢true e)
        inner u Freed there e to args call m = absurd (false≢true e)
    entered a b _ is h d = absurd (false≢true h)

    pieces_there : (site : Site) (ends : Origins) (opens : Bool) (a : Piece) (rest : List Piece)
        → Begins ir a.function opens (Flows ir.functions a.function)
        → Flow a.function 0 (first_fact a) → pieces_keep ir passed site ends opens a rest ≡ true
        → Ends site ends
    pieces_there site ends opens a [] entry_there d h =
        let parts = and_parts _ _ h in
        ends_there site ends a parts.1 (piece_there ir well passed sound a
        (Flows ir.functions a.function) opens (flow_reach ir a.function) entry_there parts.0 d)
    pieces_there site ends opens a (b ∷ rest) entry_there d h =
        let parts = and_parts _ _ h in
        let more = and_parts _ _ parts.1 in
        let end =
        piece_there ir well passed sound a (Flows ir.functions a.function) opens
        (flow_reach ir a.function) entry_there parts.0 d in
        let e =
        entered a b (instruction_at ir.functions a.function (last_place a)) refl more.0 end in
        pieces_there site ends false b rest e.inner_there e.first_there more.1

    -- the first piece begins at a transaction's entry
    transaction : (f : ℕ) (o : Option IrFunction) → slice_get ir.functions f ≡ o
        → is_tx o ≡ true → IsTransaction ir.functions f
    transaction f None is h = absurd (false≢true h)
    transaction f (Some u) is h = (u, is, h)

    opened : (f : ℕ) → IsTransaction ir.functions f → Begins ir f true (Flows ir.functions f)
    opened f t u (Unwritten r s x) there e = first t refl
    opened f t u (RootUnwritten x) there e = first t refl
    opened f t u Here there e = absurd (false≢true e)
    opened f t u (ReadRoot x) there e = absurd (false≢true e)
    opened f t u (ReadField s x) there e = absurd (false≢true e)
    opened f t u Freed there e = absurd (false≢true e)

    walk_there : (site : Site) (ends : Origins) (pieces : List Piece)
        → walk_keeps ir passed site ends pieces ≡ true → Ends site ends
    walk_there site ends [] h = absurd (false≢true h)
    walk_there site ends (a ∷ rest) h =
        let parts = and_parts _ _ h in
        let start = and_parts _ _ parts.0 in
        let t = transaction a.function (slice_get ir.functions a.function) refl start.0 in
        let first_is : first_fact a ≡ Here = same-true (first_fact a) Here start.1 in
        pieces_there site ends true a rest (opened a.function t)
        (subst (λ b. Flow a.function 0 b) (sym first_is) (first t refl)) parts.1

    some_walk : (f p : ℕ) (b : Fact) → Flow f p b → SomeWalk ir.functions f p b
    some_walk f p b d = (exact ir.functions f p b).1 d

    -- a store's target is unwritten
    target_there : (site : Site) (target : Target) (from line : ℕ)
        → instruction_at ir.functions site.function site.place ≡ Some (Store target from line)
        → Ends site (unwritten_ends target) → Flow site.function site.place (unwritten target)
    target_there site (Root x None) from line is e =
        subst (λ b. Flow site.function site.place b) e.1 e.2
    target_there site (Field b s x i) from line is e =
        subst (λ b. Flow site.function site.place b) e.1 e.2
    target_there site (Root x (Some i)) from line is e =
        ⊎_elim
        (λ m. subst (λ b. Flow site.function site.place b) m e.2)
        (λ m. (flow_reach ir site.function).is_root site.place x e.0
        (array_never_stored ir site.function site.place x i from line well is) e.2)
        e.1

    is_header_there : (f p : ℕ) (i : Instruction) → instruction_at ir.functions f p ≡ Some i
        → writes_header i ≡ true → WritesHeader ir.functions f p
    is_header_there f p (New to kind log_fill line) is h = inl (to, kind, log_fill, line, is)
    is_header_there f p (Free from kind line) is h = inr (from, kind, line, is)
    is_header_there f p _ is h = absurd (false≢true h)

    clobber_there : (site : Site) (i : Instruction) (unwrites reads : Walk)
        → instruction_at ir.functions site.function site.place ≡ Some i
        → clobbers ir passed site i unwrites reads ≡ true
        → IsClobber ir.functions site.function site.place
    clobber_there site (Store target from line) unwrites reads is h =
        let parts = and_parts _ _ h in
        let u = walk_there site (unwritten_ends target) unwrites.pieces parts.0 in
        let r = walk_there site (One (read_fact target)) reads.pieces parts.1 in (
          target,
          from,
          line,
          is,
          some_walk site.function site.place (unwritten target)
              (target_there site target from line is u),
          some_walk site.function site.place (read_fact target)
              (subst (λ b. Flow site.function site.place b) r.1 r.2),
        )
    clobber_there site _ unwrites reads is h = absurd (false≢true h)

    fill_there : (site : Site) (i : Instruction) (walk : Walk)
        → instruction_at ir.functions site.function site.place ≡ Some i → is_new i ≡ true
        → walk_keeps ir passed site (One Freed) walk.pieces ≡ true
        → LoggedAt ir.functions true site.function site.place
    fill_there site (New to kind log_fill line) walk is h w =
        let r = walk_there site (One Freed) walk.pieces w in (
          to,
          kind,
          log_fill,
          line,
          is,
          some_walk site.function site.place Freed
              (subst (λ b. Flow site.function site.place b) r.1 r.2),
        )
    fill_there site _ walk is h w = absurd (false≢true h)

    reason_there : (site : Site) (o : Option Instruction) (reason : Reason)
        → instruction_at ir.functions site.function site.place ≡ o
        → gives_reason ir passed site o reason ≡ true → IsLogged ir.functions site
    reason_there site None reason is h = absurd (false≢true h)
    reason_there site (Some i) Always is h =
        let parts = and_parts _ _ h in
        let no_fill : site.fill ≡ false = not-true site.fill parts.1 in
        subst (λ t. LoggedAt ir.functions t site.function site.place) (sym no_fill)
        (inr (is_header_there site.function site.place i is parts.0))
    reason_there site (Some i) (PastFree walk) is h =
        let parts = and_parts _ _ h in
        let fill = and_parts _ _ parts.0 in
        subst (λ t. LoggedAt ir.functions t site.function site.place) (sym fill.1)
        (fill_there site i walk is fill.0 parts.1)
    reason_there site (Some i) (Clobber unwrites reads) is h =
        let parts = and_parts _ _ h in
        let no_fill : site.fill ≡ false = not-true site.fill parts.0 in
        subst (λ t. LoggedAt ir.functions t site.function site.place) (sym no_fill)
        (inl (clobber_there site i unwrites reads is parts.1))

    reasons_there : (n : ℕ) (reasons : List (Site × Reason))
        → bad_reason ir passed n reasons ≡ None
        → AllByRecursion (λ (r : Site × Reason). IsLogged ir.functions r.0) reasons
    reasons_there n [] none = tt
    reasons_there n (r ∷ rest) none =
        by (reason_keeps ir passed r.0 r.1) refl none (λ more. reasons_there (n + 1) rest more)
      where
        by : (t : Bool) → reason_keeps ir passed r.0 r.1 ≡ t
            → (if t then bad_reason ir passed (n + 1) rest else Some n) ≡ None
            → (bad_reason ir passed (n + 1) rest ≡ None
            → AllByRecursion (λ (r : Site × Reason). IsLogged ir.functions r.0) rest)
            → AllByRecursion (λ (r : Site × Reason). IsLogged ir.functions r.0) (r ∷ rest)
        by false keeps none others = absurd cc
        by true keeps none others = (
          reason_there r.0 (instruction_at ir.functions r.0.function r.0.place) r.1 refl keeps,
          others none,
        )

no_fault : (a b : Option ℕ) → fault_from a b ≡ None → (a ≡ None) × (b ≡ None)
no_fault (Some n) b h = absurd cc
no_fault None (Some n) h = absurd cc
no_fault None None h = (refl, refl)

pub all_logged : (ir : Ir) (c : Certificate) → IsWellFormed ir → certificate_fault ir c ≡ None
    → AllLogged ir c
all_logged ir c well none =
    let parts =
    no_fault (bad_piece ir c.passed 0 c.passed) (bad_reason ir c.passed 0 c.reasons) none in
    reasons_there ir well c.passed (all_sound ir well c.passed parts.0) 0 c.reasons parts.1
