-- The entries from which a walk goes on to a later entry. Each is tried by the checker's rules
-- before it is added.
use Rattle.std.specs.Prelude.{◌==◌, ◌&&◌, ◌+◌, ℕ, false, List, [], ◌∷◌, Option, Some}
use Rattle.std.specs.Prelude.{None, slice_get, if◌then◌else◌}
use Rattle.ir.specs.declared.instruction.Instruction.{Instruction}
use Rattle.ir.specs.declared.instruction.Instruction.TheVariants.{Call, Return}
use Rattle.ir.specs.declared.function.IrFunction.{IrFunction}
use Rattle.ir.specs.declared.function.Ir.{Ir}
use Rattle.ir.specs.declared.fact.Fact.{Fact as WalkFact}
use Rattle.ir.specs.declared.fact.Origins.{Origins}
use Rattle.ir.specs.declared.fact.Origins.TheVariants.{Nowhere, One, Two}
use Rattle.ir.specs.Table.{origins, at_call}
use Rattle.walk_check.specs.declared.certificate.Piece.{Piece}
use Rattle.walk_check.specs.Facts.{same}
use Rattle.walk_check.specs.Follow.{leads, binds}
use Rattle.walk_check.specs.Keeps.{fact_is_there, first_fact, last_fact, follows}
use Rattle.walk_maker.specs.declared.table.Aim.TheVariants.{ToSite, ToReturn}
use Rattle.walk_maker.specs.declared.table.Link.TheVariants.{End, Next, Enter}
use Rattle.walk_maker.specs.declared.table.Entry.{Entry}
use Rattle.walk_maker.specs.declared.expand.Later.{Later}
use Rattle.walk_maker.specs.declared.expand.Passed.{Passed}
use Rattle.walk_maker.specs.inside.Table.{added, step_of, through_of}
use Rattle.walk_maker.specs.inside.Calls.{back_in, exit_of, before_call}
use Rattle.walk_maker.specs.inside.Reading.{entry_fact}

-- the entry for a fact at a place of the same function, with a link to the later entry
abbrev pub next_to : Later → (p : ℕ) → WalkFact → Option ℕ → Entry
next_to later p a through =
    record {
      aim = later.entry.aim;
      function = later.entry.function;
      place = p;
      fact = a;
      link = Next later.number through;
    }

abbrev pub step_tried : Ir → List Piece → IrFunction → (later before : Entry) → List Entry
    → List Entry
step_tried ir ps u later before t =
    if fact_is_there ir.shapes u before.fact && follows ps u (step_of before) (step_of later)
    (through_of before.link) then added before t else t

abbrev pub tried_origins : Ir → List Piece → IrFunction → Later → (p : ℕ) → Origins → List Entry
    → List Entry
tried_origins ir ps u later p Nowhere t = t
tried_origins ir ps u later p (One a) t = step_tried ir ps u later.entry (next_to later p a None) t
tried_origins ir ps u later p (Two a b) t =
    step_tried ir ps u later.entry (next_to later p b None)
    (step_tried ir ps u later.entry (next_to later p a None) t)

-- the entry at a return of the called function, with the fact that has to hold there
abbrev pub return_at : (g q : ℕ) → WalkFact → Entry
return_at g q y =
    record { aim = ToReturn y; function = g; place = q; fact = y; link = End }

abbrev pub return_added : (g : ℕ) → WalkFact → (q : ℕ) → Instruction → List Entry → List Entry
return_added g y q (Return from) t = added (return_at g q y) t
return_added g y q _ t = t

abbrev pub returns_added : (g : ℕ) → WalkFact → (q : ℕ) → List Instruction → List Entry
    → List Entry
returns_added g y q [] t = t
returns_added g y q (i ∷ is) t = returns_added g y (q + 1) is (return_added g y q i t)

-- the entry at a call from which a piece leads to the later fact
abbrev pub through_tried : Ir → List Piece → IrFunction → Later → Passed → List ℕ → (n : ℕ)
    → Piece → List Entry → List Entry
through_tried ir ps u later call args n piece t =
    if (piece.function == call.function) && same (last_fact piece) (exit_of call.origin)
    then step_tried ir ps u later.entry (next_to later call.place (before_call call.origin args
    (first_fact piece) later.entry.fact) (Some n)) t else t

abbrev pub throughs_tried : Ir → List Piece → IrFunction → Later → Passed → List ℕ → (n : ℕ)
    → List Piece → List Entry → List Entry
throughs_tried ir ps u later call args n [] t = t
throughs_tried ir ps u later call args n (piece ∷ rest) t =
    throughs_tried ir ps u later call args (n + 1) rest
    (through_tried ir ps u later call args n piece t)

-- an entry for each return of a called function
abbrev pub exits_added : Ir → IrFunction → (g : ℕ) → WalkFact → List Entry → List Entry
exits_added ir v g y t = if fact_is_there ir.shapes v y then returns_added g y 0 v.code t else t

abbrev pub passed_call : IrFunction → (p to g : ℕ) → List ℕ → WalkFact → Passed
passed_call v p to g args b =
    record { place = p; function = g; origin = back_in v.parameters to args b }

abbrev pub call_tried : Ir → List Piece → IrFunction → Later → (p to g : ℕ) → List ℕ
    → Option IrFunction → List Entry → List Entry
call_tried ir ps u later p to g args None t = t
call_tried ir ps u later p to g args (Some v) t =
    throughs_tried ir ps u later (passed_call v p to g args later.entry.fact) args 0 ps
    (exits_added ir v g (exit_of (back_in v.parameters to args later.entry.fact)) t)

abbrev pub past_tried : Ir → List Piece → IrFunction → Later → (p : ℕ) → Instruction → List Entry
    → List Entry
past_tried ir ps u later p (Call to g args) t =
    call_tried ir ps u later p to g args (slice_get ir.functions g) t
past_tried ir ps u later p _ t = t

abbrev pub next_tried : Ir → List Piece → IrFunction → Later → (p : ℕ) → Instruction
    → List Entry → List Entry
next_tried ir ps u later p i t = if later.entry.place == p + 1
    then past_tried ir ps u later p i t else t

abbrev pub along_tried : Ir → List Piece → IrFunction → Later → (p : ℕ) → Instruction
    → List Entry → List Entry
along_tried ir ps u later p i t = if leads i p later.entry.place
    then tried_origins ir ps u later p (origins i later.entry.fact) t else t

-- the entries at one place of the same function
abbrev pub before_tried : Ir → List Piece → IrFunction → Later → (p : ℕ) → Instruction
    → List Entry → List Entry
before_tried ir ps u later p i t =
    along_tried ir ps u later p i (next_tried ir ps u later p i t)

-- the entries at the places from p on
abbrev pub all_before_tried : Ir → List Piece → IrFunction → Later → (p : ℕ) → List Instruction
    → List Entry → List Entry
all_before_tried ir ps u later p [] t = t
all_before_tried ir ps u later p (i ∷ is) t =
    all_before_tried ir ps u later (p + 1) is (before_tried ir ps u later p i t)

-- the fact that is bound at a call
abbrev pub bound_fact : IrFunction → Later → WalkFact
bound_fact v later = entry_fact false v later.entry.fact

-- the entry at a call, from which the walk goes on at the called function's entry
abbrev pub caller_at : (f p : ℕ) → Later → List ℕ → Entry
caller_at f p later args =
    record {
      aim = ToSite;
      function = f;
      place = p;
      fact = at_call args later.entry.fact;
      link = Enter later.number;
    }

abbrev pub caller_tried : Ir → IrFunction → (f : ℕ) → Later → (bound : WalkFact) → (p : ℕ)
    → Instruction → List Entry → List Entry
caller_tried ir u f later bound p (Call to g args) t =
    if (g == later.entry.function) && (fact_is_there ir.shapes u (at_call args later.entry.fact)
    && binds args (at_call args later.entry.fact) bound) then added (caller_at f p later args) t
    else t
caller_tried ir u f later bound p _ t = t

abbrev pub callers_in_tried : Ir → IrFunction → (f : ℕ) → Later → (bound : WalkFact) → (p : ℕ)
    → List Instruction → List Entry → List Entry
callers_in_tried ir u f later bound p [] t = t
callers_in_tried ir u f later bound p (i ∷ is) t =
    callers_in_tried ir u f later bound (p + 1) is (caller_tried ir u f later bound p i t)

abbrev pub callers_tried : Ir → Later → (bound : WalkFact) → (f : ℕ) → List IrFunction
    → List Entry → List Entry
callers_tried ir later bound f [] t = t
callers_tried ir later bound f (u ∷ us) t =
    callers_tried ir later bound (f + 1) us (callers_in_tried ir u f later bound 0 u.code t)
