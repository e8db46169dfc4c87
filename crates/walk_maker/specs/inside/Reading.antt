-- Pieces and walks, read out of the table.
use Rattle.std.specs.Prelude.{ℕ, zero, suc, Bool, false, List, [], ◌∷◌, Option, Some, None}
use Rattle.std.specs.Prelude.{length, slice_get, if◌then◌else◌}
use Rattle.ir.specs.declared.function.IrFunction.{IrFunction}
use Rattle.ir.specs.declared.fact.Fact.{Fact as WalkFact}
use Rattle.ir.specs.declared.fact.Fact.TheVariants.{Here}
use Rattle.walk_check.specs.declared.certificate.Step.{Step}
use Rattle.walk_check.specs.declared.certificate.Piece.{Piece}
use Rattle.walk_check.specs.Keeps.{blank_step, holds_at_entry}
use Rattle.walk_maker.specs.declared.table.Link.{Link}
use Rattle.walk_maker.specs.declared.table.Link.TheVariants.{End, Next, Enter}
use Rattle.walk_maker.specs.declared.table.Entry.{Entry}
use Rattle.walk_maker.specs.inside.Table.{step_of}

-- the fact at the start of a piece whose walk has the fact x at the function's entry
abbrev pub entry_fact : (opens : Bool) → IrFunction → WalkFact → WalkFact
entry_fact opens u x = if holds_at_entry opens u x then Here else x

-- the entry to which a walk goes on within its function
abbrev pub next_of : Link → Option ℕ
next_of End = None
next_of (Next n through) = Some n
next_of (Enter n) = None

-- .. from an entry, if there is one
abbrev pub next_from : Option Entry → Option ℕ
next_from None = None
next_from (Some e) = next_of e.link

abbrev pub steps_on : (ℕ → List Step) → Option ℕ → List Step
steps_on from None = []
steps_on from (Some n) = from n

abbrev pub steps_at : (ℕ → List Step) → Option Entry → List Step
steps_at from None = []
steps_at from (Some e) = step_of e ∷ steps_on from (next_of e.link)

-- the steps from entry n on, at most d of them
abbrev pub steps_of : List Entry → (d n : ℕ) → List Step
steps_of t zero n = []
steps_of t (suc d) n = steps_at (steps_of t d) (slice_get t n)

abbrev pub end_from : (ℕ → ℕ) → (n : ℕ) → Option ℕ → ℕ
end_from from n None = n
end_from from n (Some m) = from m

-- the entry at which the piece ends that begins at entry n
abbrev pub piece_end : List Entry → (d n : ℕ) → ℕ
piece_end t zero n = n
piece_end t (suc d) n = end_from (piece_end t d) n (next_from (slice_get t n))

abbrev pub entered_by : Link → Option ℕ
entered_by End = None
entered_by (Next n through) = None
entered_by (Enter n) = Some n

abbrev pub entered_from : Option Entry → Option ℕ
entered_from None = None
entered_from (Some e) = entered_by e.link

-- each walk has the fact at the function's entry
abbrev pub has_at_entry : (opens : Bool) → WalkFact → Option IrFunction → Bool
has_at_entry opens x None = false
has_at_entry opens x (Some u) = holds_at_entry opens u x

abbrev pub piece_at : List IrFunction → List Entry → (opens : Bool) → ℕ → Option Entry → Piece
piece_at functions t opens n None = record { function = 0; steps = [] }
piece_at functions t opens n (Some e) = record {
  function = e.function;
  steps = if has_at_entry opens e.fact (slice_get functions e.function)
      then blank_step ∷ steps_of t (length t) n else steps_of t (length t) n;
}

-- the piece that begins at entry n
abbrev pub piece_from : List IrFunction → List Entry → (opens : Bool) → ℕ → Piece
piece_from functions t opens n = piece_at functions t opens n (slice_get t n)

abbrev pub pieces_on : (ℕ → List Piece) → Option ℕ → List Piece
pieces_on from None = []
pieces_on from (Some n) = from n

-- the pieces of the walk that begins at entry n, at most d of them
abbrev pub pieces_of : List IrFunction → List Entry → (d : ℕ) → (opens : Bool) → ℕ → List Piece
pieces_of functions t zero opens n = []
pieces_of functions t (suc d) opens n =
    piece_from functions t opens n ∷ pieces_on (pieces_of functions t d false)
    (entered_from (slice_get t (piece_end t (length t) n)))
