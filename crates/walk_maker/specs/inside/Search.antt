-- The search for a transaction's entry, back from a site.
use Rattle.std.specs.Prelude.{◌≡◌, ◌==◌, ◌&&◌, ◌+◌, ◌++◌, ℕ, Bool, true}
use Rattle.std.specs.Prelude.{false, List, [], ◌∷◌, Option, Some, None, length, slice_get, position}
use Rattle.std.specs.Prelude.{if◌then◌else◌}
use Rattle.std.specs.List.{list_any}
use Rattle.ir.specs.declared.function.IrFunction.{IrFunction}
use Rattle.ir.specs.declared.function.Ir.{Ir}
use Rattle.ir.specs.declared.fact.Fact.{Fact as WalkFact}
use Rattle.ir.specs.declared.fact.Fact.TheVariants.{Here}
use Rattle.walk_check.specs.declared.certificate.Piece.{Piece}
use Rattle.walk_check.specs.Facts.{same}
use Rattle.walk_check.specs.Keeps.{first_fact, last_fact}
use Rattle.walk_maker.specs.declared.table.Aim.{Aim}
use Rattle.walk_maker.specs.declared.table.Aim.TheVariants.{ToSite, ToReturn}
use Rattle.walk_maker.specs.declared.table.Entry.{Entry}
use Rattle.walk_maker.specs.declared.expand.Later.{Later}
use Rattle.walk_maker.specs.inside.Reading.{entry_fact, piece_from}
use Rattle.walk_maker.specs.inside.Expand.{all_before_tried, bound_fact, callers_tried}

-- the table, and the pieces that pass calls
pub record SearchState : Type 0 where
  pub table : List Entry
  pub passed : List Piece

abbrev pub state : List Entry → List Piece → SearchState
state table passed = record { table = table; passed = passed }

-- the function has a piece of a walk from fact x to fact y
abbrev pub goes_from : ℕ → (x y : WalkFact) → Piece → Bool
goes_from g x y piece =
    (piece.function == g) && (same (first_fact piece) x && same (last_fact piece) y)

abbrev pub is_known : List Piece → ℕ → (x y : WalkFact) → Bool
is_known ps g x y = list_any (goes_from g x y) ps

abbrev pub piece_added : Ir → IrFunction → Later → (exit : WalkFact) → List Entry → List Piece
    → List Piece
piece_added ir u later exit t ps = if is_known ps later.entry.function (bound_fact u later) exit
    then ps else ps ++ piece_from ir.functions t false later.number ∷ []

abbrev pub aim_table : Ir → IrFunction → Later → Aim → List Entry → List Entry
aim_table ir u later ToSite t = callers_tried ir later (bound_fact u later) 0 ir.functions t
aim_table ir u later (ToReturn y) t = t

abbrev pub aim_passed : Ir → IrFunction → Later → Aim → List Entry → List Piece → List Piece
aim_passed ir u later ToSite t ps = ps
aim_passed ir u later (ToReturn y) t ps = piece_added ir u later y t ps

-- what an entry at the start of a function adds: the calls of the function, or a complete piece
abbrev pub entry_table : Ir → IrFunction → Later → List Entry → List Entry
entry_table ir u later t = if later.entry.place == 0 then aim_table ir u later later.entry.aim t
    else t

abbrev pub entry_passed : Ir → IrFunction → Later → List Entry → List Piece → List Piece
entry_passed ir u later t ps = if later.entry.place == 0
    then aim_passed ir u later later.entry.aim t ps else ps

abbrev pub with_entered : Ir → IrFunction → Later → List Entry → List Piece → SearchState
with_entered ir u later t ps = state (entry_table ir u later t) (entry_passed ir u later t ps)

abbrev pub expanded_in : Ir → Later → Option IrFunction → SearchState → SearchState
expanded_in ir later None s = s
expanded_in ir later (Some u) s =
    with_entered ir u later (all_before_tried ir s.passed u later 0 u.code s.table) s.passed

-- the table, with each entry from which a walk goes on to this one
abbrev pub expanded : Ir → Later → SearchState → SearchState
expanded ir later s = expanded_in ir later (slice_get ir.functions later.entry.function) s

abbrev pub later_at : ℕ → Entry → Later
later_at n e = record { number = n; entry = e }

-- the same for the entries from number n on, those that are added meanwhile too
pub data Swept (ir : Ir) : ℕ → SearchState → SearchState → Type 0 where
  ends : {n : ℕ} {s : SearchState} → slice_get s.table n ≡ None → Swept ir n s s
  goes : {n : ℕ} {s end : SearchState} {e : Entry} → slice_get s.table n ≡ Some e
      → Swept ir (n + 1) (expanded ir (later_at n e) s) end → Swept ir n s end

-- .. or for some of them
pub data Stopped (ir : Ir) : ℕ → SearchState → SearchState → Type 0 where
  stops : {n : ℕ} {s : SearchState} → Stopped ir n s s
  goes_past : {n : ℕ} {s end : SearchState} {e : Entry} → slice_get s.table n ≡ Some e
      → Stopped ir (n + 1) (expanded ir (later_at n e) s) end → Stopped ir n s end

abbrev pub starts_in : WalkFact → Option IrFunction → Bool
starts_in x None = false
starts_in x (Some u) = u.tx && same (entry_fact true u x) Here

abbrev pub starts_at : List IrFunction → Entry → Aim → Bool
starts_at functions e ToSite =
    (e.place == 0) && starts_in e.fact (slice_get functions e.function)
starts_at functions e (ToReturn y) = false

-- the entry is at the entry of a transaction
abbrev pub is_start : List IrFunction → Entry → Bool
is_start functions e = starts_at functions e e.aim

-- a part of a sweep, and then sweeps until a start is found, or until a sweep adds nothing
pub data Searched (ir : Ir) : SearchState → Option ℕ → SearchState → Type 0 where
  found : {s : SearchState} {n : ℕ} → position (is_start ir.functions) s.table ≡ Some n
      → Searched ir s (Some n) s
  closed : {s end : SearchState} → position (is_start ir.functions) s.table ≡ None
      → Swept ir 0 s end
      → length end.table ≡ length s.table → length end.passed ≡ length s.passed
      → Searched ir s None end
  goes_on : {s middle end : SearchState} {n : Option ℕ} → Swept ir 0 s middle
      → Searched ir middle n end → Searched ir s n end
  begins_by : {s middle end : SearchState} {n : Option ℕ} → Stopped ir 0 s middle
      → Searched ir middle n end → Searched ir s n end
