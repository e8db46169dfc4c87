-- The meaning of a summary in terms of walks.
use Rattle.std.specs.Prelude.{◌≡◌, ◌==◌, ◌&&◌, not, ℕ, true, false, List, []}
use Rattle.ir.specs.declared.function.IrFunction.{IrFunction}
use Rattle.ir.specs.declared.fact.Fact.{Fact}
use Rattle.ir.specs.declared.fact.Fact.TheVariants.{Here, Unwritten, RootUnwritten, ReadRoot}
use Rattle.ir.specs.declared.fact.Fact.TheVariants.{ReadField, Freed}
use Rattle.ir.specs.Walk.{Kept, at, Walk}
use Rattle.ir.specs.Table.{holds}

-- everything is surely written, nothing was read and no free was passed
abbrev pub nothing : Kept
nothing = record {
  written = λ r s x. true;
  root = λ x. true;
  root_read = λ x.
      false;
  field_read = λ s x. false;
  freed = false;
}

-- no fact holds but this one, and that a walk is here
abbrev pub only : Fact → Kept
only Here = nothing
only (Unwritten r s x) = record {
  written = λ q t y.
      not ((q == r) && ((t == s) && (y == x)));
  root = nothing.root;
  root_read = nothing.root_read;
  field_read = nothing.field_read;
  freed = false;
}
only (RootUnwritten x) = record {
  written = nothing.written;
  root = λ y. not (y == x);
  root_read = nothing.root_read;
  field_read = nothing.field_read;
  freed = false;
}
only (ReadRoot x) = record {
  written = nothing.written;
  root = nothing.root;
  root_read = λ y.
      y == x;
  field_read = nothing.field_read;
  freed = false;
}
only (ReadField s x) = record {
  written = nothing.written;
  root = nothing.root;
  root_read = nothing.root_read;
  field_read = λ t y. (t == s) && (y == x);
  freed = false;
}
only Freed = record {
  written = nothing.written;
  root = nothing.root;
  root_read = nothing.root_read;
  field_read = nothing.field_read;
  freed = true;
}

-- a matched walk from the entry of f with this fact alone reaches p with the other fact. A walk
-- without an open call can't return from f.
abbrev pub MatchedWalk : List IrFunction → ℕ → Fact → ℕ → Fact → Type 0
MatchedWalk functions f e p b = (k : Kept) × Walk functions (at f 0 (only e) []) (at f p k [])
    × (holds k b ≡ true)
