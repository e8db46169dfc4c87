-- Walks through a code, and what a walk keeps. A walk starts at a transaction's entry with nothing
-- known. It follows the code, takes either side of each branch, enters each call, and returns to
-- its call. It sees no values, so it may have any number of calls open.
use Rattle.std.specs.Prelude.{◌≡◌, ◌==◌, ◌&&◌, ◌||◌, ℕ, suc, Bool, true, false, if◌then◌else◌, List}
use Rattle.std.specs.Prelude.{[], ◌∷◌, Option, Some, None, slice_get, position, not}
use Rattle.ir.specs.declared.function.IrFunction.{IrFunction}
use Rattle.ir.specs.declared.instruction.Target.{Target}
use Rattle.ir.specs.declared.instruction.Target.TheVariants.{Root, Field}
use Rattle.ir.specs.declared.instruction.Instruction.{Instruction}
use Rattle.ir.specs.declared.instruction.Instruction.TheVariants.{Const, Copy, Bin, Jump, Branch}
use Rattle.ir.specs.declared.instruction.Instruction.TheVariants.{Load, Store, New, Free, Call}
use Rattle.ir.specs.declared.instruction.Instruction.TheVariants.{Return, Tick, Trap, Log}
use Rattle.ir.specs.Places.{instruction_at, IsTransaction, Leads, CallsAt, ReturnsAt}

-- what a walk keeps: the fields surely written through each register of the current call, by
-- register, kind and field; the root fields surely written; the classes read before; whether a free
-- was passed
pub record Kept : Type 0 where
  pub written : ℕ → ℕ → ℕ → Bool
  pub root : ℕ → Bool
  pub root_read : ℕ → Bool
  pub field_read : ℕ → ℕ → Bool
  pub freed : Bool

-- nothing is known
abbrev pub at_start : Kept
at_start = record {
  written = λ r s x. false;
  root = λ x. false;
  root_read = λ x.
      false;
  field_read = λ s x. false;
  freed = false;
}

-- one register has the given fields, the others keep theirs
abbrev pub register_has : ℕ → (ℕ → ℕ → Bool) → Kept → Kept
register_has to told k = record {
  written = λ r s x. if r == to then told s x
      else k.written r s x;
  root = k.root;
  root_read = k.root_read;
  field_read = k.field_read;
  freed = k.freed;
}

-- a load adds its class, unless the field is surely written
abbrev pub reads : Target → Kept → Kept
reads (Root y i) k = record {
  written = k.written;
  root = k.root;
  root_read = λ x. if x == y
      then k.root_read x || not (k.root x) else k.root_read x;
  field_read = k.field_read;
  freed = k.freed;
}
reads (Field b t y i) k = record {
  written = k.written;
  root = k.root;
  root_read = k.root_read;
  field_read = λ s x. if (s == t) && (x == y) then k.field_read s x
      || not (k.written b s x) else k.field_read s x;
  freed = k.freed;
}

-- a store to a field that isn't an array makes the field surely written
abbrev pub writes : Target → Kept → Kept
writes (Root y None) k = record {
  written = k.written;
  root = λ x. if x == y then true
      else k.root x;
  root_read = k.root_read;
  field_read = k.field_read;
  freed = k.freed;
}
writes (Field b t y None) k = record {
  written = λ r s x. if (r == b) && ((s == t) && (x == y))
      then true else k.written r s x;
  root = k.root;
  root_read = k.root_read;
  field_read = k.field_read;
  freed = k.freed;
}
writes (Root y (Some i)) k = k
writes (Field b t y (Some i)) k = k

-- what is kept after an instruction that is neither a call nor a return
abbrev pub facts_after : Instruction → Kept → Kept
facts_after (Const to v) k = register_has to (λ s x. false) k
facts_after (Copy to from) k = register_has to (k.written from) k
facts_after (Bin op to left right) k = register_has to (λ s x. false) k
facts_after (Jump place) k = k
facts_after (Branch on place) k = k
facts_after (Load to t) k = register_has to (λ s x. false) (reads t k)
facts_after (Store t from line) k = writes t k
facts_after (New to kind log_fill line) k = register_has to (λ s x. true) k
facts_after (Free from kind line) k =
    record {
      written = k.written;
      root = k.root;
      root_read = k.root_read;
      field_read = k.field_read;
      freed = true;
    }
facts_after (Call to g args) k = k
facts_after (Return from) k = k
facts_after Tick k = k
facts_after (Trap kind) k = k
facts_after (Log t) k = k

-- a parameter has what its argument has; any other register has nothing
abbrev pub facts_passed : Option ℕ → (ℕ → ℕ → ℕ → Bool) → ℕ → ℕ → Bool
facts_passed None w s x = false
facts_passed (Some a) w s x = w a s x

-- what is kept at the entry of a called function
abbrev pub facts_at_entry : List ℕ → Kept → Kept
facts_at_entry args k = record {
  written = λ r. facts_passed (slice_get args r) k.written;
  root = k.root;
  root_read = k.root_read;
  field_read = k.field_read;
  freed = k.freed;
}

-- a register that was passed has what its first parameter has at the return; any other keeps what
-- it had at the call
abbrev pub facts_taken : Option ℕ → (ℕ → ℕ → ℕ → Bool) → (ℕ → ℕ → Bool) → ℕ → ℕ → Bool
facts_taken None w had s x = had s x
facts_taken (Some j) w had s x = w j s x

-- what is kept after a call, from what was kept at it and what is kept at the return. The result
-- register has nothing.
abbrev pub given_back : ℕ → List ℕ → Kept → Kept → Kept
given_back to args before k = record {
  written = λ r s x. if r == to then false
      else facts_taken (position (λ a. a == r) args) k.written (before.written r) s x;
  root = k.root;
  root_read = k.root_read;
  field_read = k.field_read;
  freed = k.freed;
}

-- an open call: its function and place, its result register, its arguments, and what was kept at it
pub record Open : Type 0 where
  pub function : ℕ
  pub place : ℕ
  pub to : ℕ
  pub args : List ℕ
  pub kept : Kept

-- where a walk is: its function, its place, what it keeps, and the call stack, the last call first
pub data WalkSpot : Type 0 where
  at : ℕ → ℕ → Kept → List Open → WalkSpot

-- one step of a walk. A branch may go to either side; a return goes on after the call that was
-- entered last.
pub data WalkStep (functions : List IrFunction) : WalkSpot → WalkSpot → Type 0 where
  goes : {f p q : ℕ} {k : Kept} {calls : List Open} (i : Instruction)
      → instruction_at functions f p ≡ Some i → Leads i p q
      → WalkStep functions (at f p k calls) (at f q (facts_after i k) calls)
  enters : {f p g to : ℕ} {args : List ℕ} {k : Kept} {calls : List Open}
      → CallsAt functions f p to g args
      → WalkStep functions (at f p k calls)
      (at g 0 (facts_at_entry args k)
      (record { function = f; place = p; to = to; args = args; kept = k } ∷ calls))
  returns : {f p : ℕ} {k : Kept} {call : Open} {calls : List Open} → ReturnsAt functions f p
      → WalkStep functions (at f p k (call ∷ calls))
      (at call.function (suc call.place) (given_back call.to call.args call.kept k) calls)

pub data Walk (functions : List IrFunction) : WalkSpot → WalkSpot → Type 0 where
  none : {a : WalkSpot} → Walk functions a a
  more : {a b c : WalkSpot} → Walk functions a b → WalkStep functions b c → Walk functions a c

-- a walk from a transaction's entry reaches this spot
abbrev pub Comes : List IrFunction → WalkSpot → Type 0
Comes functions b = (f : ℕ) × IsTransaction functions f × Walk functions (at f 0 at_start []) b
