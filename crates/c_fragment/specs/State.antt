-- The state of the fragment's run. All values are numbers below 2^64, as C's uint64_t.
use Rattle.std.specs.Prelude.{ℕ, ◌+◌, ◌-◌, ◌/◌, ◌==◌, List, ◌∷◌, ◌++◌, replicate, Option}
use Rattle.std.specs.Prelude.{if◌then◌else◌, nat_eq, slice_set}
use Rattle.indexmap.specs.IndexSet.{insert_key}
use Rattle.pm_machine.specs.Logging.{Logging, noted}
use Rattle.c_fragment.specs.Statement.{CFunction}

-- a function that waits for the result of a call, which goes to register `to`
pub record Waiting : Type 0 where
  pub function : ℕ
  pub place : ℕ
  pub to : ℕ
  pub registers : List ℕ

-- the open function, the label of its next statement, its variables, and the functions that wait,
-- the innermost first; the ticks left, the lines stored to and not yet flushed, what the runtime
-- knows of the log, and all heap words
pub record CState : Type 0 where
  pub function : ℕ
  pub place : ℕ
  pub registers : List ℕ
  pub waiting : List Waiting
  pub ticks : ℕ
  pub dirty : List ℕ
  pub logging : Logging
  pub heap : ℕ → ℕ

-- what the runtime does to the pool
pub data PoolStep : Type 0 where
  Stored : (w v : ℕ) → PoolStep
  Recorded : (w : ℕ) → PoolStep
  Flushed : (l : ℕ) → PoolStep
  Fenced : PoolStep

abbrev pub state_at : CState → ℕ → CState
state_at c p = record {
  function = c.function;
  place = p;
  registers = c.registers;
  waiting = c.waiting;
  ticks = c.ticks;
  dirty = c.dirty;
  logging = c.logging;
  heap = c.heap;
}

abbrev pub state_past : CState → CState
state_past c = state_at c (c.place + 1)

abbrev pub with_register : CState → (r v : ℕ) → CState
with_register c r v = record {
  function = c.function;
  place = c.place + 1;
  registers = slice_set c.registers r v;
  waiting = c.waiting;
  ticks = c.ticks;
  dirty = c.dirty;
  logging = c.logging;
  heap = c.heap;
}

abbrev pub with_store : CState → (w v : ℕ) → CState
with_store c w v = record {
  function = c.function;
  place = c.place + 1;
  registers = c.registers;
  waiting = c.waiting;
  ticks = c.ticks;
  dirty = insert_key nat_eq c.dirty (w / 8);
  logging = c.logging;
  heap = λ u. if u == w then v else c.heap u;
}

-- one record more, if one is taken; the place stays
abbrev pub with_noted : CState → Option ℕ → CState
with_noted c w = record {
  function = c.function;
  place = c.place;
  registers = c.registers;
  waiting = c.waiting;
  ticks = c.ticks;
  dirty = c.dirty;
  logging = noted c.logging w;
  heap = c.heap;
}

abbrev pub with_tick : CState → CState
with_tick c = record {
  function = c.function;
  place = c.place + 1;
  registers = c.registers;
  waiting = c.waiting;
  ticks = c.ticks - 1;
  dirty = c.dirty;
  logging = c.logging;
  heap = c.heap;
}

abbrev pub with_flushed : CState → (t : ℕ) → List ℕ → CState
with_flushed c t ls = record {
  function = c.function;
  place = t;
  registers = c.registers;
  waiting = c.waiting;
  ticks = c.ticks;
  dirty = ls;
  logging = c.logging;
  heap = c.heap;
}

-- C11, 6.5.2.2 and 6.7.9: a function's variables when it begins: its arguments, and all others 0
abbrev pub variables_of : CFunction → List ℕ → List ℕ
variables_of u args = args ++ replicate (u.registers - u.parameters) 0

-- function f is open, and this one waits for its result
abbrev pub with_callee : CState → (r f : ℕ) → List ℕ → CState
with_callee c r f variables = record {
  function = f;
  place = 0;
  registers = variables;
  waiting = record {
    function = c.function;
    place = c.place + 1;
    to = r;
    registers = c.registers;
  } ∷ c.waiting;
  ticks = c.ticks;
  dirty = c.dirty;
  logging = c.logging;
  heap = c.heap;
}

-- the function that waited goes on with the result
abbrev pub with_result : CState → (v : ℕ) → Waiting → List Waiting → CState
with_result c v w ws = record {
  function = w.function;
  place = w.place;
  registers = slice_set w.registers w.to v;
  waiting = ws;
  ticks = c.ticks;
  dirty = c.dirty;
  logging = c.logging;
  heap = c.heap;
}
