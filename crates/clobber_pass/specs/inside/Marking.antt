-- The marks of places: what each topic marks, and what a table of marks must hold.
use Rattle.std.specs.Prelude.{◌≡◌, ◌==◌, ◌+◌, ◌<◌, not, ℕ, Bool, true, false, List, []}
use Rattle.std.specs.Prelude.{◌∷◌, Some, length, slice_get, bit_and, if◌then◌else◌}
use mathlib.Core.Logic.{◌⊎◌}
use Rattle.ir.specs.declared.function.IrFunction.{IrFunction}
use Rattle.ir.specs.declared.instruction.Target.{Target}
use Rattle.ir.specs.declared.instruction.Target.TheVariants.{Root, Field}
use Rattle.ir.specs.declared.instruction.Instruction.{Instruction}
use Rattle.ir.specs.declared.instruction.Instruction.TheVariants.{Const, Copy, Bin, Jump, Branch}
use Rattle.ir.specs.declared.instruction.Instruction.TheVariants.{Load, Store, New, Free, Call}
use Rattle.ir.specs.declared.instruction.Instruction.TheVariants.{Return, Tick, Trap, Log}
use Rattle.ir.specs.declared.fact.Fact.TheVariants.{Freed}
use Rattle.ir.specs.Places.{instruction_at}
use Rattle.ir.specs.Clobber.{unwritten, read_fact, WritesHeader}
use Rattle.ir.specs.Derived.{Flows}
use Rattle.clobber_pass.specs.declared.topic.Topic.{Topic}
use Rattle.clobber_pass.specs.declared.topic.Topic.TheVariants.{Frees, Root as Roots}
use Rattle.clobber_pass.specs.declared.topic.Topic.TheVariants.{Fields}
use Rattle.clobber_pass.specs.inside.Class.{class_at, is_about}
use Rattle.clobber_pass.specs.Logged.{part}
use Rattle.clobber_pass.specs.Row.{word, tells}
use Rattle.clobber_pass.specs.inside.Row.{mask, fields_mask}
use Rattle.clobber_pass.specs.Sweep.{row_in}
use Rattle.clobber_pass.specs.inside.Sweep.{next_row, row_or}
use Rattle.clobber_pass.specs.inside.Closed.{Within}
use Rattle.clobber_pass.specs.declared.topic.TheConstants.{TOPIC_FIELDS}

-- two words and a mask have a bit in common
unfoldable pub meets : ℕ → ℕ → ℕ → Bool
meets a b m = not (bit_and (bit_and a b) m == 0)

-- the mark of a store whose class belongs to the topic
abbrev pub store_word : Topic → Target → List ℕ → ℕ
store_word (Roots first) (Root y i) row = if meets (word row 0) (word row 1) (mask first y)
    then 1 else 0
store_word (Roots first) (Field b t y i) row = 0
store_word (Fields all) (Field b t y i) row =
    if meets (word row (b + 2)) (word row 1) (fields_mask all.now t y) then 1 else 0
store_word (Fields all) (Root y i) row = 0
store_word Frees target row = 0

abbrev pub fill_word : Topic → List ℕ → ℕ
fill_word Frees row = if meets (word row 1) (word row 1) 1 then 2 else 0
fill_word (Roots first) row = 0
fill_word (Fields all) row = 0

abbrev pub mark_word : Topic → Instruction → List ℕ → ℕ
mark_word topic (Store target from line) row = store_word topic target row
mark_word topic (New to kind log_fill line) row = fill_word topic row
mark_word topic (Const to v) row = 0
mark_word topic (Copy to from) row = 0
mark_word topic (Bin op to left right) row = 0
mark_word topic (Jump place) row = 0
mark_word topic (Branch on place) row = 0
mark_word topic (Load to t) row = 0
mark_word topic (Free from kind line) row = 0
mark_word topic (Call to g args) row = 0
mark_word topic (Return from) row = 0
mark_word topic Tick row = 0
mark_word topic (Trap kind) row = 0
mark_word topic (Log t) row = 0

-- the marks of the places from p on, by the rows that reach them
abbrev pub marks_from : Topic → List (List (List ℕ)) → List (List ℕ) → List ℕ → ℕ
    → List Instruction → List ℕ
marks_from topic exits rows row p [] = []
marks_from topic exits rows row p (i ∷ is) =
    mark_word topic i (row_or (row_in rows p) row) ∷ marks_from topic exits rows
    (next_row topic exits i (row_or (row_in rows p) row)) (p + 1) is

-- every store to a header is marked
abbrev pub header_mark : Instruction → ℕ
header_mark (New to kind log_fill line) = 1
header_mark (Free from kind line) = 1
header_mark (Const to v) = 0
header_mark (Copy to from) = 0
header_mark (Bin op to left right) = 0
header_mark (Jump place) = 0
header_mark (Branch on place) = 0
header_mark (Load to t) = 0
header_mark (Store target from line) = 0
header_mark (Call to g args) = 0
header_mark (Return from) = 0
header_mark Tick = 0
header_mark (Trap kind) = 0
header_mark (Log t) = 0

abbrev pub headers : List Instruction → List ℕ
headers [] = []
headers (i ∷ is) = header_mark i ∷ headers is

abbrev pub headers_of : List IrFunction → List (List ℕ)
headers_of [] = []
headers_of (u ∷ us) = headers u.code ∷ headers_of us

-- a site is logged, in terms of derived facts
abbrev pub Logged : List IrFunction → Bool → ℕ → ℕ → Type 0
Logged functions true f p = (to : ℕ) × (kind : ℕ) × (log_fill : Bool) × (line : ℕ)
    × (instruction_at functions f p ≡ Some (New to kind log_fill line)) × Flows functions f p Freed
Logged functions false f p =
    ((target : Target) × (from : ℕ) × (line : ℕ)
    × (instruction_at functions f p ≡ Some (Store target from line))
    × Flows functions f p (unwritten target) × Flows functions f p (read_fact target))
    ⊎ WritesHeader functions f p

-- what a table of marks says of a store or a fill
abbrev pub says : List (List ℕ) → (fill : Bool) → (function place : ℕ) → Bool
says table fill f p = tells (row_in table f) (part fill) p

-- what is marked is logged
pub record SoundMarks (functions : List IrFunction) (table : List (List ℕ)) : Type 0 where
  pub logged : (fill : Bool) (f p : ℕ) → says table fill f p ≡ true → Logged functions fill f p

pub record ShapedMarks (functions : List IrFunction) (table : List (List ℕ)) : Type 0 where
  pub count : length table ≡ length functions
  pub each : (f : ℕ) (u : IrFunction) → slice_get functions f ≡ Some u → (row_in table f ≡ [])
      ⊎ (length (row_in table f) ≡ length u.code)

pub record Headers (functions : List IrFunction) (table : List (List ℕ)) : Type 0 where
  pub marked : (f p : ℕ) → WritesHeader functions f p → says table false f p ≡ true

-- one of the topic's bits stands for the target's class
pub record Covers (topic : Topic) (target : Target) : Type 0 where
  pub x : ℕ
  pub few : x < TOPIC_FIELDS
  pub bare : is_about (class_at topic x) (unwritten target) ≡ true
  pub before : is_about (class_at topic x) (read_fact target) ≡ true

-- in one function, the clobber stores and fills of a topic are marked
pub record Marked (functions : List IrFunction) (topic : Topic) (table : List (List ℕ)) (f : ℕ) :
    Type 0 where
  pub stores : (p : ℕ) (target : Target) (from line : ℕ) → Covers topic target
      → instruction_at functions f p ≡ Some (Store target from line)
      → Flows functions f p (unwritten target) → Flows functions f p (read_fact target)
      → says table false f p ≡ true
  pub fills : (p : ℕ) (to kind : ℕ) (log_fill : Bool) (line : ℕ) → topic ≡ Frees
      → instruction_at functions f p ≡ Some (New to kind log_fill line) → Flows functions f p Freed
      → says table true f p ≡ true

-- the same for all functions
abbrev pub AllMarked : List IrFunction → Topic → List (List ℕ) → Type 0
AllMarked functions topic table = (f : ℕ) → f < length functions → Marked functions topic table f

-- marks in a table stay marked
pub record KeepsRows (table new : List (List ℕ)) : Type 0 where
  pub keeps : (f : ℕ) → Within (row_in table f) (row_in new f)

-- the invariant of a table of marks
pub record Marks (functions : List IrFunction) (table : List (List ℕ)) : Type 0 where
  pub sound : SoundMarks functions table
  pub shaped : ShapedMarks functions table
