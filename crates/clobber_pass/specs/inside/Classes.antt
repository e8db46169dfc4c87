-- The classes of a program's stores, and marks of all stores of a class. A topic has 16 bits, so of
-- the root's fields 16 are one class, and of the structs' fields 16 are one topic.
use Rattle.std.specs.Prelude.{◌≡◌, ◌-◌, ◌%◌, ◌<◌, ℕ, true, false, List, Option, Some, length}
use Rattle.std.specs.Prelude.{slice_get}
use mathlib.Core.Logic.{◌⊎◌}
use Rattle.ir.specs.declared.function.IrFunction.{IrFunction}
use Rattle.ir.specs.declared.instruction.Target.{Target}
use Rattle.ir.specs.declared.instruction.Target.TheVariants.{Root, Field}
use Rattle.ir.specs.declared.instruction.Instruction.{Instruction}
use Rattle.ir.specs.declared.instruction.Instruction.TheVariants.{Store}
use Rattle.ir.specs.Places.{instruction_at}
use Rattle.ir.specs.Clobber.{unwritten, read_fact}
use Rattle.ir.specs.Derived.{Flows}
use Rattle.clobber_pass.specs.declared.topic.StructField.{StructField}
use Rattle.clobber_pass.specs.declared.classes.Stored.{Stored}
use Rattle.clobber_pass.specs.inside.Marking.{says}
use Rattle.clobber_pass.specs.declared.topic.TheConstants.{TOPIC_FIELDS}

-- the item is in the list
pub record Has {T : Type 0} (items : List T) (item : T) : Type 0 where
  pub at : ℕ
  pub is : slice_get items at ≡ Some item

-- the items of the first list are in the second
pub record Keeps {T : Type 0} (items new : List T) : Type 0 where
  pub keeps : (item : T) → Has items item → Has new item

-- the class of a target is in the lists
abbrev pub HasTarget : Stored → Target → Type 0
HasTarget stored (Root y i) = Has stored.roots (y - y % TOPIC_FIELDS)
HasTarget stored (Field b t y i) = Has stored.fields (record { kind = t; field = y })

pub record KeepsStored (stored new : Stored) : Type 0 where
  pub keeps : (target : Target) → HasTarget stored target → HasTarget new target

-- the classes of a code's stores, and of all stores
pub record HasIn (stored : Stored) (code : List Instruction) : Type 0 where
  pub stores : (p : ℕ) (target : Target) (from line : ℕ)
      → slice_get code p ≡ Some (Store target from line) → HasTarget stored target

pub record HasAll (functions : List IrFunction) (stored : Stored) : Type 0 where
  pub stores : (f : ℕ) (u : IrFunction) → slice_get functions f ≡ Some u → HasIn stored u.code

-- the same for one instruction
pub record HasStore (stored : Stored) (i : Instruction) : Type 0 where
  pub store : (target : Target) (from line : ℕ) → i ≡ Store target from line
      → HasTarget stored target

-- the clobber stores to a target are marked
pub record TargetMarked (functions : List IrFunction) (table : List (List ℕ)) (target : Target) :
    Type 0 where
  pub stores : (f p from line : ℕ) → f < length functions
      → instruction_at functions f p ≡ Some (Store target from line)
      → Flows functions f p (unwritten target) → Flows functions f p (read_fact target)
      → says table false f p ≡ true

-- the same for a topic of fields of the root, and for a field of a struct
pub record RootMarked (functions : List IrFunction) (table : List (List ℕ)) (first : ℕ) :
    Type 0 where
  pub each : (y : ℕ) (i : Option ℕ) → y - y % TOPIC_FIELDS ≡ first
      → TargetMarked functions table (Root y i)

pub record FieldMarked (functions : List IrFunction) (table : List (List ℕ)) (c : StructField) :
    Type 0 where
  pub each : (b : ℕ) (i : Option ℕ) → TargetMarked functions table (Field b c.kind c.field i)

-- the same for the classes of a list
pub record RootsMarked (functions : List IrFunction) (roots : List ℕ) (table : List (List ℕ)) :
    Type 0 where
  pub each : (first : ℕ) → Has roots first → RootMarked functions table first

pub record FieldsMarked (functions : List IrFunction) (fields : List StructField)
    (table : List (List ℕ)) : Type 0 where
  pub each : (c : StructField) → Has fields c → FieldMarked functions table c

-- the same for the first topic of a list
pub record TopicMarked (functions : List IrFunction) (all : List StructField)
    (table : List (List ℕ)) : Type 0 where
  pub each : (c : StructField) (has : Has all c) → has.at < TOPIC_FIELDS
      → FieldMarked functions table c

-- the same for those of a list that aren't left
pub record OthersMarked (functions : List IrFunction) (fields left : List StructField)
    (table : List (List ℕ)) : Type 0 where
  pub each : (c : StructField) → Has fields c → Has left c ⊎ FieldMarked functions table c
