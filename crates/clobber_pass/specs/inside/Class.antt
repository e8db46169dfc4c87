-- One class of fields, which one bit of a topic's words stands for; and the facts about a class.
use Rattle.std.specs.Prelude.{◌==◌, ◌&&◌, ◌+◌, ℕ, Bool, true, false, Option, Some, None, slice_get}
use Rattle.ir.specs.declared.fact.Fact.{Fact}
use Rattle.ir.specs.declared.fact.Fact.TheVariants.{Here, Unwritten, RootUnwritten, ReadRoot}
use Rattle.ir.specs.declared.fact.Fact.TheVariants.{ReadField, Freed}
use Rattle.clobber_pass.specs.declared.topic.StructField.{StructField}
use Rattle.clobber_pass.specs.declared.topic.Topic.{Topic}
use Rattle.clobber_pass.specs.declared.topic.Topic.TheVariants.{Frees, Root, Fields}

pub data Class : Type 0 where
  OfFrees : Class
  OfRoot : ℕ → Class
  OfField : ℕ → ℕ → Class
  OfNothing : Class

-- the class of a topic's field; a topic may have fewer fields than a word has bits
abbrev pub class_of : Option StructField → Class
class_of None = OfNothing
class_of (Some c) = OfField c.kind c.field

-- the class of a bit
abbrev pub class_at : Topic → ℕ → Class
class_at Frees x = OfFrees
class_at (Root first) x = OfRoot (first + x)
class_at (Fields all) x = class_of (slice_get all.now x)

abbrev pub is_about : Class → Fact → Bool
is_about OfFrees Here = true
is_about OfFrees Freed = true
is_about OfFrees (Unwritten r s x) = false
is_about OfFrees (RootUnwritten x) = false
is_about OfFrees (ReadRoot x) = false
is_about OfFrees (ReadField s x) = false
is_about (OfRoot y) (RootUnwritten x) = x == y
is_about (OfRoot y) (ReadRoot x) = x == y
is_about (OfRoot y) Here = false
is_about (OfRoot y) (Unwritten r s x) = false
is_about (OfRoot y) (ReadField s x) = false
is_about (OfRoot y) Freed = false
is_about OfNothing b = false
is_about (OfField t y) Here = true
is_about (OfField t y) (Unwritten r s x) = (s == t) && (x == y)
is_about (OfField t y) (ReadField s x) = (s == t) && (x == y)
is_about (OfField t y) (RootUnwritten x) = false
is_about (OfField t y) (ReadRoot x) = false
is_about (OfField t y) Freed = false

-- the slot of a fact among those of its class: 0 for the start of a walk, 1 for the sought fact,
-- and one for each register
abbrev pub slot : Fact → ℕ
slot Here = 0
slot (RootUnwritten x) = 0
slot (ReadRoot x) = 1
slot (ReadField s x) = 1
slot Freed = 1
slot (Unwritten r s x) = r + 2
