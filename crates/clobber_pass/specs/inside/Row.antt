-- The effect on a row of an instruction that is no call. A word has 16 bits, one for each of the
-- fields of a topic, of which there are at most 16.
use Rattle.std.specs.Prelude.{◌==◌, ◌&&◌, ◌+◌, ◌-◌, ◌^◌, ℕ, Bool, List, [], ◌∷◌, Some, None}
use Rattle.std.specs.Prelude.{slice_set, bit_and, bit_or}
use Rattle.std.specs.Prelude.{bit_xor, nat_lt, if◌then◌else◌}
use Rattle.ir.specs.declared.instruction.Target.{Target}
use Rattle.ir.specs.declared.instruction.Target.TheVariants.{Root, Field}
use Rattle.ir.specs.declared.instruction.Instruction.{Instruction}
use Rattle.ir.specs.declared.instruction.Instruction.TheVariants.{Const, Copy, Bin, Jump, Branch}
use Rattle.ir.specs.declared.instruction.Instruction.TheVariants.{Load, Store, New, Free, Call}
use Rattle.ir.specs.declared.instruction.Instruction.TheVariants.{Return, Tick, Trap, Log}
use Rattle.clobber_pass.specs.declared.topic.StructField.{StructField}
use Rattle.clobber_pass.specs.declared.topic.Topic.{Topic}
use Rattle.clobber_pass.specs.declared.topic.Topic.TheVariants.{Frees, Root as Roots}
use Rattle.clobber_pass.specs.declared.topic.Topic.TheVariants.{Fields}
use Rattle.clobber_pass.specs.Row.{word}
use Rattle.clobber_pass.specs.declared.topic.TheConstants.{TOPIC_FIELDS}

-- the bit of a field, counted from the first field of a topic
unfoldable pub mask : ℕ → ℕ → ℕ
mask first field = if nat_lt field first then 0
    else (if nat_lt (field - first) TOPIC_FIELDS then 2 ^ (field - first) else 0)

-- the bit of a place in a topic
unfoldable pub place_bit : ℕ → ℕ
place_bit x = if nat_lt x TOPIC_FIELDS then 2 ^ x else 0

abbrev pub names_field : StructField → ℕ → ℕ → Bool
names_field c t y = (c.kind == t) && (c.field == y)

abbrev pub bit_of : StructField → ℕ → ℕ → ℕ → ℕ
bit_of c x t y = if names_field c t y then place_bit x else 0

-- the bits of a field among those from the place x on, and more bits
abbrev pub fields_from : List StructField → ℕ → ℕ → ℕ → ℕ → ℕ
fields_from [] x t y bits = bits
fields_from (c ∷ cs) x t y bits = fields_from cs (x + 1) t y (bit_or bits (bit_of c x t y))

abbrev pub fields_mask : List StructField → ℕ → ℕ → ℕ
fields_mask all t y = fields_from all 0 t y 0

unfoldable pub without : ℕ → ℕ → ℕ
without w bits = bit_xor w (bit_and w bits)

-- a load adds its field unless the field is surely written
abbrev pub with_read : Topic → Target → List ℕ → List ℕ
with_read (Roots first) (Root y i) row =
    slice_set row 1 (bit_or (word row 1) (bit_and (word row 0) (mask first y)))
with_read (Roots first) (Field b t y i) row = row
with_read (Fields all) (Field b t y i) row =
    slice_set row 1 (bit_or (word row 1) (bit_and (word row (b + 2)) (fields_mask all.now t y)))
with_read (Fields all) (Root y i) row = row
with_read Frees target row = row

-- a store to a field that isn't an array makes it surely written
abbrev pub with_write : Topic → Target → List ℕ → List ℕ
with_write (Roots first) (Root y None) row = slice_set row 0 (without (word row 0) (mask first y))
with_write (Roots first) (Root y (Some i)) row = row
with_write (Roots first) (Field b t y i) row = row
with_write (Fields all) (Field b t y None) row =
    slice_set row (b + 2) (without (word row (b + 2)) (fields_mask all.now t y))
with_write (Fields all) (Field b t y (Some i)) row = row
with_write (Fields all) (Root y i) row = row
with_write Frees target row = row

abbrev pub with_free : Topic → List ℕ → List ℕ
with_free Frees row = slice_set row 1 (word row 0)
with_free (Roots first) row = row
with_free (Fields all) row = row

-- writes the word of a register
abbrev pub row_given : List ℕ → ℕ → ℕ → List ℕ
row_given row r w = slice_set row (r + 2) w

abbrev pub row_begun : ℕ → List ℕ → List ℕ
row_begun to row = slice_set row (to + 2) (word row 0)

abbrev pub after_row : Topic → Instruction → List ℕ → List ℕ
after_row topic (Const to v) row = row_begun to row
after_row topic (Copy to from) row = slice_set row (to + 2) (word row (from + 2))
after_row topic (Bin op to left right) row = row_begun to row
after_row topic (Load to target) row = row_begun to (with_read topic target row)
after_row topic (Store target from line) row = with_write topic target row
after_row topic (New to kind log_fill line) row = slice_set row (to + 2) 0
after_row topic (Free from kind line) row = with_free topic row
after_row topic (Jump place) row = row
after_row topic (Branch on place) row = row
after_row topic (Call to g args) row = row
after_row topic (Return from) row = row
after_row topic Tick row = row
after_row topic (Trap kind) row = row
after_row topic (Log target) row = row
