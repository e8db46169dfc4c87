-- What is reported if there is nothing to run: the line, and the status. Of a source that failed,
-- and of want of memory, nothing is reported.
use Rattle.std.specs.Prelude.{ℕ, ℤ, ◌/◌, ◌%◌, zero, suc, List, [], ◌∷◌, ◌++◌, Bool, true, false}
use Rattle.std.specs.Prelude.{codes, slice_index}
use Rattle.std.specs.Fmt.{decimal, signed_decimal}
use Rattle.std.specs.Int.{w64, cast_unsigned}
use Rattle.pool_layout.specs.declared.wanted.ImageFault.{ImageFault}
use Rattle.pool_layout.specs.declared.wanted.ImageFault.TheVariants as image
use Rattle.cnvm_compile.specs.ComplaintText.{complaint_line}
use Rattle.cnvm_cli.specs.declared.refused.Refused.{Refused}
use Rattle.cnvm_cli.specs.declared.refused.Refused.TheVariants as refused
use Rattle.session_run.specs.declared.status.Status.{Status}
use Rattle.session_run.specs.declared.status.Status.TheVariants as status

-- a hexadecimal digit
abbrev pub digit : ℕ → ℕ
digit n = slice_index (codes "0123456789abcdef") n

-- the k lowest bytes of a number, lowest first, two digits each
abbrev pub hex : (k n : ℕ) → List ℕ
hex zero n = []
hex (suc k) n = digit (n / 16 % 16) ∷ digit (n % 16) ∷ hex k (n / 256)

-- the eight bytes of a word
unfoldable pub word_text : ℕ → List ℕ
word_text word = hex 8 word

abbrev pub digest_text : List ℤ → List ℕ
digest_text [] = []
digest_text (word ∷ words) = word_text (cast_unsigned w64 word) ++ digest_text words

-- the name of the fault, followed by two values
abbrev pub image_line : List ℕ → List ℕ → List ℕ → List ℕ
image_line name found wanted =
    codes "image " ++ (name ++ (32 ∷ (found ++ (32 ∷ (wanted ++ 10 ∷ [])))))

abbrev pub fault_line : ImageFault → List ℕ
fault_line (image.Short found needed) = image_line (codes "short") (decimal found) (decimal needed)
fault_line (image.Magic found wanted) =
    image_line (codes "magic") (signed_decimal found) (signed_decimal wanted)
fault_line (image.Version found wanted) =
    image_line (codes "version") (signed_decimal found) (signed_decimal wanted)
fault_line (image.Sizes found wanted) =
    image_line (codes "sizes") (signed_decimal found) (signed_decimal wanted)
fault_line (image.Digest found wanted) =
    image_line (codes "digest") (digest_text found) (digest_text wanted)
fault_line (image.Content word value) =
    image_line (codes "content") (decimal word) (signed_decimal value)
fault_line image.NoMemory = []

abbrev pub refusal_line : Refused → List ℕ
refusal_line refused.Usage =
    codes "usage: cnvm run PROGRAM SCRIPT | list PROGRAM | storm PROGRAM START COUNT"
    ++ codes " | why PROGRAM | workers PROGRAM SCRIPT | serve PROGRAM | emit PROGRAM"
    ++ codes " | code PROGRAM\n"
refusal_line refused.LongProgram = codes "program too long\n"
refusal_line (refused.Program line complaint) = complaint_line line complaint
refusal_line refused.LongScript = codes "script too long\n"
refusal_line (refused.Script number) = codes "script line " ++ (decimal number ++ 10 ∷ [])
refusal_line (refused.Image fault) = fault_line fault
refusal_line refused.Busy = codes "pool busy\n"
refusal_line refused.ReadFault = []
refusal_line refused.NoMemory = []

abbrev pub image_has_line : ImageFault → Bool
image_has_line (image.Short found needed) = true
image_has_line (image.Magic found wanted) = true
image_has_line (image.Version found wanted) = true
image_has_line (image.Sizes found wanted) = true
image_has_line (image.Digest found wanted) = true
image_has_line (image.Content word value) = true
image_has_line image.NoMemory = false

abbrev pub has_line : Refused → Bool
has_line refused.Usage = true
has_line refused.LongProgram = true
has_line (refused.Program line complaint) = true
has_line refused.LongScript = true
has_line (refused.Script number) = true
has_line (refused.Image fault) = image_has_line fault
has_line refused.Busy = true
has_line refused.ReadFault = false
has_line refused.NoMemory = false

abbrev pub image_status : ImageFault → Status
image_status (image.Short found needed) = status.Image
image_status (image.Magic found wanted) = status.Image
image_status (image.Version found wanted) = status.Image
image_status (image.Sizes found wanted) = status.Image
image_status (image.Digest found wanted) = status.Image
image_status (image.Content word value) = status.Image
image_status image.NoMemory = status.NoMemory

abbrev pub refusal_status : Refused → Status
refusal_status refused.Usage = status.Usage
refusal_status refused.LongProgram = status.Program
refusal_status (refused.Program line complaint) = status.Program
refusal_status refused.LongScript = status.Script
refusal_status (refused.Script number) = status.Script
refusal_status (refused.Image fault) = image_status fault
refusal_status refused.Busy = status.PoolBusy
refusal_status refused.ReadFault = status.ReadFault
refusal_status refused.NoMemory = status.NoMemory
