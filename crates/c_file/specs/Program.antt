-- What of the file is the program's own: its numbers, its functions, and which one a transaction
-- runs.
use Rattle.std.specs.Prelude.{ℕ, ◌+◌, List, [], ◌∷◌, ◌++◌, codes, flat_map, map, Bool, true, false}
use Rattle.std.specs.Prelude.{ℤ}
use Rattle.std.specs.Fmt.{decimal}
use Rattle.nvm_base.specs.Operations.{unsigned}
use Rattle.pool_layout.specs.declared.limits.Sizes.{Sizes}
use Rattle.pool_layout.specs.Sizes.{slot_words}
use Rattle.pool_layout.specs.declared.wanted.Wanted.{Wanted}
use Rattle.pm_machine.specs.declared.op.Function.{Function}
use Rattle.pm_machine.specs.Checked.{most_registers}
use Rattle.c_fragment.specs.Text.{functions_text}
use Rattle.c_fragment.specs.Translation.{c_function}
use Rattle.c_file.specs.declared.entry.Entry.{Entry}
use Rattle.c_file.specs.declared.pieces.Wording.TheVariants.{Element}
use Rattle.c_file.specs.declared.program.TheConstants.{NUMBERS_BEGIN, DIGEST, PARAMETERS}
use Rattle.c_file.specs.declared.program.TheConstants.{ROLLS_BACK, LOOKS, FUNCTIONS, RUN_BEGINS}
use Rattle.c_file.specs.declared.program.TheConstants.{RUN_ENDS}
use Rattle.c_file.specs.Pieces.{worded_from}

-- one constant, a line of an enum
unfoldable pub number_line : List ℕ → ℕ → List ℕ
number_line name n = name ++ (decimal n ++ codes ",\n")

unfoldable pub five_sizes : (slots records root_words slot_words ticks : ℕ) → List ℕ
five_sizes slots records root_words slot_words ticks =
    number_line (codes "    CN_SLOTS = ") slots ++ (number_line (codes "    CN_LOG = ") records
    ++ (number_line (codes "    CN_ROOT = ") root_words
    ++ (number_line (codes "    CN_SLOT = ") slot_words
    ++ number_line (codes "    CN_TICKS = ") ticks)))

abbrev pub sizes_text : Sizes → List ℕ
sizes_text s = five_sizes s.slots s.records s.root_words (slot_words s) s.ticks

unfoldable pub counts_text : (txs structs registers : ℕ) → List ℕ
counts_text txs structs registers =
    number_line (codes "    CN_TRANSACTIONS = ") txs
    ++ (number_line (codes "    CN_STRUCTS = ") structs
    ++ (number_line (codes "    CN_REGISTERS = ") registers ++ codes "};\n"))

unfoldable pub digest_number : ℕ → List ℕ
digest_number n = codes "UINT64_C(" ++ (decimal n ++ codes "), ")

-- a word of the digest, modulo 2^64
abbrev pub digest_item : ℤ → List ℕ
digest_item word = digest_number (unsigned word)

unfoldable pub digest_line : List ℤ → List ℕ
digest_line ws = DIGEST.now ++ (flat_map digest_item ws ++ codes "};\n")

abbrev pub parameters_item : Entry → List ℕ
parameters_item e = decimal e.parameters ++ codes ", "

abbrev pub flag : Bool → List ℕ
flag true = codes "1, "
flag false = codes "0, "

abbrev pub flag_item : Entry → List ℕ
flag_item e = flag e.rolls_back

abbrev pub looks_item : Entry → List ℕ
looks_item e = flag e.looks

-- of each transaction, the number of its parameters, whether a trap rolls it back, and whether it
-- only looks
unfoldable pub tables_text : List Entry → List ℕ
tables_text es =
    PARAMETERS.now ++ (flat_map parameters_item es ++ (ROLLS_BACK.now ++ (flat_map flag_item es
    ++ (LOOKS.now ++ (flat_map looks_item es ++ codes "0};\n")))))

unfoldable pub numbers_text : Wanted → List Entry → List Function → List ℕ
numbers_text wanted es us =
    NUMBERS_BEGIN.now ++ (sizes_text wanted.sizes
    ++ (counts_text wanted.txs wanted.structs (most_registers 0 us)
    ++ (digest_line wanted.digest ++ tables_text es)))

-- the case of transaction n, up to its arguments
unfoldable pub case_head : (n f : ℕ) → List ℕ
case_head n f =
    codes "    case " ++ (decimal n ++ (codes ": return cn_f" ++ (decimal f ++ codes "(p")))

-- transaction n + 1 runs its function on its arguments
unfoldable pub case_text : ℕ → Entry → List ℕ
case_text n e =
    case_head (n + 1) e.function ++ (worded_from Element 0 e.parameters ++ codes ");\n")

abbrev pub cases_from : ℕ → List Entry → List ℕ
cases_from n [] = []
cases_from n (e ∷ es) = case_text n e ++ cases_from (n + 1) es

unfoldable pub code_text : List ℕ → List Entry → List Function → List ℕ
code_text prefix es us =
    FUNCTIONS.now ++ (functions_text prefix (map c_function us) ++ (RUN_BEGINS.now
    ++ (cases_from 0 es ++ RUN_ENDS.now)))
