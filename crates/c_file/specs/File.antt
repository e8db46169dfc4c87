-- The file: its notice, the header's text, the program's numbers, the runtime, the program's
-- functions, and what the header declares.
use Rattle.std.specs.Prelude.{ℕ, ◌+◌, List, [], ◌∷◌, ◌++◌, codes}
use Rattle.std.specs.Fmt.{decimal}
use Rattle.pool_layout.specs.declared.wanted.Wanted.{Wanted}
use Rattle.pm_machine.specs.declared.op.Function.{Function}
use Rattle.c_file.specs.declared.entry.Entry.{Entry}
use Rattle.c_file.specs.declared.pieces.Wording.TheVariants.{Argument}
use Rattle.c_file.specs.declared.notice.TheConstants.{NOTICE}
use Rattle.c_file.specs.declared.state.TheConstants.{STATE}
use Rattle.c_file.specs.declared.events.TheConstants.{EVENTS}
use Rattle.c_file.specs.declared.numbers.TheConstants.{NUMBERS}
use Rattle.c_file.specs.declared.heap.TheConstants.{HEAP}
use Rattle.c_file.specs.declared.protocol.TheConstants.{PROTOCOL}
use Rattle.c_file.specs.declared.content.TheConstants.{CONTENT}
use Rattle.c_file.specs.declared.files.TheConstants.{FILES}
use Rattle.c_file.specs.declared.header.TheConstants.{CREATE, OPEN}
use Rattle.c_file.specs.declared.file.TheConstants.{SHORT_MIDDLE}
use Rattle.c_file.specs.declared.outside.TheConstants.{OUTSIDE, CREATED, OPENED, CLOSED}
use Rattle.c_file.specs.declared.outside.TheConstants.{DONE, LAST, WORDS, COUNTS_BEGIN, COUNTS_END}
use Rattle.c_file.specs.Pieces.{twice, worded_from, entry_head}
use Rattle.c_file.specs.Header.{header_text}
use Rattle.c_file.specs.Program.{numbers_text, code_text}

-- the short name that the runtime has for the pool
unfoldable pub short_name : List ℕ → List ℕ
short_name prefix =
    twice (codes "\n/* The runtime calls struct ") SHORT_MIDDLE.now (codes "_pool\n\n") prefix

unfoldable pub runtime_words : List ℕ
runtime_words = STATE.now ++ (EVENTS.now ++ (NUMBERS.now ++ HEAP.now))

unfoldable pub runtime_files : List ℕ
runtime_files = PROTOCOL.now ++ (CONTENT.now ++ FILES.now)

unfoldable pub making_defined : List ℕ → List ℕ
making_defined prefix =
    twice (codes "struct ") (codes "_pool *") CREATE.now prefix ++ (CREATED.now
    ++ (twice (codes "struct ") (codes "_pool *") OPEN.now prefix ++ OPENED.now))

unfoldable pub using_defined : List ℕ → List ℕ
using_defined prefix =
    twice (codes "void ") (codes "_pool_close(struct ") CLOSED.now prefix
    ++ (twice (codes "uint64_t ") (codes "_pool_done(struct ") DONE.now prefix
    ++ (twice (codes "int64_t ") (codes "_pool_last(struct ") LAST.now prefix
    ++ twice COUNTS_BEGIN.now (codes "_pool_events(struct ") COUNTS_END.now prefix))

-- the call of transaction n, after its arguments
unfoldable pub call_text : ℕ → List ℕ
call_text n = codes "0};\n    return cn_call(pool, " ++ (decimal n ++ codes ", args);\n}\n")

-- the function of transaction n + 1
unfoldable pub entry_defined : List ℕ → ℕ → Entry → List ℕ
entry_defined prefix n e =
    codes "\n" ++ (entry_head prefix e ++ (WORDS.now ++ (worded_from Argument 0 e.parameters
    ++ call_text (n + 1))))

abbrev pub defined_from : List ℕ → ℕ → List Entry → List ℕ
defined_from prefix n [] = []
defined_from prefix n (e ∷ es) = entry_defined prefix n e ++ defined_from prefix (n + 1) es

-- the functions that the header declares
unfoldable pub outside_text : List ℕ → List Entry → List ℕ
outside_text prefix es =
    OUTSIDE.now ++ (making_defined prefix ++ (using_defined prefix ++ defined_from prefix 0 es))

-- what comes before the runtime, and after it
unfoldable pub before_text : List ℕ → Wanted → List Entry → List Function → List ℕ
before_text prefix wanted es us =
    NOTICE.now ++ (header_text prefix es ++ (short_name prefix ++ numbers_text wanted es us))

abbrev pub file_text : List ℕ → Wanted → List Entry → List Function → List ℕ
file_text prefix wanted es us =
    before_text prefix wanted es us ++ (runtime_words ++ (runtime_files
    ++ (code_text prefix es us ++ outside_text prefix es)))
