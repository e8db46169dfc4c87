-- The header: types that all programs share, and the functions of a program's pools.
use Rattle.std.specs.Prelude.{ℕ, List, [], ◌∷◌, ◌++◌, codes, flat_map}
use Rattle.c_file.specs.declared.entry.Entry.{Entry}
use Rattle.c_file.specs.declared.types.TheConstants.{TYPES}
use Rattle.c_file.specs.declared.header.TheConstants.{GUARD_MIDDLE, GUARD_LAST, HEADER_ENDS}
use Rattle.c_file.specs.declared.header.TheConstants.{CREATE, OPEN, COUNTS_FIRST, COUNTS_LAST}
use Rattle.c_file.specs.Pieces.{twice, entry_head}

unfoldable pub guard_text : List ℕ → List ℕ
guard_text prefix = twice (codes "#ifndef CNVM_POOL_") GUARD_MIDDLE.now GUARD_LAST.now prefix

-- the pool, and the functions that make and open one
unfoldable pub making_declared : List ℕ → List ℕ
making_declared prefix =
    twice (codes "/* A pool of the program ") (codes ". */\nstruct ") (codes "_pool;\n\n") prefix
    ++ (twice (codes "struct ") (codes "_pool *") CREATE.now prefix ++ (codes ";\n"
    ++ (twice (codes "struct ") (codes "_pool *") OPEN.now prefix ++ codes ";\n")))

-- the functions that close one, and tell how many calls it has finished, the last one's value, and
-- the events where they are counted
unfoldable pub using_declared : List ℕ → List ℕ
using_declared prefix =
    twice (codes "void ") (codes "_pool_close(struct ") (codes "_pool *pool);\n") prefix
    ++ (twice (codes "uint64_t ") (codes "_pool_done(struct ") (codes "_pool *pool);\n") prefix
    ++ (twice (codes "int64_t ") (codes "_pool_last(struct ") (codes "_pool *pool);\n") prefix
    ++ twice COUNTS_FIRST.now (codes "_pool_events(struct ") COUNTS_LAST.now prefix))

unfoldable pub entry_declared : List ℕ → Entry → List ℕ
entry_declared prefix e = entry_head prefix e ++ codes ";\n"

-- what a program's header declares, under a guard
unfoldable pub declared_text : List ℕ → List Entry → List ℕ
declared_text prefix es =
    guard_text prefix ++ (making_declared prefix ++ (using_declared prefix
    ++ (flat_map (entry_declared prefix) es ++ HEADER_ENDS.now)))

abbrev pub header_text : List ℕ → List Entry → List ℕ
header_text prefix es = TYPES.now ++ declared_text prefix es
