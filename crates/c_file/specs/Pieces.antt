-- Pieces of text that several parts of the file have.
use Rattle.std.specs.Prelude.{ℕ, zero, suc, ◌+◌, Bool, true, false, List, [], ◌∷◌, ◌++◌, codes}
use Rattle.std.specs.Fmt.{decimal}
use Rattle.c_file.specs.declared.entry.Entry.{Entry}
use Rattle.c_file.specs.declared.pieces.Wording.{Wording}
use Rattle.c_file.specs.declared.pieces.Wording.TheVariants.{Argument, Element}

-- `first P middle P last`, where P is the prefix of the program's names
unfoldable pub twice : (first middle last prefix : List ℕ) → List ℕ
twice first middle last prefix = first ++ (prefix ++ (middle ++ (prefix ++ last)))

-- argument k of a transaction as its caller hands it in
abbrev pub parameter : (unsigned : Bool) → (k : ℕ) → List ℕ
parameter true k = codes ", uint64_t a" ++ decimal k
parameter false k = codes ", int64_t a" ++ decimal k

-- the arguments from argument k on, by whether each is of `uint64_t`
abbrev pub parameters_from : (k : ℕ) → List Bool → List ℕ
parameters_from k [] = []
parameters_from k (u ∷ us) = parameter u k ++ parameters_from (k + 1) us

-- argument k as a word, and out of the record
abbrev pub worded : Wording → ℕ → List ℕ
worded Argument k = codes "(uint64_t)a" ++ (decimal k ++ codes ", ")
worded Element k = codes ", args[" ++ (decimal k ++ codes "]")

-- n arguments from argument k on
abbrev pub worded_from : Wording → (k n : ℕ) → List ℕ
worded_from how k zero = []
worded_from how k (suc n) = worded how k ++ worded_from how (k + 1) n

-- the beginning of the head of a transaction's function
unfoldable pub entry_name : (prefix name : List ℕ) → List ℕ
entry_name prefix name =
    codes "struct cnvm_answer " ++ (prefix ++ (codes "_" ++ (name ++ codes "(struct ")))

-- the head of a transaction's function
unfoldable pub entry_head : List ℕ → Entry → List ℕ
entry_head prefix e =
    entry_name prefix e.name ++ (prefix ++ (codes "_pool *pool"
    ++ (parameters_from 0 e.types ++ codes ")")))
