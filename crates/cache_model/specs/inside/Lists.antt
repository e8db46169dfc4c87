-- What only bodies and proofs need beside `Lists`.
use Rattle.std.specs.Prelude.{ℕ, ◌<◌, List, [], ◌∷◌, ◌++◌, length, drop}
use Rattle.std.specs.Prelude.{replicate, slice_index_or, slice_set, Option, Some, None, ℤ, pos}
use Rattle.cache_model.specs.declared.choice.Rest.{Rest}
use Rattle.cache_model.specs.declared.choice.Rest.TheVariants.{Old, New}
use Rattle.cache_model.specs.declared.choice.Pick.{Pick}
use Rattle.cache_model.specs.Lists.{ListLine, blank_list}

-- a line of zeros
abbrev pub zero_list : ListLine
zero_list = record { older = []; newest = replicate 8 (pos 0); mark = None }

-- the effect of a store, a flush, a fence and a power cut on a line as lists
abbrev pub list_store : ListLine → ℕ → ℤ → ListLine
list_store y o x = record {
  older = y.older ++ y.newest ∷ [];
  newest = slice_set y.newest o x;
  mark = y.mark;
}

abbrev pub list_mark : List (List ℤ) → Option ℕ → Option ℕ
list_mark [] m = m
list_mark (v ∷ vs) m = Some (length (v ∷ vs))

abbrev pub list_flush : ListLine → ListLine
list_flush y = record { older = y.older; newest = y.newest; mark = list_mark y.older y.mark }

abbrev pub list_fence_at : Option ℕ → ListLine → ListLine
list_fence_at None y = y
list_fence_at (Some k) y = record { older = drop k y.older; newest = y.newest; mark = None }

abbrev pub list_fence : ListLine → ListLine
list_fence y = list_fence_at y.mark y

-- the line keeps only this version; an index past the older ones means the newest
abbrev pub list_keep : ℕ → ListLine → ListLine
list_keep k y = record { older = []; newest = slice_index_or y.older k y.newest; mark = None }

abbrev pub list_rest : Rest → ListLine → ListLine
list_rest Old y = list_keep 0 y
list_rest New y = record { older = []; newest = y.newest; mark = None }

-- the picked lines keep the versions that the picks name; the others stay
abbrev pub list_picked : List ListLine → List Pick → List ListLine
list_picked ls [] = ls
list_picked ls (p ∷ ps) = list_picked
    (slice_set ls p.line (list_keep p.version (slice_index_or ls p.line blank_list))) ps

-- the lines of the picks are below the given number of lines
abbrev pub AreIn : ℕ → List Pick → Type 0
AreIn n [] = Unit {0}
AreIn n (p ∷ ps) = (p.line < n) × AreIn n ps
