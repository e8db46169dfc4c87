-- A sink that is ended keeps what was written to it.
use Rattle.std.proofs.Common.{ℕ, List, [], Option, Some, None, sym, append-nil, ◌∙◌}
use Rattle.std.specs.Io.KnownBytes.{Appends, Keeps}
use Rattle.nvm_base.specs.Parts.{AppendsPart}

pub ended : (w w1 w2 : Option (List ℕ)) (bs : List ℕ) → Appends w w1 bs → Keeps w1 w2
    → Appends w w2 bs
ended None w1 w2 bs appends keeps = tt
ended (Some xs) None w2 bs appends keeps = absurd appends
ended (Some xs) (Some ys) None bs appends keeps = keeps
ended (Some xs) (Some ys) (Some zs) bs appends keeps = keeps ∙ appends

pub ended_part : (w w1 w2 : Option (List ℕ)) (bs : List ℕ) → Appends w w1 bs → Keeps w1 w2
    → AppendsPart w w2 bs
ended_part w w1 w2 bs appends keeps = record {
  part = bs;
  rest = [];
  split = sym (append-nil bs);
  appended = ended w w1 w2 bs appends keeps;
}
