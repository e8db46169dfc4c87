use Rattle.std.proofs.Common.{◌<◌, List, ℤ, length, get_or, pos, ap, ◌∙◌, arith, rules, w64}
use Rattle.std.proofs.Common.{FitsSigned}
use Rattle.std.proofs.lemmas.Int.{to_z-of_z}
use Rattle.pool_layout.proofs.KeptWords.{room_kept, word_shown}
use Rattle.pool_layout.proofs.raw.RawImage.word.Goals as goal

room : (c : goal.After-as_slice-words) → c.args.k < length c.as_slice-words.result.now
room c =
    rw c.as_slice-words.ensures (room_kept c.self.inside.words c.self.inside.rest c.args.self.now
    c.args.k c.self.view_is c.self.invariant.1 c.requires)

pub bounds-words-k : goal.bounds-words-k
bounds-words-k c = room c

pub offset_bounds-words-k : goal.offset_bounds-words-k
offset_bounds-words-k c =
    let lt = room c in
    omega (arith, lt, c.as_slice-words.type_inv)

pub returns : goal.returns
returns c =
    let ws : List ℤ = c.as_slice-words.result.now in
    let fits : FitsSigned w64 (get_or ws c.args.k (pos 0)) = search rules in
    to_z-of_z w64 (get_or ws c.args.k (pos 0)) fits
    ∙ ap (λ (xs : List ℤ). get_or xs c.args.k (pos 0)) c.as_slice-words.ensures
    ∙ word_shown c.self.inside.words c.self.inside.rest c.args.self.now c.args.k c.self.view_is
    c.self.invariant c.requires
