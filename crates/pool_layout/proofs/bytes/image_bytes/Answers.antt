use Rattle.std.proofs.Common.{◌<◌, length, rules, arith, FitsSigned, w64, get_or, pos}
use Rattle.std.proofs.lemmas.Int.{to_z-of_z}
use Rattle.pool_layout.proofs.Words.{bytes_of-drop}
use Rattle.pool_layout.proofs.bytes.image_bytes.Goals as goal

pub loop-word-preserved : goal.loop-word-preserved
loop-word-preserved c =
    let lt : c.loop-word.word-index < length c.args.words.now = omega arith in
    let fits : FitsSigned w64 (get_or c.args.words.now c.loop-word.word-index (pos 0)) =
    search rules in
    rw (simp to_z-of_z at c.in_ok-push_word.ensures, bytes_of-drop) c.loop-word.invariant
