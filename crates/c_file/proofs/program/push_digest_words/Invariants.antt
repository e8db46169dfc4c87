use Rattle.std.proofs.Common.{◌≡◌, ◌++◌, drop, flat_map}
use Rattle.c_file.specs.Program.{digest_item}
use Rattle.c_file.proofs.program.push_digest_words.Given as goal

abbrev pub invariant-loop-word : goal.invariant-loop-word
invariant-loop-word l =
    l.text ++ flat_map digest_item (drop l.word-index l.digest)
    ≡ l.initial.text ++ flat_map digest_item l.digest
