use Rattle.std.proofs.Common.{◌≡◌, ◌++◌, drop, string_bytes}
use Rattle.cnvm_cli.specs.RefusalText.{digest_text}
use Rattle.cnvm_cli.proofs.refused.push_digest.Given as goal

-- the words so far, followed by those that are left, are all of them
abbrev pub invariant-loop-word : goal.invariant-loop-word
invariant-loop-word l =
    string_bytes l.line ++ digest_text (drop l.word-index l.digest) ≡ string_bytes l.initial.line
    ++ digest_text l.digest
