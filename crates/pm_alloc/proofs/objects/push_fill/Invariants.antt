use Rattle.std.proofs.Common.{◌≡◌, ◌+◌, ◌-◌, ◌++◌}
use Rattle.pm_alloc.specs.Pieces.{fill_code}
use Rattle.pm_alloc.proofs.objects.push_fill.Given as goal

abbrev pub invariant-loop-word : goal.invariant-loop-word
invariant-loop-word l = l.piece ++ fill_code l.sizes l.logged (l.word + 1) (l.words - l.word)
    ≡ l.initial.piece ++ fill_code l.sizes l.logged 1 l.words
