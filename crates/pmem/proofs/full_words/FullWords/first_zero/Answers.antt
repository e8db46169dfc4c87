use Rattle.std.proofs.Common.{sym, subst}
use Rattle.pmem.specs.inside.Known.{IsKnown}
use Rattle.pmem.proofs.full_words.FullWords.first_zero.Goals.{then-self-word}
use Rattle.pmem.proofs.full_words.FullWords.first_zero.Goals.{else-self-word+else-self-apart}
use Rattle.pmem.proofs.full_words.FullWords.first_zero.Goals as goal

pub search-found-requires-clause-known : goal.search-found-requires-clause-known
search-found-requires-clause-known c = elim c.if-self-word.branch [
  | then-self-word w ↦ subst (IsKnown c.args.words.now) (sym w.self-is)
      (w.start_at.ensures.known c.args.words.now)
  | else-self-word+else-self-apart w ↦ subst (IsKnown c.args.words.now) (sym w.self-is)
      c.requires.known
]
