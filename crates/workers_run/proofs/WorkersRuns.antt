-- The commands of a script are run one after another, and their lines are written one after
-- another.
use Rattle.std.proofs.Common.{◌≡◌, ℕ, ◌+◌, ◌<◌, ◌≤◌, List, [], Option, Some, None, length, drop}
use Rattle.std.proofs.Common.{get_or, inl, inr, refl, sym, subst, append-nil}
use Rattle.std.proofs.lemmas.List.{drop_all}
use Rattle.std.specs.Io.KnownBytes.{Appends}
use Rattle.nvm_base.specs.Parts.{AppendsPart}
use Rattle.nvm_base.proofs.Pieces.{appends_more, appends_part_after, appends_part_before}
use Rattle.c_types.proofs.Elements.{drop_at}
use Rattle.cnvm_session.specs.declared.program.Program.{Program}
use Rattle.workers_script.specs.declared.command.WorkersCommand.{WorkersCommand}
use Rattle.workers_session.specs.declared.line.WorkersLine.{WorkersLine}
use Rattle.workers_session.specs.LineText.{line_text}
use Rattle.workers_session.specs.WorkersCommands.{Scene, WorkersCommanded}
use Rattle.workers_run.specs.WorkersRan.{lines_text, RunsWorkers, BreaksOff}

-- nothing is written
pub appends_none : (w : Option (List ℕ)) → Appends w w []
appends_none None = tt
appends_none (Some bytes) = sym (append-nil bytes)

pub part_none : (w : Option (List ℕ)) (text : List ℕ) → AppendsPart w w text
part_none w text = record { part = []; rest = text; split = refl; appended = appends_none w }

module _ (ls : List WorkersLine) (i : ℕ) (x : WorkersLine) (less : i < length ls)
    (is : x ≡ get_or ls i x) where
  -- a line is written, and then all or some of the rest
  pub lines_more : (a b c : Option (List ℕ)) → Appends a b (line_text x)
      → Appends b c (lines_text (drop (i + 1) ls)) → Appends a c (lines_text (drop i ls))
  lines_more a b c first next =
      subst (λ (l : List WorkersLine). Appends a c (lines_text l)) (sym (drop_at ls i x less is))
      (appends_more a b c (line_text x) (lines_text (drop (i + 1) ls)) first next)

  pub lines_part_more : (a b c : Option (List ℕ)) → Appends a b (line_text x)
      → AppendsPart b c (lines_text (drop (i + 1) ls)) → AppendsPart a c (lines_text (drop i ls))
  lines_part_more a b c first next =
      subst (λ (l : List WorkersLine). AppendsPart a c (lines_text l))
      (sym (drop_at ls i x less is))
      (appends_part_after a b c (line_text x) (lines_text (drop (i + 1) ls)) first next)

  -- a part of the line is written
  pub lines_part_here : (a b : Option (List ℕ)) → AppendsPart a b (line_text x)
      → AppendsPart a b (lines_text (drop i ls))
  lines_part_here a b some =
      subst (λ (l : List WorkersLine). AppendsPart a b (lines_text l))
      (sym (drop_at ls i x less is))
      (appends_part_before a b (line_text x) (lines_text (drop (i + 1) ls)) some)

-- no line is left
pub lines_none : (ls : List WorkersLine) (i : ℕ) (w : Option (List ℕ)) → length ls ≤ i
    → Appends w w (lines_text (drop i ls))
lines_none ls i w none =
    subst (λ (l : List WorkersLine). Appends w w (lines_text l)) (sym (drop_all i ls none))
    (appends_none w)

module _ (p : Program) (cs : List WorkersCommand) (i : ℕ) (c : WorkersCommand)
    (less : i < length cs) (is : c ≡ get_or cs i c) (x : Scene) (lines : List WorkersLine)
    (z : Scene) (done : WorkersCommanded p c x lines z) (w : Option (List ℕ)) where
  -- a command is done, and then all or some of the rest
  pub runs_more : (y : Scene) (w1 w' : Option (List ℕ)) → Appends w w1 (lines_text lines)
      → RunsWorkers p (drop (i + 1) cs) z w1 y w' → RunsWorkers p (drop i cs) x w y w'
  runs_more y w1 w' told rest =
      subst (λ (l : List WorkersCommand). RunsWorkers p l x w y w')
      (sym (drop_at cs i c less is)) (lines, z, w1, done, told, rest)

  pub breaks_more : (y : Scene) (w1 w' : Option (List ℕ)) → Appends w w1 (lines_text lines)
      → BreaksOff p (drop (i + 1) cs) z w1 y w' → BreaksOff p (drop i cs) x w y w'
  breaks_more y w1 w' told rest =
      subst (λ (l : List WorkersCommand). BreaksOff p l x w y w')
      (sym (drop_at cs i c less is)) (inr (lines, z, w1, done, told, rest))

  -- a command is done, and a part of its lines is written
  pub breaks_here : (w' : Option (List ℕ)) → AppendsPart w w' (lines_text lines)
      → BreaksOff p (drop i cs) x w z w'
  breaks_here w' some =
      subst (λ (l : List WorkersCommand). BreaksOff p l x w z w')
      (sym (drop_at cs i c less is)) (inl (lines, done, some))
