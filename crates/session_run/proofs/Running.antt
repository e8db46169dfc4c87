-- The commands of a script are run one after another.
use Rattle.std.proofs.Common.{◌≡◌, ℕ, ◌+◌, ◌<◌, ◌≤◌, List, ◌∷◌, Option, Some, None, length, drop}
use Rattle.std.proofs.Common.{get_or, inl, inr, refl, sym, subst, drop-cons, add-one, suc, ap, ◌∙◌}
use Rattle.std.proofs.Common.{Bool, ◌||◌, ℤ}
use Rattle.std.proofs.lemmas.List.{drop_all}
use Rattle.std.specs.Io.KnownBytes.{Appends, Keeps}
use Rattle.nvm_base.specs.Parts.{AppendsPart}
use Rattle.pmem.specs.Device.{Device}
use Rattle.cnvm_script.specs.declared.command.Command.{Command}
use Rattle.cnvm_session.specs.declared.answer.Answer.{Answer}
use Rattle.cnvm_session.specs.declared.mode.Mode.{Mode}
use Rattle.cnvm_session.specs.declared.program.Program.{Program}
use Rattle.cnvm_session.specs.AnswerText.{answer_text}
use Rattle.cnvm_session.specs.Commands.{Commanded}
use Rattle.cnvm_session.specs.Outcomes.{Opens}
use Rattle.session_run.specs.declared.status.Status.{Status}
use Rattle.session_run.specs.declared.status.Status.TheVariants as status
use Rattle.session_run.specs.Commands.{RunsAndWrites, RunsPart, CommandsEnd, OpenedAs}
use Rattle.session_run.specs.Strict.{is_refused}

pub keeps_same : (w : Option (List ℕ)) → Keeps w w
keeps_same None = tt
keeps_same (Some xs) = refl

pub commands_at : (cs : List Command) (i : ℕ) (x : Command) → i < length cs → x ≡ get_or cs i x
    → drop i cs ≡ x ∷ drop (i + 1) cs
commands_at cs i x less is =
    drop-cons cs i x less ∙ (rw (add-one) (ap (λ (y : Command). y ∷ drop (suc i) cs) (sym is)))

-- one command is answered, and then all or some of the rest
pub runs_more : (p : Program) (cs : List Command) (i : ℕ) (x : Command) (m m1 : Mode)
    (d d1 d' : Device) (w w1 w' : Option (List ℕ)) (k k1 k' : ℕ) (u u1 u' : Bool) (answer : Answer)
    → i < length cs → x ≡ get_or cs i x → Commanded p x m d answer m1 d1 k k1
    → Appends w w1 (answer_text answer) → u1 ≡ (u || is_refused answer)
    → RunsAndWrites p (drop (i + 1) cs) m1 d1 w1 k1 u1 d' w' k' u'
    → RunsAndWrites p (drop i cs) m d w k u d' w' k' u'
runs_more p cs i x m m1 d d1 d' w w1 w' k k1 k' u u1 u' answer less is one line unmet rest =
    let others = subst (λ (v : Bool). RunsAndWrites p (drop (i + 1) cs) m1 d1 w1 k1 v d' w' k' u')
    unmet rest in
    subst (λ (l : List Command). RunsAndWrites p l m d w k u d' w' k' u')
    (sym (commands_at cs i x less is)) (answer, m1, d1, w1, k1, one, line, others)

pub part_more : (p : Program) (cs : List Command) (i : ℕ) (x : Command) (m m1 : Mode)
    (d d1 d' : Device) (w w1 w' : Option (List ℕ)) (k k1 k' : ℕ) (answer : Answer)
    → i < length cs → x ≡ get_or cs i x → Commanded p x m d answer m1 d1 k k1
    → Appends w w1 (answer_text answer)
    → RunsPart p (drop (i + 1) cs) m1 d1 w1 k1 d' w' k' → RunsPart p (drop i cs) m d w k d' w' k'
part_more p cs i x m m1 d d1 d' w w1 w' k k1 k' answer less is one line rest =
    subst (λ (l : List Command). RunsPart p l m d w k d' w' k') (sym (commands_at cs i x less is))
    (inr (answer, m1, d1, w1, k1, one, line, rest))

-- one command is answered, and a part of its lines is written
pub part_here : (p : Program) (cs : List Command) (i : ℕ) (x : Command) (m m1 : Mode)
    (d d' : Device) (w w' : Option (List ℕ)) (k k' : ℕ) (answer : Answer)
    → i < length cs → x ≡ get_or cs i x → Commanded p x m d answer m1 d' k k'
    → AppendsPart w w' (answer_text answer)
    → RunsPart p (drop i cs) m d w k d' w' k'
part_here p cs i x m m1 d d' w w' k k' answer less is one part =
    subst (λ (l : List Command). RunsPart p l m d w k d' w' k') (sym (commands_at cs i x less is))
    (inl (answer, m1, one, part))

-- no command is left
pub runs_none : (p : Program) (cs : List Command) (i : ℕ) (m : Mode) (d : Device)
    (w : Option (List ℕ)) (k : ℕ) (u : Bool)
    → length cs ≤ i → RunsAndWrites p (drop i cs) m d w k u d w k u
runs_none p cs i m d w k u none =
    subst (λ (l : List Command). RunsAndWrites p l m d w k u d w k u) (sym (drop_all i cs none))
    (refl, refl, refl, refl)

-- the pool was opened, its answer was written, and then the commands ended so
pub opened_ends : (p : Program) (cs : List Command) (words : List ℤ) (result : Status)
    (answer : Answer) (m : Mode) (d b d' : Device) (w w1 w' : Option (List ℕ)) (k k1 k' : ℕ)
    → Opens p words d answer m b k k1 → Appends w w1 (answer_text answer)
    → CommandsEnd p cs result m b w1 k1 d' w' k' → OpenedAs p cs words result w w' d d' k k'
opened_ends p cs words status.Done answer m d b d' w w1 w' k k1 k' opens line ran =
    (answer, m, b, w1, k1, opens, line, ran)
opened_ends p cs words status.Unmet answer m d b d' w w1 w' k k1 k' opens line ran =
    (answer, m, b, w1, k1, opens, line, ran)
opened_ends p cs words status.WriteFault answer m d b d' w w1 w' k k1 k' opens line ran =
    inr (answer, m, b, w1, k1, opens, line, ran)
opened_ends p cs words status.NoMemory answer m d b d' w w1 w' k k1 k' opens line (inl never) =
    absurd never
opened_ends p cs words status.NoMemory answer m d b d' w w1 w' k k1 k' opens line (inr ran) =
    inr (inr (answer, m, b, w1, k1, opens, line, ran))
opened_ends p cs words status.Usage answer m d b d' w w1 w' k k1 k' opens line never = absurd never
opened_ends p cs words status.Program answer m d b d' w w1 w' k k1 k' opens line never =
    absurd never
opened_ends p cs words status.Script answer m d b d' w w1 w' k k1 k' opens line never =
    absurd never
opened_ends p cs words status.ReadFault answer m d b d' w w1 w' k k1 k' opens line never =
    absurd never
opened_ends p cs words status.DeviceFault answer m d b d' w w1 w' k k1 k' opens line never =
    absurd never
opened_ends p cs words status.Image answer m d b d' w w1 w' k k1 k' opens line never = absurd never
opened_ends p cs words status.PoolBusy answer m d b d' w w1 w' k k1 k' opens line never =
    absurd never
