-- Commands are run on a pool that is held by a file.
use Rattle.std.proofs.Common.{◌≡◌, ◌≢◌, ℕ, zero, suc, ◌+◌, ◌*◌, ◌<◌, List, [], ◌∷◌, Option, length}
use Rattle.std.proofs.Common.{drop, get_or, slice_index_or, Result, Ok, Err, OnOk, IfOk, IfErr, ℤ}
use Rattle.std.proofs.Common.{pos}
use Rattle.std.proofs.Common.{inl, inr, refl, ap, sym, subst, ◌∙◌, arith, Bool, true, false, ◌||◌}
use Rattle.std.specs.Io.KnownBytes.{Appends}
use Rattle.cache_model.specs.Cache.{Words, Cache, Memory, view}
use Rattle.pmem.specs.Device.{Device, blanked}
use Rattle.pmem.specs.Played.{PlaysAll}
use Rattle.pmem.proofs.Refused.{all_cache}
use Rattle.file_pmem.specs.File.{FileLines, HoldsWords}
use Rattle.pmem.specs.Switch.{untold}
use Rattle.pmem.specs.declared.switch.Switch.{Switch}
use Rattle.file_pmem.specs.Mirror.{MarksFit, IsMirror, FileParts, file_device}
use Rattle.file_pmem.specs.declared.link.MirrorState.{MirrorState}
use Rattle.file_pmem.specs.declared.link.MirrorState.TheVariants.{Awake}
use Rattle.file_pmem.proofs.Crashes.{holds}
use Rattle.pm_machine.specs.HeapPool.{words_from}
use Rattle.pool_layout.specs.declared.limits.Sizes.{Sizes}
use Rattle.pool_layout.specs.Sizes.{pool_lines}
use Rattle.cnvm_script.specs.declared.command.Command.{Command}
use Rattle.cnvm_session.specs.declared.answer.Answer.{Answer}
use Rattle.cnvm_session.specs.declared.creating.StartFault.{StartFault}
use Rattle.cnvm_session.specs.declared.mode.Mode.{Mode}
use Rattle.cnvm_session.specs.declared.mode.Mode.TheVariants.{Ready}
use Rattle.cnvm_session.specs.declared.program.Program.{Program}
use Rattle.cnvm_session.specs.AnswerText.{answer_text}
use Rattle.cnvm_session.specs.Commands.{Commanded}
use Rattle.cnvm_session.specs.Opening.{opening_events}
use Rattle.cnvm_session.specs.Outcomes.{Opens, Recovers}
use Rattle.cnvm_session.proofs.Writing.{written_word}
use Rattle.session_run.specs.declared.held.Unheld.{Unheld}
use Rattle.session_run.specs.declared.held.Unheld.TheVariants as unheld
use Rattle.session_run.specs.declared.status.Status.{Status}
use Rattle.session_run.specs.declared.status.Status.TheVariants as status
use Rattle.session_run.specs.AsStatus.{AsStatus}
use Rattle.session_run.specs.Commands.{RunsAndWrites, RunsPart, OpensAll, OpensPart}
use Rattle.session_run.specs.Made.{Unopened}
use Rattle.session_run.specs.Held.{RunsSome, EndsAt, BreaksOff, OpensTold, AnswersAs, HeldAs}
use Rattle.session_run.specs.Held.{NewAs, created_line, status_of}
use Rattle.session_run.specs.Strict.{is_refused, IsAnswered}
use Rattle.session_run.proofs.Running.{commands_at, part_here}

-- one command is answered, and then some first ones of the rest
pub some_more : (p : Program) (cs : List Command) (i : ℕ) (x : Command) (m m1 : Mode)
    (d d1 d' : Device) (w w1 w' : Option (List ℕ)) (k k1 k' : ℕ) (u u1 : Bool) (answer : Answer)
    → i < length cs → x ≡ get_or cs i x → Commanded p x m d answer m1 d1 k k1
    → Appends w w1 (answer_text answer) → u1 ≡ (u || is_refused answer)
    → RunsSome p (drop (i + 1) cs) m1 d1 w1 k1 u1 d' w' k'
    → RunsSome p (drop i cs) m d w k u d' w' k'
some_more p cs i x m m1 d d1 d' w w1 w' k k1 k' u u1 answer less is one line unmet rest = (
  x ∷ rest.0,
  rest.1,
  commands_at cs i x less is ∙ ap (λ (y : List Command). x ∷ y) rest.2,
  rest.3,
  (
    answer,
    m1,
    d1,
    w1,
    k1,
    one,
    line,
    subst (λ (v : Bool). RunsAndWrites p rest.0 m1 d1 w1 k1 v d' w' k' rest.3) unmet rest.4,
  ),
)

-- one command is answered, and no more
pub some_here : (p : Program) (cs : List Command) (i : ℕ) (x : Command) (m m1 : Mode)
    (d d' : Device) (w w' : Option (List ℕ)) (k k' : ℕ) (u : Bool) (answer : Answer)
    → i < length cs → x ≡ get_or cs i x → Commanded p x m d answer m1 d' k k'
    → Appends w w' (answer_text answer) → RunsSome p (drop i cs) m d w k u d' w' k'
some_here p cs i x m m1 d d' w w' k k' u answer less is one line = (
  x ∷ [],
  drop (i + 1) cs,
  commands_at cs i x less is,
  (u || is_refused answer),
  (answer, m1, d', w', k', one, line, (refl, refl, refl, refl)),
)

-- a command is answered, and the run ends there
pub broken_here : (why : Unheld) (s : MirrorState) (p : Program) (cs : List Command) (i : ℕ)
    (x : Command) (m m1 m0 : Mode) (d d' d0 : Device) (w w' w0 : Option (List ℕ)) (k k' k0 : ℕ)
    (u : Bool) (answer : Answer)
    → ((e : Device) (v : Option (List ℕ)) (j : ℕ) → RunsPart p (drop i cs) m d w k e v j
    → RunsPart p cs m0 d0 w0 k0 e v j)
    → ((e : Device) (v : Option (List ℕ)) (j : ℕ) → RunsSome p (drop i cs) m d w k u e v j
    → RunsSome p cs m0 d0 w0 k0 false e v j)
    → i < length cs → x ≡ get_or cs i x → Commanded p x m d answer m1 d' k k'
    → EndsAt why s w w' (answer_text answer) → BreaksOff why s p cs m0 d0 w0 k0 d' w' k'
broken_here unheld.NoMemory s p cs i x m m1 m0 d d' d0 w w' w0 k k' k0 u answer part some less is
    one ends = part d' w' k' (part_here p cs i x m m1 d d' w w' k k' answer less is one ends)
broken_here unheld.WriteFault s p cs i x m m1 m0 d d' d0 w w' w0 k k' k0 u answer part some less is
    one ends = part d' w' k' (part_here p cs i x m m1 d d' w w' k k' answer less is one ends)
broken_here unheld.GivenUp s p cs i x m m1 m0 d d' d0 w w' w0 k k' k0 u answer part some less is one
    ends = (
      some d' w' k' (some_here p cs i x m m1 d d' w w' k k' u answer less is one ends.0),
      ends.1,
    )

-- the events that open a pool, with its sizes by another name
pub plays_sized : (y z : Sizes) (words : List ℤ) (d e : Device) → y ≡ z
    → PlaysAll (blanked (pool_lines y) d) (opening_events (pool_lines y) words) e
    → PlaysAll (blanked (pool_lines z) d) (opening_events (pool_lines z) words) e
plays_sized y z words d e same played =
    subst (λ (x : Sizes). PlaysAll (blanked (pool_lines x) d) (opening_events (pool_lines x) words)
    e) same played

-- the pool lay on a device that equals the opened one
pub opens_held : (program : Program) (words : List ℤ) (d o e b : Device) (answer : Answer)
    (m : Mode) (k k1 : ℕ) → e ≡ o
    → PlaysAll (blanked (pool_lines program.image.parts.sizes) d)
    (opening_events (pool_lines program.image.parts.sizes) words) o
    → Recovers program e answer m b k k1 → Opens program words d answer m b k k1
opens_held program words d o e b answer m k k1 same written recovers = record {
  opened = o;
  written = written;
  recovers = subst (λ (x : Device). Recovers program x answer m b k k1) same recovers;
}

-- how commands end that were answered so
answers_so : (program : Program) (commands : List Command) (s : MirrorState)
    (w w' : Option (List ℕ)) (d d' : Device) (k k' : ℕ) (m : Mode) (r : Result Bool Unheld)
    → IfOk r (λ unmet. RunsAndWrites program commands m d w k false d' w' k' unmet)
    → IfErr r (λ why. BreaksOff why s program commands m d w k d' w' k') → OnOk r (s ≡ Awake)
    → AnswersAs program commands m (status_of r) s w w' d d' k k'
answers_so program commands s w w' d d' k k' m (Ok false) all broken kept = (all, kept)
answers_so program commands s w w' d d' k k' m (Ok true) all broken kept = (all, kept)
answers_so program commands s w w' d d' k k' m (Err unheld.NoMemory) all broken kept = broken
answers_so program commands s w w' d d' k k' m (Err unheld.WriteFault) all broken kept = broken
answers_so program commands s w w' d d' k k' m (Err unheld.GivenUp) all broken kept = broken

-- the same of a status and of commands by other names
pub answers_as : (program : Program) (own commands : List Command) (s : MirrorState)
    (result : Status) (w w' : Option (List ℕ)) (d d' : Device) (k k' : ℕ) (m : Mode)
    (r : Result Bool Unheld) → result ≡ status_of r → own ≡ commands
    → IfOk r (λ unmet. RunsAndWrites program own m d w k false d' w' k' unmet)
    → IfErr r (λ why. BreaksOff why s program own m d w k d' w' k') → OnOk r (s ≡ Awake)
    → AnswersAs program commands m result s w w' d d' k k'
answers_as program own commands s result w w' d d' k k' m r is same all broken kept =
    subst (λ (t : Status). AnswersAs program commands m t s w w' d d' k k') (sym is)
    (subst (λ (cs : List Command). AnswersAs program cs m (status_of r) s w w' d d' k k') same
    (answers_so program own s w w' d d' k k' m r all broken kept))

-- a run with one of these statuses hasn't answered all commands
never_memory : {P : Type 0} → IsAnswered status.NoMemory → P
never_memory (inl e) = cc
never_memory (inr e) = cc

never_write : {P : Type 0} → IsAnswered status.WriteFault → P
never_write (inl e) = cc
never_write (inr e) = cc

never_device : {P : Type 0} → IsAnswered status.DeviceFault → P
never_device (inl e) = cc
never_device (inr e) = cc

-- the pool is opened, and then its commands are answered
pub held_ran : (program : Program) (commands : List Command) (words : List ℤ) (s s1 : MirrorState)
    (result : Status) (w w1 w' : Option (List ℕ)) (d b d' : Device) (k k1 k' : ℕ) (m : Mode)
    → OpensTold program words m s1 w w1 d b k k1
    → AnswersAs program commands m result s w1 w' b d' k1 k'
    → HeldAs program commands words result s w w' d d' k k'
held_ran program commands words s s1 status.Done w w1 w' d b d' k k1 k' m opens ends =
    ((λ e. ends.1), inl (opens.0, m, b, w1, k1, opens.1, opens.2, ends.0))
held_ran program commands words s s1 status.Unmet w w1 w' d b d' k k1 k' m opens ends =
    ((λ e. ends.1), inl (opens.0, m, b, w1, k1, opens.1, opens.2, ends.0))
held_ran program commands words s s1 status.NoMemory w w1 w' d b d' k k1 k' m opens ends =
    (never_memory, inl (inr (inr (opens.0, m, b, w1, k1, opens.1, opens.2, ends))))
held_ran program commands words s s1 status.WriteFault w w1 w' d b d' k k1 k' m opens ends =
    (never_write, inl (inr (opens.0, m, b, w1, k1, opens.1, opens.2, ends)))
held_ran program commands words s s1 status.DeviceFault w w1 w' d b d' k k1 k' m opens ends =
    (never_device, inr (refl, ends.1, (opens.0, m, b, w1, k1, opens.1, opens.2, ends.0)))
held_ran program commands words s s1 status.Usage w w1 w' d b d' k k1 k' m opens ends =
    absurd ends
held_ran program commands words s s1 status.Program w w1 w' d b d' k k1 k' m opens ends =
    absurd ends
held_ran program commands words s s1 status.Script w w1 w' d b d' k k1 k' m opens ends =
    absurd ends
held_ran program commands words s s1 status.ReadFault w w1 w' d b d' k k1 k' m opens ends =
    absurd ends
held_ran program commands words s s1 status.Image w w1 w' d b d' k k1 k' m opens ends =
    absurd ends
held_ran program commands words s s1 status.PoolBusy w w1 w' d b d' k k1 k' m opens ends =
    absurd ends

-- the run ends at the answer of the opening
pub held_broken : (program : Program) (commands : List Command) (words : List ℤ) (s : MirrorState)
    (w w' : Option (List ℕ)) (d d' : Device) (k k' : ℕ) (answer : Answer) (m : Mode) (why : Unheld)
    → Opens program words d answer m d' k k' → EndsAt why s w w' (answer_text answer)
    → HeldAs program commands words (status_of (Err why)) s w w' d d' k k'
held_broken program commands words s w w' d d' k k' answer m unheld.NoMemory opens ends =
    (never_memory, inl (inr (inl (answer, m, opens, ends))))
held_broken program commands words s w w' d d' k k' answer m unheld.WriteFault opens ends =
    (never_write, inl (inl (answer, m, opens, ends)))
held_broken program commands words s w w' d d' k k' answer m unheld.GivenUp opens ends = (
  never_device,
  inr (
    refl,
    ends.1,
    (answer, m, d', w', k', opens, ends.0, ([], commands, refl, false, (refl, refl, refl, refl))),
  ),
)

-- some of no commands are some of any
some_of_none : (program : Program) (commands : List Command) (m : Mode) (w w' : Option (List ℕ))
    (d d' : Device) (k k' : ℕ) → RunsSome program [] m d w k false d' w' k'
    → RunsSome program commands m d w k false d' w' k'
some_of_none program commands m w w' d d' k k' ([], rest, is, u, runs) =
    ([], commands, refl, u, runs)
some_of_none program commands m w w' d d' k k' (x ∷ first, rest, is, u, runs) = absurd (cc)

-- a part of none is a part of the opening's answer
part_of_none : (program : Program) (commands : List Command) (words : List ℤ)
    (w w' : Option (List ℕ)) (d d' : Device) (k k' : ℕ) → OpensPart program [] words w w' d d' k k'
    → OpensPart program commands words w w' d d' k k'
part_of_none program commands words w w' d d' k k' (inl part) = inl part
part_of_none program commands words w w' d d' k k'
    (inr (answer, m, b, w1, k1, opens, line, part)) = absurd part

-- no answer of no commands is unmet
none_unmet : (program : Program) (words : List ℤ) (w w' : Option (List ℕ)) (d d' : Device)
    (k k' : ℕ) → OpensAll program [] words true w w' d d' k k' → ⊥
none_unmet program words w w' d d' k k' (answer, m, b, w1, k1, opens, line, runs) =
    let e = runs.3 in cc

-- what a status says, where not all is done
as_early : (unmade : StartFault → Type 0) (part more : Type 0) (all every : (unmet : Bool) → Type 0)
    (result : Status) → result ≢ status.Done → (all true → ⊥) → (part → more)
    → AsStatus unmade part all part result → AsStatus unmade more every more result
as_early unmade part more all every status.Done undone none widen says = absurd (undone refl)
as_early unmade part more all every status.Unmet undone none widen says = absurd (none says)
as_early unmade part more all every status.NoMemory undone none widen (inl un) = inl un
as_early unmade part more all every status.NoMemory undone none widen (inr some) = inr (widen some)
as_early unmade part more all every status.WriteFault undone none widen says = widen says
as_early unmade part more all every status.DeviceFault undone none widen says = says
as_early unmade part more all every status.Usage undone none widen says = says
as_early unmade part more all every status.Program undone none widen says = says
as_early unmade part more all every status.Script undone none widen says = says
as_early unmade part more all every status.ReadFault undone none widen says = says
as_early unmade part more all every status.Image undone none widen says = says
as_early unmade part more all every status.PoolBusy undone none widen says = says

-- a run that ended before its first command is one of any commands
pub held_early : (program : Program) (commands : List Command) (words : List ℤ) (s : MirrorState)
    (result : Status) (w w' : Option (List ℕ)) (d d' : Device) (k k' : ℕ) → result ≢ status.Done
    → HeldAs program [] words result s w w' d d' k k'
    → HeldAs program commands words result s w w' d d' k k'
held_early program commands words s result w w' d d' k k' undone (done, inl opened) = (
  done,
  inl (as_early (λ why. Unopened program words why w w' d d' k k') _ _
      (λ unmet. OpensAll program [] words unmet w w' d d' k k')
      (λ unmet. OpensAll program commands words unmet w w' d d' k k') result undone
      (none_unmet program words w w' d d' k k')
      (part_of_none program commands words w w' d d' k k') opened),
)
held_early program commands words s result w w' d d' k k' undone
    (done, inr (is, lost, (answer, m, b, w1, k1, opens, line, some))) =
    let more = some_of_none program commands m w1 w' b d' k1 k' some in
    (done, inr (is, lost, (answer, m, b, w1, k1, opens, line, more)))

-- a new pool's commands are answered
new_answered : (program : Program) (commands : List Command) (s : MirrorState) (result : Status)
    (w told w' : Option (List ℕ)) (d d' : Device) (k k' : ℕ) → Appends w told created_line
    → AnswersAs program commands Ready result s told w' d d' k k'
    → NewAs program commands result s w w' d d' k k'
new_answered program commands s status.Done w told w' d d' k k' line ends = (told, line, ends)
new_answered program commands s status.Unmet w told w' d d' k k' line ends = (told, line, ends)
new_answered program commands s status.NoMemory w told w' d d' k k' line ends = (told, line, ends)
new_answered program commands s status.WriteFault w told w' d d' k k' line ends =
    inr (told, line, ends)
new_answered program commands s status.DeviceFault w told w' d d' k k' line ends =
    (told, line, ends)
new_answered program commands s status.Usage w told w' d d' k k' line ends = absurd ends
new_answered program commands s status.Program w told w' d d' k k' line ends = absurd ends
new_answered program commands s status.Script w told w' d d' k k' line ends = absurd ends
new_answered program commands s status.ReadFault w told w' d d' k k' line ends = absurd ends
new_answered program commands s status.Image w told w' d d' k k' line ends = absurd ends
new_answered program commands s status.PoolBusy w told w' d d' k k' line ends = absurd ends

-- the same of a session that is ready, on a device by another name
pub new_ran : (program : Program) (commands : List Command) (s : MirrorState) (result : Status)
    (m : Mode) (w told w' : Option (List ℕ)) (d e d' : Device) (k k' : ℕ) → m ≡ Ready → e ≡ d
    → Appends w told created_line → AnswersAs program commands m result s told w' e d' k k'
    → NewAs program commands result s w w' d d' k k'
new_ran program commands s result m w told w' d e d' k k' ready same line ends =
    new_answered program commands s result w told w' d d' k k' line
    (subst (λ (x : Mode). AnswersAs program commands x result s told w' d d' k k') ready
    (subst (λ (x : Device). AnswersAs program commands m result s told w' x d' k k') same ends))

-- the file of the words that were opened mirrors the device
pub opened_mirror : (c a : Option FileLines) (m n : Memory) (lines : ℕ) (words : List ℤ)
    (d e : Device) → a ≡ c → n ≡ m → e.cache ≡ m.cache → e.lines ≡ m.lines → e.lines ≡ lines
    → PlaysAll (blanked lines d) (opening_events lines words) e → HoldsWords c lines words
    → MarksFit m → IsMirror a n
opened_mirror c a m n lines words d e shown same cache count is played held marks =
    subst (λ (x : Option FileLines). IsMirror x n) (sym shown)
    (subst (λ (x : Memory). IsMirror c x) (sym same)
    (holds c m words
    (subst (λ (l : ℕ). HoldsWords c l words) (sym is ∙ count) held)
    (λ p less. ap (λ (x : Cache). view x p)
    (sym cache ∙ all_cache (opening_events lines words) (blanked lines d) e played)
    ∙ written_word words lines p)
    marks))

from_at : (h : Words) (n w p : ℕ) → p < n
    → slice_index_or (words_from h w n) p (pos 0) ≡ h (w + p)
from_at h zero w p less = absurd (omega arith)
from_at h (suc n) w zero less = ap h (omega arith)
from_at h (suc n) w (suc p) less = from_at h n (suc w) p (omega arith) ∙ ap h (omega arith)

-- the file that was made of a device's words mirrors the device
pub made_mirror : (c a : Option FileLines) (m n : Memory) → a ≡ c → n ≡ m
    → HoldsWords c m.lines (words_from (view m.cache) 0 (8 * m.lines)) → MarksFit m → IsMirror a n
made_mirror c a m n shown same held marks =
    subst (λ (x : Option FileLines). IsMirror x n) (sym shown)
    (subst (λ (x : Memory). IsMirror c x) (sym same)
    (holds c m (words_from (view m.cache) 0 (8 * m.lines)) held
    (λ p less. sym (from_at (view m.cache) (8 * m.lines) 0 p less
    ∙ ap (view m.cache) (omega arith))) marks))

-- devices over files with the same lines and switch
pub same_device : {L F : Type 0} (memory : L → Memory) (p q : FileParts L F) → q.lines ≡ p.lines
    → q.switch ≡ p.switch → file_device memory q ≡ file_device memory p
same_device {L} memory p q lines switch =
    ap (λ (l : L). untold (memory l) q.switch) lines
    ∙ ap (λ (s : Switch). untold (memory p.lines) s) switch
