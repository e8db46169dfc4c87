-- Commands of a script of workers are run on compartments that are held by a file.
use Rattle.std.proofs.Common.{◌≡◌, ℕ, ◌+◌, ◌*◌, ◌<◌, ◌≤◌, List, [], ◌∷◌, Option, Result, Ok, Err}
use Rattle.std.proofs.Common.{OnOk, IfErr, None, false, length, replicate, drop, get_or, ℤ, inl}
use Rattle.std.proofs.Common.{inr, refl, ap, sym, subst, ◌∙◌, arith}
use Rattle.std.proofs.lemmas.List.{length-replicate}
use Rattle.std.proofs.Math.Nat.{mul-le-mul_left}
use Rattle.std.specs.Io.KnownBytes.{Appends}
use Rattle.pmem.specs.Device.{Device, blanked}
use Rattle.pmem.specs.Played.{PlaysAll}
use Rattle.pool_layout.specs.declared.limits.Sizes.{Sizes}
use Rattle.pool_layout.specs.Sizes.{pool_lines}
use Rattle.file_pmem.specs.declared.link.MirrorState.{MirrorState}
use Rattle.file_pmem.specs.declared.link.MirrorState.TheVariants.{Awake}
use Rattle.c_types.proofs.Elements.{drop_at}
use Rattle.cnvm_session.specs.declared.program.Program.{Program}
use Rattle.cnvm_session.specs.Opening.{opening_events}
use Rattle.workers_script.specs.declared.command.WorkersCommand.{WorkersCommand}
use Rattle.pool_workers.specs.Crew.{Tasks, HasCompartments}
use Rattle.workers_session.specs.declared.line.WorkersLine.{WorkersLine}
use Rattle.workers_session.specs.WorkersState.{WorkersState}
use Rattle.workers_session.specs.WorkersCommands.{Scene, scene_of, Resumes, WorkersCommanded}
use Rattle.workers_run.specs.declared.fault.RunFault.{RunFault}
use Rattle.workers_run.specs.declared.fault.RunFault.TheVariants as fault
use Rattle.workers_run.specs.WorkersRan.{lines_text, RunsWorkers, BreaksOff, OpensWorkers}
use Rattle.workers_run.specs.WorkersHeld.{RunsSome, EndsAt, BreaksHeld, HeldAs}
use Rattle.session_run.proofs.Running.{keeps_same}
use Rattle.workers_run.proofs.WorkersRuns.{part_none, breaks_here}

module _ (p : Program) (cs : List WorkersCommand) (i : ℕ) (c : WorkersCommand)
    (less : i < length cs) (is : c ≡ get_or cs i c) (x : Scene) (lines : List WorkersLine)
    (z : Scene) (done : WorkersCommanded p c x lines z) (w : Option (List ℕ)) where
  -- one command is done, and then some first ones of the rest
  pub some_more : (y : Scene) (w1 w' : Option (List ℕ)) → Appends w w1 (lines_text lines)
      → RunsSome p (drop (i + 1) cs) z w1 y w' → RunsSome p (drop i cs) x w y w'
  some_more y w1 w' told rest = (
    c ∷ rest.0,
    rest.1,
    drop_at cs i c less is ∙ ap (λ (l : List WorkersCommand). c ∷ l) rest.2,
    (lines, z, w1, done, told, rest.3),
  )

  -- one command is done, and no more
  some_here : (w' : Option (List ℕ)) → Appends w w' (lines_text lines)
      → RunsSome p (drop i cs) x w z w'
  some_here w' told = (
    c ∷ [],
    drop (i + 1) cs,
    drop_at cs i c less is,
    (lines, z, w', done, told, (refl, refl)),
  )

  -- a command is done, and the run ends there
  pub broken_here : (why : RunFault) (s : MirrorState) (x0 : Scene) (w0 w' : Option (List ℕ))
      → ((y : Scene) (v : Option (List ℕ)) → BreaksOff p (drop i cs) x w y v
      → BreaksOff p cs x0 w0 y v)
      → ((y : Scene) (v : Option (List ℕ)) → RunsSome p (drop i cs) x w y v
      → RunsSome p cs x0 w0 y v)
      → EndsAt why s w w' (lines_text lines) → BreaksHeld why s p cs x0 w0 z w'
  broken_here fault.Device s x0 w0 w' part some ends = (some z w' (some_here w' ends.0), ends.1)
  broken_here fault.NoMemory s x0 w0 w' part some ends =
      part z w' (breaks_here p cs i c less is x lines z done w w' ends)
  broken_here fault.Write s x0 w0 w' part some ends =
      part z w' (breaks_here p cs i c less is x lines z done w w' ends)

-- the events that open compartments, with the number of their lines by another name
pub plays_counted : (m n : ℕ) (words : List ℤ) (d e : Device) → m ≡ n
    → PlaysAll (blanked m d) (opening_events m words) e
    → PlaysAll (blanked n d) (opening_events n words) e
plays_counted m n words d e same played =
    subst (λ (l : ℕ). PlaysAll (blanked l d) (opening_events l words) e) same played

-- the compartments lay on a device that equals the opened one
pub opens_crew : (program : Program) (count many : ℕ) (words : List ℤ) (d o e : Device) (k : ℕ)
    (lines : List WorkersLine) (y : Scene) → e ≡ o → many ≡ count
    → PlaysAll (blanked (pool_lines program.image.parts.sizes * count) d)
    (opening_events (pool_lines program.image.parts.sizes * count) words) o
    → Resumes program many e k lines y → OpensWorkers program count words d k lines y
opens_crew program count many words d o e k lines y same all written resumes = record {
  opened = o;
  written = written;
  resumes = subst (λ (n : ℕ). Resumes program n o k lines y) all
      (subst (λ (x : Device). Resumes program many x k lines y) same resumes);
}

module _ (program : Program) (count : ℕ) (commands : List WorkersCommand) (words : List ℤ)
    (s : MirrorState) (w w' : Option (List ℕ)) (d d' : Device) (k k' : ℕ)
    (lines : List WorkersLine) where
  -- the compartments are opened, and then the commands are run
  pub held_ran : (r : Result Unit RunFault) (x : Scene) (w1 : Option (List ℕ)) (t : WorkersState)
      → OpensWorkers program count words d k lines x → Appends w w1 (lines_text lines)
      → OnOk r (RunsWorkers program commands x w1 (scene_of t d' k') w')
      → IfErr r (λ why. BreaksHeld why s program commands x w1 (scene_of t d' k') w')
      → OnOk r (s ≡ Awake) → HeldAs program count commands words r s w w' d d' k k'
  held_ran (Ok u) x w1 t opens told all broken kept =
      ((lines, x, w1, t, opens, told, all), kept)
  held_ran (Err fault.Device) x w1 t opens told all broken kept =
      let some = broken.0 in
      inr ((some.0, some.1, some.2, (lines, x, w1, t, opens, told, some.3)), broken.1)
  held_ran (Err fault.NoMemory) x w1 t opens told all broken kept =
      inr (inr (lines, x, w1, t, opens, told, broken))
  held_ran (Err fault.Write) x w1 t opens told all broken kept =
      inr (lines, x, w1, t, opens, told, broken)

  -- the run ends at the lines of the opening
  pub held_broken : (why : RunFault) (t : WorkersState)
      → OpensWorkers program count words d k lines (scene_of t d' k')
      → EndsAt why s w w' (lines_text lines)
      → HeldAs program count commands words (Err why) s w w' d d' k k'
  held_broken fault.Device t opens ends =
      inr (
        (
          [],
          commands,
          refl,
          (lines, scene_of t d' k', w', t, opens, ends.0, (refl, refl)),
        ),
        ends.1,
      )
  held_broken fault.NoMemory t opens ends = inr (inl (lines, t, opens, ends))
  held_broken fault.Write t opens ends = inl (lines, t, opens, ends)

  -- there was no memory for the lines of the opening
  pub held_starved : (t : WorkersState)
      → OpensWorkers program count words d k lines (scene_of t d' k') → w' ≡ w
      → HeldAs program count commands words (Err fault.NoMemory) s w w' d d' k k'
  held_starved t opens same =
      held_broken fault.NoMemory t opens
      (subst (λ (v : Option (List ℕ)). EndsAt fault.NoMemory s w v (lines_text lines)) (sym same)
      (part_none w (lines_text lines)))

-- each compartment has at least 6 lines
pub lines_least : (s : Sizes) (count : ℕ) → 1 ≤ count → 6 ≤ pool_lines s * count
lines_least s count first =
    let more : pool_lines s * 1 ≤ pool_lines s * count = mul-le-mul_left (pool_lines s) first in
    omega (arith, more)

-- workers without a transaction, by their own number
pub idle_again : (count : ℕ) (ts : Tasks) → ts ≡ replicate count None
    → ts ≡ replicate (length ts) None
idle_again count ts idle =
    idle ∙ ap (λ (n : ℕ). replicate n None)
    (sym (ap (λ (us : Tasks). length us) idle ∙ length-replicate count None))

pub ruleset held_runs = (keeps_same, idle_again)

-- the lines of new compartments
pub created_lines : (program : Program) (count : ℕ) (session : WorkersState) (d : Device)
    → session ≡ record { tasks = replicate count None; down = false }
    → HasCompartments program.image session.tasks d
    → d.lines ≡ pool_lines program.image.parts.sizes * count
created_lines program count session d new lines =
    lines ∙ ap (λ (n : ℕ). pool_lines program.image.parts.sizes * n)
    (ap (λ (t : WorkersState). length t.tasks) new ∙ length-replicate count None)
