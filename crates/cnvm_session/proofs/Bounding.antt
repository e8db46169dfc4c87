-- The most steps that a command takes.
use Rattle.std.proofs.Common.{◌≡◌, ◌≤◌, ℕ, zero, suc, ◌+◌, Bool, true, false, ◌==◌}
use Rattle.std.proofs.Common.{List, [], ◌∷◌, Option, Some, None, length, slice_get, ℤ, refl, subst}
use Rattle.std.proofs.Common.{arith}
use Rattle.std.specs.List.{list_any}
use Rattle.std.specs.Option.{option_map_or}
use Rattle.std.proofs.lemmas.Bool.{or_left, or_right, and_parts}
use Rattle.cache_model.specs.Cache.{view}
use Rattle.cache_model.specs.Collapse.{bad}
use Rattle.cache_model.specs.declared.choice.Choice.{Choice}
use Rattle.pmem.specs.Device.{Device, memory_of, powered}
use Rattle.pm_machine.specs.declared.records.Policy.{Policy}
use Rattle.pm_machine.specs.declared.records.Policy.TheVariants.{EndPool, RollBack}
use Rattle.pm_machine.specs.declared.image.Image.{Image}
use Rattle.tx_run.specs.Due.{most_steps}
use Rattle.recovery.specs.Recovered.{tx_in}
use Rattle.cnvm_script.specs.declared.command.Command.{Command}
use Rattle.cnvm_script.specs.declared.command.Command.TheVariants as command
use Rattle.c_types.specs.Shapes.{shapes_of, transactions_of}
use Rattle.pool_layout.specs.declared.limits.Sizes.{Sizes}
use Rattle.pool_layout.specs.Image.{is_sealed}
use Rattle.pool_map.specs.declared.shapes.Shapes.{Shapes}
use Rattle.cnvm_session.specs.declared.mode.Mode.{Mode}
use Rattle.cnvm_session.specs.declared.mode.Mode.TheVariants.{Ready, Down, Unusable}
use Rattle.cnvm_session.specs.declared.answer.Answer.{Answer}
use Rattle.cnvm_session.specs.declared.program.Program.{Program}
use Rattle.cnvm_session.specs.Marks.{is_marked, rolls_back_of, looks_of, policy_of, has_marked}
use Rattle.cnvm_session.specs.Marks.{owes_marked, unsigned_of, owes_unsigned}
use Rattle.cnvm_session.specs.Outcomes.{RunsBy, RunsAs, RecoversBy}
use Rattle.cnvm_session.specs.Commands.{Shows, ShowsDead, Lasts, call_number, tx_parameters}
use Rattle.cnvm_session.specs.Commands.{CallsWith, CallsTo, CallsNamed, Calls, fallen, Powers}
use Rattle.cnvm_session.specs.Commands.{Commanded}
use Rattle.cnvm_session.specs.Steps.{bounded_steps, most_of_command, most_of_program}
use Rattle.cnvm_session.specs.Laws.{MostLaw}
use Rattle.cnvm_session.proofs.Calls.{look_counts, look_rises}

abbrev Few : (most k k1 : ℕ) → Type 0
Few most k k1 = k1 ≤ k + most

none : (most k k1 : ℕ) → k1 ≡ k → Few most k k1
none most k k1 same = omega (arith, same)

-- an unmarked bound is below a marked one
pub bounded_more : (marks : Bool) (image : Image)
    → bounded_steps false image ≤ bounded_steps marks image
bounded_more true image = omega arith
bounded_more false image = omega arith

-- a call's bound, and a recovery's
pub call_within : (p : Policy) (image : Image) (k k1 : ℕ) → k1 ≤ k + most_steps p image
    → k1 ≤ k + bounded_steps false image
call_within RollBack image k k1 most = omega (arith, most)
call_within EndPool image k k1 most = omega (arith, most)

-- a look's, which takes no record
pub look_within : (image : Image) (k k1 : ℕ) → k1 ≤ k + image.parts.most
    → k1 ≤ k + bounded_steps false image
look_within image k k1 most = omega (arith, most)

pub ruleset look_ends = (look_within, look_counts, look_rises)

recovery_bound : (marks : Bool) (image : Image) (k k1 : ℕ)
    → k1 ≤ k + image.parts.sizes.records + most_steps (policy_of marks) image
    → k1 ≤ k + bounded_steps marks image
recovery_bound true image k k1 most = omega (arith, most)
recovery_bound false image k k1 most = omega (arith, most)

pub recovery_within : (marks : Bool) (p : Policy) (image : Image) (k k1 : ℕ)
    → p ≡ policy_of marks → k1 ≤ k + image.parts.sizes.records + most_steps p image
    → k1 ≤ k + bounded_steps marks image
recovery_within marks p image k k1 is most =
    recovery_bound marks image k k1
    (subst (λ (q : Policy). k1 ≤ k + image.parts.sizes.records + most_steps q image) is most)

runs_most : (marks u : Bool) (image : Image) (tx : ℕ) (args : List ℤ) (d : Device) (a : Answer)
    (n : Mode) (b : Device) (k k1 : ℕ) → RunsBy marks u image tx args d a n b k k1
    → Few (bounded_steps false image) k k1
runs_most marks u image tx args d a n b k k1 h = call_within (policy_of marks) image k k1
    h.called.most

as_most : (looks marks u : Bool) (image : Image) (tx : ℕ) (args : List ℤ) (d : Device) (a : Answer)
    (n : Mode) (b : Device) (k k1 : ℕ) → RunsAs looks marks u image tx args d a n b k k1
    → Few (bounded_steps false image) k k1
as_most true marks u image tx args d a n b k k1 h = look_within image k k1 h.most
as_most false marks u image tx args d a n b k k1 h = runs_most marks u image tx args d a n b k k1 h

module _ (program : Program) (args : List ℤ) (d : Device) (a : Answer) (n : Mode) (b : Device)
    (k k1 : ℕ) where
  abbrev most : ℕ
  most = bounded_steps false program.image

  with_count : (same : Bool) (tx : ℕ) → CallsWith same program tx args d a n b k k1 → Few most k k1
  with_count true tx h =
      as_most (looks_of program tx) (rolls_back_of program tx) (unsigned_of program tx)
      program.image tx args d a n b k k1 h
  with_count false tx h = none most k k1 h.3

  to_number : (count : Option ℕ) (tx : ℕ) → CallsTo count program tx args d a n b k k1 →
      Few most k k1
  to_number None tx h = none most k k1 h.3
  to_number (Some count) tx h = with_count (count == length args) tx h

  by_name : (number : Option ℕ) → CallsNamed number program args d a n b k k1 → Few most k k1
  by_name None h = none most k k1 h.3
  by_name (Some tx) h = to_number (tx_parameters program.image tx) tx h

call_most : (program : Program) (name : List ℕ) (args : List ℤ) (m : Mode) (d : Device) (a : Answer)
    (n : Mode) (b : Device) (k k1 : ℕ) →
    Calls program name args m d a n b k k1 → Few (bounded_steps false program.image) k k1
call_most program name args Ready d a n b k k1 h =
    by_name program args d a n b k k1 (call_number program name) h
call_most program name args Down d a n b k k1 h = none _ k k1 h.3
call_most program name args (Unusable kind) d a n b k k1 h = none _ k k1 h.3

pub recovers_most : (marks u : Bool) (image : Image) (d : Device) (a : Answer) (n : Mode)
    (b : Device) (k k1 : ℕ) → RecoversBy marks u image d a n b k k1
    → Few (bounded_steps marks image) k k1
recovers_most marks u image d a n b k k1 h = recovery_within marks (policy_of marks) image k k1 refl
    h.recovered.most

power_most : (program : Program) (choice : Choice) (m : Mode) (d : Device) (a : Answer) (n : Mode)
    (b : Device) (k k1 : ℕ) (first pick : Option ℕ) →
    fallen 0 choice.picks ≡ first → bad (memory_of d) choice.picks ≡ pick →
    Powers program choice m d a n b k k1
    → Few (bounded_steps (owes_marked program (powered choice d)) program.image) k k1
power_most program choice m d a n b k k1 (Some line) pick falls is h =
    none _ k k1 (h.0 line falls).3
power_most program choice m d a n b k k1 None (Some line) rise is h =
    none _ k k1 (h.1 line rise is).3
power_most program choice m d a n b k k1 None None rise is h =
    recovers_most (owes_marked program (powered choice d))
    (owes_unsigned program (powered choice d)) program.image (powered choice d) a n b k k1
    (h.2 rise is)

show_most : (most : ℕ) (shapes : Shapes) (s : Sizes) (m : Mode) (d : Device) (a : Answer)
    (n : Mode) (b : Device) (k k1 : ℕ) →
    Shows shapes s m d a n b k k1 → Few most k k1
show_most most shapes s Ready d a n b k k1 h = none most k k1 h.2
show_most most shapes s Down d a n b k k1 h = none most k k1 h.3
show_most most shapes s (Unusable kind) d a n b k k1 h = none most k k1 h.3

dead_most : (most : ℕ) (shapes : Shapes) (s : Sizes) (m : Mode) (d : Device) (a : Answer)
    (n : Mode) (b : Device) (k k1 : ℕ) →
    ShowsDead shapes s m d a n b k k1 → Few most k k1
dead_most most shapes s Ready d a n b k k1 h = show_most most shapes s Ready d a n b k k1 h
dead_most most shapes s Down d a n b k k1 h = show_most most shapes s Down d a n b k k1 h
dead_most most shapes s (Unusable kind) d a n b k k1 h = none most k k1 h.3

last_most : (most : ℕ) (m : Mode) (d : Device) (a : Answer) (n : Mode) (b : Device) (k k1 : ℕ) →
    Lasts m d a n b k k1 → Few most k k1
last_most most Ready d a n b k k1 h = none most k k1 h.3
last_most most Down d a n b k k1 h = none most k k1 h.3
last_most most (Unusable kind) d a n b k k1 h = none most k k1 h.3

within_command : (program : Program) (c : Command) (m n : Mode) (d b : Device) (a : Answer)
    (k k1 : ℕ) → Commanded program c m d a n b k k1 → Few (most_of_command program c d) k k1
within_command program (command.Call name args) m n d b a k k1 h =
    call_most program name args m d a n b k k1 h
within_command program (command.Stop left) m n d b a k k1 h = none _ k k1 h.3
within_command program (command.Fault at) m n d b a k k1 h = none _ k k1 h.3
within_command program (command.Power choice) m n d b a k k1 h =
    power_most program choice m d a n b k k1 (fallen 0 choice.picks)
    (bad (memory_of d) choice.picks) refl refl h
within_command program command.Show m n d b a k k1 h =
    show_most _ (shapes_of program.typed) program.image.parts.sizes m d a n b k k1 h
within_command program command.ShowDead m n d b a k k1 h =
    dead_most _ (shapes_of program.typed) program.image.parts.sizes m d a n b k k1 h
within_command program command.Last m n d b a k k1 h = last_most _ m d a n b k k1 h

-- where one element has the property, some element has it
any_at : {A : Type 0} (p : A → Bool) (xs : List A) (i : ℕ)
    → option_map_or p (slice_get xs i) false ≡ true → list_any p xs ≡ true
any_at p [] i is = is
any_at p (x ∷ xs) zero is = or_left (p x) (list_any p xs) is
any_at p (x ∷ xs) (suc i) is = or_right (p x) (list_any p xs) (any_at p xs i is)

marked_has : (program : Program) (tx : ℕ) → rolls_back_of program tx ≡ true
    → has_marked program ≡ true
marked_has program zero is = absurd cc
marked_has program (suc i) is = any_at is_marked (transactions_of program.typed) i is

-- what a pool may owe is within the bound of the program
pub owed_most : (program : Program) (d : Device)
    → bounded_steps (owes_marked program d) program.image ≤ most_of_program program
owed_most program d =
    by_owed (owes_marked program d) (has_marked program)
    (λ owes. marked_has program (tx_in d)
    (and_parts (is_sealed (view d.cache)) (rolls_back_of program (tx_in d)) owes).1)
  where
    by_owed : (owes has : Bool) → (owes ≡ true → has ≡ true)
        → bounded_steps owes program.image ≤ bounded_steps has program.image
    by_owed false has leads = bounded_more has program.image
    by_owed true true leads = omega arith
    by_owed true false leads = let no : false ≡ true = leads refl in absurd cc

command_more : (program : Program) (c : Command) (d : Device)
    → most_of_command program c d ≤ most_of_program program
command_more program (command.Power choice) d = owed_most program (powered choice d)
command_more program (command.Call name args) d = bounded_more (has_marked program) program.image
command_more program (command.Stop left) d = bounded_more (has_marked program) program.image
command_more program (command.Fault at) d = bounded_more (has_marked program) program.image
command_more program command.Show d = bounded_more (has_marked program) program.image
command_more program command.ShowDead d = bounded_more (has_marked program) program.image
command_more program command.Last d = bounded_more (has_marked program) program.image

pub command_most : MostLaw
command_most program c m n d b a k k1 h =
    let one = within_command program c m n d b a k k1 h in
    let more = command_more program c d in
    (one, omega (arith, one, more))
