-- What the clauses of the top call see: the plan that the words ask for, what the sources tell of
-- their bytes, and what is outside: the sinks, the device and the steps.
use Rattle.std.specs.Prelude.{ℕ, List, Option, map, string_bytes, ◌≡◌}
use Rattle.std.specs.Io.KnownBytes.{Keeps}
use Rattle.std.specs.declared.string.String.{String}
use Rattle.pmem.specs.Device.{Device}
use Rattle.cnvm_words.specs.Asked as words
use Rattle.cnvm_words.specs.declared.plan.Plan.{Plan}
use Rattle.cnvm_cli.specs.declared.world.World.{World}

abbrev pub plan_in : {A : Type 0} → List (String A) → Option Plan
plan_in given = words.plan_of (map string_bytes given)

-- what the sources tell of their bytes, and what the script's has left after the call
pub record Sources : Type 0 where
  pub program : Option (List ℕ)
  pub former : Option (List ℕ)
  pub script : Option (List ℕ)
  pub image : Option (List ℕ)
  pub rest : Option (List ℕ)

-- what the sinks tell of the bytes written, the device, and the steps so far
pub record Outside : Type 0 where
  pub out : Option (List ℕ)
  pub image : Option (List ℕ)
  pub dev : Device
  pub steps : ℕ

abbrev pub seen : (out image : Option (List ℕ)) → Device → ℕ → Outside
seen out image dev steps = record { out = out; image = image; dev = dev; steps = steps }

abbrev pub told_by : {S T I K O P : Type 0} → (S → Option (List ℕ)) → (T → Option (List ℕ))
    → (I → Option (List ℕ)) → (old new : World S T I K O P) → Sources
told_by program script image old new = record {
  program = program old.program;
  former = program old.former;
  script = script old.script;
  image = image old.image_in;
  rest = script new.script;
}

abbrev pub seen_by : {S T I K O P : Type 0} → (K → Option (List ℕ)) → (O → Option (List ℕ))
    → (P → Device) → World S T I K O P → ℕ → Outside
seen_by out image dev world steps =
    seen (out world.out) (image world.image_out) (dev world.dev) steps

-- nothing is saved, and nothing is run
abbrev pub IsUntouched : (before after : Outside) → Type 0
IsUntouched before after = Keeps before.image after.image × (after.dev ≡ before.dev)
    × (after.steps ≡ before.steps)
