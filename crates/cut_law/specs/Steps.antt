-- The steps of a call after its seal: those of its run, and one for each record that is put back.
use Rattle.std.specs.Prelude.{ℕ, suc, ◌+◌, List}
use Rattle.pm_machine.specs.declared.effect.Effect.{Effect}
use Rattle.pm_machine.specs.declared.effect.End.{End}
use Rattle.pm_machine.specs.declared.effect.End.TheVariants.{Halted, Trapped}
use Rattle.pm_machine.specs.declared.records.Policy.{Policy}
use Rattle.pm_machine.specs.declared.records.Policy.TheVariants.{EndPool, RollBack}
use Rattle.pm_machine.specs.Effects.{records_end, steps_in}

abbrev pub trapped_steps : Policy → List Effect → ℕ
trapped_steps EndPool es = 0
trapped_steps RollBack es = records_end 0 es

abbrev pub back_steps : Policy → End → List Effect → ℕ
back_steps p (Halted v) es = 0
back_steps p (Trapped k) es = trapped_steps p es

abbrev pub run_steps : Policy → End → List Effect → ℕ
run_steps p end es = suc (steps_in es) + back_steps p end es
