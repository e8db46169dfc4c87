-- Steps, one after another, each of which goes on, traps or leaves the code.
use Rattle.std.specs.Prelude.{ℕ, zero, suc}

pub data Next (W A : Type 0) : Type 0 where
  Goes : A → Next W A
  Traps : (kind : ℕ) → W → Next W A
  Off : Next W A

abbrev pub then : {W A B : Type 0} → Next W A → (A → Next W B) → Next W B
then (Goes a) f = f a
then (Traps k w) f = Traps k w
then Off f = Off

-- at most n steps
abbrev pub local_run : {W A : Type 0} → (A → Next W A) → ℕ → A → Next W A
local_run step zero a = Goes a
local_run step (suc n) a = then (step a) (local_run step n)
