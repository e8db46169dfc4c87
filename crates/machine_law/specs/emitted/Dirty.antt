-- No line is dirty twice, and each is a line of the heap; so at most as many lines are dirty as the
-- heap has.
use Rattle.std.specs.Prelude.{ℕ, ◌+◌, ◌*◌, ◌≤◌, ◌≡◌, length, nat_eq}
use Rattle.std.specs.List.{IsDistinct}
use Rattle.pool_layout.specs.Sizes.{root_lines, heap_words}
use Rattle.pm_machine.specs.declared.image.Image.{Image}
use Rattle.pm_machine.specs.Machine.{State}
use Rattle.pm_machine.specs.Runs.{AreLines}
use Rattle.machine_law.specs.emitted.Moments.{RunMoment, On, go}

pub record IsCleanState (image : Image) (s : State) : Type 0 where
  pub lines : AreLines (heap_words image.parts.sizes) s.dirty
  pub distinct : IsDistinct nat_eq s.dirty

-- this stays true during a run
abbrev pub StaysCleanLaw : Type 0
StaysCleanLaw = (image : Image) (k : ℕ) (m b : RunMoment) → IsCleanState image m.state
    → go image k m ≡ On b → IsCleanState image b.state

abbrev pub FewLines : Type 0
FewLines = (image : Image) (s : State) → IsCleanState image s
    → length s.dirty
    ≤ root_lines image.parts.sizes + image.parts.sizes.slot_lines * image.parts.sizes.slots

-- each step makes at most one more line dirty
abbrev pub GrowLaw : Type 0
GrowLaw =
    (image : Image) (k : ℕ) (m b : RunMoment) → go image k m ≡ On b →
    length b.state.dirty ≤ length m.state.dirty + k
