use Rattle.std.proofs.Common.{◌≡◌, ◌+◌, true, length}
use Rattle.pool_layout.specs.Sizes.{heap_words}
use Rattle.pm_machine.specs.Runs.{AreLines, due}
use Rattle.pm_machine.specs.inside.Runs.{DueLeads}
use Rattle.pm_machine.proofs.machine.Machine.run_on.Given as goal

abbrev pub invariant-loop-left : goal.invariant-loop-left
invariant-loop-left g l =
    let device = g.P.PmemWork.device in
    record {
      leads : DueLeads (device l.dev) l.steps
          (due l.image l.attempt l.left l.self.records l.self.processor (device l.dev).cache)
          (device l.fn.dev)
          l.fn.steps (due l.image l.attempt l.image.parts.most l.fn.self.records
          l.fn.self.processor (device l.fn.dev).cache);
      dirty : AreLines (heap_words l.image.parts.sizes) l.self.processor.dirty;
      lines : (device l.dev).lines ≡ (device l.fn.dev).lines;
      on : (device l.dev).on ≡ true;
      taken : length l.self.records.words + l.fn.self.records.count
          ≡ l.self.records.count + length l.fn.self.records.words;
      spent : l.steps + l.left ≡ l.fn.steps + l.image.parts.most;
    }

abbrev pub decreases-loop-left : goal.decreases-loop-left
decreases-loop-left g l = l.left
