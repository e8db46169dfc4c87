use Rattle.std.proofs.Common.{◌++◌, ◌≡◌, ◌<◌, ◌^◌, length, drop}
use Rattle.std.specs.List.{AllByRecursion}
use Rattle.ir.specs.Sites.{sites_of}
use Rattle.ir.specs.WellFormed.{IsFunction}
use Rattle.ir.proofs.function.Ir.sites.Given as goal

abbrev pub invariant-loop-number : goal.invariant-loop-number
invariant-loop-number l =
    (l.sites ++ sites_of l.number (drop l.number l.self.functions) ≡ sites_of 0 l.self.functions)
    × (length l.self.functions < 2 ^ 31)
    × AllByRecursion (IsFunction l.self) (drop l.number l.self.functions)
