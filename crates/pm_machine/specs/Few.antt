-- There are fewer than 2^32 functions, and fewer than 2^32 instructions in each.
use Rattle.std.specs.Prelude.{◌<◌, ◌^◌, List, length}
use Rattle.std.specs.List.{AllByRecursion}
use Rattle.pm_machine.specs.declared.op.Function.{Function}

abbrev pub IsShortFunction : Function → Type 0
IsShortFunction u = length u.code < 2 ^ 32

abbrev pub AreFew : List Function → Type 0
AreFew us = (length us < 2 ^ 32) × AllByRecursion IsShortFunction us
