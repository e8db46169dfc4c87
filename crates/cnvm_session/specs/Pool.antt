-- The pool of a program: its sizes, and what an image of such a pool must be.
use Rattle.std.specs.Prelude.{length}
use Rattle.pool_layout.specs.declared.limits.Sizes.{Sizes}
use Rattle.pool_layout.specs.declared.wanted.Wanted.{Wanted}
use Rattle.c_types.specs.Shapes.{shapes_of, transactions_of}
use Rattle.cnvm_session.specs.declared.program.Program.{Program}

abbrev pub sizes_of : Program → Sizes
sizes_of program = program.image.parts.sizes

-- the pool that an image must fit
abbrev pub wanted_of : Program → Wanted
wanted_of program = record {
  sizes = sizes_of program;
  digest = program.digest;
  txs = length (transactions_of program.typed);
  structs = length (shapes_of program.typed).structs;
}
