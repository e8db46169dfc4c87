-- The line of the source at which a run of a program stopped.
use Rattle.std.specs.Prelude.{ℕ, Option}
use Rattle.pool_map.specs.declared.trap.TrapKind.{TrapKind}
use Rattle.pm_machine.specs.declared.stop.Stop.{Stop}
use Rattle.instrument.specs.Insert.{logged_program}
use Rattle.trap_line.specs.Line.{trap_line}
use Rattle.cnvm_compile.specs.declared.compiling.Compiled.{Compiled}
use Rattle.cnvm_session.specs.Pool.{sizes_of}

abbrev pub line_at : Compiled → Stop → TrapKind → Option ℕ
line_at compiled stop kind =
    trap_line compiled.program.typed (logged_program compiled.marks compiled.ir)
    (sizes_of compiled.program) stop kind
