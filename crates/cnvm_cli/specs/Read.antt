-- What a plan has read to its end.
use Rattle.std.specs.Prelude.{ℕ, List, Option}
use Rattle.std.specs.Io.KnownBytes.{IsAtEnd}
use Rattle.cnvm_words.specs.declared.plan.Plan.{Plan}
use Rattle.cnvm_words.specs.declared.plan.Plan.TheVariants as plan

-- the program, and where lines are answered, the script too
abbrev pub IsRead : Plan → (program script : Option (List ℕ)) → Type 0
IsRead (plan.Run p s slots records ticks from save strict) program script =
    IsAtEnd program × IsAtEnd script
IsRead (plan.RunPool p s slots records ticks pool former strict) program script =
    IsAtEnd program × IsAtEnd script
IsRead (plan.Serve p slots records ticks) program script = IsAtEnd program × IsAtEnd script
IsRead (plan.ServePool p slots records ticks pool former) program script =
    IsAtEnd program × IsAtEnd script
IsRead (plan.List p) program script = IsAtEnd program
IsRead (plan.Storm p start count reach plain slots records ticks) program script = IsAtEnd program
IsRead (plan.Why p) program script = IsAtEnd program
IsRead (plan.Workers p s workers slots records ticks) program script =
    IsAtEnd program × IsAtEnd script
IsRead (plan.WorkersPool p s workers slots records ticks pool) program script =
    IsAtEnd program × IsAtEnd script
IsRead (plan.Emit p prefix header slots records ticks) program script = IsAtEnd program
IsRead (plan.Code p) program script = IsAtEnd program
