use Rattle.std.proofs.Common.{rules, ◌≡◌, ◌≤◌, ◌*◌, ◌+◌, IfSome, length}
use Rattle.cnvm_cli.specs.CrewOpened.{image_size, crew_part}
use Rattle.cnvm_cli.proofs.CrewWords.{crew_read}
use Rattle.cnvm_cli.proofs.crew_reading.read_crew_words.Goals as goal

pub returns-clause-told : goal.returns-clause-told
returns-clause-told g c =
    let bytes = c.as_slice.result.now in
    let p = c.args.program.now in
    let n = c.args.count in
    let first : IfSome (g.I.Source.left c.args.source.now) (λ all. bytes ≡ crew_part p n all) =
    search rules in
    let within : length bytes ≤ image_size p * n + 1 = search rules in
    crew_read p n _ c.crew_words.result bytes first within c.crew_words.ensures.are
