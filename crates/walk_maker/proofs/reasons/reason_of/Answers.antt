use Rattle.std.proofs.Common.{rules, ◌≡◌}
use Rattle.ir.specs.Places.{instruction_at}
use Rattle.walk_maker.specs.declared.reasons.Kind.TheVariants.{Header, Nothing}
use Rattle.walk_maker.specs.inside.Reasons.{written_kind}
use Rattle.walk_maker.proofs.Judged.{header_given, nothing_given}
use Rattle.walk_maker.proofs.reasons.reason_of.Goals as goal

pub returns-in-Header : goal.returns-in-Header
returns-in-Header c =
    let site = c.args.site in
    let kind : written_kind (instruction_at c.args.ir.now.functions site.function site.place)
    site.fill
    ≡ Header = search rules in
    header_given c.args.ir.now c.requires.well site c.args.passed.now c.requires.passing kind

pub returns-in-Nothing : goal.returns-in-Nothing
returns-in-Nothing c =
    let site = c.args.site in
    let kind : written_kind (instruction_at c.args.ir.now.functions site.function site.place)
    site.fill
    ≡ Nothing = search rules in
    nothing_given c.args.ir.now c.requires.well site c.args.passed.now c.requires.passing kind
