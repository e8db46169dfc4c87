use Rattle.std.proofs.Common.{rules, ◌≡◌, []}
use Rattle.ir.specs.Sites.{sites_of}
use Rattle.clobber_pass.specs.Logged.{IsExact}
use Rattle.walk_check.specs.Law.{listed}
use Rattle.walk_maker.specs.inside.Marked.{all_marked}
use Rattle.walk_maker.proofs.Marked.{marked_listed}
use Rattle.walk_maker.proofs.reasons.explain.Goals as goal

pub returns-in-Some-clause-lists : goal.returns-in-Some-clause-lists
returns-in-Some-clause-lists c =
    let functions = c.args.ir.now.functions in
    let table = c.in_ok-table.table in
    let marked = c.as_slice-3.result.now in
    let exact : IsExact functions table = search rules in
    let is : marked ≡ all_marked table (sites_of 0 functions) [] = search rules in
    let same : listed c.in-Some.certificate ≡ marked = search rules in
    marked_listed functions table exact (sites_of 0 functions) marked
    (listed c.in-Some.certificate) is same
