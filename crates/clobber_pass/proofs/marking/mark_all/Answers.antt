use Rattle.std.proofs.Common.{subst}
use Rattle.clobber_pass.specs.declared.topic.Topic.TheVariants.{Frees}
use Rattle.clobber_pass.specs.inside.Classes.{RootsMarked, FieldsMarked}
use Rattle.clobber_pass.proofs.marked.Tabled.{headers_keep, marked_keeps}
use Rattle.clobber_pass.proofs.marked.AllTopics.{roots_keep}
use Rattle.clobber_pass.proofs.marking.mark_all.Goals as goal

pub returns-clause-headers : goal.returns-clause-headers
returns-clause-headers c =
    let us = c.args.ir.now.functions in
    let first = c.mark_topic.new.table in
    let next = c.mark_roots.new.table in
    headers_keep us next c.mark_fields.new.table c.in_ok-mark_fields.ensures.kept
    (headers_keep us first next c.in_ok-mark_roots.ensures.kept
    (headers_keep us c.args.table.now first c.in_ok-mark_topic.ensures.kept c.requires.headers))

pub returns-clause-frees : goal.returns-clause-frees
returns-clause-frees c = λ f inside.
    let us = c.args.ir.now.functions in
    let next = c.mark_roots.new.table in
    marked_keeps us Frees next c.mark_fields.new.table f c.in_ok-mark_fields.ensures.kept
    (marked_keeps us Frees c.mark_topic.new.table next f c.in_ok-mark_roots.ensures.kept
    (c.in_ok-mark_topic.ensures.marked f inside))

pub returns-clause-roots : goal.returns-clause-roots
returns-clause-roots c =
    let us = c.args.ir.now.functions in
    let next = c.mark_roots.new.table in
    roots_keep us c.args.stored.now.roots next c.mark_fields.new.table
    c.in_ok-mark_fields.ensures.kept
    (subst (λ l. RootsMarked us l next) c.as_slice.ensures c.in_ok-mark_roots.ensures.marked)

pub returns-clause-fields : goal.returns-clause-fields
returns-clause-fields c =
    subst (λ l. FieldsMarked c.args.ir.now.functions l c.mark_fields.new.table)
    c.as_slice-2.ensures c.in_ok-mark_fields.ensures.marked
