use Rattle.std.proofs.Common.{rules, ◌≡◌, ◌∙◌, sym, ap, List, ℕ, [], None, slice_get}
use Rattle.std.proofs.lemmas.Result.{IfOk-weaker}
use Rattle.clobber_pass.specs.inside.Sweep.{exits_of}
use Rattle.clobber_pass.specs.inside.Marking.{marks_from}
use Rattle.clobber_pass.proofs.marked.Tabled.{no_table}
use Rattle.clobber_pass.proofs.table.function_row.Goals as goal

pub returns-in-None : goal.returns-in-None
returns-in-None c =
    let none : slice_get c.args.tables.now c.args.function ≡ None = search rules in
    let empty : c.empty.result ≡ [] = search rules in
    let there : exits_of c.args.tables.now c.args.function ≡ [] =
    no_table c.args.tables.now c.args.function none in
    IfOk-weaker c.mark_row-in-None-2.result _ _ (λ marks is.
    is ∙ ap (λ (t : List (List ℕ)). marks_from c.args.topic c.args.exits.now t c.args.entry.now 0
    c.args.code.now) (empty ∙ sym there)) c.mark_row-in-None-2.ensures
