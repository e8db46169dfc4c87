use Rattle.std.proofs.Common.{◌∙◌, ap, suc}
use Rattle.std.specs.Prelude.{option_map}
use Rattle.c_types.specs.Tables.{index_of}
use Rattle.c_types.specs.Shapes.{transactions_of}
use Rattle.c_types.proofs.Elements.{names_in, names_in_entries}
use Rattle.c_types.proofs.typed.Typed.tx_number.Goals as goal

pub returns : goal.returns
returns c =
    let names = ap names_in (c.deref.ensures.value ∙ c.self.invariant.1)
    ∙ names_in_entries (transactions_of c.self.inside.ast) in
    rw (← c.self.view_is) (c.number_of.ensures
    ∙ ap (λ ns. option_map suc (index_of c.args.name.now ns)) names)
