use Rattle.c_parser.proofs.FixesItem.{led_item, item_struct, item_root, item_transaction}
use Rattle.c_parser.proofs.FixesItem.{item_function}
use Rattle.c_parser.proofs.build_item.item.Goals as goal

pub returns-then-defines-clause-fixes : goal.returns-then-defines-clause-fixes
returns-then-defines-clause-fixes c =
    led_item _ _ _ c.struct_def.ensures.fixes
    (item_struct _ _ (c.defines.ensures.some c.if-defines.true))

pub returns-in-Persistent-clause-fixes : goal.returns-in-Persistent-clause-fixes
returns-in-Persistent-clause-fixes c =
    led_item _ _ _ c.root_decl.ensures.fixes (item_root _ _ c.in-Persistent.ensures.value)

pub returns-in-Tx-clause-fixes : goal.returns-in-Tx-clause-fixes
returns-in-Tx-clause-fixes c =
    led_item _ _ _ c.function.ensures.fixes
    (item_transaction _ _ _ _ c.in-Tx.ensures.value c.transaction-mark.ensures.fixes)

pub returns-in_default : goal.returns-in_default
returns-in_default c = record {
  stays = c.function-in_default.ensures.stays;
  fixes =
      led_item _ _ _ c.function-in_default.ensures.fixes
      (item_function _ _ _ c.kind_at.ensures.value (c.defines.ensures.none c.if-defines.false)
      c.in_default.not-Persistent c.in_default.not-Tx);
  moves = c.function-in_default.ensures.moves;
}
