use Rattle.workers_tables.proofs.orders.every_order_of_two_calls_ends.Given as goal

abbrev pub ghosts-uncut_orders : goal.ghosts-uncut_orders
ghosts-uncut_orders g a = record { name = a.blank.name; parts = a.blank.parts }
