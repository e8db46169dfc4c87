use Rattle.workers_tables.proofs.orders.each_cut_of_every_order_leaves_what_it_should.Given as goal

abbrev pub ghosts-cut_orders : goal.ghosts-cut_orders
ghosts-cut_orders g a = record { name = a.blank.name; parts = a.blank.parts }
