use Rattle.text_tables.proofs.tree_text.+show_statement.Given as goal

abbrev pub decreases-show_statement : goal.decreases-show_statement
decreases-show_statement l = l.depth
