use Rattle.ir_aliases.proofs.tables.+leading.Given as goal

abbrev pub decreases-leading : goal.decreases-leading
decreases-leading l = l.steps
