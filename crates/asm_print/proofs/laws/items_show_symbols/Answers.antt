use Rattle.asm_print.proofs.Symbols.{items_globals, items_needs, items_symbols}
use Rattle.asm_print.proofs.laws.items_show_symbols.Goals as goal

pub returns-clause-defined : goal.returns-clause-defined
returns-clause-defined c = items_symbols

pub returns-clause-exported : goal.returns-clause-exported
returns-clause-exported c = items_globals

pub returns-clause-needed : goal.returns-clause-needed
returns-clause-needed c = items_needs
