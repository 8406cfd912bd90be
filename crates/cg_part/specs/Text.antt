-- The items and the text of the one part.
use Rattle.std.specs.Prelude.{ℕ, true, List, ◌++◌, map, codes}
use Rattle.asm_print.specs.Items.{Item, items_text}
use Rattle.ir_syntax.specs.declared.function.Function.{Function}
use Rattle.ir_syntax.specs.declared.module.Module.{Module}
use Rattle.rv_isa.specs.Lines.{ended}
use Rattle.rv_isa.specs.Symbol.{spelled}
use Rattle.cg_built.specs.Built.{function_name}
use Rattle.cg_built.specs.Definitions.{declared_functions, defined_functions}
use Rattle.cg_part.specs.Code.{function_code}

-- a function as an item: its name, which other objects see, and its code
abbrev pub item_of : Function → Item
item_of f = record { name = function_name f; exported = true; code = function_code f }

-- the items of a part: the functions that the module defines, in its order
abbrev pub items_of : Module → List Item
items_of m = map item_of (defined_functions m)

-- the text of a part
unfoldable pub part_text : Module → List ℕ
part_text m = items_text (items_of m)

-- what is written: the line that begins the part, and its text
abbrev pub output_of : Module → List ℕ
output_of m = ended (codes "#--- part 0") ++ part_text m

-- a function's symbol as the assembly writes it
abbrev pub symbol_of : Function → List ℕ
symbol_of f = spelled (function_name f)

abbrev pub defined_symbols : Module → List (List ℕ)
defined_symbols m = map symbol_of (defined_functions m)

abbrev pub declared_symbols : Module → List (List ℕ)
declared_symbols m = map symbol_of (declared_functions m)
