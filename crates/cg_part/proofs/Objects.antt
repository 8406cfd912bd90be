-- The object that a module's text assembles to.
use Rattle.std.specs.Prelude.{ℕ, List, map}
use Rattle.asm_print.specs.Items.{items_code, object_of, symbols_from}
use Rattle.asm_read.specs.declared.object.Object.{Object}
use Rattle.asm_read.specs.declared.object.ObjectSymbol.{ObjectSymbol}
use Rattle.ir_syntax.specs.declared.function.Function.{Function}
use Rattle.ir_syntax.specs.declared.module.Module.{Module}
use Rattle.rv_isa.specs.declared.inst.Inst.{Inst}
use Rattle.cg_part.specs.Text.{item_of, items_of}

-- the instructions of functions, one after the other
abbrev pub part_code : List Function → List Inst
part_code functions = items_code (map item_of functions)

-- the symbols of functions, the first of which begins after this many instructions
abbrev pub part_symbols : ℕ → List Function → List ObjectSymbol
part_symbols before functions = symbols_from before (map item_of functions)

-- the object of a module: its code, a global symbol for each function, and nothing needed from elsewhere
abbrev pub part_object : Module → Object
part_object m = object_of (items_of m)
