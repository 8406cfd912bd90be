-- The runs of a module that a linked image is compared with.
use Rattle.std.specs.Prelude.{◌≡◌, ℕ, true, Option, None, Some, List, [], ◌∷◌, ◌++◌, bytes_eq, count_by, find, map, if◌then◌else◌}
use Rattle.std.specs.List.{flat_map}
use Rattle.std.specs.Option.{option_map_or}
use Rattle.cg_built.specs.Main.{fits_main, the_main}
use Rattle.ir_given.specs.Given.{is_unnamed, symbol_of}
use Rattle.ir_ident.specs.declared.name.Name.{Name}
use Rattle.ir_sem.specs.Addresses.{Loaded, has_init}
use Rattle.ir_syntax.specs.declared.function.Function.{Function}
use Rattle.ir_syntax.specs.declared.global.Global.{Global}
use Rattle.ir_syntax.specs.declared.module.Module.{Module}
use Rattle.obj_link.specs.declared.image.SymbolAddress.{SymbolAddress}

-- the `main` of a module, of a type that a run can call
pub record IsMain (m : Module) (f : Function) : Type 0 where
  pub found : the_main m ≡ Some f
  pub fits : fits_main f ≡ true

-- the address of the first symbol of a name
abbrev pub symbol_address : List SymbolAddress → List ℕ → ℕ
symbol_address symbols name = option_map_or (λ s. s.address) (find (λ s. bytes_eq s.name name) symbols) 0

abbrev pub address_by : List SymbolAddress → Option (List ℕ) → ℕ
address_by symbols None = 0
address_by symbols (Some name) = symbol_address symbols name

-- the addresses of those of these variables that are defined, where items of these names stand before them
abbrev pub variable_addresses : Module → List SymbolAddress → List Name → List Global → List ℕ
variable_addresses m symbols before [] = []
variable_addresses m symbols before (g ∷ globals) =
    if has_init g
    then address_by symbols (symbol_of m (count_by is_unnamed before) g.name) ∷ variable_addresses m symbols (before ++ g.name ∷ []) globals
    else variable_addresses m symbols (before ++ g.name ∷ []) globals

-- a module with its variables where the symbols of an image are
abbrev pub loaded_at : Module → List (List SymbolAddress) → Loaded
loaded_at m addresses = record {
  text = m;
  addresses = variable_addresses m (flat_map (λ symbols. symbols) addresses) (map (λ f. f.name) m.functions) m.globals;
}
