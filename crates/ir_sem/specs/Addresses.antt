-- A module whose variables have addresses, and where a global name leads (LangRef, "Global Variables" and "Aliases").
use Rattle.std.specs.Prelude.{ℕ, ◌+◌, ◌%◌, ◌^◌, Bool, is_some, Option, None, Some, List, [], ◌∷◌, get_or, if◌then◌else◌}
use Rattle.std.specs.List.{filter}
use Rattle.ir_aliases.specs.Ends.{alias_end}
use Rattle.ir_aliases.specs.declared.position.End.{End}
use Rattle.ir_ident.specs.declared.name.Name.{Name}
use Rattle.ir_scope.specs.declared.item.GlobalItem.{GlobalItem}
use Rattle.ir_scope.specs.declared.item.GlobalItem.TheVariants.{Variable}
use Rattle.ir_syntax.specs.declared.global.Global.{Global}
use Rattle.ir_syntax.specs.declared.module.Module.{Module}

-- a variable with an initialiser is defined, one without is declared
abbrev pub has_init : Global → Bool
has_init g = is_some g.init

abbrev pub defined_globals : Module → List Global
defined_globals m = filter has_init m.globals

-- a module, and the addresses of the variables that it defines, in its order
pub record Loaded : Type 0 where
  pub text : Module
  pub addresses : List ℕ

-- the address of each variable: those that are defined have these in order, and a declared one has none
abbrev pub addresses_of : List Global → List ℕ → List ℕ
addresses_of [] addresses = []
addresses_of (g ∷ globals) [] = 0 ∷ addresses_of globals []
addresses_of (g ∷ globals) (address ∷ addresses) =
    if has_init g then address ∷ addresses_of globals addresses else 0 ∷ addresses_of globals (address ∷ addresses)

abbrev pub variable_address : Loaded → ℕ → ℕ
variable_address l place = get_or (addresses_of l.text.globals l.addresses) place 0

-- functions have no addresses: the rules forbid them as values
abbrev pub item_address : Loaded → GlobalItem → ℕ
item_address l (Variable place) = variable_address l place
item_address l other = 0

abbrev pub end_address : Loaded → Option End → ℕ
end_address l None = 0
end_address l (Some end) = (item_address l end.item + end.offset) % 2 ^ 64

-- the address of a variable, or of that in which the chain of an alias ends, and behind it the chain's offsets
abbrev pub address_of : Loaded → Name → ℕ
address_of l name = end_address l (alias_end l.text name)
