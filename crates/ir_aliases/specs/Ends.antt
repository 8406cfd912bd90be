-- The ends of chains of aliases (LangRef, "Aliases").
use Rattle.std.specs.Prelude.{ℕ, zero, suc, ◌+◌, ◌-◌, ◌%◌, ◌^◌, Bool, true, false, ◌||◌, not, is_some, nat_eq, nat_lt, nat_le, Option, None, Some, length, slice_get, if◌then◌else◌}
use Rattle.std.specs.List.{position}
use Rattle.std.specs.Option.{option_and_then}
use Rattle.ir_aliases.specs.declared.position.End.{End}
use Rattle.ir_aliases.specs.declared.position.Position.{Position}
use Rattle.ir_aliases.specs.declared.position.Position.TheVariants.{Ended, At}
use Rattle.ir_geps.specs.Offsets.{parts_offset}
use Rattle.ir_ident.specs.declared.name.Name.{Name}
use Rattle.ir_scope.specs.Globals.{global_item}
use Rattle.ir_scope.specs.declared.item.GlobalItem.{GlobalItem}
use Rattle.ir_scope.specs.declared.item.GlobalItem.TheVariants.{Variable, Function, Alias}
use Rattle.ir_syntax.specs.declared.alias.Alias as alias
use Rattle.ir_syntax.specs.declared.alias.AliasBase.{AliasBase}
use Rattle.ir_syntax.specs.declared.alias.AliasBase.TheVariants as base
use Rattle.ir_syntax.specs.declared.module.Module.{Module}

-- the name that a base starts from
abbrev pub base_name : AliasBase → Name
base_name (base.Global used) = used.name
base_name (base.Gep gep) = gep.base.name

-- the offset from that name
abbrev pub base_offset : Module → AliasBase → Option ℕ
base_offset m (base.Global used) = Some 0
base_offset m (base.Gep gep) = parts_offset m.types gep

-- a chain ends in a definition: a variable with an initialiser, or a function with a body
abbrev pub ended_if : Option Bool → GlobalItem → Position
ended_if (Some true) item = Ended (Some (record { item = item; offset = 0 }))
ended_if other item = Ended None

abbrev pub variable_defined : Module → ℕ → Option Bool
variable_defined m place = option_and_then (λ g. Some (is_some g.init)) (slice_get m.globals place)

abbrev pub function_defined : Module → ℕ → Option Bool
function_defined m place = option_and_then (λ f. Some (is_some f.blocks)) (slice_get m.functions place)

-- where a chain stands that begins at a name
abbrev pub item_position : Module → Option GlobalItem → Position
item_position m None = Ended None
item_position m (Some (Variable place)) = ended_if (variable_defined m place) (Variable place)
item_position m (Some (Function place)) = ended_if (function_defined m place) (Function place)
item_position m (Some (Alias place)) = At place 0

abbrev pub moved : ℕ → Position → Position
moved offset (Ended None) = Ended None
moved offset (Ended (Some e)) = Ended (Some (record { item = e.item; offset = (offset + e.offset) % 2 ^ 64 }))
moved offset (At place n) = At place ((offset + n) % 2 ^ 64)

abbrev pub moved_by : Option ℕ → Position → Position
moved_by None position = Ended None
moved_by (Some offset) position = moved offset position

-- from an alias to its base
abbrev pub base_position : Module → AliasBase → Position
base_position m b = moved_by (base_offset m b) (item_position m (global_item m (base_name b)))

abbrev pub alias_position : Module → ℕ → Position
alias_position m place = by (slice_get m.aliases place)
  where
    by : Option alias.Alias → Position
    by None = Ended None
    by (Some a) = base_position m a.base

-- one step further, if the chain is not at its end
abbrev pub further : Module → Position → Position
further m (Ended end) = Ended end
further m (At place offset) = moved offset (alias_position m place)

abbrev pub followed : Module → ℕ → Position → Position
followed m zero position = position
followed m (suc steps) position = followed m steps (further m position)

-- a chain that has not ended after as many steps as there are aliases is a cycle
abbrev pub end_of : Position → Option End
end_of (Ended end) = end
end_of (At place offset) = None

abbrev pub alias_end : Module → Name → Option End
alias_end m name = end_of (followed m (length m.aliases) (item_position m (global_item m name)))

-- an offset, as a signed number, from -2^29 to 2^29 - 1
abbrev pub is_near : ℕ → Bool
is_near offset = nat_lt offset (2 ^ 29) || nat_le (2 ^ 64 - 2 ^ 29) offset

abbrev pub is_good_end : Option End → Bool
is_good_end None = false
is_good_end (Some e) = is_near e.offset

-- whether an alias of this name breaks the rule
abbrev pub is_bad_alias : Module → Name → Bool
is_bad_alias m name = not (is_good_end (alias_end m name))

abbrev pub function_place : GlobalItem → Option ℕ
function_place (Function place) = Some place
function_place other = None

abbrev pub called_at : Option End → Option ℕ
called_at None = None
called_at (Some e) = if nat_eq e.offset 0 then function_place e.item else None

-- the function that a callee stands for: itself, or that in which the chain of an alias ends, at offset 0
abbrev pub called_function : Module → Name → Option ℕ
called_function m name = by (global_item m name)
  where
    by : Option GlobalItem → Option ℕ
    by (Some (Function place)) = Some place
    by (Some (Alias place)) = called_at (alias_end m name)
    by other = None

-- the name of a function, or of an alias whose chain ends in one
abbrev pub names_function : Module → Name → Bool
names_function m name = by (global_item m name)
  where
    by : Option GlobalItem → Bool
    by (Some (Function place)) = true
    by (Some (Alias place)) = is_some (option_and_then (λ e. function_place e.item) (alias_end m name))
    by other = false

-- the place of the first alias of a module that breaks the rule
abbrev pub first_bad_alias : Module → Option ℕ
first_bad_alias m = position (λ (a : alias.Alias). is_bad_alias m a.name) m.aliases
