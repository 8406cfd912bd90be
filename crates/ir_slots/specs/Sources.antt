-- Operands as slots and constants.
use Rattle.std.specs.Prelude.{◌≡◌, ℕ, Option, None, Some, List, map}
use Rattle.ir_sem.specs.Addresses.{Loaded}
use Rattle.ir_sem.specs.Operands.{constant_or_local, narrowed, operand_value}
use Rattle.ir_sem.specs.declared.value.Value.{Value}
use Rattle.ir_sem.specs.declared.value.Value.TheVariants.{Poison}
use Rattle.ir_slots.specs.Slots.{locals_in, slot_of, slot_value}
use Rattle.ir_slots.specs.declared.input.Input.{Input}
use Rattle.ir_slots.specs.declared.source.Source.{Source}
use Rattle.ir_slots.specs.declared.source.Source.TheVariants.{Slot, Constant}
use Rattle.ir_ident.specs.declared.name.Name.{Name}
use Rattle.ir_syntax.specs.Types.{TextTree}
use Rattle.ir_syntax.specs.declared.operand.Operand.{Operand}
use Rattle.ir_syntax.specs.declared.operand.Operand.TheVariants.{Local}

abbrev pub source_value : List Value → Source → Value
source_value values (Slot slot) = slot_value values (Some slot)
source_value values (Constant value) = value

abbrev pub source_at : List Value → ℕ → Source → Value
source_at values bits source = narrowed bits (source_value values source)

abbrev pub input_value : List Value → Input → Value
input_value values input = source_at values input.width input.source

abbrev pub input_values : List Value → List Input → List Value
input_values values inputs = map (input_value values) inputs

abbrev pub slot_or_poison : Option ℕ → Source
slot_or_poison None = Constant Poison
slot_or_poison (Some slot) = Slot slot

-- where the value of a local name comes from
abbrev pub local_source : List Name → Operand → Source
local_source names (Local used) = slot_or_poison (slot_of names used.name)
local_source names other = Constant Poison

-- a source stands for an operand that is read at so many bits, whatever values the slots have
abbrev pub IsSource : Loaded → List Name → ℕ → Operand → Source → Type 0
IsSource l names bits operand source =
    (values : List Value) → source_at values bits source ≡ narrowed bits (constant_or_local l (locals_in names values) bits operand)

-- and an input for one of a type
abbrev pub IsInput : Loaded → List Name → TextTree → Operand → Input → Type 0
IsInput l names ty operand input = (values : List Value) → input_value values input ≡ operand_value l (locals_in names values) ty operand
