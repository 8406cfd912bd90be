-- Operands as slots and constants.
use Rattle.std.proofs.Math.Pow.{mod-mod-pow}
use native.Mathlib.Nat.{zero-add}
use Rattle.std.proofs.Common.{◌≡◌, ◌∙◌, ◌%◌, ◌^◌, ℕ, Option, None, Some, List, refl, sym, ap}
use Rattle.ir_ident.specs.declared.name.Name.{Name}
use Rattle.ir_loaded.specs.Pairs.{constant_of}
use Rattle.ir_sem.specs.Addresses.{Loaded}
use Rattle.ir_sem.specs.Operands.{bits_of, constant_or_local, narrowed}
use Rattle.ir_sem.specs.Locals.{none_defined}
use Rattle.ir_sem.specs.declared.value.Value.{Value}
use Rattle.ir_sem.specs.declared.value.Value.TheVariants.{Number, Poison}
use Rattle.ir_slots.specs.Slots.{slot_of, slot_value}
use Rattle.ir_slots.specs.Sources.{IsSource, local_source as local_source_of, slot_or_poison, source_at}
use Rattle.ir_slots.specs.declared.source.Source.TheVariants.{Constant}
use Rattle.ir_syntax.specs.Types.{TextTree}
use Rattle.ir_syntax.specs.declared.operand.Operand.{Operand}
use Rattle.ir_syntax.specs.declared.operand.Operand.TheVariants as operand

-- what is read at so many bits stays as it is
pub narrowed_again : (bits : ℕ) (value : Value) → narrowed bits (narrowed bits value) ≡ narrowed bits value
narrowed_again bits (Number n) = ap Number (sym (λ i. n % 2 ^ zero-add bits i % 2 ^ bits) ∙ mod-mod-pow n 0 bits)
narrowed_again bits Poison = refl

again : (bits : ℕ) (raw value : Value) → Some (narrowed bits raw) ≡ Some value → narrowed bits value ≡ narrowed bits raw
again bits raw value is = ap (narrowed bits) (some_is is) ∙ narrowed_again bits raw
  where
    some_is : Some (narrowed bits raw) ≡ Some value → value ≡ narrowed bits raw
    some_is same = cc

-- the constant that an operand stands for is its source
pub constant_source : (l : Loaded) (names : List Name) (ty : TextTree) (operand : Operand) (value : Value) → constant_of l ty operand ≡ Some value
    → IsSource l names (bits_of ty) operand (Constant value)
constant_source l names ty (operand.Local used) value is values = absurd (cc)
constant_source l names ty (operand.Global used) value is values = again (bits_of ty) (constant_or_local l none_defined (bits_of ty) (operand.Global used)) value is
constant_source l names ty (operand.Int literal) value is values = again (bits_of ty) (constant_or_local l none_defined (bits_of ty) (operand.Int literal)) value is
constant_source l names ty operand.True value is values = again (bits_of ty) (constant_or_local l none_defined (bits_of ty) operand.True) value is
constant_source l names ty operand.False value is values = again (bits_of ty) (constant_or_local l none_defined (bits_of ty) operand.False) value is
constant_source l names ty operand.Null value is values = again (bits_of ty) (constant_or_local l none_defined (bits_of ty) operand.Null) value is
constant_source l names ty operand.Undef value is values = again (bits_of ty) (constant_or_local l none_defined (bits_of ty) operand.Undef) value is
constant_source l names ty operand.Poison value is values = again (bits_of ty) (constant_or_local l none_defined (bits_of ty) operand.Poison) value is
constant_source l names ty (operand.Gep gep) value is values = again (bits_of ty) (constant_or_local l none_defined (bits_of ty) (operand.Gep gep)) value is

-- an operand that is no constant is a local name, and the name's slot its source
pub local_source : (l : Loaded) (names : List Name) (ty : TextTree) (operand : Operand) → constant_of l ty operand ≡ None
    → IsSource l names (bits_of ty) operand (local_source_of names operand)
local_source l names ty (operand.Local used) is values = by (slot_of names used.name)
  where
    by : (slot : Option ℕ) → source_at values (bits_of ty) (slot_or_poison slot) ≡ narrowed (bits_of ty) (slot_value values slot)
    by None = refl
    by (Some slot) = refl
local_source l names ty (operand.Global used) is values = absurd (cc)
local_source l names ty (operand.Int literal) is values = absurd (cc)
local_source l names ty operand.True is values = absurd (cc)
local_source l names ty operand.False is values = absurd (cc)
local_source l names ty operand.Null is values = absurd (cc)
local_source l names ty operand.Undef is values = absurd (cc)
local_source l names ty operand.Poison is values = absurd (cc)
local_source l names ty (operand.Gep gep) is values = absurd (cc)
