-- What operands stand for (LangRef, "Constants").
use Rattle.std.specs.Prelude.{ℕ, ◌+◌, ◌%◌, ◌^◌, ◌&&◌, nat_le, nat_lt, if◌then◌else◌, Option, None, Some}
use Rattle.ir_geps.specs.Offsets.{parts_offset}
use Rattle.ir_sem.specs.Addresses.{Loaded, address_of}
use Rattle.ir_sem.specs.Locals.{Locals}
use Rattle.ir_sem.specs.declared.value.Value.{Value}
use Rattle.ir_sem.specs.declared.value.Value.TheVariants as value
use Rattle.ir_sem.specs.declared.value.Value.TheVariants.{Number}
use Rattle.ir_syntax.specs.Literals.{wrapped}
use Rattle.ir_syntax.specs.Types.{TextTree, int}
use Rattle.ir_syntax.specs.declared.operand.GepParts.{GepParts}
use Rattle.ir_syntax.specs.declared.operand.Operand.{Operand}
use Rattle.ir_syntax.specs.declared.operand.Operand.TheVariants.{Local, Global, Int, True, False, Null, Undef, Poison, Gep}

-- the number of bits of a value: of an integer 1 to 64, and the text has no others; a pointer has 64
abbrev pub bits_of : TextTree → ℕ
bits_of (int bits) = if nat_lt 0 bits && nat_le bits 64 then bits else 64
bits_of other = 64

-- a value at so many bits; one that is read at its own type is as it is
abbrev pub narrowed : ℕ → Value → Value
narrowed bits (Number n) = Number (n % 2 ^ bits)
narrowed bits value.Poison = value.Poison

abbrev pub or_zero : Option ℕ → ℕ
or_zero None = 0
or_zero (Some n) = n

-- the address that a constant getelementptr makes
abbrev pub constant_address : Loaded → GepParts → ℕ
constant_address l g = (address_of l g.base.name + or_zero (parts_offset l.text.types g)) % 2 ^ 64

-- `undef` is 0
abbrev pub constant_or_local : Loaded → Locals → ℕ → Operand → Value
constant_or_local l locals bits (Local used) = locals used.name
constant_or_local l locals bits (Global used) = Number (address_of l used.name)
constant_or_local l locals bits (Int literal) = Number (wrapped bits literal)
constant_or_local l locals bits True = Number 1
constant_or_local l locals bits False = Number 0
constant_or_local l locals bits Null = Number 0
constant_or_local l locals bits Undef = Number 0
constant_or_local l locals bits Poison = value.Poison
constant_or_local l locals bits (Gep gep) = Number (constant_address l gep)

abbrev pub operand_value : Loaded → Locals → TextTree → Operand → Value
operand_value l locals ty operand = narrowed (bits_of ty) (constant_or_local l locals (bits_of ty) operand)
