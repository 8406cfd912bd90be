-- Indices of a getelementptr, and the numbers that they write.
use Rattle.std.specs.Prelude.{ℕ, ◌+◌, ◌-◌, ◌*◌, ◌^◌, Bool, true, false, nat_eq, nat_lt, Option, None, Some, if◌then◌else◌}
use Rattle.ir_syntax.specs.Types.{TextTree, int}
use Rattle.ir_syntax.specs.declared.literal.Literal.{Literal}
use Rattle.ir_syntax.specs.declared.operand.Operand.{Operand}
use Rattle.ir_syntax.specs.declared.operand.Operand.TheVariants.{Int}
use Rattle.ir_syntax.specs.declared.operand.TypedLiteral.{TypedLiteral}
use Rattle.ir_syntax.specs.declared.operand.TypedOperand.{TypedOperand}
use Rattle.ir_syntax.specs.Literals.{wrapped}

-- an integer literal with its type, or any other value
pub data Index : Type 0 where
  constant : TextTree → Literal → Index
  variable : Index

abbrev pub literal_index : TypedLiteral → Index
literal_index l = constant l.ty l.value

abbrev pub value_index : TextTree → Operand → Index
value_index ty (Int literal) = constant ty literal
value_index ty other = variable

abbrev pub operand_index : TypedOperand → Index
operand_index o = value_index o.ty o.value

-- a number of this many bits, its highest one repeated up to 64
abbrev pub sign_extended : ℕ → ℕ → ℕ
sign_extended bits n = if nat_lt (2 * n) (2 ^ bits) then n else n + (2 ^ 64 - 2 ^ bits)

-- the 64 bits of a literal of this many bits: sign-extended, or the lowest ones
abbrev pub word_of : ℕ → Literal → ℕ
word_of bits l = if nat_lt bits 64 then sign_extended bits (wrapped bits l) else wrapped 64 l

-- the 64 bits of a literal of an integer type
abbrev pub literal_word : TextTree → Literal → Option ℕ
literal_word (int bits) l = Some (word_of bits l)
literal_word other l = None

-- an index is an integer
abbrev pub is_integer : Index → Bool
is_integer (constant (int bits) l) = true
is_integer (constant other l) = false
is_integer variable = true

abbrev pub literal_field : TextTree → Literal → Option ℕ
literal_field (int bits) l = if nat_eq bits 32 then Some (wrapped 32 l) else None
literal_field other l = None

-- the number of the field that an index names: a constant of type `i32`
abbrev pub field_number : Index → Option ℕ
field_number (constant ty l) = literal_field ty l
field_number variable = None
