-- Values of operands that are equal by what the text writes.
use Rattle.std.specs.Prelude.{ℕ, Bool, true, false, ◌&&◌, ◌||◌, not, nat_eq, Option, None, Some, List, [], ◌∷◌}
use Rattle.ir_ident.specs.Names.{same_name}
use Rattle.ir_syntax.specs.Types.{TextTree, TextTrees, int, ptr, array, struct, named, end, more}
use Rattle.ir_syntax.specs.declared.literal.Literal.{Literal}
use Rattle.ir_syntax.specs.declared.operand.ConstantGep.{ConstantGep}
use Rattle.ir_syntax.specs.declared.operand.Operand.{Operand}
use Rattle.ir_syntax.specs.declared.operand.Operand.TheVariants.{Local, Global, Int, True, False, Null, Undef, Poison, Gep}
use Rattle.ir_syntax.specs.declared.operand.TypedLiteral.{TypedLiteral}
use Rattle.ir_syntax.specs.Literals.{width_of, wrapped}

abbrev pub same_flag : Bool → Bool → Bool
same_flag true b = b
same_flag false b = not b

-- whether two literals are the same number
abbrev pub same_number : Literal → Literal → Bool
same_number a b = nat_eq a.magnitude b.magnitude && (same_flag a.negative b.negative || nat_eq a.magnitude 0)

-- the same where an integer type has a width
abbrev pub same_literal : Option ℕ → Literal → Literal → Bool
same_literal (Some width) a b = nat_eq (wrapped width a) (wrapped width b)
same_literal None a b = same_number a b

abbrev pub literal_of : Operand → Option Literal
literal_of (Int literal) = Some literal
literal_of True = Some (record { negative = false; magnitude = 1 })
literal_of False = Some (record { negative = false; magnitude = 0 })
literal_of operand = None

abbrev pub same_literals : Option ℕ → Option Literal → Option Literal → Bool
same_literals width (Some a) (Some b) = same_literal width a b
same_literals width a b = false

-- whether two types are written with the same words
abbrev mutual
  pub same_type : TextTree → TextTree → Bool
  same_type (int a) (int b) = nat_eq a b
  same_type ptr ptr = true
  same_type (array n a) (array m b) = nat_eq n m && same_type a b
  same_type (struct p xs) (struct q ys) = same_flag p q && same_types xs ys
  same_type (named a) (named b) = same_name a.name b.name
  same_type a b = false

  pub same_types : TextTrees → TextTrees → Bool
  same_types end end = true
  same_types (more a xs) (more b ys) = same_type a b && same_types xs ys
  same_types xs ys = false

abbrev pub same_index : TypedLiteral → TypedLiteral → Bool
same_index a b = same_type a.ty b.ty && same_number a.value b.value

abbrev pub same_indices : List TypedLiteral → List TypedLiteral → Bool
same_indices [] [] = true
same_indices (a ∷ xs) (b ∷ ys) = same_index a b && same_indices xs ys
same_indices xs ys = false

-- whether two constant getelementptrs are written with the same parts
abbrev pub same_gep : ConstantGep → ConstantGep → Bool
same_gep a b =
    same_flag a.inbounds b.inbounds && (same_name a.base.name b.base.name && (same_type a.ty b.ty && same_indices a.indices b.indices))

-- whether two operands of a type have equal values: `true` is 1 and `false` is 0, and literals wrap to the type's width
abbrev pub same_value : TextTree → Operand → Operand → Bool
same_value ty (Local a) (Local b) = same_name a.name b.name
same_value ty (Global a) (Global b) = same_name a.name b.name
same_value ty (Gep a) (Gep b) = same_gep a b
same_value ty Null Null = true
same_value ty Undef Undef = true
same_value ty Poison Poison = true
same_value ty a b = same_literals (width_of ty) (literal_of a) (literal_of b)
