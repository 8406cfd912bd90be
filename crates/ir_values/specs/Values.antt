-- Values as operands (LangRef, "Constants" and "Identifiers").
use Rattle.std.specs.Prelude.{ℕ, Some, List, [], ◌∷◌, ◌++◌, Bool, false}
use Rattle.ir_syntax.specs.Types.{TextTree}
use Rattle.ir_syntax.specs.declared.literal.Literal.{Literal}
use Rattle.ir_ident.specs.declared.name.NameUse.{NameUse}
use Rattle.ir_syntax.specs.declared.operand.ConstantGep.{ConstantGep}
use Rattle.ir_syntax.specs.declared.operand.Operand.{Operand}
use Rattle.ir_syntax.specs.declared.operand.Operand.TheVariants as operand
use Rattle.ir_syntax.specs.declared.operand.TypedLiteral.{TypedLiteral}
use Rattle.ir_syntax.specs.declared.operand.TypedOperand.{TypedOperand}
use Rattle.ir_words.specs.declared.class.Class.{Class}
use Rattle.ir_words.specs.declared.class.Class.TheVariants.{Global, MetadataIntrinsic, DroppedIntrinsic, Intrinsic, Getelementptr, Inbounds, OpenRound, CloseRound, Comma, Ptr, Local, Int, True, False, Null, Undef, Poison}
use Rattle.ir_rules.specs.Leaves.{flag, leaf, lined, means}
use Rattle.ir_rules.specs.Rules.{Rule, ◌▷◌, ◌◁◌, each, either, made, seq, within}
use Rattle.ir_types.specs.Names.{sigil_name, use_of}
use Rattle.ir_types.specs.Types.{literals, local_uses, type_firsts, types}

-- GLOBAL of some classes: `@` and a name, where it is used
abbrev pub global_uses_in : List Class → Rule NameUse
global_uses_in classes = made use_of (lined (leaf classes (λ (text : List ℕ). Some (sigil_name text))))

-- the classes of `@` and a name
abbrev pub global_classes : List Class
global_classes = Global ∷ MetadataIntrinsic ∷ DroppedIntrinsic ∷ Intrinsic ∷ []

-- GLOBAL, where it is used
abbrev pub global_uses : Rule NameUse
global_uses = global_uses_in global_classes

abbrev pub typed_literal : TextTree × Literal → TypedLiteral
typed_literal z = record { ty = z.0; value = z.1 }

-- type INT
abbrev pub typed_literals : ℕ → Rule TypedLiteral
typed_literals depth = made typed_literal (seq (types depth) literals)

abbrev pub gep_of : Bool × (TextTree × (NameUse × List TypedLiteral)) → ConstantGep
gep_of z = record { inbounds = z.0; ty = z.1.0; base = z.1.1.0; indices = z.1.1.1 }

-- "getelementptr" ["inbounds"] ( type , "ptr" GLOBAL (, type INT)* )
unfoldable pub gep_forms : ℕ → Rule ConstantGep
gep_forms depth = made gep_of (Getelementptr ▷ seq (flag Inbounds)
    (OpenRound ▷ seq (types depth) (seq (Comma ▷ Ptr ▷ global_uses) (each (Comma ▷ typed_literals depth) ◁ CloseRound))))

abbrev pub constant_geps : ℕ → Rule ConstantGep
constant_geps depth = within (Getelementptr ∷ []) [] false (gep_forms depth)

-- "true" | "false" | "null" | "undef" | "poison"
unfoldable pub word_forms : Rule Operand
word_forms =
    either (means True operand.True) (either (means False operand.False)
    (either (means Null operand.Null) (either (means Undef operand.Undef) (means Poison operand.Poison))))

abbrev pub word_value_firsts : List Class
word_value_firsts = True ∷ False ∷ Null ∷ Undef ∷ Poison ∷ []

abbrev pub word_values : Rule Operand
word_values = within word_value_firsts [] false word_forms

-- INT | "true" | "false" | "null" | "undef" | "poison"
unfoldable pub constant_forms : Rule Operand
constant_forms = either (made (λ (l : Literal). operand.Int l) literals) word_values

abbrev pub constants : Rule Operand
constants = within (Int ∷ word_value_firsts) [] false constant_forms

-- LOCAL | GLOBAL | INT | "true" | "false" | "null" | "undef" | "poison"
unfoldable pub scalar_forms : Rule Operand
scalar_forms =
    either (made (λ (n : NameUse). operand.Local n) local_uses)
    (either (made (λ (n : NameUse). operand.Global n) global_uses) constants)

-- the tokens that are a value
abbrev pub scalar_firsts : List Class
scalar_firsts = Local ∷ (global_classes ++ Int ∷ word_value_firsts)

abbrev pub scalars : Rule Operand
scalars = within scalar_firsts [] false scalar_forms

-- a scalar | cgep
unfoldable pub operand_forms : ℕ → Rule Operand
operand_forms depth = either (made (λ (g : ConstantGep). operand.Gep g) (constant_geps depth)) scalars

abbrev pub operands_within : ℕ → Rule Operand
operands_within depth = within (Getelementptr ∷ scalar_firsts) [] false (operand_forms depth)

-- value
abbrev pub operands : Rule Operand
operands = operands_within 64

abbrev pub typed_operand : TextTree × Operand → TypedOperand
typed_operand z = record { ty = z.0; value = z.1 }

-- type value
unfoldable pub typed_forms : Rule TypedOperand
typed_forms = made typed_operand (seq (types 64) operands)

abbrev pub typed_operands : Rule TypedOperand
typed_operands = within type_firsts [] false typed_forms
