-- The rules of values keep the laws.
use Rattle.std.proofs.Common.{◌≡◌, ℕ, [], ◌∷◌, refl}
use Rattle.ir_syntax.specs.declared.literal.Literal.{Literal}
use Rattle.ir_ident.specs.declared.name.NameUse.{NameUse}
use Rattle.ir_syntax.specs.declared.operand.ConstantGep.{ConstantGep}
use Rattle.ir_syntax.specs.declared.operand.Operand.TheVariants as operand
use Rattle.ir_words.specs.Intrinsics.{begins_with, global_class, global_name, name_class}
use Rattle.ir_words.specs.declared.class.Class.TheVariants as class
use Rattle.ir_rules.specs.Laws.{Lawful}
use Rattle.ir_rules.specs.Rules.{◌▷◌, ◌◁◌}
use Rattle.ir_rules.proofs.Chains.{each_lawful}
use Rattle.ir_rules.proofs.Laws.{either_lawful, made_lawful, seq_lawful, within_lawful}
use Rattle.ir_rules.proofs.Leaves.{leaf_lawful, lined_lawful}
use Rattle.ir_rules.proofs.Examples.{example}
use Rattle.ir_rules.proofs.Words.{after_law, before_law, flag_law, means_law}
use Rattle.ir_types.specs.Names.{name_of, use_of}
use Rattle.ir_values.specs.Values.{constant_forms, constant_geps, constants, gep_forms, gep_of, global_uses, operand_forms, operands_within, scalar_forms, scalars, typed_forms, typed_literal, typed_literals, typed_operand, typed_operands, word_forms, word_values}
use Rattle.ir_types.proofs.TypeLaws.{literals_law, local_uses_law, types_law}

pub global_uses_law : Lawful global_uses
unfolding name_of global_class global_name name_class begins_with
global_uses_law = made_lawful use_of _ (lined_lawful _ (leaf_lawful _ _ (example class.Global) _ refl) refl)

pub typed_literals_law : (depth : ℕ) → Lawful (typed_literals depth)
typed_literals_law depth = made_lawful typed_literal _ (seq_lawful _ _ (types_law depth) literals_law refl)

pub constant_geps_law : (depth : ℕ) → Lawful (constant_geps depth)
unfolding gep_forms
constant_geps_law depth =
    within_lawful _ _ _ _ (made_lawful gep_of _
    (before_law class.Getelementptr _ refl refl (seq_lawful _ _ (flag_law class.Inbounds refl refl)
    (before_law class.OpenRound _ refl refl (seq_lawful _ _ (types_law depth)
    (seq_lawful _ _ (before_law class.Comma _ refl refl (before_law class.Ptr _ refl refl global_uses_law))
    (after_law _ class.CloseRound refl refl (each_lawful _ (before_law class.Comma _ refl refl (typed_literals_law depth)) refl refl) refl) refl) refl)) refl)))
    refl refl refl

word_values_law : Lawful word_values
unfolding word_forms
word_values_law =
    within_lawful _ _ _ _
    (either_lawful _ _ (means_law class.True operand.True refl refl)
    (either_lawful _ _ (means_law class.False operand.False refl refl)
    (either_lawful _ _ (means_law class.Null operand.Null refl refl)
    (either_lawful _ _ (means_law class.Undef operand.Undef refl refl)
    (means_law class.Poison operand.Poison refl refl) refl refl) refl refl) refl refl) refl refl)
    refl refl refl

constants_law : Lawful constants
unfolding constant_forms
constants_law =
    within_lawful _ _ _ _ (either_lawful _ _ (made_lawful (λ (l : Literal). operand.Int l) _ literals_law) word_values_law refl refl) refl refl refl

pub scalars_law : Lawful scalars
unfolding scalar_forms
scalars_law =
    within_lawful _ _ _ _
    (either_lawful _ _ (made_lawful (λ (n : NameUse). operand.Local n) _ local_uses_law)
    (either_lawful _ _ (made_lawful (λ (n : NameUse). operand.Global n) _ global_uses_law) constants_law refl refl) refl refl)
    refl refl refl

pub operands_law : (depth : ℕ) → Lawful (operands_within depth)
unfolding operand_forms
operands_law depth =
    within_lawful _ _ _ _ (either_lawful _ _ (made_lawful (λ (g : ConstantGep). operand.Gep g) _ (constant_geps_law depth)) scalars_law refl refl) refl refl refl

pub typed_operands_law : Lawful typed_operands
unfolding typed_forms
typed_operands_law = within_lawful _ _ _ _ (made_lawful typed_operand _ (seq_lawful _ _ (types_law 64) (operands_law 64) refl)) refl refl refl
