-- The rules of initialisers keep the laws.
use Rattle.std.proofs.Common.{ℕ, zero, suc, List, refl}
use Rattle.ir_syntax.specs.InitLists.{inits_from}
use Rattle.ir_syntax.specs.Inits.{value, zeros, bytes, array, struct, packed}
use Rattle.ir_syntax.specs.declared.init.TypedInit.{TypedInit}
use Rattle.ir_syntax.specs.declared.operand.ConstantGep.{ConstantGep}
use Rattle.ir_syntax.specs.declared.operand.Operand.{Operand}
use Rattle.ir_syntax.specs.declared.operand.Operand.TheVariants.{Gep}
use Rattle.ir_words.specs.declared.class.Class.TheVariants as class
use Rattle.ir_rules.specs.Laws.{Lawful}
use Rattle.ir_rules.specs.Rules.{commas}
use Rattle.ir_rules.proofs.Derived.{commas_lawful}
use Rattle.ir_rules.proofs.Laws.{either_lawful, made_lawful, seq_lawful, within_lawful}
use Rattle.ir_rules.proofs.Leaves.{leaf_lawful}
use Rattle.ir_rules.proofs.Examples.{example}
use Rattle.ir_rules.proofs.Words.{after_law, before_law, means_law}
use Rattle.ir_types.proofs.TypeLaws.{types_law}
use Rattle.ir_values.proofs.ValueLaws.{constant_geps_law, scalars_law}
use Rattle.ir_inits.specs.Initialisers.{bracketed_inits, character_arrays, inits, inits_in, of_inits, part_of, parts, plain_forms, plain_inits}

character_arrays_law : Lawful character_arrays
character_arrays_law = leaf_lawful _ _ (example class.CStr) _ refl

pub plain_inits_law : Lawful plain_inits
unfolding plain_forms
plain_inits_law =
    within_lawful _ _ _ _ (either_lawful _ _ (means_law class.Zeroinitializer zeros refl refl)
    (either_lawful _ _ (made_lawful (λ (b : List ℕ). bytes b) _ character_arrays_law) (made_lawful (λ (o : Operand). value o) _ scalars_law) refl refl) refl refl) refl refl refl

-- what the bracketed initialisers of one more bracket are made of
module _ (depth : ℕ) (li : Lawful (inits depth)) where
  pub parts_law : Lawful (parts depth (inits depth))
  parts_law = within_lawful _ _ _ _ (made_lawful part_of _ (seq_lawful _ _ (types_law depth) li refl)) refl refl refl

  pub listed_law : Lawful (commas (parts depth (inits depth)))
  listed_law = commas_lawful _ parts_law refl refl refl

  brackets_law : Lawful (of_inits (bracketed_inits depth (inits depth)))
  brackets_law =
      within_lawful _ _ _ _
      (either_lawful _ _ (made_lawful (λ (ps : List TypedInit). array (inits_from ps)) _
      (before_law class.OpenSquare _ refl refl (after_law _ class.CloseSquare refl refl listed_law refl)))
      (either_lawful _ _ (made_lawful (λ (ps : List TypedInit). struct (inits_from ps)) _
      (before_law class.OpenCurly _ refl refl (after_law _ class.CloseCurly refl refl listed_law refl)))
      (either_lawful _ _ (made_lawful (λ (ps : List TypedInit). packed (inits_from ps)) _
      (before_law class.OpenPacked _ refl refl (after_law _ class.ClosePacked refl refl listed_law refl)))
      (either_lawful _ _ (made_lawful (λ (g : ConstantGep). value (Gep g)) _ (constant_geps_law depth)) plain_inits_law refl refl) refl refl) refl refl) refl refl)
      refl refl refl

pub inits_law : (depth : ℕ) → Lawful (inits depth)
unfolding inits_in
inits_law zero = within_lawful _ _ _ _ plain_inits_law refl refl refl
inits_law (suc depth) = brackets_law depth (inits_law depth)
