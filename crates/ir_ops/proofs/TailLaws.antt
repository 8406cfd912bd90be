-- The rules of what stands behind a comma keep the laws.
use Rattle.std.proofs.Common.{◌≡◌, ℕ, Some, None, refl}
use Rattle.std.specs.Prelude.{Option}
use Rattle.ir_syntax.specs.declared.operand.TypedLiteral.{TypedLiteral}
use Rattle.ir_words.specs.declared.class.Class.TheVariants as class
use Rattle.ir_rules.specs.Laws.{Lawful}
use Rattle.ir_rules.proofs.Laws.{either_lawful, made_lawful, nothing_lawful, seq_lawful, within_lawful}
use Rattle.ir_rules.proofs.Leaves.{ending_lawful, leading_lawful}
use Rattle.ir_rules.proofs.Words.{before_law}
use Rattle.ir_ops.specs.Tails.{align_tail, align_tail_forms, aligned, aligned_forms, alloca_tail, alloca_tail_forms, counted, counted_forms}
use Rattle.ir_attributes.proofs.AttributeLaws.{alignments_law, attachment_law, attachments_law}
use Rattle.ir_values.proofs.ValueLaws.{typed_literals_law}

pub aligned_law : Lawful aligned
unfolding aligned_forms
aligned_law =
    within_lawful _ _ _ _
    (either_lawful _ _ (made_lawful (λ (n : ℕ). Some n) _ (ending_lawful _ _ alignments_law attachments_law refl))
    (made_lawful (λ (u : Unit {0}). None) _ (leading_lawful _ _ attachment_law attachments_law refl)) refl refl)
    refl refl refl

pub align_tail_law : Lawful align_tail
unfolding align_tail_forms
align_tail_law = within_lawful _ _ _ _ (either_lawful _ _ (before_law class.Comma _ refl refl aligned_law) (nothing_lawful None) refl refl) refl refl refl

pub counted_law : Lawful counted
unfolding counted_forms
counted_law =
    within_lawful _ _ _ _
    (either_lawful _ _ (made_lawful (λ (n : Option ℕ). (None, n)) _ aligned_law)
    (made_lawful (λ (z : TypedLiteral × Option ℕ). (Some z.0, z.1)) _ (seq_lawful _ _ (typed_literals_law 64) align_tail_law refl)) refl refl)
    refl refl refl

pub alloca_tail_law : Lawful alloca_tail
unfolding alloca_tail_forms
alloca_tail_law =
    within_lawful _ _ _ _ (either_lawful _ _ (before_law class.Comma _ refl refl counted_law) (nothing_lawful (None, None)) refl refl) refl refl refl
