-- The rules of terminators keep the laws.
use Rattle.std.proofs.Common.{refl}
use Rattle.ir_ident.specs.declared.name.NameUse.{NameUse}
use Rattle.ir_syntax.specs.declared.operand.TypedOperand.{TypedOperand}
use Rattle.ir_terms.specs.declared.term_body.TermBody.TheVariants as form
use Rattle.ir_words.specs.declared.class.Class.TheVariants as class
use Rattle.ir_rules.specs.Laws.{Lawful}
use Rattle.ir_rules.proofs.Chains.{each_lawful}
use Rattle.ir_rules.proofs.Laws.{either_lawful, made_lawful, seq_lawful, within_lawful}
use Rattle.ir_rules.proofs.Leaves.{ending_lawful, lined_lawful}
use Rattle.ir_rules.proofs.Words.{after_law, before_law, means_law}
use Rattle.ir_terms.specs.Terms.{branch_forms, branch_of, branches, case_forms, case_of, cases, conditional_forms, conditionals, return_forms, returns, switch_forms, switch_of, switches, targets, term_forms, term_of, terms}
use Rattle.ir_attributes.proofs.AttributeLaws.{attachments_law}
use Rattle.ir_types.proofs.TypeLaws.{literals_law, local_uses_law, types_law}
use Rattle.ir_values.proofs.ValueLaws.{typed_operands_law}

pub targets_law : Lawful targets
targets_law = before_law class.LabelWord _ refl refl local_uses_law

returns_law : Lawful returns
unfolding return_forms
returns_law =
    within_lawful _ _ _ _ (before_law class.Ret _ refl refl (either_lawful _ _ (means_law class.Void form.ReturnVoid refl refl)
    (made_lawful (λ (o : TypedOperand). form.Return o) _ typed_operands_law) refl refl)) refl refl refl

conditionals_law : Lawful conditionals
unfolding conditional_forms
conditionals_law =
    within_lawful _ _ _ _ (made_lawful branch_of _ (seq_lawful _ _ typed_operands_law
    (seq_lawful _ _ (before_law class.Comma _ refl refl targets_law) (before_law class.Comma _ refl refl targets_law) refl) refl)) refl refl refl

branches_law : Lawful branches
unfolding branch_forms
branches_law =
    within_lawful _ _ _ _ (before_law class.Br _ refl refl (either_lawful _ _ (made_lawful (λ (target : NameUse). form.Jump target) _ targets_law)
    conditionals_law refl refl)) refl refl refl

pub cases_law : Lawful cases
unfolding case_forms
cases_law =
    within_lawful _ _ _ _ (made_lawful case_of _ (seq_lawful _ _ (types_law 64)
    (seq_lawful _ _ literals_law (before_law class.Comma _ refl refl targets_law) refl) refl)) refl refl refl

switches_law : Lawful switches
unfolding switch_forms
switches_law =
    within_lawful _ _ _ _ (made_lawful switch_of _ (before_law class.Switch _ refl refl (seq_lawful _ _ typed_operands_law
    (seq_lawful _ _ (before_law class.Comma _ refl refl targets_law)
    (before_law class.OpenSquare _ refl refl (after_law _ class.CloseSquare refl refl (each_lawful _ cases_law refl refl) refl)) refl) refl))) refl refl refl

pub terms_law : Lawful terms
unfolding term_forms
terms_law =
    within_lawful _ _ _ _ (made_lawful term_of _ (lined_lawful _ (ending_lawful _ _
    (either_lawful _ _ returns_law (either_lawful _ _ branches_law (either_lawful _ _ switches_law (means_law class.Unreachable form.Unreachable refl refl) refl refl) refl refl) refl refl)
    attachments_law refl) refl)) refl refl refl
