-- The rules of attributes and of attached metadata keep the laws.
use Rattle.std.proofs.Common.{◌≡◌, ℕ, List, [], ◌∷◌, Some, None, refl}
use Rattle.std.specs.Prelude.{Option, fold}
use Rattle.ir_words.specs.declared.class.Class.TheVariants as class
use Rattle.ir_rules.specs.Laws.{Lawful}
use Rattle.ir_rules.specs.declared.bracket.Bracket.TheVariants.{Round}
use Rattle.ir_rules.proofs.Balances.{enclosed_lawful}
use Rattle.ir_rules.proofs.Chains.{each_lawful}
use Rattle.ir_rules.proofs.Derived.{dropped_lawful, option_lawful}
use Rattle.ir_rules.proofs.Laws.{either_lawful, made_lawful, within_lawful}
use Rattle.ir_rules.proofs.Words.{before_law, means_law, word_law}
use Rattle.ir_attributes.specs.Attributes.{alignment_of, alignments, an_attribute, attachment, attachment_list, attachments, attribute_forms, attribute_list, attributes, later, no_alignment, round_brackets}
use Rattle.ir_types.proofs.TypeLaws.{literals_law}

pub alignments_law : Lawful alignments
alignments_law = before_law class.Align _ refl refl (made_lawful alignment_of _ literals_law)

pub round_brackets_law : Lawful round_brackets
round_brackets_law = enclosed_lawful Round

pub an_attribute_law : Lawful an_attribute
unfolding attribute_forms
an_attribute_law =
    within_lawful _ _ _ _
    (either_lawful _ _ (made_lawful no_alignment _ (before_law class.Attribute _ refl refl (option_lawful _ round_brackets_law refl)))
    (either_lawful _ _ (made_lawful (λ (n : ℕ). Some n) _ alignments_law)
    (either_lawful _ _ (made_lawful no_alignment _ (before_law class.Str _ refl refl (option_lawful _ (before_law class.Equal _ refl refl (word_law class.Str refl refl)) refl)))
    (means_law class.Attr None refl refl) refl refl) refl refl) refl refl)
    refl refl refl

pub attributes_law : Lawful attributes
unfolding attribute_list
attributes_law =
    within_lawful _ _ _ _ (made_lawful (λ (found : List (Option ℕ)). fold later None found) _ (each_lawful _ an_attribute_law refl refl)) refl refl refl

pub attachment_law : Lawful attachment
attachment_law = before_law class.Meta _ refl refl (word_law class.Meta refl refl)

pub attachments_law : Lawful attachments
unfolding attachment_list
attachments_law = within_lawful _ _ _ _ (dropped_lawful _ (before_law class.Comma _ refl refl attachment_law) refl refl) refl refl refl
