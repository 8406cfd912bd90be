-- The rules of items that mean nothing here keep the laws.
use Rattle.std.proofs.Common.{refl}
use Rattle.std.specs.Prelude.{Option}
use Rattle.ir_words.specs.declared.class.Class.TheVariants as class
use Rattle.ir_rules.specs.Laws.{Lawful}
use Rattle.ir_rules.specs.declared.bracket.Bracket.TheVariants.{Curly}
use Rattle.ir_rules.proofs.Balances.{enclosed_lawful}
use Rattle.ir_rules.proofs.Derived.{option_lawful}
use Rattle.ir_rules.proofs.Laws.{either_lawful, made_lawful, within_lawful}
use Rattle.ir_rules.proofs.Leaves.{leading_lawful}
use Rattle.ir_rules.proofs.Words.{before_law, word_law}
use Rattle.ir_attributes.specs.Ignored.{attribute_group, ignored, ignored_forms, metadata, metadata_body, source_filename, target}
use Rattle.ir_attributes.proofs.AttributeLaws.{round_brackets_law}

source_filename_law : Lawful source_filename
source_filename_law = before_law class.SourceFilename _ refl refl (before_law class.Equal _ refl refl (word_law class.Str refl refl))

target_law : Lawful target
target_law =
    before_law class.Target _ refl refl (leading_lawful _ _ (either_lawful _ _ (word_law class.Triple refl refl) (word_law class.Datalayout refl refl) refl refl)
    (before_law class.Equal _ refl refl (word_law class.Str refl refl)) refl)

attribute_group_law : Lawful attribute_group
attribute_group_law =
    before_law class.Attributes _ refl refl (before_law class.Attr _ refl refl (before_law class.Equal _ refl refl (enclosed_lawful Curly)))

pub metadata_body_law : Lawful metadata_body
metadata_body_law =
    either_lawful _ _ (made_lawful (λ (o : Option (Unit {0})). tt) _ (before_law class.Meta _ refl refl (option_lawful _ round_brackets_law refl)))
    (before_law class.Bang _ refl refl (enclosed_lawful Curly)) refl refl

metadata_law : Lawful metadata
metadata_law =
    before_law class.Meta _ refl refl (before_law class.Equal _ refl refl
    (leading_lawful _ _ (option_lawful _ (word_law class.Distinct refl refl) refl) metadata_body_law refl))

pub ignored_law : Lawful ignored
unfolding ignored_forms
ignored_law =
    within_lawful _ _ _ _ (either_lawful _ _ source_filename_law (either_lawful _ _ target_law (either_lawful _ _ attribute_group_law metadata_law refl refl) refl refl) refl refl) refl refl refl
