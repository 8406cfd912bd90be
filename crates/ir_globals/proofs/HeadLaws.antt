-- The rules of linkage and visibility keep the laws.
use Rattle.std.proofs.Common.{List, Some, None, refl}
use Rattle.std.specs.Prelude.{Option, fold}
use Rattle.ir_syntax.specs.declared.linkage.Linkage.TheVariants as link
use Rattle.ir_syntax.specs.declared.linkage.Visibility.{Visibility}
use Rattle.ir_syntax.specs.declared.linkage.Visibility.TheVariants as seen
use Rattle.ir_words.specs.declared.class.Class.TheVariants as class
use Rattle.ir_rules.specs.Laws.{Lawful}
use Rattle.ir_rules.proofs.Chains.{each_lawful}
use Rattle.ir_rules.proofs.Laws.{either_lawful, made_lawful, nothing_lawful, within_lawful}
use Rattle.ir_rules.proofs.Words.{means_law, word_law}
use Rattle.ir_calls.proofs.CallLaws.{convention_law}
use Rattle.ir_globals.specs.Heads.{address_forms, addresses, style_forms, styles, later_seen, linkage, linkage_forms, local_linkage, local_linkage_forms, mark_forms, marks, visibility, visibility_forms}

pub local_linkage_law : Lawful local_linkage
unfolding local_linkage_forms
local_linkage_law =
    within_lawful _ _ _ _ (either_lawful _ _ (means_law class.Private link.Internal refl refl)
    (either_lawful _ _ (means_law class.Internal link.Internal refl refl) (nothing_lawful link.External) refl refl) refl refl) refl refl refl

pub linkage_law : Lawful linkage
unfolding linkage_forms
linkage_law = within_lawful _ _ _ _ (either_lawful _ _ (means_law class.External link.External refl refl) local_linkage_law refl refl) refl refl refl

pub styles_law : Lawful styles
unfolding style_forms
styles_law =
    within_lawful _ _ _ _ (either_lawful _ _ (means_law class.Default seen.Default refl refl)
    (either_lawful _ _ (means_law class.Hidden seen.Hidden refl refl) (means_law class.Protected seen.Protected refl refl) refl refl) refl refl) refl refl refl

addresses_law : Lawful addresses
unfolding address_forms
addresses_law =
    within_lawful _ _ _ _ (either_lawful _ _ (word_law class.DsoLocal refl refl) (either_lawful _ _ (word_law class.DsoPreemptable refl refl)
    (either_lawful _ _ (word_law class.UnnamedAddr refl refl) (either_lawful _ _ (word_law class.LocalUnnamedAddr refl refl)
    (word_law class.ExternallyInitialized refl refl) refl refl) refl refl) refl refl) refl refl) refl refl refl

pub marks_law : Lawful marks
unfolding mark_forms
marks_law =
    within_lawful _ _ _ _ (either_lawful _ _ (made_lawful (λ (v : Visibility). Some v) _ styles_law)
    (either_lawful _ _ (made_lawful (λ (u : Unit {0}). None) _ addresses_law) (made_lawful (λ (u : Unit {0}). None) _ convention_law) refl refl) refl refl) refl refl refl

pub visibility_law : Lawful visibility
unfolding visibility_forms
visibility_law = within_lawful _ _ _ _ (made_lawful (λ (found : List (Option Visibility)). fold later_seen seen.Default found) _ (each_lawful _ marks_law refl refl)) refl refl refl
