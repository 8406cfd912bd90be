-- The rules of phis keep the laws.
use Rattle.std.proofs.Common.{[], refl}
use Rattle.ir_words.specs.declared.class.Class.TheVariants as class
use Rattle.ir_rules.specs.Laws.{Lawful}
use Rattle.ir_rules.proofs.Laws.{made_lawful, seq_lawful, within_lawful}
use Rattle.ir_rules.proofs.Words.{after_law, before_law}
use Rattle.ir_terms.specs.Phis.{phi_entries, phi_entry_forms, phi_entry_of, phi_forms, phi_parts_of, phis}
use Rattle.ir_attributes.specs.Items.{items}
use Rattle.ir_attributes.proofs.ItemLaws.{items_law}
use Rattle.ir_types.proofs.TypeLaws.{local_uses_law, types_law}
use Rattle.ir_values.proofs.ValueLaws.{operands_law}

pub phi_entries_law : Lawful phi_entries
unfolding phi_entry_forms
phi_entries_law =
    within_lawful _ _ _ _ (made_lawful phi_entry_of _ (before_law class.OpenSquare _ refl refl (seq_lawful _ _ (operands_law 64)
    (before_law class.Comma _ refl refl (after_law _ class.CloseSquare refl refl local_uses_law refl)) refl))) refl refl refl

pub entry_items_law : Lawful (items phi_entries)
entry_items_law = items_law phi_entries phi_entries_law refl refl refl

pub phis_law : Lawful phis
unfolding phi_forms
phis_law =
    within_lawful _ _ _ _ (made_lawful phi_parts_of _ (before_law class.Phi _ refl refl (seq_lawful _ _ (types_law 64)
    (seq_lawful _ _ phi_entries_law entry_items_law refl) refl))) refl refl refl
