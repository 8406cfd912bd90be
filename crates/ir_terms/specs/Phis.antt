-- Phis (LangRef, "'phi' Instruction").
use Rattle.std.specs.Prelude.{List, [], ◌∷◌, false}
use Rattle.ir_syntax.specs.Types.{TextTree}
use Rattle.ir_ident.specs.declared.name.NameUse.{NameUse}
use Rattle.ir_syntax.specs.declared.operand.Operand.{Operand}
use Rattle.ir_syntax.specs.declared.phi.PhiEntry.{PhiEntry}
use Rattle.ir_words.specs.declared.class.Class.TheVariants as class
use Rattle.ir_rules.specs.Rules.{Rule, ◌▷◌, ◌◁◌, made, seq, within}
use Rattle.ir_attributes.specs.Items.{items}
use Rattle.ir_types.specs.Types.{local_uses, types}
use Rattle.ir_values.specs.Values.{operands}

abbrev pub phi_entry_of : Operand × NameUse → PhiEntry
phi_entry_of z = record { value = z.0; block = z.1 }

-- [ value , LOCAL ]
unfoldable pub phi_entry_forms : Rule PhiEntry
phi_entry_forms = made phi_entry_of (class.OpenSquare ▷ seq operands (class.Comma ▷ local_uses ◁ class.CloseSquare))

abbrev pub phi_entries : Rule PhiEntry
phi_entries = within (class.OpenSquare ∷ []) [] false phi_entry_forms

-- what a phi says behind its name: its type and its entries
abbrev pub PhiParts : Type 0
PhiParts = TextTree × List PhiEntry

abbrev pub phi_parts_of : TextTree × (PhiEntry × List PhiEntry) → PhiParts
phi_parts_of z = (z.0, z.1.0 ∷ z.1.1)

-- "phi" type pin (, pin)* md*
unfoldable pub phi_forms : Rule PhiParts
phi_forms = made phi_parts_of (class.Phi ▷ seq (types 64) (seq phi_entries (items phi_entries)))

abbrev pub phis : Rule PhiParts
phis = within (class.Phi ∷ []) (class.Comma ∷ []) false phi_forms
