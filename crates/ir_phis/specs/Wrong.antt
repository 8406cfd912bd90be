-- The lines of what breaks a rule on the edges between blocks (LangRef, "phi Instruction" and "Functions").
use Rattle.std.specs.Prelude.{ℕ, Bool, ◌&&◌, not, Option, None, Some, List, [], ◌++◌, length, slice_get}
use Rattle.std.specs.List.{flat_map, range_with_len}
use Rattle.ir_cfg.specs.Reached.{has_place, label_place, term_successors}
use Rattle.ir_ident.specs.declared.name.Name.{Name}
use Rattle.ir_phis.specs.Entries.{entry_places, have_one_value, same_items}
use Rattle.ir_phis.specs.Predecessors.{predecessors}
use Rattle.ir_syntax.specs.Lines.{line_if}
use Rattle.ir_syntax.specs.declared.block.Block.{Block}
use Rattle.ir_syntax.specs.declared.module.Module.{Module}
use Rattle.ir_syntax.specs.declared.phi.Phi.{Phi}
use Rattle.ir_syntax.specs.declared.term.Term.{Term}
use Rattle.ir_syntax.specs.Terms.{term_line}

-- whether a terminator leads to the first block
abbrev pub leads_to_entry : (Name → Option ℕ) → Term → Bool
leads_to_entry known t = has_place (term_successors known t) 0

-- whether a phi has one entry for each of these predecessors, and one value for each block
abbrev pub fits_edges : (Name → Option ℕ) → List ℕ → Phi → Bool
fits_edges known from p = same_items (entry_places known p.entries) from && have_one_value p.ty p.entries

abbrev pub wrong_phis : (Name → Option ℕ) → List ℕ → List Phi → List ℕ
wrong_phis known from phis = flat_map (λ p. line_if (not (fits_edges known from p)) p.line) phis

abbrev pub wrong_in_block : (Name → Option ℕ) → List ℕ → Option Block → List ℕ
wrong_in_block known from None = []
wrong_in_block known from (Some b) = wrong_phis known from b.phis ++ line_if (leads_to_entry known b.term) (term_line b.term)

-- in the blocks of a function, where `known` has the places of labels
abbrev pub wrong_in_blocks : (Name → Option ℕ) → List Block → List ℕ
wrong_in_blocks known blocks =
    flat_map (λ place. wrong_in_block known (predecessors known blocks place) (slice_get blocks place)) (range_with_len 0 (length blocks))

abbrev pub wrong_in_body : Option (List Block) → List ℕ
wrong_in_body None = []
wrong_in_body (Some blocks) = wrong_in_blocks (label_place blocks) blocks

-- of the phis and terminators of all functions, in the order of the text
abbrev pub phi_lines : Module → List ℕ
phi_lines m = flat_map (λ f. wrong_in_body f.blocks) m.functions
