-- The uses of local names in the blocks of a function, in the order of the text.
use Rattle.std.proofs.Common.{◌≡◌, ◌∙◌, sym, ap}
use base.Stored.{Coded, Gv, gnum, gcons}
use Rattle.std.specs.Prelude.{ℕ, Option, None, Some, List, [], ◌∷◌, ◌++◌, length, map, slice_get}
use Rattle.std.specs.List.{flat_map}
use Rattle.ir_cfg.specs.Reached.{label_place}
use Rattle.ir_ident.specs.Codes.{first, second, number_back, name_code, name_back, name_back_code}
use Rattle.ir_ident.specs.declared.name.Name.{Name}
use Rattle.ir_ident.specs.declared.name.NameUse.{NameUse}
use Rattle.ir_syntax.specs.declared.block.Block.{Block}
use Rattle.ir_syntax.specs.declared.instr.Instr.{Instr}
use Rattle.ir_syntax.specs.declared.operand.Operand.{Operand}
use Rattle.ir_syntax.specs.declared.operand.Operand.TheVariants as operand
use Rattle.ir_syntax.specs.declared.phi.Phi.{Phi}
use Rattle.ir_syntax.specs.declared.phi.PhiEntry.{PhiEntry}
use Rattle.ir_syntax.specs.Terms.{term_line}
use Rattle.ir_walk.specs.Parts.{Part, type_part, operand_part, callee_part, label_part, entry_parts, instr_parts, term_parts}
use Rattle.ir_uses.specs.Numbered.{flat_numbered}

-- a use of a local name: the line of the first token of what has it, the place of the block that it stands in, how many
-- instructions of this block stand before it, and the name
pub record Use : Type 0 where
  pub line : ℕ
  pub place : ℕ
  pub before : ℕ
  pub name : Name

abbrev pub use_of_parts : ℕ → ℕ → ℕ → Name → Use
use_of_parts line place before name = record { line = line; place = place; before = before; name = name }

-- such a use as a tree of numbers, and back
abbrev pub use_code : Use → Gv
use_code u = gcons (gnum u.line) (gcons (gnum u.place) (gcons (gnum u.before) (name_code u.name)))

abbrev pub use_back : Gv → Use
use_back g = record {
  line = number_back (first g);
  place = number_back (first (second g));
  before = number_back (first (second (second g)));
  name = name_back (second (second (second g)));
}

abbrev pub use_back_code : (u : Use) → use_back (use_code u) ≡ u
use_back_code u = ap (λ name. record { line = u.line; place = u.place; before = u.before; name = name }) (name_back_code u.name)

abbrev pub coded_use : Coded Use
coded_use = record { code = use_code; inj = λ x y p. sym (use_back_code x) ∙ ap use_back p ∙ use_back_code y }

-- the local name that an operand is
abbrev pub operand_local : Operand → List NameUse
operand_local (operand.Local used) = used ∷ []
operand_local (operand.Global used) = []
operand_local (operand.Int literal) = []
operand_local operand.True = []
operand_local operand.False = []
operand_local operand.Null = []
operand_local operand.Undef = []
operand_local operand.Poison = []
operand_local (operand.Gep gep) = []

-- the local name that a part has in a value's place
abbrev pub local_in : Part → List NameUse
local_in (type_part ty) = []
local_in (operand_part operand) = operand_local operand
local_in (callee_part callee) = []
local_in (label_part label) = []

abbrev pub use_at : ℕ → ℕ → ℕ → NameUse → Use
use_at line place before used = use_of_parts line place before used.name

-- the uses in these parts of something
abbrev pub uses_in : ℕ → ℕ → ℕ → List Part → List Use
uses_in line place before parts = map (use_at line place before) (flat_map local_in parts)

abbrev pub instr_count : Option Block → ℕ
instr_count None = 0
instr_count (Some b) = length b.instrs

-- the uses at the end of the block at a place, if there is one
abbrev pub uses_at_end : List Block → ℕ → Option ℕ → List Part → List Use
uses_at_end blocks line None parts = []
uses_at_end blocks line (Some place) parts = uses_in line place (instr_count (slice_get blocks place)) parts

-- the value of an entry is used at the end of the block that it names
abbrev pub entry_uses : (Name → Option ℕ) → List Block → ℕ → PhiEntry → List Use
entry_uses known blocks line e = uses_at_end blocks line (known e.block.name) (entry_parts e)

abbrev pub phi_uses : (Name → Option ℕ) → List Block → Phi → List Use
phi_uses known blocks p = flat_map (entry_uses known blocks p.line) p.entries

abbrev pub instr_uses : ℕ → ℕ → Instr → List Use
instr_uses place before i = uses_in i.line place before (instr_parts i)

-- those of the block at a place
abbrev pub block_uses : (Name → Option ℕ) → List Block → ℕ → Block → List Use
block_uses known blocks place b =
    flat_map (phi_uses known blocks) b.phis
    ++ (flat_numbered (instr_uses place) 0 b.instrs ++ uses_in (term_line b.term) place (length b.instrs) (term_parts b.term))

-- those of all blocks, where `known` has the places of labels
abbrev pub blocks_uses : (Name → Option ℕ) → List Block → List Use
blocks_uses known blocks = flat_numbered (block_uses known blocks) 0 blocks

abbrev pub body_uses : List Block → List Use
body_uses blocks = blocks_uses (label_place blocks) blocks
