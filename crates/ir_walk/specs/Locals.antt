-- The names that a function defines in the order of the text, and what is found in each.
use Rattle.std.specs.Prelude.{ℕ, List, [], ◌++◌, Option, None, Some}
use Rattle.std.specs.List.{flat_map}
use Rattle.ir_ident.specs.declared.name.Name.{Name}
use Rattle.ir_syntax.specs.declared.block.Block.{Block}
use Rattle.ir_syntax.specs.declared.function.Function.{Function}
use Rattle.ir_syntax.specs.declared.function.Param.{Param}
use Rattle.ir_syntax.specs.declared.instr.Instr.{Instr}
use Rattle.ir_syntax.specs.declared.phi.Phi.{Phi}

-- a parameter or a result by the line of its first token, that of its name and the name, or a block by its line and its label
pub data Local : Type 0 where
  value_local : ℕ → ℕ → Name → Local
  label_local : ℕ → Name → Local

abbrev pub in_param : {A : Type 0} → (Local → List A) → Param → List A
in_param found p = found (value_local p.line p.name_line p.name)

abbrev pub in_phi : {A : Type 0} → (Local → List A) → Phi → List A
in_phi found p = found (value_local p.line p.line p.result)

-- an instruction without a result defines no name
abbrev pub in_result : {A : Type 0} → (Local → List A) → ℕ → Option Name → List A
in_result found line None = []
in_result found line (Some name) = found (value_local line line name)

abbrev pub in_instr : {A : Type 0} → (Local → List A) → Instr → List A
in_instr found i = in_result found i.line i.result

-- a block's label, and the results of its phis and instructions
abbrev pub in_block : {A : Type 0} → (Local → List A) → Block → List A
in_block found b = found (label_local b.line b.label) ++ (flat_map (in_phi found) b.phis ++ flat_map (in_instr found) b.instrs)

abbrev pub in_body : {A : Type 0} → (Local → List A) → Option (List Block) → List A
in_body found None = []
in_body found (Some blocks) = flat_map (in_block found) blocks

abbrev pub in_function : {A : Type 0} → (Local → List A) → Function → List A
in_function found f = flat_map (in_param found) f.params ++ in_body found f.blocks
