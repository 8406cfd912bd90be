-- A module without the blocks that no path from the first block of their function reaches (LangRef, "Functions").
use Rattle.std.specs.Prelude.{Bool, not, Option, None, Some, List, filter, map}
use Rattle.std.specs.List.{list_any}
use Rattle.ir_cfg.specs.Reached.{marked, reachable_blocks, reachable_marks}
use Rattle.ir_ident.specs.Names.{same_name}
use Rattle.ir_ident.specs.declared.name.Name.{Name}
use Rattle.ir_syntax.specs.declared.block.Block.{Block}
use Rattle.ir_syntax.specs.declared.function.Function.{Function}
use Rattle.ir_syntax.specs.declared.module.Module.{Module}
use Rattle.ir_syntax.specs.declared.phi.Phi.{Phi}

-- whether a block has a label
abbrev pub is_label : List Block → Name → Bool
is_label blocks name = list_any (λ b. same_name name b.label) blocks

-- the items whose marks are false
abbrev pub unmarked : {A : Type 0} → List Bool → List A → List A
unmarked marks xs = marked (map not marks) xs

-- the blocks that no path reaches
abbrev pub unreachable_blocks : List Block → List Block
unreachable_blocks blocks = unmarked (reachable_marks blocks) blocks

-- a phi without the entries of these labels
abbrev pub without_labels : (Name → Bool) → Phi → Phi
without_labels labels p = record p { entries = filter (λ e. not (labels e.block.name)) p.entries }

-- a block whose phis have no entries of these labels
abbrev pub block_without : (Name → Bool) → Block → Block
block_without labels b = record b { phis = map (without_labels labels) b.phis }

-- the blocks that some path reaches, and the entries of their phis for such blocks
abbrev pub pruned_blocks : List Block → List Block
pruned_blocks blocks = map (block_without (is_label (unreachable_blocks blocks))) (reachable_blocks blocks)

-- a declared function has none
abbrev pub pruned_body : Option (List Block) → Option (List Block)
pruned_body None = None
pruned_body (Some blocks) = Some (pruned_blocks blocks)

abbrev pub pruned_function : Function → Function
pruned_function f = record f { blocks = pruned_body f.blocks }

abbrev pub pruned : Module → Module
pruned m = record m { functions = map pruned_function m.functions }
