-- The predecessors of a block (LangRef, "phi Instruction"), where `known` has the places of labels.
use Rattle.std.specs.Prelude.{ℕ, nat_eq, Option, List, [], ◌∷◌, length, if◌then◌else◌, slice_get}
use Rattle.std.specs.List.{flat_map, range_with_len}
use Rattle.ir_cfg.specs.Reached.{block_successors}
use Rattle.ir_ident.specs.declared.name.Name.{Name}
use Rattle.ir_syntax.specs.declared.block.Block.{Block}

-- the edges to a place from a block that has these successors: the block, as often as the place is one of them
abbrev pub edges_from : ℕ → ℕ → List ℕ → List ℕ
edges_from place from successors = flat_map (λ to. if nat_eq to place then from ∷ [] else []) successors

-- the edges to a place from the first blocks
abbrev pub edges_before : (Name → Option ℕ) → List Block → ℕ → ℕ → List ℕ
edges_before known blocks place count =
    flat_map (λ from. edges_from place from (block_successors known (slice_get blocks from))) (range_with_len 0 count)

-- the predecessors of the block at a place in order, each as often as its terminator names the block
abbrev pub predecessors : (Name → Option ℕ) → List Block → ℕ → List ℕ
predecessors known blocks place = edges_before known blocks place (length blocks)
