-- Edges between blocks, with what the phis of the target take.
use Rattle.std.specs.Prelude.{◌≡◌, ℕ, Option, None, Some, List, map, slice_get}
use Rattle.ir_ident.specs.declared.name.Name.{Name}
use Rattle.ir_sem.specs.Addresses.{Loaded}
use Rattle.ir_sem.specs.Configs.{block_labelled, blocks_of}
use Rattle.ir_sem.specs.Terminators.{phi_value}
use Rattle.ir_sem.specs.declared.value.Value.{Value}
use Rattle.ir_flow.specs.declared.edge.Edge.{Edge}
use Rattle.ir_slots.specs.Slots.{locals_in, slot_names}
use Rattle.ir_slots.specs.Sources.{input_value, input_values}
use Rattle.ir_slots.specs.declared.input.Input.{Input}
use Rattle.ir_syntax.specs.declared.block.Block.{Block}
use Rattle.ir_syntax.specs.declared.function.Function.{Function}
use Rattle.ir_syntax.specs.declared.phi.Phi.{Phi}

-- what a phi takes on the way from a block, whatever values the slots have
abbrev pub IsTaken : Loaded → List Name → Name → Phi → Input → Type 0
IsTaken l names from phi input = (values : List Value) → input_value values input ≡ phi_value l (locals_in names values) from phi

-- and what all phis of a block take
abbrev pub AreTaken : Loaded → List Name → Name → List Phi → List Input → Type 0
AreTaken l names from phis inputs = (values : List Value) → input_values values inputs ≡ map (phi_value l (locals_in names values) from) phis

-- an edge from a block to a block of a function
pub record Leads (l : Loaded) (f : Function) (from : Name) (block : Block) (edge : Edge) : Type 0 where
  pub place : slice_get (blocks_of f) edge.to ≡ Some block
  pub values : AreTaken l (slot_names f) from block.phis edge.values

-- the edge to the block of a label; none where no block has it
abbrev pub IsEdge : Loaded → Function → Name → Name → Option Edge → Type 0
IsEdge l f from label None = block_labelled f label ≡ None
IsEdge l f from label (Some edge) = (block : Block) × (block_labelled f label ≡ Some block) × Leads l f from block edge

-- the edge to the block at a place; none where no block is there
abbrev pub IsEdgeTo : Loaded → Function → Name → ℕ → Option Edge → Type 0
IsEdgeTo l f from place None = slice_get (blocks_of f) place ≡ None
IsEdgeTo l f from place (Some edge) = (block : Block) × (slice_get (blocks_of f) place ≡ Some block) × Leads l f from block edge
