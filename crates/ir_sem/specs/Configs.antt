-- Where a run stands.
use Rattle.std.specs.Prelude.{ℕ, Bool, Option, None, Some, List, [], ◌∷◌, find, option_map}
use Rattle.ir_ident.specs.Names.{same_name}
use Rattle.ir_ident.specs.declared.name.Name.{Name}
use Rattle.ir_mem.specs.declared.block.Block as memory
use Rattle.ir_sem.specs.Locals.{Locals, result_defined, with_arguments}
use Rattle.ir_sem.specs.declared.value.Value.{Value}
use Rattle.ir_syntax.specs.declared.block.Block.{Block}
use Rattle.ir_syntax.specs.declared.function.Function.{Function}
use Rattle.ir_syntax.specs.declared.instr.Instr.{Instr}
use Rattle.ir_syntax.specs.declared.term.Term.{Term}

-- a place in a function: before the phis of a block, behind a block of a label, or what is left of a block of a label
pub data Spot : Type 0 where
  before : Name → Block → Spot
  within : Name → List Instr → Term → Spot

-- an active call: its function, the values of names, the addresses of its `alloca`s, the last one first, and where it stands
pub record Call : Type 0 where
  pub function : Function
  pub locals : Locals
  pub allocas : List ℕ
  pub spot : Spot

-- the call that runs, those that wait for it, each at its call instruction, the live blocks, the input that is left, and whether
-- the next step begins a segment: a block, cut behind each call
pub record Config : Type 0 where
  pub call : Call
  pub waiting : List Call
  pub blocks : List memory.Block
  pub input : List ℕ
  pub opens : Bool

-- what is left of a block without its phis
abbrev pub body_of : Block → Spot
body_of block = within block.label block.instrs block.term

-- the phis of a block are one step; without phis there is none
abbrev pub arrived : Name → Block → Spot
arrived from block = by block.phis
  where
    by : {A : Type 0} → List A → Spot
    by [] = body_of block
    by (phi ∷ phis) = before from block

abbrev pub blocks_in : Option (List Block) → List Block
blocks_in None = []
blocks_in (Some blocks) = blocks

abbrev pub blocks_of : Function → List Block
blocks_of f = blocks_in f.blocks

abbrev pub block_labelled : Function → Name → Option Block
block_labelled f label = find (λ block. same_name block.label label) (blocks_of f)

-- the label of the block in which a spot is
abbrev pub label_of : Spot → Name
label_of (before from block) = block.label
label_of (within label instrs term) = label

-- the place behind a step
abbrev pub behind : Spot → Spot
behind (before from block) = body_of block
behind (within label (instr ∷ instrs) term) = within label instrs term
behind (within label [] term) = within label [] term

-- the name that the next step defines
abbrev pub result_of : Spot → Option Name
result_of (within label (instr ∷ instrs) term) = instr.result
result_of other = None

-- a call behind an instruction that has given a value
abbrev pub finished : Value → Call → Call
finished value call = record {
  function = call.function;
  locals = result_defined (result_of call.spot) value call.locals;
  allocas = call.allocas;
  spot = behind call.spot;
}

abbrev pub first_block : List Block → Option Block
first_block [] = None
first_block (block ∷ blocks) = Some block

-- a new call of a function
abbrev pub opened : List Value → Function → Option Call
opened values f =
    option_map (λ block. record { function = f; locals = with_arguments f.params values; allocas = []; spot = body_of block })
    (first_block (blocks_of f))
