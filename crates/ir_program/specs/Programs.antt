-- Functions prepared for running, and the functions that they stand for.
use Rattle.std.specs.Prelude.{◌≡◌, List, length}
use Rattle.std.specs.List.{AllZip}
use Rattle.ir_code.specs.Prepared.{Resolves}
use Rattle.ir_flow.specs.Exits.{IsExit}
use Rattle.ir_ident.specs.declared.name.Name.{Name}
use Rattle.ir_program.specs.declared.block.BlockCode.{BlockCode}
use Rattle.ir_program.specs.declared.function.FunctionCode.{FunctionCode}
use Rattle.ir_program.specs.declared.instr.InstrCode.{InstrCode}
use Rattle.ir_sem.specs.Addresses.{Loaded}
use Rattle.ir_sem.specs.Configs.{blocks_of}
use Rattle.ir_slots.specs.Results.{ArePhiSlots, IsSlot}
use Rattle.ir_slots.specs.Slots.{slot_names}
use Rattle.ir_syntax.specs.declared.block.Block.{Block}
use Rattle.ir_syntax.specs.declared.function.Function.{Function}
use Rattle.ir_syntax.specs.declared.instr.Instr.{Instr}

-- the code of an instruction in a function whose values have these names
pub record IsInstrCode (l : Loaded) (names : List Name) (instr : Instr) (code : InstrCode) : Type 0 where
  pub result : IsSlot names instr.result code.result
  pub does : Resolves l names instr.op code.code

-- the code of a block of a function
pub record IsBlockCode (l : Loaded) (f : Function) (block : Block) (code : BlockCode) : Type 0 where
  pub is : code.block.now ≡ block
  pub phis : ArePhiSlots (slot_names f) block.phis code.phis.items
  pub instrs : AllZip (IsInstrCode l (slot_names f)) block.instrs code.instrs.items
  pub exit : IsExit l f block.label block.term code.exit

-- the code of a function
pub record IsFunctionCode (l : Loaded) (f : Function) (code : FunctionCode) : Type 0 where
  pub is : code.function.now ≡ f
  pub slots : code.slots ≡ length (slot_names f)
  pub blocks : AllZip (IsBlockCode l f) (blocks_of f) code.blocks.items

-- the code of each function of a module, in order
abbrev pub AreFunctions : Loaded → List FunctionCode → Type 0
AreFunctions l codes = AllZip (IsFunctionCode l) l.text.functions codes
