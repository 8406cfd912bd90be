use Rattle.std.proofs.Common.{take}
use Rattle.std.specs.List.{AllZip}
use Rattle.ir_loaded.specs.Pairs.{loaded}
use Rattle.ir_program.specs.Programs.{IsBlockCode}
use Rattle.ir_program.proofs.function.block_codes.Given as goal

abbrev pub invariant-loop-block : goal.invariant-loop-block
invariant-loop-block l = AllZip (IsBlockCode (loaded l.l) l.slots) (take l.block-index l.block-items) l.codes.items
