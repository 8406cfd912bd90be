use Rattle.std.proofs.Common.{take}
use Rattle.std.specs.List.{AllZip}
use Rattle.ir_loaded.specs.Pairs.{loaded}
use Rattle.ir_program.specs.Programs.{IsFunctionCode}
use Rattle.ir_program.proofs.function.functions_of.Given as goal

abbrev pub invariant-loop-function : goal.invariant-loop-function
invariant-loop-function l = AllZip (IsFunctionCode (loaded l.l)) (take l.function-index l.function-items) l.codes.items
