-- The line that tells how a run on the machine ended.
use Rattle.std.specs.Prelude.{ℕ, List, ◌++◌, codes}
use Rattle.std.specs.Fmt.{decimal}
use Rattle.rv_mach.specs.declared.stop.Stop.{Stop}
use Rattle.rv_mach.specs.declared.stop.Stop.TheVariants.{Exited, Trapped, StackOut, Running}
use Rattle.rv_mach.specs.declared.stop.TrapKind.{TrapKind}
use Rattle.rv_mach.specs.declared.stop.TrapKind.TheVariants as trap

abbrev pub trap_text : TrapKind → List ℕ
trap_text trap.Illegal = codes "trap illegal"
trap_text trap.Misaligned = codes "trap misaligned"
trap_text trap.Unmapped = codes "trap unmapped"
trap_text trap.Ecall = codes "trap ecall"
trap_text trap.Break = codes "trap break"

abbrev pub stop_text : Stop → List ℕ
stop_text (Exited code) = codes "exit " ++ decimal code
stop_text (Trapped kind) = trap_text kind
stop_text StackOut = codes "stack"
stop_text Running = codes "running"
