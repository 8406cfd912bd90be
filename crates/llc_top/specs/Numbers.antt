-- The numbers of statuses.
use Rattle.std.specs.Prelude.{ℕ}
use Rattle.llc_top.specs.declared.status.Status.{Status}
use Rattle.llc_top.specs.declared.status.Status.TheVariants.{Done, Refused, Words, ReadFault, WriteFault, NoMemory}

abbrev pub status_number : Status → ℕ
status_number Done = 0
status_number Refused = 1
status_number Words = 2
status_number ReadFault = 3
status_number WriteFault = 4
status_number NoMemory = 5
