-- What the answers mean.
use Rattle.std.specs.Prelude.{◌≡◌, List, Some}
use Rattle.ir_entities.specs.declared.entity.Entity.{Entity}
use Rattle.ir_names.specs.declared.end.NamesEnd.{NamesEnd}
use Rattle.ir_names.specs.declared.end.NamesEnd.TheVariants.{Name, NoMemory}
use Rattle.ir_names.specs.Faults.{fault_lines}
use Rattle.ir_names.specs.Least.{least}
use Rattle.ir_numbers.specs.Numbered.{numbered_entities}

-- the line of a fault is the least of all, where each unnamed item has its number
abbrev pub IsFirstFault : List Entity → NamesEnd → Type 0
IsFirstFault entities (Name line) = least (fault_lines (numbered_entities entities)) ≡ Some line
IsFirstFault entities NoMemory = Unit {0}
