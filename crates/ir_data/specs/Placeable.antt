-- Why variables are not placed.
use Rattle.std.specs.Prelude.{◌≡◌, Bool, false}
use Rattle.ir_mem.specs.declared.place_end.PlaceEnd.{PlaceEnd}
use Rattle.ir_mem.specs.declared.place_end.PlaceEnd.TheVariants.{NoMemory, Taken}

-- an address cannot be had, or memory ran out
abbrev pub IsCause : Bool → PlaceEnd → Type 0
IsCause placeable (Taken at) = placeable ≡ false
IsCause placeable NoMemory = Unit {0}
