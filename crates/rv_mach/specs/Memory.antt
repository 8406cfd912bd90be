-- Numbers in memory, the low byte of each first, and where they lie (section "Load and Store Instructions").
use Rattle.std.specs.Prelude.{◌+◌, ◌-◌, ◌*◌, ◌/◌, ◌%◌, ◌&&◌, ◌==◌, ◌≤◌, ℕ, zero, suc, Bool, nat_le, List, length, Option, Some, None, Ok, Err, if◌then◌else◌, slice_index, slice_set}
use Rattle.std.specs.declared.result.Result.{Result}
use Rattle.rv_mach.specs.declared.place.Place.{Place}
use Rattle.rv_mach.specs.declared.place.Place.TheVariants.{Image, Stack}
use Rattle.rv_mach.specs.declared.size.Size.{Size}
use Rattle.rv_mach.specs.declared.size.Size.TheVariants.{Byte, Half, Word, Double}
use Rattle.rv_mach.specs.declared.stop.TrapKind.{TrapKind}
use Rattle.rv_mach.specs.declared.stop.TrapKind.TheVariants.{Misaligned, Unmapped}
use Rattle.rv_mach.specs.Layout.{image_start, stack_start}
use Rattle.rv_mach.specs.State.{State}
use Rattle.rv_mach.specs.Values.{extended}

abbrev pub bytes_of : Size → ℕ
bytes_of Byte = 1
bytes_of Half = 2
bytes_of Word = 4
bytes_of Double = 8

-- the number whose so many bytes begin at an index, and the bytes with a number there
abbrev pub number_at : ℕ → List ℕ → ℕ → ℕ
number_at zero bytes i = 0
number_at (suc n) bytes i = slice_index bytes i + 0x100 * number_at n bytes (i + 1)

abbrev pub with_number : ℕ → ℕ → List ℕ → ℕ → List ℕ
with_number zero value bytes i = bytes
with_number (suc n) value bytes i = with_number n (value / 0x100) (slice_set bytes i (value % 0x100)) (i + 1)

-- the index of an address among bytes that begin at `start`, if as many bytes as `size` has lie there
abbrev pub index_in : ℕ → ℕ → ℕ → ℕ → Option ℕ
index_in start count size address =
    if nat_le start address && nat_le (address + size) (start + count) then Some (address - start) else None

-- bytes lie in the image or else in the stack
abbrev pub place_of : Option ℕ → Option ℕ → Result Place TrapKind
place_of (Some i) stack = Ok (Image i)
place_of None (Some i) = Ok (Stack i)
place_of None None = Err Unmapped

-- where so many bytes from an address on lie
abbrev pub placed : Size → ℕ → State → Result Place TrapKind
placed size address m =
    if address % bytes_of size == 0 then
    place_of (index_in image_start (length m.image) (bytes_of size) address) (index_in stack_start (length m.stack) (bytes_of size) address)
    else Err Misaligned

-- so many bytes lie at a place
abbrev pub IsWithin : Place → Size → State → Type 0
IsWithin (Image i) size m = i + bytes_of size ≤ length m.image
IsWithin (Stack i) size m = i + bytes_of size ≤ length m.stack

-- the number that is loaded from there, and the machine with one that is stored there

abbrev pub read_from : Place → Size → State → ℕ
read_from (Image i) size m = number_at (bytes_of size) m.image i
read_from (Stack i) size m = number_at (bytes_of size) m.stack i

abbrev pub written_to : Place → Size → ℕ → State → State
written_to (Image i) size value m = record m { image = with_number (bytes_of size) value m.image i }
written_to (Stack i) size value m = record m { stack = with_number (bytes_of size) value m.stack i }

-- a loaded number, extended by its sign or by zeros
abbrev pub extension : Size → Bool → ℕ → ℕ
extension size signed n = if signed then extended (8 * bytes_of size) n else n
