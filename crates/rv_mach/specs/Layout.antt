-- Where memory lies, and the words that are fetched from it. Addresses and bytes are numbers.
use Rattle.std.specs.Prelude.{◌+◌, ◌-◌, ◌*◌, ◌%◌, ◌&&◌, ◌==◌, ℕ, Bool, nat_le, List, length, Ok, Err, if◌then◌else◌, slice_index}
use Rattle.std.specs.declared.result.Result.{Result}
use Rattle.rv_mach.specs.declared.stop.TrapKind.{TrapKind}
use Rattle.rv_mach.specs.declared.stop.TrapKind.TheVariants.{Misaligned, Unmapped}

-- the first byte of the image, where the first instruction is
abbrev pub image_start : ℕ
image_start = 0x10000

-- the first byte of the stack, and the first after it
abbrev pub stack_start : ℕ
stack_start = 0x3F800000

abbrev pub stack_end : ℕ
stack_end = 0x40000000

-- whether the four bytes at an address lie in the image
abbrev pub is_in_image : List ℕ → ℕ → Bool
is_in_image image address = nat_le image_start address && nat_le (address + 4) (image_start + length image)

-- the 32-bit word whose lowest byte is the one at this index, which is how memory keeps words (section
-- "Base Instruction-Length Encoding")
abbrev pub word_at : List ℕ → ℕ → ℕ
word_at bytes i =
    slice_index bytes i + 0x100 * slice_index bytes (i + 1) + 0x10000 * slice_index bytes (i + 2)
    + 0x1000000 * slice_index bytes (i + 3)

-- the word of the instruction at an address
abbrev pub fetched : List ℕ → ℕ → Result ℕ TrapKind
fetched image address =
    if address % 4 == 0 then
    if is_in_image image address then Ok (word_at image (address - image_start)) else Err Unmapped
    else Err Misaligned
