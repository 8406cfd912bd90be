-- Blocks placed, sealed and freed.
use Rattle.std.specs.Prelude.{◌≡◌, ℕ, ◌+◌, ◌%◌, ◌^◌, Bool, true, false, not, ◌&&◌, nat_eq, nat_le, nat_lt, min, max, if◌then◌else◌, IsTrue, List, [], ◌∷◌, replicate}
use Rattle.std.specs.List.{list_any}
use Rattle.ir_mem.specs.Memory.{end_of}
use Rattle.ir_mem.specs.declared.block.Block.{Block}
use Rattle.ir_mem.specs.declared.place_end.PlaceEnd.{PlaceEnd}
use Rattle.ir_mem.specs.declared.place_end.PlaceEnd.TheVariants.{Taken, NoMemory}

-- a range has an address in common with a block; an empty one has none
abbrev pub meets : ℕ → ℕ → Block → Bool
meets at size block = nat_lt (max at block.base) (min (at + size) (end_of block))

-- a block of this size and alignment can have the address: it is a multiple other than 0, and the range neither wraps nor
-- meets a live block
abbrev pub can_place : List Block → ℕ → ℕ → ℕ → Bool
can_place blocks at size align = nat_lt 0 at && nat_eq (at % align) 0 && nat_le (at + size) (2 ^ 64) && not (list_any (meets at size) blocks)

-- a new block, each byte of which is the same
abbrev pub fresh : ℕ → ℕ → ℕ → Block
fresh at size fill = record { base = at; bytes = replicate size fill; writable = true }

-- the blocks with one more, in the order of their bases, behind those of its base
abbrev pub placed : Block → List Block → List Block
placed new [] = new ∷ []
placed new (block ∷ blocks) = if nat_lt new.base block.base then new ∷ (block ∷ blocks) else block ∷ placed new blocks

-- why a block is not placed
abbrev pub IsNotPlaced : List Block → ℕ → ℕ → ℕ → PlaceEnd → Type 0
IsNotPlaced blocks at size align (Taken address) = (address ≡ at) × (can_place blocks at size align ≡ false)
IsNotPlaced blocks at size align NoMemory = IsTrue (can_place blocks at size align)

abbrev pub begins : ℕ → Block → Bool
begins at block = nat_eq block.base at

-- the blocks without the last placed one that begins at an address
abbrev pub freed : ℕ → List Block → List Block
freed at [] = []
freed at (block ∷ blocks) = if begins at block && not (list_any (begins at) blocks) then blocks else block ∷ freed at blocks

-- a block that no store changes
abbrev pub read_only : Block → Block
read_only block = record { base = block.base; bytes = block.bytes; writable = false }

-- the blocks, of which the last placed one that begins at an address is no longer writable
abbrev pub sealed : ℕ → List Block → List Block
sealed at [] = []
sealed at (block ∷ blocks) = if begins at block && not (list_any (begins at) blocks) then read_only block ∷ blocks else block ∷ sealed at blocks
