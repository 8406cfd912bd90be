-- What searches among the blocks of a memory find.
use Rattle.std.specs.Prelude.{◌≡◌, ℕ, suc, ◌<◌, true, false, Option, Some, None, List, length, HoldsAt}
use Rattle.std.specs.List.{AllWithin}
use Rattle.ir_mem.specs.Placing.{begins}
use Rattle.ir_mem.specs.declared.block.Block.{Block}

abbrev pub IsEmpty : Block → Type 0
IsEmpty block = length block.bytes ≡ 0

-- the last of the first blocks that is not empty
abbrev pub IsLastFilled : List Block → ℕ → Option ℕ → Type 0
IsLastFilled blocks count None = AllWithin IsEmpty blocks 0 count
IsLastFilled blocks count (Some place) =
    (place < count) × HoldsAt (λ block. 0 < length block.bytes) blocks place × AllWithin IsEmpty blocks (suc place) count

-- the last block that begins at an address
abbrev pub IsLastAt : List Block → ℕ → Option ℕ → Type 0
IsLastAt blocks at None = AllWithin (λ block. begins at block ≡ false) blocks 0 (length blocks)
IsLastAt blocks at (Some place) =
    (place < length blocks) × HoldsAt (λ block. begins at block ≡ true) blocks place
    × AllWithin (λ block. begins at block ≡ false) blocks (suc place) (length blocks)
