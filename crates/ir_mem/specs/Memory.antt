-- The memory of a program: its live blocks, in the order of their bases, and what an access finds in them.
use Rattle.std.specs.Prelude.{ℕ, ◌+◌, ◌-◌, ◌^◌, ◌<◌, ◌≤◌, Bool, false, ◌&&◌, nat_le, if◌then◌else◌, IsTrue, Option, option_map, is_some, List, [], ◌∷◌, ◌++◌, All, length, map, take, drop, find}
use Rattle.std.specs.Option.{option_map_or}
use Rattle.ir_mem.specs.Bytes.{from_little}
use Rattle.ir_mem.specs.declared.block.Block.{Block}

-- the address behind the last byte
abbrev pub end_of : Block → ℕ
end_of block = block.base + length block.bytes

-- the whole range of so many bytes from an address on is in the block
abbrev pub holds : ℕ → ℕ → Block → Bool
holds at size block = nat_le block.base at && nat_le (at + size) (end_of block)

-- the live block that holds a range
abbrev pub block_at : List Block → ℕ → ℕ → Option Block
block_at blocks at size = find (holds at size) blocks

-- one live block holds the range and, for a write, is writable
abbrev pub can_access : List Block → ℕ → ℕ → Bool → Bool
can_access blocks at size write = if write then option_map_or (λ block. block.writable) (block_at blocks at size) false else is_some (block_at blocks at size)

abbrev pub CanAccess : List Block → ℕ → ℕ → Bool → Type 0
CanAccess blocks at size write = IsTrue (can_access blocks at size write)

-- so many of a block's bytes, from an address on
abbrev pub bytes_from : ℕ → ℕ → Block → List ℕ
bytes_from at size block = take size (drop (at - block.base) block.bytes)

-- the number that a load finds
abbrev pub loaded : List Block → ℕ → ℕ → Option ℕ
loaded blocks at size = option_map (λ block. from_little (bytes_from at size block)) (block_at blocks at size)

-- a block with these bytes from an address on
abbrev pub with_bytes : ℕ → List ℕ → Block → Block
with_bytes at bytes block = record {
  base = block.base;
  bytes = take (at - block.base) block.bytes ++ bytes ++ drop (at - block.base + length bytes) block.bytes;
  writable = block.writable;
}

-- what a store of these bytes leaves: a writable block that holds their range has them
abbrev pub stored : ℕ → List ℕ → List Block → List Block
stored at bytes blocks = map (λ block. if holds at (length bytes) block && block.writable then with_bytes at bytes block else block) blocks

-- the first begins no later than the second, and where neither is empty it ends before that begins
abbrev pub Precedes : Block → Block → Type 0
Precedes first second = (first.base ≤ second.base) × (0 < length first.bytes → 0 < length second.bytes → end_of first ≤ second.base)

-- what the live blocks of any memory are: none wraps, and each precedes those behind it
abbrev pub IsMemory : List Block → Type 0
IsMemory [] = Unit {0}
IsMemory (block ∷ blocks) = (end_of block ≤ 2 ^ 64) × All (Precedes block) blocks × IsMemory blocks
