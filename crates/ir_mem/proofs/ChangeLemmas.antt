-- What reads find in the blocks of a memory, and what changes leave of them.
use Rattle.std.proofs.Common.{◌≡◌, ◌∙◌, ℕ, ◌+◌, ◌-◌, ◌<◌, ◌≤◌, Bool, true, false, not, ◌||◌, if◌then◌else◌, Some, is_some, option_map, HoldsAt, List, ◌++◌, length, take, drop, get_or, set, insert, replicate, sym, ap, subst, arith}
use Rattle.std.specs.Option.{option_map_or}
use Rattle.ir_mem.proofs.FindLemmas.{after_store, found_at, stored_at, writable_at}
use Rattle.ir_mem.proofs.LittleLemmas.{length-to_little}
use Rattle.ir_mem.proofs.LastLemmas.{IsBegun}
use Rattle.ir_mem.proofs.PlaceLemmas.{placed_at}
use Rattle.ir_mem.proofs.StayLemmas.{placed_stays}
use Rattle.ir_mem.specs.Placing.{can_place, fresh, placed}
use Rattle.std.proofs.lemmas.List.{length-replicate}
use Rattle.ir_mem.specs.Bytes.{to_little}
use Rattle.ir_mem.specs.Memory.{IsMemory, block_at, bytes_from, can_access, holds, stored, with_bytes}
use Rattle.ir_mem.specs.declared.block.Block.{Block}

-- a block that has these bytes
abbrev pub with_all : List ℕ → Block → Block
with_all bytes block = record { base = block.base; bytes = bytes; writable = block.writable }

-- a block with a number written into it
pub number_put : (at size number : ℕ) (block : Block) (bytes : List ℕ) → block.writable ≡ true →
    bytes ≡ take (at - block.base) block.bytes ++ to_little size number ++ drop (at - block.base + size) block.bytes →
    with_all bytes block ≡ after_store at (to_little size number) block
number_put at size number block bytes writable put =
    let from = at - block.base in
    let long : bytes ≡ take from block.bytes ++ to_little size number ++ drop (from + length (to_little size number)) block.bytes =
    put ∙ ap (λ n. take from block.bytes ++ to_little size number ++ drop (from + n) block.bytes) (sym (length-to_little size number)) in
    ap (λ bs. with_all bs block) long ∙ sym (ap (λ test. if test then with_bytes at (to_little size number) block else block) writable)

-- what is known of a place at which a search among the blocks found a range
pub record IsFound (blocks : List Block) (at size place : ℕ) (block : Block) : Type 0 where
  pub memory : IsMemory blocks
  pub some : 0 < size
  pub inside : place < length blocks
  pub held : holds at size (get_or blocks place block) ≡ true
  pub here : block ≡ get_or blocks place block

pub found : (slice blocks : List Block) → slice ≡ blocks → IsMemory blocks → (at size place : ℕ) (block : Block) → 0 < size → place < length slice →
    HoldsAt (λ b. holds at size b ≡ true) slice place → block ≡ get_or blocks place block → IsFound blocks at size place block
found slice blocks same memory at size place block some inside held here = record {
  memory = memory;
  some = some;
  inside = subst (λ (bs : List Block). place < length bs) same inside;
  held = subst (λ (bs : List Block). holds at size (get_or bs place block) ≡ true) same (held block);
  here = here;
}

-- the bytes of a range in the block that holds it
pub bytes_found : (blocks : List Block) (at size place : ℕ) (block : Block) (bytes : List ℕ) → IsFound blocks at size place block → bytes ≡ block.bytes →
    Some (take (at - block.base + size - (at - block.base)) (drop (at - block.base) bytes)) ≡ option_map (bytes_from at size) (block_at blocks at size)
bytes_found blocks at size place block bytes is are =
    ap (λ n. Some (take n (drop (at - block.base) bytes))) (omega arith)
    ∙ ap (λ bs. Some (take size (drop (at - block.base) bs))) are
    ∙ ap (λ b. Some (bytes_from at size b)) is.here
    ∙ sym (ap (option_map (bytes_from at size)) (found_at at size is.some blocks is.memory place block is.inside is.held))

-- the blocks with the one that holds a range stored into
pub number_stored : (blocks : List Block) (at size number place : ℕ) (block new : Block) → IsFound blocks at size place block →
    new ≡ after_store at (to_little size number) block → set blocks place new ≡ stored at (to_little size number) blocks
number_stored blocks at size number place block new is put =
    ap (set blocks place) (put ∙ ap (after_store at (to_little size number)) is.here)
    ∙ sym (stored_at at size (to_little size number) (length-to_little size number) is.some blocks is.memory place block is.inside is.held)

-- the same of bytes that are stored
pub bytes_stored : (blocks : List Block) (at size place : ℕ) (bytes : List ℕ) → length bytes ≡ size → (block new : Block) → IsFound blocks at size place block →
    new ≡ after_store at bytes block → set blocks place new ≡ stored at bytes blocks
bytes_stored blocks at size place bytes long block new is put =
    ap (set blocks place) (put ∙ ap (after_store at bytes) is.here)
    ∙ sym (stored_at at size bytes long is.some blocks is.memory place block is.inside is.held)

-- whether it is writable
pub found_writable : (blocks : List Block) (at size place : ℕ) (block : Block) → IsFound blocks at size place block →
    block.writable ≡ option_map_or (λ (b : Block). b.writable) (block_at blocks at size) false
found_writable blocks at size place block is =
    ap (λ (b : Block). b.writable) is.here ∙ sym (writable_at at size is.some blocks is.memory place block is.inside is.held)

-- the blocks with a new one among them
pub block_placed : (blocks now : List Block) (block : Block) (place : ℕ) → place ≤ length blocks → IsBegun blocks block.base place →
    now ≡ insert blocks place block → now ≡ placed block blocks
block_placed blocks now block place upto begun is = is ∙ sym (placed_at block blocks place upto begun)

-- they are those of a memory, also where no memory was left for one more
pub block_stays : (done : Bool) (blocks now : List Block) → IsMemory blocks → (block : Block) (align place : ℕ) → place ≤ length blocks →
    IsBegun blocks block.base place → can_place blocks block.base (length block.bytes) align ≡ true →
    now ≡ (if done then insert blocks place block else blocks) → IsMemory now
block_stays true blocks now memory block align place upto begun free is =
    subst IsMemory (sym (block_placed blocks now block place upto begun is)) (placed_stays block blocks align memory free)
block_stays false blocks now memory block align place upto begun free is = subst IsMemory (sym is) memory

-- the same of a block each byte of which is the same
pub insert_placed : (blocks now : List Block) (at size fill place : ℕ) (bytes : List ℕ) → bytes ≡ replicate size fill → place ≤ length blocks →
    IsBegun blocks at place → now ≡ insert blocks place (record { base = at; bytes = bytes; writable = true }) → now ≡ placed (fresh at size fill) blocks
insert_placed blocks now at size fill place bytes filled upto begun is =
    block_placed blocks now (fresh at size fill) place upto begun
    (is ∙ ap (λ bs. insert blocks place (record { base = at; bytes = bs; writable = true })) filled)

pub insert_stays : (done : Bool) (blocks now : List Block) → IsMemory blocks → (at size align fill place : ℕ) (bytes : List ℕ) →
    bytes ≡ replicate size fill → place ≤ length blocks → IsBegun blocks at place → can_place blocks at size align ≡ true →
    now ≡ (if done then insert blocks place (record { base = at; bytes = bytes; writable = true }) else blocks) → IsMemory now
insert_stays true blocks now memory at size align fill place bytes filled upto begun free is =
    let long : length (replicate size fill) ≡ size = length-replicate size fill in
    subst IsMemory (sym (insert_placed blocks now at size fill place bytes filled upto begun is))
    (placed_stays (fresh at size fill) blocks align memory (ap (λ n. can_place blocks at n align) long ∙ free))
insert_stays false blocks now memory at size align fill place bytes filled upto begun free is = subst IsMemory (sym is) memory

-- whether a range that a block is found to hold can be accessed
pub found_allows : (blocks : List Block) (at size place : ℕ) (block : Block) (write : Bool) → IsFound blocks at size place block →
    not write || block.writable ≡ can_access blocks at size write
found_allows blocks at size place block true is = found_writable blocks at size place block is
found_allows blocks at size place block false is =
    sym (ap is_some (found_at at size is.some blocks is.memory place block is.inside is.held))
