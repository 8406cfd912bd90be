-- What is done to the blocks of a memory leaves those of a memory.
use Rattle.std.proofs.Common.{◌≡◌, ◌∙◌, ℕ, ◌+◌, ◌-◌, ◌%◌, ◌≤◌, ◌^◌, true, false, not, ◌&&◌, List, [], ◌∷◌, ◌++◌, length, take, drop, nat_eq, nat_le, nat_lt, All, refl, ap, arith}
use Rattle.std.specs.List.{list_any}
use Rattle.std.proofs.lemmas.Bool.{and_parts, cond_both, leb-true, ltb-false, ltb-true, not-true, or_parts}
use Rattle.std.proofs.lemmas.List.{length-append, length-drop, length-take-le}
use Rattle.std.proofs.lemmas.List.Elements.{All-cons, All-head, All-tail}
use Rattle.ir_mem.proofs.FindLemmas.{one_stored}
use Rattle.ir_mem.proofs.OrderLemmas.{is_held}
use Rattle.ir_mem.specs.Memory.{IsMemory, Precedes, end_of, holds, stored, with_bytes}
use Rattle.ir_mem.specs.Placing.{begins, can_place, freed, meets, placed, read_only, sealed}
use Rattle.ir_mem.specs.declared.block.Block.{Block}

-- blocks of one base and size
pub record Alike (old new : Block) : Type 0 where
  pub base : new.base ≡ old.base
  pub size : length new.bytes ≡ length old.bytes

alike : (block : Block) → Alike block block
alike block = record { base = refl; size = refl }

abbrev AreAlike : List Block → List Block → Type 0
AreAlike [] [] = Unit {0}
AreAlike [] (new ∷ news) = ⊥
AreAlike (old ∷ olds) [] = ⊥
AreAlike (old ∷ olds) (new ∷ news) = Alike old new × AreAlike olds news

are_alike : (blocks : List Block) → AreAlike blocks blocks
are_alike [] = tt
are_alike (block ∷ blocks) = (alike block, are_alike blocks)

precedes_alike : (a b c d : Block) → Alike a c → Alike b d → Precedes a b → Precedes c d
precedes_alike a b c d first second precedes = (
  omega (arith, first.base, second.base, precedes.0),
  λ some other.
      let apart = precedes.1 (omega (arith, first.size, some)) (omega (arith, second.size, other)) in
      omega (arith, apart, first.base, first.size, second.base),
)

all_alike : (a c : Block) → Alike a c → (olds news : List Block) → AreAlike olds news → All (Precedes a) olds → All (Precedes c) news
all_alike a c first [] [] alikes all = λ k d inside. absurd (omega arith)
all_alike a c first [] (new ∷ news) alikes all = absurd alikes
all_alike a c first (old ∷ olds) [] alikes all = absurd alikes
all_alike a c first (old ∷ olds) (new ∷ news) alikes all =
    All-cons (Precedes c) new news (precedes_alike a old c new first alikes.0 (All-head (Precedes a) old olds all))
    (all_alike a c first olds news alikes.1 (All-tail (Precedes a) old olds all))

memory_alike : (olds news : List Block) → AreAlike olds news → IsMemory olds → IsMemory news
memory_alike [] [] alikes memory = tt
memory_alike [] (new ∷ news) alikes memory = absurd alikes
memory_alike (old ∷ olds) [] alikes memory = absurd alikes
memory_alike (old ∷ olds) (new ∷ news) alikes memory = (
  omega (arith, alikes.0.base, alikes.0.size, memory.0),
  all_alike old new alikes.0 olds news alikes.1 memory.1,
  memory_alike olds news alikes.1 memory.2,
)

size_kept : (at : ℕ) (bytes : List ℕ) (block : Block) → holds at (length bytes) block ≡ true → length (with_bytes at bytes block).bytes ≡ length block.bytes
size_kept at bytes block held =
    let parts = is_held at (length bytes) block held in
    let from = at - block.base in
    length-append (take from block.bytes ++ bytes) (drop (from + length bytes) block.bytes)
    ∙ ap (λ n. n + length (drop (from + length bytes) block.bytes)) (length-append (take from block.bytes) bytes)
    ∙ ap (λ n. n + length bytes + length (drop (from + length bytes) block.bytes)) (length-take-le from block.bytes (omega (arith, parts.0, parts.1)))
    ∙ ap (λ n. from + length bytes + n) (length-drop (from + length bytes) block.bytes)
    ∙ omega (arith, parts.0, parts.1)

pub one_alike : (at : ℕ) (bytes : List ℕ) (block : Block) → Alike block (one_stored at bytes block)
one_alike at bytes block =
    cond_both (holds at (length bytes) block && block.writable) (with_bytes at bytes block) block (Alike block)
    (λ yes'. record { base = refl; size = size_kept at bytes block (and_parts (holds at (length bytes) block) block.writable yes').0 })
    (λ no_. alike block)

stored_alike : (at : ℕ) (bytes : List ℕ) (blocks : List Block) → AreAlike blocks (stored at bytes blocks)
stored_alike at bytes [] = tt
stored_alike at bytes (block ∷ blocks) = (one_alike at bytes block, stored_alike at bytes blocks)

pub stored_stays : (at : ℕ) (bytes : List ℕ) (blocks : List Block) → IsMemory blocks → IsMemory (stored at bytes blocks)
stored_stays at bytes blocks memory = memory_alike blocks (stored at bytes blocks) (stored_alike at bytes blocks) memory

sealed_alike : (at : ℕ) (blocks : List Block) → AreAlike blocks (sealed at blocks)
sealed_alike at [] = tt
sealed_alike at (block ∷ blocks) =
    cond_both (begins at block && not (list_any (begins at) blocks)) (read_only block ∷ blocks) (block ∷ sealed at blocks) (AreAlike (block ∷ blocks))
    (λ yes'. (record { base = refl; size = refl }, are_alike blocks))
    (λ no_. (alike block, sealed_alike at blocks))

pub sealed_stays : (at : ℕ) (blocks : List Block) → IsMemory blocks → IsMemory (sealed at blocks)
sealed_stays at blocks memory = memory_alike blocks (sealed at blocks) (sealed_alike at blocks) memory

all_freed : (P : Block → Type 0) (at : ℕ) (blocks : List Block) → All P blocks → All P (freed at blocks)
all_freed P at [] all = all
all_freed P at (block ∷ blocks) all =
    cond_both (begins at block && not (list_any (begins at) blocks)) blocks (block ∷ freed at blocks) (All P)
    (λ yes'. All-tail P block blocks all)
    (λ no_. All-cons P block (freed at blocks) (All-head P block blocks all) (all_freed P at blocks (All-tail P block blocks all)))

pub freed_stays : (at : ℕ) (blocks : List Block) → IsMemory blocks → IsMemory (freed at blocks)
freed_stays at [] memory = tt
freed_stays at (block ∷ blocks) memory =
    cond_both (begins at block && not (list_any (begins at) blocks)) blocks (block ∷ freed at blocks) IsMemory
    (λ yes'. memory.2)
    (λ no_. (memory.0, all_freed (Precedes block) at blocks memory.1, freed_stays at blocks memory.2))

all_placed : (P : Block → Type 0) (new : Block) (blocks : List Block) → P new → All P blocks → All P (placed new blocks)
all_placed P new [] one all = All-cons P new [] one all
all_placed P new (block ∷ blocks) one all =
    cond_both (nat_lt new.base block.base) (new ∷ (block ∷ blocks)) (block ∷ placed new blocks) (All P)
    (λ before. All-cons P new (block ∷ blocks) one all)
    (λ behind. All-cons P block (placed new blocks) (All-head P block blocks all) (all_placed P new blocks one (All-tail P block blocks all)))

-- a range that is not met leaves each of two blocks on its side
apart_above : (new block : Block) → meets new.base (length new.bytes) block ≡ false → new.base ≤ block.base → Precedes new block
apart_above new block unmet base = (
  base,
  λ some filled.
      let ends = ltb-false _ _ unmet in omega (arith, ends, base, some, filled),
)

apart_below : (new block : Block) → meets new.base (length new.bytes) block ≡ false → block.base ≤ new.base → Precedes block new
apart_below new block unmet base = (
  base,
  λ filled some.
      let ends = ltb-false _ _ unmet in omega (arith, ends, base, some, filled),
)

all_above : (new first : Block) (blocks : List Block) → new.base ≤ first.base → All (Precedes first) blocks →
    list_any (meets new.base (length new.bytes)) blocks ≡ false → All (Precedes new) blocks
all_above new first [] base all unmet = λ k d inside. absurd (omega arith)
all_above new first (block ∷ blocks) base all unmet =
    let parts = or_parts (meets new.base (length new.bytes) block) (list_any (meets new.base (length new.bytes)) blocks) unmet in
    let rises = (All-head (Precedes first) block blocks all).0 in
    All-cons (Precedes new) block blocks (apart_above new block parts.0 (omega (arith, rises, base)))
    (all_above new first blocks base (All-tail (Precedes first) block blocks all) parts.1)

placed_whole : (new : Block) (blocks : List Block) → IsMemory blocks → end_of new ≤ 2 ^ 64 → list_any (meets new.base (length new.bytes)) blocks ≡ false →
    IsMemory (placed new blocks)
placed_whole new [] memory fits unmet = (fits, λ k d inside. absurd (omega arith), tt)
placed_whole new (block ∷ blocks) memory fits unmet =
    let parts = or_parts (meets new.base (length new.bytes) block) (list_any (meets new.base (length new.bytes)) blocks) unmet in
    cond_both (nat_lt new.base block.base) (new ∷ (block ∷ blocks)) (block ∷ placed new blocks) IsMemory
    (λ before.
    let base : new.base ≤ block.base = omega (arith, ltb-true new.base block.base before) in
    (fits, All-cons (Precedes new) block blocks (apart_above new block parts.0 base) (all_above new block blocks base memory.1 parts.1), memory))
    (λ behind.
    let base = ltb-false new.base block.base behind in
    (memory.0, all_placed (Precedes block) new blocks (apart_below new block parts.0 base) memory.1, placed_whole new blocks memory.2 fits parts.1))

pub placed_stays : (new : Block) (blocks : List Block) (align : ℕ) → IsMemory blocks → can_place blocks new.base (length new.bytes) align ≡ true → IsMemory (placed new blocks)
placed_stays new blocks align memory free =
    let at = new.base in
    let size = length new.bytes in
    let parts = and_parts (nat_lt 0 at && nat_eq (at % align) 0 && nat_le (at + size) (2 ^ 64)) (not (list_any (meets at size) blocks)) free in
    let fits = and_parts (nat_lt 0 at && nat_eq (at % align) 0) (nat_le (at + size) (2 ^ 64)) parts.0 in
    placed_whole new blocks memory (leb-true _ _ fits.1) (not-true _ parts.1)
