-- The one block that holds a range, and what a store leaves of all blocks.
use Rattle.std.proofs.Common.{◌≡◌, ◌∙◌, ℕ, zero, suc, ◌<◌, Bool, true, false, ◌&&◌, cond, if◌then◌else◌, Some, None, List, [], ◌∷◌, length, get_or, set, All, find, refl, ap, arith}
use Rattle.std.specs.Option.{option_map_or}
use Rattle.std.proofs.lemmas.Bool.{false_from_ne_true}
use Rattle.std.proofs.lemmas.List.Elements.{All-cons, All-head, All-tail}
use Rattle.std.proofs.lemmas.List.Folds.{map_fixed}
use Rattle.ir_mem.proofs.OrderLemmas.{held_once}
use Rattle.ir_mem.specs.Memory.{IsMemory, holds, stored, with_bytes}
use Rattle.ir_mem.specs.declared.block.Block.{Block}

pub find_none : {X : Type 0} (p : X → Bool) (xs : List X) → All (λ x. p x ≡ false) xs → find p xs ≡ None
find_none p [] all = refl
find_none p (x ∷ xs) all =
    ap (λ test. cond test (Some x) (find p xs)) (All-head (λ x. p x ≡ false) x xs all)
    ∙ find_none p xs (All-tail (λ x. p x ≡ false) x xs all)

all_none : {X : Type 0} (p : X → Bool) (x : X) (xs : List X) (test : Bool) → p x ≡ test → cond test (Some x) (find p xs) ≡ None →
    (find p xs ≡ None → All (λ y. p y ≡ false) xs) → All (λ y. p y ≡ false) (x ∷ xs)
all_none p x xs true is none rest = absurd (cc)
all_none p x xs false is none rest = All-cons (λ y. p y ≡ false) x xs is (rest none)

pub none_found : {X : Type 0} (p : X → Bool) (xs : List X) → find p xs ≡ None → All (λ x. p x ≡ false) xs
none_found p [] none = λ k d inside. absurd (omega arith)
none_found p (x ∷ xs) none = all_none p x xs (p x) refl none (none_found p xs)

-- where a block holds a range, the first that does is this one
pub found_at : (at size : ℕ) → 0 < size → (blocks : List Block) → IsMemory blocks → (i : ℕ) (d : Block) → i < length blocks →
    holds at size (get_or blocks i d) ≡ true → find (holds at size) blocks ≡ Some (get_or blocks i d)
found_at at size some [] memory i d inside held = absurd (omega arith)
found_at at size some (block ∷ blocks) memory zero d inside held = ap (λ test. cond test (Some block) (find (holds at size) blocks)) held
found_at at size some (block ∷ blocks) memory (suc i) d inside held =
    let before : holds at size block ≡ false =
    false_from_ne_true (holds at size block) (λ one. held_once at size block (get_or blocks i d) some (memory.1 i d (omega arith)) one held) in
    ap (λ test. cond test (Some block) (find (holds at size) blocks)) before
    ∙ found_at at size some blocks memory.2 i d (omega arith) held

-- a block after a store into it
abbrev pub after_store : ℕ → List ℕ → Block → Block
after_store at bytes block = if block.writable then with_bytes at bytes block else block

-- what a store of these bytes does to a block
abbrev pub one_stored : ℕ → List ℕ → Block → Block
one_stored at bytes block = if holds at (length bytes) block && block.writable then with_bytes at bytes block else block

other_stored : (at : ℕ) (bytes : List ℕ) (block : Block) → holds at (length bytes) block ≡ false → one_stored at bytes block ≡ block
other_stored at bytes block other = ap (λ test. if test && block.writable then with_bytes at bytes block else block) other

-- where no block holds the range, nothing is stored
pub nothing_stored : (at : ℕ) (bytes : List ℕ) (blocks : List Block) → All (λ block. holds at (length bytes) block ≡ false) blocks →
    stored at bytes blocks ≡ blocks
nothing_stored at bytes blocks none =
    map_fixed (one_stored at bytes) blocks (λ k d inside. other_stored at bytes (get_or blocks k d) (none k d inside))

-- where one does, it alone is stored into
stored_in : (at : ℕ) (bytes : List ℕ) → 0 < length bytes → (blocks : List Block) → IsMemory blocks → (i : ℕ) (d : Block) → i < length blocks →
    holds at (length bytes) (get_or blocks i d) ≡ true → stored at bytes blocks ≡ set blocks i (after_store at bytes (get_or blocks i d))
stored_in at bytes some [] memory i d inside held = absurd (omega arith)
stored_in at bytes some (block ∷ blocks) memory zero d inside held =
    let rest : stored at bytes blocks ≡ blocks = nothing_stored at bytes blocks (λ k e within.
    false_from_ne_true (holds at (length bytes) (get_or blocks k e)) (λ two.
    held_once at (length bytes) block (get_or blocks k e) some (memory.1 k e within) held two)) in
    ap (λ test. (if test && block.writable then with_bytes at bytes block else block) ∷ stored at bytes blocks) held
    ∙ ap (λ bs. after_store at bytes block ∷ bs) rest
stored_in at bytes some (block ∷ blocks) memory (suc i) d inside held =
    let before : holds at (length bytes) block ≡ false =
    false_from_ne_true (holds at (length bytes) block) (λ one.
    held_once at (length bytes) block (get_or blocks i d) some (memory.1 i d (omega arith)) one held) in
    ap (λ test. (if test && block.writable then with_bytes at bytes block else block) ∷ stored at bytes blocks) before
    ∙ ap (λ bs. block ∷ bs) (stored_in at bytes some blocks memory.2 i d (omega arith) held)

pub stored_at : (at size : ℕ) (bytes : List ℕ) → length bytes ≡ size → 0 < size → (blocks : List Block) → IsMemory blocks →
    (i : ℕ) (d : Block) → i < length blocks → holds at size (get_or blocks i d) ≡ true →
    stored at bytes blocks ≡ set blocks i (after_store at bytes (get_or blocks i d))
stored_at at size bytes long some blocks memory i d inside held =
    stored_in at bytes (omega (arith, long)) blocks memory i d inside (ap (λ n. holds at n (get_or blocks i d)) long ∙ held)

-- whether a store into a block that is found there is allowed
pub writable_at : (at size : ℕ) → 0 < size → (blocks : List Block) → IsMemory blocks → (i : ℕ) (d : Block) → i < length blocks →
    holds at size (get_or blocks i d) ≡ true →
    option_map_or (λ (block : Block). block.writable) (find (holds at size) blocks) false ≡ (get_or blocks i d).writable
writable_at at size some blocks memory i d inside held =
    ap (λ found. option_map_or (λ (block : Block). block.writable) found false) (found_at at size some blocks memory i d inside held)
