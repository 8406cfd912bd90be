-- What the last block that is not empty, or that begins at an address, says of all blocks.
use Rattle.std.proofs.Common.{◌≡◌, ◌∙◌, ℕ, zero, suc, ◌+◌, ◌-◌, ◌<◌, ◌≤◌, true, false, not, ◌&&◌, if◌then◌else◌, Some, None, List, [], ◌∷◌, length, get_or, set, remove, nat_lt, find, refl, sym, ap, subst, inl, inr, arith}
use Rattle.std.specs.List.{AllWithin, list_any}
use Rattle.std.specs.List.Sorted.{IsPartitionPoint}
use Rattle.std.proofs.lemmas.Bool.{and_right, cases_lt, lt-ltb, le-ltb, ne_eqb, or_parts}
use Rattle.std.proofs.lemmas.List.{get_or_default}
use Rattle.std.proofs.lemmas.List.Folds.{list_any_at, list_any_none}
use Rattle.ir_mem.proofs.FindLemmas.{find_none}
use Rattle.ir_mem.proofs.OrderLemmas.{bases_rise, is_met, not_held, not_met, precedes_at}
use Rattle.ir_mem.specs.Memory.{IsMemory, end_of, holds}
use Rattle.ir_mem.specs.Placing.{begins, freed, meets, read_only, sealed}
use Rattle.ir_mem.specs.Searching.{IsLastFilled, IsLastAt}
use Rattle.ir_mem.specs.declared.block.Block.{Block}

-- so many blocks begin at or before an address, and the others behind it
abbrev pub IsBegun : List Block → ℕ → ℕ → Type 0
IsBegun blocks address count = IsPartitionPoint (λ (block : Block). block.base ≤ address) (λ (block : Block). address < block.base) blocks count

-- where all blocks that begin early enough are empty, none holds a range
pub none_holds : (blocks : List Block) (at size count : ℕ) → 0 < size → IsBegun blocks at count → IsLastFilled blocks count None →
    find (holds at size) blocks ≡ None
none_holds blocks at size count some begun empty = find_none (holds at size) blocks (λ k d inside.
    not_held at size (get_or blocks k d) (λ base ends. elim (cases_lt k count) [
      | inl before ↦ let e = empty k d (omega arith) before in omega (arith, e, base, ends, some)
      | inr behind ↦ let after = begun.1 k d behind inside in omega (arith, after, base)
    ]))

-- where the last of these that is not empty does not hold it, none does
pub other_holds : (blocks : List Block) → IsMemory blocks → (at size count place : ℕ) (d : Block) → 0 < size → count ≤ length blocks →
    IsBegun blocks at count → IsLastFilled blocks count (Some place) → holds at size (get_or blocks place d) ≡ false →
    find (holds at size) blocks ≡ None
other_holds blocks memory at size count place d some upto begun last other = find_none (holds at size) blocks (λ k e inside.
    elim (cases_lt k place) [
      | inl before ↦ not_held at size (get_or blocks k e) (λ base ends.
          let apart = (precedes_at blocks memory k place e before (omega (arith, last.0))).1 (omega (arith, base, ends)) (last.1 e) in
          let here = begun.0 place e (omega arith) last.0 in
          omega (arith, apart, here, ends, some))
      | inr behind ↦ elim (cases_lt place k) [
        | inl after ↦ not_held at size (get_or blocks k e) (λ base ends. elim (cases_lt k count) [
          | inl within ↦ let none = last.2 k e (omega arith) within in omega (arith, none, base, ends, some)
          | inr past ↦ let later = begun.1 k e past inside in omega (arith, later, base)
        ])
        | inr upto ↦
            let same : k ≡ place = omega arith in
            ap (λ n. holds at size (get_or blocks n e)) same ∙ ap (λ block. holds at size block) (get_or_default blocks place e d (omega (arith, last.0))) ∙ other
      ]
    ])

-- where all blocks that begin before a range's end are empty, none meets it
pub none_meets : (blocks : List Block) (at size count : ℕ) → 0 < size → IsBegun blocks (at + (size - 1)) count → IsLastFilled blocks count None →
    list_any (meets at size) blocks ≡ false
none_meets blocks at size count some begun empty = list_any_none (meets at size) blocks (λ k d inside.
    not_met at size (get_or blocks k d) (λ _. λ ends base filled. elim (cases_lt k count) [
      | inl before ↦ let e = empty k d (omega arith) before in omega (arith, e, filled)
      | inr behind ↦ let after = begun.1 k d behind inside in omega (arith, after, base)
    ]))

-- the last of these that is not empty meets it exactly where it ends behind its beginning
pub last_meets : (blocks : List Block) → IsMemory blocks → (at size count place : ℕ) (d : Block) → 0 < size → count ≤ length blocks →
    IsBegun blocks (at + (size - 1)) count → IsLastFilled blocks count (Some place) →
    list_any (meets at size) blocks ≡ nat_lt at (end_of (get_or blocks place d))
last_meets blocks memory at size count place d some upto begun last = elim (cases_lt at (end_of (get_or blocks place d))) [
  | inl met ↦
      let base = begun.0 place d (omega arith) last.0 in
      list_any_at (meets at size) blocks place d (omega (arith, last.0))
      (is_met at size (get_or blocks place d) (omega arith) met (omega (arith, base)) (last.1 d))
      ∙ sym (lt-ltb at (end_of (get_or blocks place d)) met)
  | inr ended ↦
      list_any_none (meets at size) blocks (λ k e inside. not_met at size (get_or blocks k e) (λ _. λ ends base filled.
      elim (cases_lt k place) [
        | inl before ↦
            let apart = (precedes_at blocks memory k place d before (omega (arith, last.0))).1
            (subst (λ (block : Block). 0 < length block.bytes) (get_or_default blocks k e d inside) filled) (last.1 d) in
            let same : end_of (get_or blocks k e) ≡ end_of (get_or blocks k d) = ap (λ (block : Block). end_of block) (get_or_default blocks k e d inside) in
            omega (arith, apart, same, ends, ended)
        | inr behind ↦ elim (cases_lt place k) [
          | inl after ↦ elim (cases_lt k count) [
            | inl within ↦ let none = last.2 k e (omega arith) within in omega (arith, none, filled)
            | inr past ↦ let later = begun.1 k e past inside in omega (arith, later, base)
          ]
          | inr upto' ↦
              let same : k ≡ place = omega arith in
              let there : end_of (get_or blocks k e) ≡ end_of (get_or blocks place d) =
              ap (λ n. end_of (get_or blocks n e)) same ∙ ap (λ (block : Block). end_of block) (get_or_default blocks place e d (omega (arith, last.0))) in
              omega (arith, there, ends, ended)
        ]
      ]))
      ∙ sym (le-ltb at (end_of (get_or blocks place d)) ended)
]

-- where the last block that begins at or before an address begins before it, none begins at it
pub none_at : (blocks : List Block) → IsMemory blocks → (at count : ℕ) → IsBegun blocks at count → count ≤ length blocks →
    ((d : Block) → 0 < count → (get_or blocks (count - 1) d).base ≡ at → ⊥) → IsLastAt blocks at None
none_at blocks memory at count begun upto other k d zero_ inside = ne_eqb (get_or blocks k d).base at (λ here. elim (cases_lt k count) [
  | inl before ↦
      let rises = bases_rise blocks memory k (count - 1) d (omega arith) (omega arith) in
      let there = begun.0 (count - 1) d (omega arith) (omega arith) in
      other d (omega arith) (omega (arith, rises, there, here))
  | inr behind ↦ let after = begun.1 k d behind inside in omega (arith, after, here)
])

pub none_freed : (at : ℕ) (blocks : List Block) → list_any (begins at) blocks ≡ false → freed at blocks ≡ blocks
none_freed at [] none = refl
none_freed at (block ∷ blocks) none =
    let parts = or_parts (begins at block) (list_any (begins at) blocks) none in
    ap (λ test. if test && not (list_any (begins at) blocks) then blocks else block ∷ freed at blocks) parts.0
    ∙ ap (λ bs. block ∷ bs) (none_freed at blocks parts.1)

pub none_sealed : (at : ℕ) (blocks : List Block) → list_any (begins at) blocks ≡ false → sealed at blocks ≡ blocks
none_sealed at [] none = refl
none_sealed at (block ∷ blocks) none =
    let parts = or_parts (begins at block) (list_any (begins at) blocks) none in
    ap (λ test. if test && not (list_any (begins at) blocks) then read_only block ∷ blocks else block ∷ sealed at blocks) parts.0
    ∙ ap (λ bs. block ∷ bs) (none_sealed at blocks parts.1)

-- the test of `freed` and `sealed` at the head, where it is the last that begins at the address
here_last : (at : ℕ) (block : Block) (blocks : List Block) → begins at block ≡ true → AllWithin (λ b. begins at b ≡ false) (block ∷ blocks) 1 (suc (length blocks)) →
    (begins at block && not (list_any (begins at) blocks)) ≡ true
here_last at block blocks here none =
    let rest = list_any_none (begins at) blocks (λ k d inside. none (suc k) d (omega arith) (omega arith)) in
    ap (λ test. test && not (list_any (begins at) blocks)) here ∙ ap not rest

-- and where a later one begins there
later_last : (at : ℕ) (block : Block) (blocks : List Block) (i : ℕ) (d : Block) → i < length blocks → begins at (get_or blocks i d) ≡ true →
    (begins at block && not (list_any (begins at) blocks)) ≡ false
later_last at block blocks i d inside there =
    and_right (begins at block) (not (list_any (begins at) blocks)) (ap not (list_any_at (begins at) blocks i d inside there))

pub freed_at : (at : ℕ) (blocks : List Block) (i : ℕ) (d : Block) → IsLastAt blocks at (Some i) → freed at blocks ≡ remove blocks i
freed_at at [] i d last = absurd (omega (arith, last.0))
freed_at at (block ∷ blocks) zero d last =
    ap (λ test. if test then blocks else block ∷ freed at blocks) (here_last at block blocks (last.1 d) last.2)
freed_at at (block ∷ blocks) (suc i) d last =
    ap (λ test. if test then blocks else block ∷ freed at blocks) (later_last at block blocks i d (omega (arith, last.0)) (last.1 d))
    ∙ ap (λ bs. block ∷ bs) (freed_at at blocks i d (omega (arith, last.0), last.1, λ k e after inside. last.2 (suc k) e (omega arith) (omega arith)))

pub sealed_at : (at : ℕ) (blocks : List Block) (i : ℕ) (d : Block) → IsLastAt blocks at (Some i) → sealed at blocks ≡ set blocks i (read_only (get_or blocks i d))
sealed_at at [] i d last = absurd (omega (arith, last.0))
sealed_at at (block ∷ blocks) zero d last =
    ap (λ test. if test then read_only block ∷ blocks else block ∷ sealed at blocks) (here_last at block blocks (last.1 d) last.2)
sealed_at at (block ∷ blocks) (suc i) d last =
    ap (λ test. if test then read_only block ∷ blocks else block ∷ sealed at blocks) (later_last at block blocks i d (omega (arith, last.0)) (last.1 d))
    ∙ ap (λ bs. block ∷ bs) (sealed_at at blocks i d (omega (arith, last.0), last.1, λ k e after inside. last.2 (suc k) e (omega arith) (omega arith)))

-- whether some block begins there
pub begins_at : (at : ℕ) (blocks : List Block) (i : ℕ) (d : Block) → IsLastAt blocks at (Some i) → list_any (begins at) blocks ≡ true
begins_at at blocks i d last = list_any_at (begins at) blocks i d last.0 (last.1 d)

pub begins_nowhere : (at : ℕ) (blocks : List Block) → IsLastAt blocks at None → list_any (begins at) blocks ≡ false
begins_nowhere at blocks none = list_any_none (begins at) blocks (λ k d inside. none k d (omega arith) inside)

-- an empty range meets no block
pub empty_meets : (at size : ℕ) (blocks : List Block) → size ≡ 0 → list_any (meets at size) blocks ≡ false
empty_meets at size blocks none =
    list_any_none (meets at size) blocks (λ k d inside. not_met at size (get_or blocks k d) (λ some ends base filled. omega (arith, some, none)))
