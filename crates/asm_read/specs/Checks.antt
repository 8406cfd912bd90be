-- What was read from lines, and the tests on it.
use Rattle.std.specs.Prelude.{◌≡◌, ◌<◌, ◌≤◌, ◌⊎◌, length, [], ◌↔◌, IsTrue, ◌&&◌, ◌||◌, ℕ, Bool, true, false, not, Option, Some, None, List, slice_index_or, take}
use Rattle.std.specs.List.{AllZip, filter_map, list_any}
use Rattle.std.specs.HashMap.{HashMap, get_by}
use Rattle.std.specs.HashSet.{HashSet, contains_by}
use Rattle.std.specs.Str.{bytes_eq}
use denote.Ref.{Bor}
use Rattle.rv_isa.specs.declared.statement.Statement.{Statement}
use Rattle.asm_read.specs.Assembly.{HasLines, needs_section}
use Rattle.asm_read.specs.Labels.{is_some_and, misses, place, size}
use Rattle.asm_inst.specs.Readings.{Reads}
use Rattle.asm_line.specs.Statements.{Says, named, opens, wanted}

-- each line, and what was read from it
abbrev pub AreRead : List (List ℕ) → List (Option Statement) → Type 0
AreRead lines readings = AllZip (λ line. Reads (Says line)) lines readings

-- the readings are those of the text's lines, and `whole` says that nothing is after the last line feed
abbrev pub AreLinesOf : List ℕ → List (Option Statement) → Bool → Type 0
AreLinesOf text readings whole =
    (lines : List (List ℕ)) × (last : List ℕ) × HasLines text lines last × AreRead lines readings × (IsTrue whole ↔ (last ≡ []))

-- what the lines within the grammar say
abbrev pub statements_in : List (Option Statement) → List Statement
statements_in readings = filter_map (λ reading. reading) readings

-- what a line adds to a list, by what a statement does
abbrev pub in_line : {A : Type 0} → (Statement → List A) → Option Statement → List A
in_line part None = []
in_line part (Some statement) = part statement

abbrev pub has : {S : Type 0} → HashSet (Bor (List ℕ)) S → List ℕ → Bool
has names q = contains_by (λ k. bytes_eq q k.now) names

-- no section line is before a statement that needs one
abbrev pub is_early : Bool → Statement → Bool
is_early opened statement = needs_section statement && not opened

-- the statement names the symbol or the label
abbrev pub gives : List ℕ → Statement → Bool
gives q statement = is_some_and (bytes_eq q) (named statement)

-- A line is refused by itself, by whether a section line is before it, which symbols and labels are named before it, and
-- which anywhere.
abbrev pub refuses : Bool → (List ℕ → Bool) → (List ℕ → Bool) → Option Statement → Bool
refuses opened seen known None = true
refuses opened seen known (Some statement) =
    is_early opened statement || is_some_and seen (named statement) || is_some_and (λ name. not (known name)) (wanted statement)

-- line k is refused
abbrev pub refuses_at : List (Option Statement) → ℕ → Bool
refuses_at lines k =
    refuses (list_any (is_some_and opens) (take k lines)) (λ q. list_any (is_some_and (gives q)) (take k lines))
    (λ q. list_any (is_some_and (gives q)) lines) (slice_index_or lines k None)

-- Line k is refused, or what stands after the last line feed.
abbrev pub IsRefused : List (Option Statement) → Bool → ℕ → Type 0
IsRefused readings whole k = ((k < length readings) × (refuses_at readings k ≡ true)) ⊎ ((k ≡ length readings) × (whole ≡ false))

-- the place of a label in a map
abbrev pub place_in : {S : Type 0} → HashMap (Bor (List ℕ)) ℕ S → List ℕ → Option ℕ
place_in places q = get_by (λ k. bytes_eq q k.now) places

-- line `end` is refused by itself, or else no line is
abbrev pub IsRefusedThere : List (Option Statement) → Bool → ℕ → Bool → Type 0
IsRefusedThere readings whole end true = IsRefused readings whole end
IsRefusedThere readings whole end false = (k : ℕ) → IsRefused readings whole k → ⊥

-- line k of these goes out of the reach of its label
abbrev pub is_far_at : List (Option Statement) → ℕ → Bool
is_far_at lines k =
    is_some_and (misses (place (statements_in lines)) (size (statements_in (take k lines)))) (slice_index_or lines k None)

-- The lines before the first that is refused by itself, or all.
pub record IsEnd (readings : List (Option Statement)) (whole : Bool) (end : ℕ) : Type 0 where
  pub within : end ≤ length readings
  pub fine : (j : ℕ) → j < end → IsRefused readings whole j → ⊥
  pub ends : (end ≡ length readings) ⊎ IsRefused readings whole end

-- line k is refused for its reach
abbrev pub IsMissed : List (Option Statement) → Bool → ℕ → Type 0
IsMissed readings whole k = (end : ℕ) × IsEnd readings whole end × (is_far_at (take end readings) k ≡ true)

-- line k is the first that is refused
abbrev pub IsFirstRefused : List (Option Statement) → Bool → ℕ → Type 0
IsFirstRefused readings whole k =
    (IsRefused readings whole k ⊎ IsMissed readings whole k)
    × ((j : ℕ) → j < k → IsRefused readings whole j ⊎ IsMissed readings whole j → ⊥)
