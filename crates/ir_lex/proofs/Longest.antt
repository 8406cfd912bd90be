-- The longest token has the length of its kind, and no kind has a longer one.
use Rattle.std.proofs.Common.{◌≡◌, ℕ, zero, suc, ◌<◌, ◌≤◌, List, [], ◌∷◌, ◌⊎◌, inl, inr, arith, cond, get_or, length, nat_lt, refl, true, false, Bool}
use Rattle.std.proofs.lemmas.Bool.Decides.{nat_tests}
use Rattle.ir_lex.specs.Lengths.{len_of}
use Rattle.ir_lex.specs.Splitting.{longest_match, kinds, longer, longest_of}
use Rattle.ir_lex.specs.declared.longest_match.LongestMatch.{LongestMatch}
use Rattle.ir_lex.specs.declared.kind.Kind.{Kind}
use Rattle.ir_lex.specs.declared.kind.Kind.TheVariants.{Label, Int, Real, Word, Str, CStr, Global, Local, Meta, Attr, Equal, Comma, Star, OpenRound, CloseRound, OpenSquare, CloseSquare, OpenCurly, CloseCurly, OpenPacked, ClosePacked, Less, Greater, Bar, Bang, Ellipsis}

longer_above : (best : LongestMatch) (kind : Kind) (bytes : List ℕ) → (best.len ≤ (longer best kind bytes).len) × (len_of kind bytes ≤ (longer best kind bytes).len)
unfolding longer
longer_above best kind bytes = cases (nat_lt best.len (len_of kind bytes)) refl
  where
    Above : LongestMatch → Type 0
    Above found = (best.len ≤ found.len) × (len_of kind bytes ≤ found.len)

    cases : (t : Bool) → nat_lt best.len (len_of kind bytes) ≡ t → Above (cond t (record { kind = kind; len = len_of kind bytes }) best)
    cases true is = (grind (arith, nat_tests), omega arith)
    cases false is = (omega arith, grind (arith, nat_tests))

rest_above : (all : List Kind) (best : LongestMatch) (bytes : List ℕ) → best.len ≤ (longest_of all best bytes).len
unfolding longest_of
rest_above [] best bytes = omega arith
rest_above (kind ∷ rest) best bytes =
    omega (arith, (longer_above best kind bytes).0, rest_above rest (longer best kind bytes) bytes)

above_at : (all : List Kind) (best : LongestMatch) (bytes : List ℕ) (i : ℕ) → i < length all → len_of (get_or all i Label) bytes ≤ (longest_of all best bytes).len
unfolding longest_of
above_at [] best bytes i inside = absurd (omega arith)
above_at (kind ∷ rest) best bytes zero inside =
    omega (arith, (longer_above best kind bytes).1, rest_above rest (longer best kind bytes) bytes)
above_at (kind ∷ rest) best bytes (suc i) inside = above_at rest (longer best kind bytes) bytes i (omega arith)

pub none_longer : (bytes : List ℕ) (kind : Kind) → len_of kind bytes ≤ (longest_match bytes).len
unfolding longest_match
none_longer bytes Label = above_at kinds (record { kind = Label; len = 0 }) bytes 0 (omega arith)
none_longer bytes Int = above_at kinds (record { kind = Label; len = 0 }) bytes 1 (omega arith)
none_longer bytes Real = above_at kinds (record { kind = Label; len = 0 }) bytes 2 (omega arith)
none_longer bytes Word = above_at kinds (record { kind = Label; len = 0 }) bytes 3 (omega arith)
none_longer bytes Str = above_at kinds (record { kind = Label; len = 0 }) bytes 4 (omega arith)
none_longer bytes CStr = above_at kinds (record { kind = Label; len = 0 }) bytes 5 (omega arith)
none_longer bytes Global = above_at kinds (record { kind = Label; len = 0 }) bytes 6 (omega arith)
none_longer bytes Local = above_at kinds (record { kind = Label; len = 0 }) bytes 7 (omega arith)
none_longer bytes Meta = above_at kinds (record { kind = Label; len = 0 }) bytes 8 (omega arith)
none_longer bytes Attr = above_at kinds (record { kind = Label; len = 0 }) bytes 9 (omega arith)
none_longer bytes Equal = above_at kinds (record { kind = Label; len = 0 }) bytes 10 (omega arith)
none_longer bytes Comma = above_at kinds (record { kind = Label; len = 0 }) bytes 11 (omega arith)
none_longer bytes Star = above_at kinds (record { kind = Label; len = 0 }) bytes 12 (omega arith)
none_longer bytes OpenRound = above_at kinds (record { kind = Label; len = 0 }) bytes 13 (omega arith)
none_longer bytes CloseRound = above_at kinds (record { kind = Label; len = 0 }) bytes 14 (omega arith)
none_longer bytes OpenSquare = above_at kinds (record { kind = Label; len = 0 }) bytes 15 (omega arith)
none_longer bytes CloseSquare = above_at kinds (record { kind = Label; len = 0 }) bytes 16 (omega arith)
none_longer bytes OpenCurly = above_at kinds (record { kind = Label; len = 0 }) bytes 17 (omega arith)
none_longer bytes CloseCurly = above_at kinds (record { kind = Label; len = 0 }) bytes 18 (omega arith)
none_longer bytes OpenPacked = above_at kinds (record { kind = Label; len = 0 }) bytes 19 (omega arith)
none_longer bytes ClosePacked = above_at kinds (record { kind = Label; len = 0 }) bytes 20 (omega arith)
none_longer bytes Less = above_at kinds (record { kind = Label; len = 0 }) bytes 21 (omega arith)
none_longer bytes Greater = above_at kinds (record { kind = Label; len = 0 }) bytes 22 (omega arith)
none_longer bytes Bar = above_at kinds (record { kind = Label; len = 0 }) bytes 23 (omega arith)
none_longer bytes Bang = above_at kinds (record { kind = Label; len = 0 }) bytes 24 (omega arith)
none_longer bytes Ellipsis = above_at kinds (record { kind = Label; len = 0 }) bytes 25 (omega arith)

-- a length that is none, or that of the kind
IsOwn : LongestMatch → List ℕ → Type 0
IsOwn found bytes = (found.len ≡ 0) ⊎ (len_of found.kind bytes ≡ found.len)

longer_own : (best : LongestMatch) (kind : Kind) (bytes : List ℕ) → IsOwn best bytes → IsOwn (longer best kind bytes) bytes
unfolding longer IsOwn
longer_own best kind bytes own = cases (nat_lt best.len (len_of kind bytes))
  where
    cases : (t : Bool) → IsOwn (cond t (record { kind = kind; len = len_of kind bytes }) best) bytes
    cases true = inr refl
    cases false = own

longest_own : (all : List Kind) (best : LongestMatch) (bytes : List ℕ) → IsOwn best bytes → IsOwn (longest_of all best bytes) bytes
unfolding longest_of
longest_own [] best bytes own = own
longest_own (kind ∷ rest) best bytes own = longest_own rest (longer best kind bytes) bytes (longer_own best kind bytes own)

pub len_is_own : (bytes : List ℕ) → 0 < (longest_match bytes).len → len_of (longest_match bytes).kind bytes ≡ (longest_match bytes).len
unfolding longest_match IsOwn
len_is_own bytes some = elim (longest_own kinds (record { kind = Label; len = 0 }) bytes (inl refl)) [
  | inl none ↦ absurd (omega (arith, some, none))
  | inr own ↦ own
]
