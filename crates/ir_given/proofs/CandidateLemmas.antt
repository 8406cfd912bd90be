-- Candidates differ.
use Rattle.std.proofs.Common.{◌≡◌, ◌∙◌, ℕ, ◌<◌, ◌^◌, zero, suc, false, List, ◌++◌, codes, decimal, drop, length, map, get_or, nat_eq, if◌then◌else◌, refl, sym, ap, arith}
use Rattle.std.proofs.lemmas.Bool.{false_from_ne_true}
use Rattle.std.proofs.lemmas.Bool.Decides.{nat_tests}
use Rattle.std.proofs.lemmas.Fmt.{decimal_is_IsNumeral}
use Rattle.std.proofs.lemmas.List.FromFn.{get_or-map-range_with_len, length-map-range_with_len}
use Rattle.std.proofs.lemmas.Map.Keys.{IsDistinct-from_apart}
use Rattle.std.proofs.lemmas.Slice.Eq.{bytes_eq-Decides}
use Rattle.std.proofs.Math.Seq.{drop-append_seam}
use Rattle.std.specs.List.{IsDistinct, range_with_len}
use Rattle.std.specs.Str.{bytes_eq}
use Rattle.std.specs.Str.Parse.{digits_value}
use Rattle.ir_given.specs.Given.{candidate}

-- the number of a candidate: of the digits behind the dot
abbrev number_of : List ℕ → ℕ
number_of bytes = digits_value 10 (drop 20 bytes)

no_zero : (k : ℕ) → nat_eq (suc k) 0 ≡ false
no_zero k = grind (arith, nat_tests)

number_again : (k : ℕ) → k < 2 ^ 64 → number_of (candidate k) ≡ k
number_again zero small = refl
number_again (suc k) small =
    ap (λ b. number_of (if b then codes "__llvmsplit_unnamed" else codes "__llvmsplit_unnamed." ++ decimal (suc k))) (no_zero k)
    ∙ ap (digits_value 10) (drop-append_seam (codes "__llvmsplit_unnamed.") (decimal (suc k))) ∙ (decimal_is_IsNumeral (suc k) small).1

apart : (i j : ℕ) → i < j → j < 2 ^ 64 → bytes_eq (candidate i) (candidate j) ≡ false
apart i j before small = false_from_ne_true (bytes_eq (candidate i) (candidate j)) (λ same.
    let one : i ≡ j = sym (number_again i (omega arith)) ∙ ap number_of ((bytes_eq-Decides (candidate i) (candidate j)).0 same) ∙ number_again j small in
    omega arith)

-- no two of the first candidates are one name
pub candidates_differ : (n : ℕ) → n < 2 ^ 64 → IsDistinct bytes_eq (map candidate (range_with_len 0 n))
candidates_differ n small = IsDistinct-from_apart bytes_eq (map candidate (range_with_len 0 n)) (λ i j d before inside.
    let all : length (map candidate (range_with_len 0 n)) ≡ n = length-map-range_with_len candidate 0 n in
    let left : get_or (map candidate (range_with_len 0 n)) i d ≡ candidate i = get_or-map-range_with_len candidate 0 n i i d (omega arith) (omega arith) in
    let right : get_or (map candidate (range_with_len 0 n)) j d ≡ candidate j = get_or-map-range_with_len candidate 0 n j j d (omega arith) (omega arith) in
    ap (λ x. bytes_eq x (get_or (map candidate (range_with_len 0 n)) j d)) left ∙ ap (bytes_eq (candidate i)) right ∙ apart i j before (omega arith))
