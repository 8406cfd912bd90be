-- Numbers as bytes, one more byte at a time.
use Rattle.std.proofs.Common.{◌≡◌, ◌∙◌, ℕ, zero, suc, ◌+◌, ◌-◌, ◌*◌, ◌/◌, ◌%◌, ◌<◌, ◌≤◌, ◌^◌, List, [], ◌∷◌, ◌++◌, length, take, drop, get_or, set, refl, sym, ap, arith}
use Rattle.std.proofs.Math.Nat.{pow-le-pow_right, pow-suc}
use Rattle.std.proofs.lemmas.List.{append-nil, append_assoc, drop_more, take_all, take_more_set}
use Rattle.ir_mem.specs.Bytes.{from_little, to_little}

pub length-to_little : (size number : ℕ) → length (to_little size number) ≡ size
length-to_little zero number = refl
length-to_little (suc size) number = ap suc (length-to_little size (number / 256))

-- the bytes from one place before
pub from_little_more : (bytes : List ℕ) (place number byte : ℕ) → 0 < place → place ≤ length bytes → byte ≡ get_or bytes (place - 1) byte →
    number ≡ from_little (drop place bytes) → number * 256 + byte ≡ from_little (drop (place - 1) bytes)
from_little_more bytes place number byte some inside here so =
    let next : from_little (drop (place - 1) bytes) ≡ get_or bytes (place - 1) byte + 256 * from_little (drop (place - 1 + 1) bytes) =
    ap from_little (drop_more bytes (place - 1) byte (omega arith)) in
    let same : from_little (drop (place - 1 + 1) bytes) ≡ from_little (drop place bytes) = ap (λ n. from_little (drop n bytes)) (omega arith) in
    omega (arith, next, same, here, so)

-- a number of the bytes behind a place, with the one before it
pub less_more : (number byte place count : ℕ) → 0 < place → place ≤ count → number < 256 ^ (count - place) → byte < 256 →
    number * 256 + byte < 256 ^ (count - (place - 1))
less_more number byte place count some inside less small =
    let more : 256 ^ (count - (place - 1)) ≡ 256 ^ (count - place) * 256 = ap (λ n. 256 ^ n) (omega arith) ∙ pow-suc 256 (count - place) in
    omega (arith, more, less, small)

-- seven bytes leave room for one more
pub fits_more : (number count : ℕ) → number < 256 ^ count → count < 8 → number < 2 ^ 56
fits_more number count less few =
    let most : 256 ^ count ≤ 256 ^ 7 = pow-le-pow_right {n = 256} (omega arith) {i = count} {j = 7} (omega arith) in
    omega (arith, most, less)

-- one more byte written
pub put_more : (bytes : List ℕ) (place count rest : ℕ) (all : List ℕ) → place < count → length bytes ≡ count →
    take place bytes ++ to_little (count - place) rest ≡ all →
    take (place + 1) (set bytes place (rest % 256)) ++ to_little (count - (place + 1)) (rest / 256) ≡ all
put_more bytes place count rest all inside long so =
    let left : count - place ≡ suc (count - (place + 1)) = omega arith in
    ap (λ bs. bs ++ to_little (count - (place + 1)) (rest / 256)) (take_more_set bytes place (rest % 256) (omega (arith, long)))
    ∙ append_assoc (take place bytes) ((rest % 256) ∷ []) (to_little (count - (place + 1)) (rest / 256))
    ∙ ap (λ n. take place bytes ++ to_little n rest) (sym left)
    ∙ so

pub put_all : (bytes : List ℕ) (place count rest : ℕ) (all : List ℕ) → count ≤ place → length bytes ≡ count →
    take place bytes ++ to_little (count - place) rest ≡ all → bytes ≡ all
put_all bytes place count rest all ended long so =
    let none : count - place ≡ 0 = omega arith in
    sym (take_all place bytes (omega (arith, long)))
    ∙ sym (append-nil (take place bytes))
    ∙ ap (λ n. take place bytes ++ to_little n rest) (sym none)
    ∙ so
