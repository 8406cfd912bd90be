-- Bytes that are added one after the other.
use Rattle.std.proofs.Common.{◌≡◌, ◌∙◌, ◌++◌, ◌∷◌, ◌<◌, ◌+◌, ◌-◌, ◌/◌, ◌%◌, [], ℕ, suc, List, replicate, ap, sym, arith}
use Rattle.std.proofs.lemmas.List.{append_assoc}
use Rattle.ir_mem.specs.Bytes.{to_little}

pub zero_more : (done all : List ℕ) (count k : ℕ) → k < count → done ++ replicate (count - k) 0 ≡ all → (done ++ 0 ∷ []) ++ replicate (count - (k + 1)) 0 ≡ all
zero_more done all count k more so_far =
    let next : count - k ≡ suc (count - (k + 1)) = omega arith in
    append_assoc done (0 ∷ []) (replicate (count - (k + 1)) 0)
    ∙ ap (λ n. done ++ replicate n 0) (sym next)
    ∙ so_far

pub byte_more : (done all : List ℕ) (size k rest : ℕ) → k < size → done ++ to_little (size - k) rest ≡ all →
    (done ++ (rest % 256) ∷ []) ++ to_little (size - (k + 1)) (rest / 256) ≡ all
byte_more done all size k rest more so_far =
    let next : size - k ≡ suc (size - (k + 1)) = omega arith in
    append_assoc done ((rest % 256) ∷ []) (to_little (size - (k + 1)) (rest / 256))
    ∙ ap (λ n. done ++ to_little n rest) (sym next)
    ∙ so_far
