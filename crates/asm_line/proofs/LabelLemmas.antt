-- Names that are labels.
use Rattle.std.proofs.Common.{◌≡◌, ◌&&◌, ℕ, List, [], ◌∷◌, ◌++◌, Bool, true, codes, sym, ap, ◌∙◌, arith, IsTrue, ◌↔◌}
use Rattle.std.proofs.lemmas.Bool.Decides.{nat_tests}
use Rattle.std.specs.List.{list_all}
use Rattle.rv_isa.specs.Symbol.{IsLabel, is_digit, is_number}
use Rattle.asm_inst.specs.Bytes.{IsAbsent, IsCut}
use Rattle.asm_inst.proofs.BytesLemmas.{cut_once}

digit_is_other : (b : ℕ) → is_digit b ≡ true → b ≡ 95 → ⊥
digit_is_other b h e = grind (arith, nat_tests)

both : (a b : Bool) → IsTrue (a && b) → IsTrue a × IsTrue b
both a b h = grind (arith, nat_tests)

joined : (a b : Bool) → IsTrue a → IsTrue b → IsTrue (a && b)
joined a b h k = grind (arith, nat_tests)

digits_absent : (xs : List ℕ) → IsTrue (list_all is_digit xs) → IsAbsent 95 xs
digits_absent [] h = tt
digits_absent (x ∷ xs) h =
    let p = both (is_digit x) (list_all is_digit xs) h in
    (digit_is_other x p.0, digits_absent xs p.1)

number_absent : (xs : List ℕ) → IsTrue (is_number xs) → IsAbsent 95 xs
number_absent [] h = tt
number_absent (x ∷ []) h = (digit_is_other x h, tt)
number_absent (x ∷ y ∷ xs) h =
    let p = both _ (list_all is_digit (y ∷ xs)) h in
    (digit_is_other x (both (is_digit x) _ p.0).0, digits_absent (y ∷ xs) p.1)

is_label_when : (name numbers f b : List ℕ) (p q : Bool) → name ≡ codes ".LBB" ++ numbers → IsCut 95 numbers f b → p ≡ is_number f → q ≡ is_number b → IsTrue (p && q) → IsLabel name
is_label_when name numbers f b p q e cut is_p is_q h =
    let two = both p q h in
    (f, b, e ∙ ap (λ xs. codes ".LBB" ++ xs) cut.0, sym is_p ∙ two.0, sym is_q ∙ two.1)

label_from : (name numbers f b : List ℕ) (p q : Bool) → name ≡ codes ".LBB" ++ numbers → IsCut 95 numbers f b → p ≡ is_number f → q ≡ is_number b → IsLabel name → IsTrue (p && q)
label_from name numbers f b p q e cut is_p is_q label =
    let same : numbers ≡ label.0 ++ 95 ∷ label.1 = search (sym e ∙ label.2) in
    let once = cut_once 95 f b label.0 label.1 (sym cut.0 ∙ same) cut.1 (number_absent label.0 label.3) in
    joined p q (is_p ∙ ap is_number once.0 ∙ label.3) (is_q ∙ ap is_number once.1 ∙ label.4)

pub label_decided : (name numbers f b : List ℕ) (p q : Bool) → name ≡ codes ".LBB" ++ numbers → IsCut 95 numbers f b → p ≡ is_number f → q ≡ is_number b → IsTrue (p && q) ↔ IsLabel name
label_decided name numbers f b p q e cut is_p is_q = (is_label_when name numbers f b p q e cut is_p is_q, label_from name numbers f b p q e cut is_p is_q)
