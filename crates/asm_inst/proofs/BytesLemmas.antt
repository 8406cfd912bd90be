-- Lists of bytes that differ, and that begin or end alike.
use Rattle.std.proofs.Common.{◌<◌, ◌+◌, ◌-◌, ◌≢◌, sym, subst, take, drop, get_or, [], ◌∷◌, ◌++◌, refl, ap, length, length-append, ◌≡◌, ℕ, List, false, arith, ◌∙◌}
use Rattle.std.proofs.lemmas.List.{take_more, take_rest, take-append-drop, drop_more}
use Rattle.asm_inst.specs.Bytes.{IsAbsent}
use Rattle.std.specs.Str.{bytes_eq}
use Rattle.std.proofs.lemmas.Bool.{false≢true}
use Rattle.std.proofs.lemmas.Slice.Eq.{bytes_eq-Decides}

pub differ : (xs ys : List ℕ) → false ≡ bytes_eq xs ys → xs ≡ ys → ⊥
differ xs ys h e = false≢true (h ∙ (bytes_eq-Decides xs ys).1 e)

pub tail_same : {A : Type 0} (x y : A) (xs ys : List A) → x ∷ xs ≡ y ∷ ys → xs ≡ ys
tail_same x y xs ys e = cc

pub head_same : (x y : ℕ) (xs ys : List ℕ) → x ∷ xs ≡ y ∷ ys → x ≡ y
head_same x y xs ys e = cc

pub last_same : {A : Type 0} (xs ys : List A) (x y : A) → xs ++ x ∷ [] ≡ ys ++ y ∷ [] → xs ≡ ys
last_same [] [] x y e = refl
last_same [] (b ∷ ys) x y e = absurd (omega (arith, ap length e, length-append ys (y ∷ [])))
last_same (a ∷ xs) [] x y e = absurd (omega (arith, ap length e, length-append xs (x ∷ [])))
last_same (a ∷ xs) (b ∷ ys) x y e =
    let same = last_same xs ys x y (tail_same a b (xs ++ x ∷ []) (ys ++ y ∷ []) e) in cc

pub end_same : {A : Type 0} (xs ys : List A) (x y : A) → xs ++ x ∷ [] ≡ ys ++ y ∷ [] → x ≡ y
end_same [] [] x y e = cc
end_same [] (b ∷ ys) x y e = absurd (omega (arith, ap length e, length-append ys (y ∷ [])))
end_same (a ∷ xs) [] x y e = absurd (omega (arith, ap length e, length-append xs (x ∷ [])))
end_same (a ∷ xs) (b ∷ ys) x y e = end_same xs ys x y (tail_same a b (xs ++ x ∷ []) (ys ++ y ∷ []) e)

pub absent_push : (b x : ℕ) (xs : List ℕ) → IsAbsent b xs → x ≢ b → IsAbsent b (xs ++ x ∷ [])
absent_push b x [] h n = (n, tt)
absent_push b x (y ∷ xs) h n = (h.0, absent_push b x xs h.1 n)

pub absent_more : (b : ℕ) (xs : List ℕ) (i : ℕ) → i < length xs → IsAbsent b (take i xs) → get_or xs i 0 ≢ b → IsAbsent b (take (i + 1) xs)
absent_more b xs i l h n = subst (IsAbsent b) (sym (take_more xs i 0 l)) (absent_push b (get_or xs i 0) (take i xs) h n)

pub not_absent : (b : ℕ) (prefix back : List ℕ) → IsAbsent b (prefix ++ b ∷ back) → ⊥
not_absent b [] back h = h.0 refl
not_absent b (x ∷ prefix) back h = not_absent b prefix back h.1

-- the rest of a list, as a slice from i + 1 on
pub cut_here : (b : ℕ) (xs : List ℕ) (i : ℕ) → i < length xs → get_or xs i 0 ≡ b → xs ≡ take i xs ++ b ∷ take (length xs - (i + 1)) (drop (i + 1) xs)
cut_here b xs i l e =
    sym (take-append-drop i xs) ∙ ap (λ ys. take i xs ++ ys) (drop_more xs i 0 l ∙ ap (λ x. x ∷ drop (i + 1) xs) e ∙ ap (λ ys. b ∷ ys) (sym (take_rest xs (i + 1))))

-- there is one cut
pub cut_once : (b : ℕ) (prefix back start rest : List ℕ) → prefix ++ b ∷ back ≡ start ++ b ∷ rest → IsAbsent b prefix → IsAbsent b start → (prefix ≡ start) × (back ≡ rest)
cut_once b [] back [] rest e h k = (refl, tail_same b b back rest e)
cut_once b [] back (x ∷ start) rest e h k = absurd (k.0 (head_same x b (start ++ b ∷ rest) back (sym e)))
cut_once b (x ∷ prefix) back [] rest e h k = absurd (h.0 (head_same x b (prefix ++ b ∷ back) rest e))
cut_once b (x ∷ prefix) back (y ∷ start) rest e h k =
    let more = cut_once b prefix back start rest (tail_same x y (prefix ++ b ∷ back) (start ++ b ∷ rest) e) h.1 k.1 in
    let first = head_same x y (prefix ++ b ∷ back) (start ++ b ∷ rest) e in
    (cc, more.1)

-- Lists that are cut at the last place.

pub absent_back : (b : ℕ) (xs : List ℕ) (n : ℕ) → n < length xs → IsAbsent b (drop (length xs - n) xs) → get_or xs (length xs - n - 1) 0 ≢ b → IsAbsent b (drop (length xs - (n + 1)) xs)
absent_back b xs n l h other =
    let at : ℕ = length xs - (n + 1) in
    let here : length xs - n - 1 ≡ at = omega arith in
    let next : length xs - n ≡ at + 1 = omega arith in
    subst (IsAbsent b) (sym (drop_more xs at 0 (omega arith)))
    (subst (λ k. get_or xs k 0 ≢ b) here other, subst (λ k. IsAbsent b (drop k xs)) next h)

pub absent_rest : (b : ℕ) (xs : List ℕ) (n at : ℕ) → n < length xs → at ≡ length xs - n - 1 → IsAbsent b (drop (length xs - n) xs) → IsAbsent b (take (length xs - (at + 1)) (drop (at + 1) xs))
absent_rest b xs n at l is h =
    subst (IsAbsent b) (sym (take_rest xs (at + 1))) (subst (λ k. IsAbsent b (drop k xs)) (omega (arith, is, l)) h)

pub last_cut_once : (b : ℕ) (prefix back start rest : List ℕ) → prefix ++ b ∷ back ≡ start ++ b ∷ rest → IsAbsent b back → IsAbsent b rest → (prefix ≡ start) × (back ≡ rest)
last_cut_once b [] back [] rest e h k = (refl, tail_same b b back rest e)
last_cut_once b [] back (x ∷ start) rest e h k =
    absurd (not_absent b start rest (subst (IsAbsent b) (tail_same b x back (start ++ b ∷ rest) e) h))
last_cut_once b (x ∷ prefix) back [] rest e h k =
    absurd (not_absent b prefix back (subst (IsAbsent b) (tail_same b x rest (prefix ++ b ∷ back) (sym e)) k))
last_cut_once b (x ∷ prefix) back (y ∷ start) rest e h k =
    let more = last_cut_once b prefix back start rest (tail_same x y (prefix ++ b ∷ back) (start ++ b ∷ rest) e) h k in
    let first = head_same x y (prefix ++ b ∷ back) (start ++ b ∷ rest) e in
    (cc, more.1)
