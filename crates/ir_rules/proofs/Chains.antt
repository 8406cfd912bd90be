-- A chain of items keeps the laws.
use Rattle.std.proofs.Common.{◌≡◌, ℕ, zero, suc, ◌≤◌, Bool, true, false, List, [], ◌∷◌, ◌++◌, Ok, Err, arith, ap, append_assoc, length, refl, subst, sym, ◌∙◌, if◌then◌else◌}
use Rattle.std.proofs.lemmas.List.{append-nil, length-append}
use Rattle.ir_words.specs.Classes.{class_of, first}
use Rattle.ir_words.specs.Lexemes.{Lexeme}
use Rattle.ir_words.specs.declared.class.Class.{Class}
use Rattle.ir_rules.specs.Laws.{Lawful, Splits, head}
use Rattle.ir_rules.specs.Rules.{Answer, Rule, ◌>>=◌, all_in, apart, begins, chain, chain_read, chain_text, each, has, with_item}
use Rattle.ir_rules.proofs.Sets.{apart_back, head-append, not_left, not_right, not_within, same_begins, within_is}

module _ {S A : Type 0} (firsts flast : List Class) (rule : S → Rule A) (next : S → A → S) where
  abbrev pub items : S → Rule (List A)
  items s = chain firsts flast rule next s

  -- an item, and those after it
  abbrev pub item_and : S → A × List Lexeme → Answer (List A)
  item_and s p = (items (next s p.0)).read p.1 >>= with_item p.0

  module _ (laws : (s : S) → Lawful (rule s)) (some : (s : S) → (rule s).nullable ≡ false) where
    full : (s : S) (x : A) → (rule s).text [] x → ⊥
    full s x t = clash (rule s).nullable ((laws s).may_be_empty x t) (some s)
      where
        clash : (e : Bool) → e ≡ true → e ≡ false → ⊥
        clash e p q = cc

    pub shorter : (s : S) (ts us rest : List Lexeme) (x : A) → ts ≡ us ++ rest → (rule s).text us x → suc (length rest) ≤ length ts
    shorter s ts [] rest x e t = absurd (full s x t)
    shorter s ts (u ∷ us) rest x e t = omega (arith, ap length e, length-append us rest)

    -- two ways to go on that agree on fewer tokens
    agree : (s : S) (ts : List Lexeme) (b : Bool) (o : Answer A) → Splits (rule s) ts o → (f g : A × List Lexeme → Answer (List A))
        → ((p : A × List Lexeme) → suc (length p.1) ≤ length ts → f p ≡ g p)
        → (if b then (o >>= f) else Ok ([], ts)) ≡ (if b then (o >>= g) else Ok ([], ts))
    agree s ts false o w f g same = refl
    agree s ts true (Ok p) w f g same = same p (shorter s ts w.0 p.1 p.0 w.1 w.2)
    agree s ts true (Err n) w f g same = refl

    fuel_same : (n m : ℕ) (s : S) (ts : List Lexeme) → length ts ≤ n → length ts ≤ m → chain_read firsts rule next n s ts ≡ chain_read firsts rule next m s ts
    fuel_same zero zero s ts h k = refl
    fuel_same zero (suc m) s [] h k = refl
    fuel_same zero (suc m) s (t ∷ ts) h k = absurd (omega (arith, h))
    fuel_same (suc n) zero s [] h k = refl
    fuel_same (suc n) zero s (t ∷ ts) h k = absurd (omega (arith, k))
    fuel_same (suc n) (suc m) s ts h k =
        agree s ts (begins firsts ts) ((rule s).read ts) ((laws s).splits ts) (λ p. chain_read firsts rule next n (next s p.0) p.1 >>= with_item p.0)
        (λ p. chain_read firsts rule next m (next s p.0) p.1 >>= with_item p.0)
        (λ p l. ap (λ o. o >>= with_item p.0) (fuel_same n m (next s p.0) p.1 (omega (arith, h, l)) (omega (arith, k, l))))

    -- one step, with no bound
    pub chain_step : (s : S) (ts : List Lexeme) → (items s).read ts ≡ (if begins firsts ts then ((rule s).read ts >>= item_and s) else Ok ([], ts))
    chain_step s [] = refl
    chain_step s (t ∷ ts) =
        agree s (t ∷ ts) (begins firsts (t ∷ ts)) ((rule s).read (t ∷ ts)) ((laws s).splits (t ∷ ts))
        (λ p. chain_read firsts rule next (length ts) (next s p.0) p.1 >>= with_item p.0) (item_and s)
        (λ p l. ap (λ o. o >>= with_item p.0) (fuel_same (length ts) (length p.1) (next s p.0) p.1 (omega (arith, l)) (omega arith)))

    pub chain_ends : (s : S) (ts : List Lexeme) → begins firsts ts ≡ false → (items s).read ts ≡ Ok ([], ts)
    chain_ends s ts e = chain_step s ts ∙ ap (λ b. if b then ((rule s).read ts >>= item_and s) else Ok ([], ts)) e

    pub chain_goes : (s : S) (ts : List Lexeme) → begins firsts ts ≡ true → (items s).read ts ≡ ((rule s).read ts >>= item_and s)
    chain_goes s ts e = chain_step s ts ∙ ap (λ b. if b then ((rule s).read ts >>= item_and s) else Ok ([], ts)) e

    stays : (ts us rest vs : List Lexeme) (b : Bool) → begins firsts ts ≡ b → ts ≡ us ++ rest → head rest ≡ head vs → begins firsts (us ++ vs) ≡ b
    stays ts us rest vs b e is h = same_begins firsts (us ++ vs) ts (sym (ap head is ∙ head-append us rest vs h)) ∙ e

    none_splits : (s : S) (ts : List Lexeme) → begins firsts ts ≡ false → Splits (items s) ts (Ok ([], ts))
    none_splits s ts e = ([], refl, refl, λ vs h. chain_ends s vs (stays ts [] ts vs false e refl h))

    more_splits : (s : S) (ts us : List Lexeme) (p : A × List Lexeme) (o : Answer (List A)) → begins firsts ts ≡ true → ts ≡ us ++ p.1 → (rule s).text us p.0
        → ((vs : List Lexeme) → head p.1 ≡ head vs → (rule s).read (us ++ vs) ≡ Ok (p.0, vs)) → Splits (items (next s p.0)) p.1 o
        → Splits (items s) ts (o >>= with_item p.0)
    more_splits s ts us p (Ok q) b e t on w = (us ++ w.0, is, (us, w.0, refl, t, w.2), λ vs h. again vs h)
      where
        is : ts ≡ (us ++ w.0) ++ q.1
        is = e ∙ ap (λ ws. us ++ ws) w.1 ∙ sym (append_assoc us w.0 q.1)

        again : (vs : List Lexeme) → head q.1 ≡ head vs → (items s).read ((us ++ w.0) ++ vs) ≡ Ok (p.0 ∷ q.0, vs)
        again vs h =
            chain_goes s ((us ++ w.0) ++ vs) (stays ts (us ++ w.0) q.1 vs true b is h)
            ∙ ap (λ ws. (rule s).read ws >>= item_and s) (append_assoc us w.0 vs)
            ∙ ap (λ o. o >>= item_and s) (on (w.0 ++ vs) (ap head w.1 ∙ head-append w.0 q.1 vs h))
            ∙ ap (λ o. o >>= with_item p.0) (w.3 vs h)
    more_splits s ts us p (Err n) b e t on w =
        (us ++ w.0, w.1, w.2, p.0 ∷ w.3, is, w.5, (us, w.0 ++ w.2, append_assoc us w.0 w.2, t, w.6), λ vs h. again vs h)
      where
        is : ts ≡ (us ++ w.0) ++ w.1
        is = e ∙ ap (λ ws. us ++ ws) w.4 ∙ sym (append_assoc us w.0 w.1)

        again : (vs : List Lexeme) → head w.1 ≡ head vs → (items s).read ((us ++ w.0) ++ vs) ≡ Err (length vs)
        again vs h =
            chain_goes s ((us ++ w.0) ++ vs) (stays ts (us ++ w.0) w.1 vs true b is h)
            ∙ ap (λ ws. (rule s).read ws >>= item_and s) (append_assoc us w.0 vs)
            ∙ ap (λ o. o >>= item_and s) (on (w.0 ++ vs) (ap head w.4 ∙ head-append w.0 w.1 vs h))
            ∙ ap (λ o. o >>= with_item p.0) (w.7 vs h)

    item_splits : (s : S) (ts : List Lexeme) (o : Answer A) → begins firsts ts ≡ true → Splits (rule s) ts o
        → ((p : A × List Lexeme) → suc (length p.1) ≤ length ts → Splits (items (next s p.0)) p.1 ((items (next s p.0)).read p.1))
        → Splits (items s) ts (o >>= item_and s)
    item_splits s ts (Ok p) b w ih =
        more_splits s ts w.0 p ((items (next s p.0)).read p.1) b w.1 w.2 w.3 (ih p (shorter s ts w.0 p.1 p.0 w.1 w.2))
    item_splits s ts (Err n) b w ih = (
      w.0,
      w.1,
      w.2,
      w.3 ∷ [],
      w.4,
      w.5,
      (w.0 ++ w.2, [], sym (append-nil (w.0 ++ w.2)), w.6, refl),
      λ vs h.
          chain_goes s (w.0 ++ vs) (stays ts w.0 w.1 vs true b w.4 h) ∙ ap (λ o. o >>= item_and s) (w.7 vs h),
    )

    splits_by : (s : S) (ts : List Lexeme)
        → ((p : A × List Lexeme) → suc (length p.1) ≤ length ts → Splits (items (next s p.0)) p.1 ((items (next s p.0)).read p.1))
        → Splits (items s) ts ((items s).read ts)
    splits_by s ts ih = subst (Splits (items s) ts) (sym (chain_step s ts)) (go (begins firsts ts) refl)
      where
        go : (b : Bool) → begins firsts ts ≡ b → Splits (items s) ts (if b then ((rule s).read ts >>= item_and s) else Ok ([], ts))
        go true e = item_splits s ts ((rule s).read ts) e ((laws s).splits ts) ih
        go false e = none_splits s ts e

    splits_at : (n : ℕ) (s : S) (ts : List Lexeme) → length ts ≤ n → Splits (items s) ts ((items s).read ts)
    splits_at zero s ts h = splits_by s ts (λ p l. absurd (omega (arith, h, l)))
    splits_at (suc n) s ts h = splits_by s ts (λ p l. splits_at n (next s p.0) p.1 (omega (arith, h, l)))

    module _ (starts_in : (s : S) (c : Class) → has (rule s).firsts c ≡ true → has firsts c ≡ true)
        (goes_in : (s : S) (c : Class) → has flast c ≡ false → has (rule s).flast c ≡ false) (on : apart flast firsts ≡ true) where
      text_starts : (s : S) (us rest : List Lexeme) (x : A) → (rule s).text us x → begins firsts (us ++ rest) ≡ true
      text_starts s [] rest x t = absurd (full s x t)
      text_starts s (u ∷ us) rest x t = starts_in s (class_of u) ((laws s).first u us x t)

      -- an item is read only where one begins
      pub read_starts : (s : S) (ts : List Lexeme) (p : A × List Lexeme) → (rule s).read ts ≡ Ok p → begins firsts ts ≡ true
      read_starts s ts p e = go (subst (Splits (rule s) ts) e ((laws s).splits ts))
        where
          go : Splits (rule s) ts (Ok p) → begins firsts ts ≡ true
          go w = ap (begins firsts) w.1 ∙ text_starts s w.0 p.1 p.0 w.2

      pub chain_first : (s : S) (t : Lexeme) (ts : List Lexeme) (xs : List A) → chain_text rule next s (t ∷ ts) xs → has firsts (class_of t) ≡ true
      chain_first s t ts [] w = absurd (none w)
        where
          none : t ∷ ts ≡ [] → ⊥
          none e = cc
      chain_first s t ts (x ∷ xs) w = ap (begins firsts) w.2 ∙ text_starts s w.0 w.1 x w.3

      -- what follows an item goes on with no text of it
      stops : (s s' : S) (ws vs : List Lexeme) (xs : List A) → chain_text rule next s' ws xs → begins (flast ++ firsts) vs ≡ false → begins (rule s).flast (ws ++ vs) ≡ false
      stops s s' [] vs xs t g = goes_in s (first vs) (not_left flast firsts (first vs) g)
      stops s s' (w ∷ ws) vs xs t g = goes_in s (class_of w) (apart_back flast firsts (class_of w) on (chain_first s' w ws xs t))

      chain_complete : (xs : List A) (s : S) (us vs : List Lexeme) → chain_text rule next s us xs → begins (flast ++ firsts) vs ≡ false → (items s).read (us ++ vs) ≡ Ok (xs, vs)
      chain_complete [] s us vs w g = ap (λ us. (items s).read (us ++ vs)) w ∙ chain_ends s vs (not_right flast firsts (first vs) g)
      chain_complete (x ∷ xs) s us vs w g =
          ap (λ us. (items s).read (us ++ vs)) w.2
          ∙ ap (λ ws. (items s).read ws) (append_assoc w.0 w.1 vs)
          ∙ chain_goes s (w.0 ++ (w.1 ++ vs)) (text_starts s w.0 (w.1 ++ vs) x w.3)
          ∙ ap (λ o. o >>= item_and s) ((laws s).complete w.0 (w.1 ++ vs) x w.3 (stops s (next s x) w.1 vs xs w.4 g))
          ∙ ap (λ o. o >>= with_item x) (chain_complete xs (next s x) w.1 vs w.4 g)

      pub items_lawful : (s : S) → Lawful (items s)
      items_lawful s = record {
        splits = λ ts. splits_at (length ts) s ts (omega arith);
        complete = λ us vs xs w g. chain_complete xs s us vs w g;
        some = ([], [], refl);
        first = chain_first s;
        may_be_empty = λ xs w. refl;
      }

-- the sets of each state lie in these
pub chain_lawful : {S A : Type 0} (firsts flast : List Class) (rule : S → Rule A) (next : S → A → S) → ((s : S) → Lawful (rule s)) → ((s : S) → (rule s).nullable ≡ false)
    → ((s : S) → all_in (rule s).firsts firsts ≡ true) → ((s : S) → all_in (rule s).flast flast ≡ true) → apart flast firsts ≡ true → (s : S)
    → Lawful (chain firsts flast rule next s)
chain_lawful firsts flast rule next laws some s_in g_in on s =
    items_lawful firsts flast rule next laws some (λ s c h. within_is (rule s).firsts firsts c (s_in s) h) (λ s c h. not_within (rule s).flast flast c (g_in s) h) on s

pub each_lawful : {A : Type 0} (a : Rule A) → Lawful a → a.nullable ≡ false → apart a.flast a.firsts ≡ true → Lawful (each a)
each_lawful {A} a la e on =
    items_lawful {S = Unit {0}} a.firsts a.flast (λ s. a) (λ s x. s) (λ s. la) (λ s. e) (λ s c h. h) (λ s c h. h) on tt
