-- Items that are read one after the other, up to one that is not.
use Rattle.std.proofs.Common.{◌≡◌, ℕ, zero, suc, true, false, List, [], ◌∷◌, ◌++◌, Ok, Err, ap, append_assoc, refl, sym, ◌∙◌}
use Rattle.std.specs.declared.result.Result.{Result}
use Rattle.ir_words.specs.Classes.{first}
use Rattle.ir_words.specs.Lexemes.{Lexeme}
use Rattle.ir_rules.specs.Laws.{Lawful, Splits}
use Rattle.ir_rules.specs.Rules.{Answer, Rule, ◌>>=◌, apart, begins, each, with_item}
use Rattle.ir_rules.proofs.Chains.{chain_goes, each_lawful, item_and, read_starts}
use Rattle.ir_rules.proofs.Sets.{apart_back}

module _ {A : Type 0} (a : Rule A) where
  -- the tokens behind so many items
  abbrev pub after_items : ℕ → List Lexeme → Result (List Lexeme) ℕ
  after_items zero ts = Ok ts
  after_items (suc n) ts = a.read ts >>= (λ (p : A × List Lexeme). after_items n p.1)

  -- items, and the tokens behind them
  abbrev pub Walked : List Lexeme → List Lexeme → Type 0
  Walked ts rest = (us : List Lexeme) × (xs : List A) × (ts ≡ us ++ rest) × (each a).text us xs

  pub one_more : (n : ℕ) (ts rest : List Lexeme) (p : A × List Lexeme) → after_items n ts ≡ Ok rest → a.read rest ≡ Ok p → after_items (suc n) ts ≡ Ok p.1
  one_more zero ts rest p w r = ap (λ o. o >>= (λ (p : A × List Lexeme). after_items zero p.1)) (ap a.read (same ts rest w) ∙ r)
    where
      same : (us vs : List Lexeme) → after_items zero us ≡ Ok vs → us ≡ vs
      same us vs e = cc
  one_more (suc n) ts rest p w r = go (a.read ts) (λ us w. one_more n us rest p w r) w
    where
      go : (o : Answer A) → ((us : List Lexeme) → after_items n us ≡ Ok rest → after_items (suc n) us ≡ Ok p.1)
          → (o >>= (λ (p : A × List Lexeme). after_items n p.1)) ≡ Ok rest → (o >>= (λ (p : A × List Lexeme). after_items (suc n) p.1)) ≡ Ok p.1
      go (Ok q) more w = more q.1 w
      go (Err m) more w = absurd (cc)

  module _ (la : Lawful a) (some : a.nullable ≡ false) (on : apart a.flast a.firsts ≡ true) where
    begun : (ts : List Lexeme) (p : A × List Lexeme) → a.read ts ≡ Ok p → begins a.firsts ts ≡ true
    begun ts p r = read_starts {S = Unit {0}} a.firsts a.flast (λ s. a) (λ s x. s) (λ s. la) (λ s. some) (λ s c h. h) (λ s c h. h) on tt ts p r

    goes_on : (ts : List Lexeme) → begins a.firsts ts ≡ true
        → (each a).read ts ≡ (a.read ts >>= (λ (p : A × List Lexeme). item_and {S = Unit {0}} a.firsts a.flast (λ s. a) (λ s x. s) tt p))
    goes_on ts b = chain_goes {S = Unit {0}} a.firsts a.flast (λ s. a) (λ s x. s) (λ s. la) (λ s. some) tt ts b

    -- what was read is a text
    pub walk_text : (n : ℕ) (ts rest : List Lexeme) → after_items n ts ≡ Ok rest → Walked ts rest
    walk_text zero ts rest w = ([], [], same, refl)
      where
        same : ts ≡ rest
        same = cc
    walk_text (suc n) ts rest w = go (a.read ts) (λ us w. walk_text n us rest w) (la.splits ts) w
      where
        join : (p : A × List Lexeme) → Splits a ts (Ok p) → Walked p.1 rest → Walked ts rest
        join p s v = (s.0 ++ v.0, p.0 ∷ v.1, s.1 ∙ ap (λ l. s.0 ++ l) v.2 ∙ sym (append_assoc s.0 v.0 rest), (s.0, v.0, refl, s.2, v.3))

        go : (o : Answer A) → ((us : List Lexeme) → after_items n us ≡ Ok rest → Walked us rest) → Splits a ts o
            → (o >>= (λ (p : A × List Lexeme). after_items n p.1)) ≡ Ok rest → Walked ts rest
        go (Ok p) more s w = join p s (more p.1 w)
        go (Err m) more s w = absurd (cc)

    -- the bad token of the item behind is that of all
    pub walk_bad : (n left : ℕ) (ts rest : List Lexeme) → after_items n ts ≡ Ok rest → begins a.firsts rest ≡ true → a.read rest ≡ Err left → (each a).read ts ≡ Err left
    walk_bad zero left ts rest w b r =
        ap (each a).read same ∙ goes_on rest b ∙ ap (λ o. o >>= (λ (p : A × List Lexeme). item_and {S = Unit {0}} a.firsts a.flast (λ s. a) (λ s x. s) tt p)) r
      where
        same : ts ≡ rest
        same = cc
    walk_bad (suc n) left ts rest w b r = go (a.read ts) refl (λ us w. walk_bad n left us rest w b r) w
      where
        go : (o : Answer A) → a.read ts ≡ o → ((us : List Lexeme) → after_items n us ≡ Ok rest → (each a).read us ≡ Err left)
            → (o >>= (λ (p : A × List Lexeme). after_items n p.1)) ≡ Ok rest → (each a).read ts ≡ Err left
        go (Ok p) e more w =
            goes_on ts (begun ts p e)
            ∙ ap (λ o. o >>= (λ (p : A × List Lexeme). item_and {S = Unit {0}} a.firsts a.flast (λ s. a) (λ s x. s) tt p)) e
            ∙ ap (λ o. o >>= with_item p.0) (more p.1 w)
        go (Err m) e more w = absurd (cc)

    -- behind an item stands another one, or what is behind all of them
    starts_on : (us more : List Lexeme) (xs : List A) → (each a).text us xs → begins a.firsts more ≡ true → begins a.firsts (us ++ more) ≡ true
    starts_on [] more xs t b = b
    starts_on (u ∷ us) more xs t b = (each_lawful a la some on).first u us xs t

    item_read : (us vs more : List Lexeme) (x : A) (xs : List A) → a.text us x → (each a).text vs xs → begins a.firsts more ≡ true
        → a.read (us ++ (vs ++ more)) ≡ Ok (x, vs ++ more)
    item_read us vs more x xs t w b = la.complete us (vs ++ more) x t (apart_back a.flast a.firsts (first (vs ++ more)) on (starts_on vs more xs w b))

    -- Items up to one that is not read are read in one way alone.
    pub walk_same : (n : ℕ) (xs : List A) (left : ℕ) (ts us more rest : List Lexeme) → after_items n ts ≡ Ok rest → ((p : A × List Lexeme) → a.read rest ≡ Ok p → ⊥)
        → ts ≡ us ++ more → (each a).text us xs → begins a.firsts more ≡ true → a.read more ≡ Err left → rest ≡ more
    walk_same zero [] left ts us more rest w ends is t b r = cc
    walk_same zero (x ∷ xs) left ts us more rest w ends is t b r =
        absurd (ends (x, t.1 ++ more) (ap a.read (same ∙ is ∙ ap (λ l. l ++ more) t.2 ∙ append_assoc t.0 t.1 more) ∙ item_read t.0 t.1 more x xs t.3 t.4 b))
      where
        same : rest ≡ ts
        same = cc
    walk_same (suc n) [] left ts us more rest w ends is t b r =
        absurd (clash (sym (ap (λ o. o >>= (λ (p : A × List Lexeme). after_items n p.1)) (ap a.read (is ∙ ap (λ l. l ++ more) t) ∙ r)) ∙ w))
      where
        clash : Err left ≡ Ok rest → ⊥
        clash e = cc
    walk_same (suc n) (x ∷ xs) left ts us more rest w ends is t b r =
        walk_same n xs left (t.1 ++ more) t.1 more rest
        (sym (ap (λ o. o >>= (λ (p : A × List Lexeme). after_items n p.1))
        (ap a.read (is ∙ ap (λ l. l ++ more) t.2 ∙ append_assoc t.0 t.1 more) ∙ item_read t.0 t.1 more x xs t.3 t.4 b)) ∙ w)
        ends refl t.4 b r
