-- The laws of a rule, and that each combinator keeps them.
use Rattle.std.proofs.Common.{◌≡◌, ℕ, suc, Bool, true, false, ◌&&◌, ◌==◌, List, [], ◌∷◌, ◌++◌, Ok, Err, Some, None, ap, append_assoc, inl, inr, length, refl, subst, sym, ◌∙◌, if◌then◌else◌}
use Rattle.std.specs.Prelude.{◌⊎◌, Option}
use Rattle.ir_lex.specs.declared.kind.Kind.{Kind}
use Rattle.ir_words.specs.Classes.{class_of, first, number}
use Rattle.ir_words.specs.Lexemes.{Lexeme}
use Rattle.ir_words.specs.declared.class.Class.{Class}
use Rattle.ir_rules.specs.Laws.{Lawful, Splits, head}
use Rattle.ir_rules.specs.Rules.{Answer, Rule, ◌>>=◌, all_in, apart, begins, either, has, is_word, made, nothing, one_of, one_read, seq, token, when, within, word}
use Rattle.ir_rules.proofs.Sets.{apart_back, apart_is, has_left, has_right, has_same, head-append, not_left, not_right, not_within, same_begins, same_number, within_is}

-- a token, as an example of its kind
abbrev pub sample : Kind → List ℕ → Lexeme
sample kind text = record { kind = kind; text = text; line = 1 }

-- one token

module _ {A : Type 0} (cs : List Class) (f : Class → List ℕ → Option A) where
  abbrev tree : Lexeme → Option A
  tree t = f (class_of t) t.text

  splits_one : (t : Lexeme) (ts : List Lexeme) (o : Option A) → tree t ≡ o → (t0 : Lexeme) (x0 : A) → tree t0 ≡ Some x0
      → Splits (token cs f) (t ∷ ts) (one_read o ts (suc (length ts)))
  splits_one t ts (Some x) e t0 x0 k = (t ∷ [], refl, (t, refl, e), λ vs h. ap (λ o. one_read o vs (suc (length vs))) e)
  splits_one t ts None e t0 x0 k = ([], t ∷ ts, t0 ∷ [], x0, refl, refl, (t0, refl, k), λ vs h. again vs h)
    where
      again : (vs : List Lexeme) → head (t ∷ ts) ≡ head vs → one_of f vs ≡ Err (length vs)
      again [] h = absurd (cc)
      again (v ∷ vs) h = ap (λ o. one_read o vs (suc (length vs))) (ap tree same ∙ e)
        where
          same : v ≡ t
          same = cc

  pub token_lawful : ((c : Class) (text : List ℕ) (x : A) → f c text ≡ Some x → has cs c ≡ true) → (t0 : Lexeme) (x0 : A) → f (class_of t0) t0.text ≡ Some x0
      → Lawful (token cs f)
  token_lawful known t0 x0 k = record {
    splits = splits;
    complete = complete;
    some = (t0 ∷ [], x0, (t0, refl, k));
    first = λ t ts x w. known (class_of t) t.text x (ap tree (same t w.0 ts w.1) ∙ w.2);
    may_be_empty = λ x w. absurd (nothing_there w.0 w.1);
  }
    where
      same : (t u : Lexeme) (ts : List Lexeme) → t ∷ ts ≡ u ∷ [] → t ≡ u
      same t u ts e = cc

      nothing_there : (t : Lexeme) → [] ≡ t ∷ [] → ⊥
      nothing_there t e = cc

      at_end : (o : Option A) → f Class.End [] ≡ o → one_read o [] 0 ≡ Err 0
      at_end (Some x) e = absurd (clash (known Class.End [] x e))
        where
          clash : false ≡ true → ⊥
          clash e = cc
      at_end None e = refl

      splits : (ts : List Lexeme) → Splits (token cs f) ts (one_of f ts)
      splits [] = subst (Splits (token cs f) []) (sym (at_end (f Class.End []) refl)) ([], [], t0 ∷ [], x0, refl, refl, (t0, refl, k), λ vs h. again vs h)
        where
          again : (vs : List Lexeme) → head [] ≡ head vs → one_of f vs ≡ Err (length vs)
          again [] h = at_end (f Class.End []) refl
          again (v ∷ vs) h = absurd (cc)
      splits (t ∷ ts) = splits_one t ts (tree t) refl t0 x0 k

      complete : (us vs : List Lexeme) (x : A) → (token cs f).text us x → begins [] vs ≡ false → one_of f (us ++ vs) ≡ Ok (x, vs)
      complete us vs x w g = ap (λ us. one_of f (us ++ vs)) w.1 ∙ ap (λ o. one_read o vs (suc (length vs))) w.2

-- a word: t is one
pub word_lawful : (class : Class) (t : Lexeme) → is_word class (class_of t) t.text ≡ Some tt → has (class ∷ []) class ≡ true → Lawful (word class)
word_lawful class t k e = token_lawful (class ∷ []) (is_word class) (λ c text x h. known c x (number class == number c) refl h) t tt k
  where
    known : (c : Class) (x : Unit {0}) (b : Bool) → (number class == number c) ≡ b → (if b then Some tt else None) ≡ Some x → has (class ∷ []) c ≡ true
    known c x true is h = sym (has_same (class ∷ []) class c (same_number class c is)) ∙ e
    known c x false is h = absurd (cc)

-- no token

pub nothing_lawful : {A : Type 0} (x : A) → Lawful (nothing x)
nothing_lawful {A} x = record {
  splits = λ ts. ([], refl, (refl, refl), λ vs h. refl);
  complete = λ us vs y w g. ap (λ us. Ok (x, us ++ vs)) w.0 ∙ ap (λ y. Ok (y, vs)) w.1;
  some = ([], x, (refl, refl));
  first = λ t ts y w. absurd (none t ts w.0);
  may_be_empty = λ y w. refl;
}
  where
    none : (t : Lexeme) (ts : List Lexeme) → t ∷ ts ≡ [] → ⊥
    none t ts e = cc

-- other trees

module _ {A B : Type 0} (f : A → B) (a : Rule A) where
  made_splits : (ts : List Lexeme) (o : Answer A) → Splits a ts o → Splits (made f a) ts (o >>= (λ (p : A × List Lexeme). Ok (f p.0, p.1)))
  made_splits ts (Ok p) w = (w.0, w.1, (p.0, w.2, refl), λ vs h. ap (λ o. o >>= (λ (p : A × List Lexeme). Ok (f p.0, p.1))) (w.3 vs h))
  made_splits ts (Err n) w =
      (w.0, w.1, w.2, f w.3, w.4, w.5, (w.3, w.6, refl), λ vs h. ap (λ o. o >>= (λ (p : A × List Lexeme). Ok (f p.0, p.1))) (w.7 vs h))

  pub made_lawful : Lawful a → Lawful (made f a)
  made_lawful la = record {
    splits = λ ts. made_splits ts (a.read ts) (la.splits ts);
    complete = λ us vs y w g. ap (λ o. o >>= (λ (p : A × List Lexeme). Ok (f p.0, p.1))) (la.complete us vs w.0 w.1 g) ∙ ap (λ y. Ok (y, vs)) w.2;
    some = (la.some.0, f la.some.1, (la.some.1, la.some.2, refl));
    first = λ t ts y w. la.first t ts w.0 w.1;
    may_be_empty = λ y w. la.may_be_empty w.0 w.1;
  }

-- sets stated

module _ {A : Type 0} (firsts flast : List Class) (nullable : Bool) (r : Rule A) where
  within_splits : (ts : List Lexeme) (o : Answer A) → Splits r ts o → Splits (within firsts flast nullable r) ts o
  within_splits ts (Ok p) w = w
  within_splits ts (Err n) w = w

  pub within_lawful : Lawful r → all_in r.firsts firsts ≡ true → all_in r.flast flast ≡ true → (r.nullable && nullable) ≡ r.nullable → Lawful (within firsts flast nullable r)
  within_lawful lr s g e = record {
    splits = λ ts. within_splits ts (r.read ts) (lr.splits ts);
    complete = λ us vs x w n. lr.complete us vs x w (not_within r.flast flast (first vs) g n);
    some = lr.some;
    first = λ t ts x w. within_is r.firsts firsts (class_of t) s (lr.first t ts x w);
    may_be_empty = λ x w. go r.nullable nullable e (lr.may_be_empty x w);
  }
    where
      go : (b e : Bool) → (b && e) ≡ b → b ≡ true → e ≡ true
      go true e h k = h
      go false e h k = absurd (cc)

-- one after the other

module _ {A B : Type 0} (a : Rule A) (b : Rule B) where
  abbrev pair : A → B × List Lexeme → Answer (A × B)
  pair x q = Ok ((x, q.0), q.1)

  abbrev second : A × List Lexeme → Answer (A × B)
  second p = b.read p.1 >>= (λ (q : B × List Lexeme). Ok ((p.0, q.0), q.1))

  seq_second : (ts us : List Lexeme) (p : A × List Lexeme) (o : Answer B) → ts ≡ us ++ p.1 → a.text us p.0
      → ((vs : List Lexeme) → head p.1 ≡ head vs → a.read (us ++ vs) ≡ Ok (p.0, vs)) → Splits b p.1 o
      → Splits (seq a b) ts (o >>= (λ (q : B × List Lexeme). Ok ((p.0, q.0), q.1)))
  seq_second ts us p (Ok q) e t on w = (us ++ w.0, e ∙ ap (λ ws. us ++ ws) w.1 ∙ sym (append_assoc us w.0 q.1), (us, w.0, refl, t, w.2), λ vs h. again vs h)
    where
      again : (vs : List Lexeme) → head q.1 ≡ head vs → (seq a b).read ((us ++ w.0) ++ vs) ≡ Ok ((p.0, q.0), vs)
      again vs h =
          ap (λ ws. a.read ws >>= (λ (p : A × List Lexeme). second p)) (append_assoc us w.0 vs)
          ∙ ap (λ o. o >>= (λ (p : A × List Lexeme). second p)) (on (w.0 ++ vs) (ap head w.1 ∙ head-append w.0 q.1 vs h))
          ∙ ap (λ o. o >>= (λ (q : B × List Lexeme). pair p.0 q)) (w.3 vs h)
  seq_second ts us p (Err n) e t on w = (
    us ++ w.0,
    w.1,
    w.2,
    (p.0, w.3),
    e ∙ ap (λ ws. us ++ ws) w.4 ∙ sym (append_assoc us w.0 w.1),
    w.5,
    (us, w.0 ++ w.2, append_assoc us w.0 w.2, t, w.6),
    λ vs h. again vs h,
  )
    where
      again : (vs : List Lexeme) → head w.1 ≡ head vs → (seq a b).read ((us ++ w.0) ++ vs) ≡ Err (length vs)
      again vs h =
          ap (λ ws. a.read ws >>= (λ (p : A × List Lexeme). second p)) (append_assoc us w.0 vs)
          ∙ ap (λ o. o >>= (λ (p : A × List Lexeme). second p)) (on (w.0 ++ vs) (ap head w.4 ∙ head-append w.0 w.1 vs h))
          ∙ ap (λ o. o >>= (λ (q : B × List Lexeme). pair p.0 q)) (w.7 vs h)

  seq_splits : (us0 : List Lexeme) (x0 : B) → b.text us0 x0 → ((ts : List Lexeme) → Splits b ts (b.read ts)) → (ts : List Lexeme) (o : Answer A)
      → Splits a ts o → Splits (seq a b) ts (o >>= (λ (p : A × List Lexeme). second p))
  seq_splits us0 x0 t0 sb ts (Ok p) w = seq_second ts w.0 p (b.read p.1) w.1 w.2 w.3 (sb p.1)
  seq_splits us0 x0 t0 sb ts (Err n) w =
      (w.0, w.1, w.2 ++ us0, (w.3, x0), w.4, w.5, (w.0 ++ w.2, us0, sym (append_assoc w.0 w.2 us0), w.6, t0), λ vs h. ap (λ o. o >>= (λ (p : A × List Lexeme). second p)) (w.7 vs h))

  module _ (la : Lawful a) (lb : Lawful b) (on : apart a.flast b.firsts ≡ true) where
    -- what follows goes on with no text of the first
    stops : (ws vs : List Lexeme) (y : B) → b.text ws y → begins (seq a b).flast vs ≡ false → begins a.flast (ws ++ vs) ≡ false
    stops [] vs y t g =
        not_right b.flast a.flast (first vs) (subst (λ e. begins (b.flast ++ when e a.flast) vs ≡ false) (lb.may_be_empty y t) g)
    stops (w ∷ ws) vs y t g = apart_back a.flast b.firsts (class_of w) on (lb.first w ws y t)

    seq_first : (us ws : List Lexeme) (t : Lexeme) (ts : List Lexeme) (x : A) (y : B) → t ∷ ts ≡ us ++ ws → a.text us x → b.text ws y
        → has (seq a b).firsts (class_of t) ≡ true
    seq_first [] ws t ts x y e m n =
        subst (λ e. has (a.firsts ++ when e b.firsts) (class_of t) ≡ true) (sym (la.may_be_empty x m))
        (has_right a.firsts b.firsts (class_of t) (lb.first t ts y (subst (λ l. b.text l y) (sym e) n)))
    seq_first (u ∷ us) ws t ts x y e m n = has_left a.firsts (when a.nullable b.firsts) (class_of t) (subst (λ v. has a.firsts (class_of v) ≡ true) same (la.first u us x m))
      where
        same : u ≡ t
        same = cc

    seq_empty : (us ws : List Lexeme) (x : A) (y : B) → [] ≡ us ++ ws → a.text us x → b.text ws y → (a.nullable && b.nullable) ≡ true
    seq_empty [] ws x y e m n = ap (λ c. c && b.nullable) (la.may_be_empty x m) ∙ lb.may_be_empty y (subst (λ l. b.text l y) (sym e) n)
    seq_empty (u ∷ us) ws x y e m n = absurd (cc)

    pub seq_lawful : Lawful (seq a b)
    seq_lawful = record {
      splits = λ ts. seq_splits lb.some.0 lb.some.1 lb.some.2 lb.splits ts (a.read ts) (la.splits ts);
      complete = λ us vs z w g.
          ap (λ ws. a.read (ws ++ vs) >>= (λ (p : A × List Lexeme). second p)) w.2
          ∙ ap (λ ws. a.read ws >>= (λ (p : A × List Lexeme). second p)) (append_assoc w.0 w.1 vs)
          ∙ ap (λ o. o >>= (λ (p : A × List Lexeme). second p)) (la.complete w.0 (w.1 ++ vs) z.0 w.3 (stops w.1 vs z.1 w.4 g))
          ∙ ap (λ o. o >>= (λ (q : B × List Lexeme). pair z.0 q)) (lb.complete w.1 vs z.1 w.4 (not_left b.flast (when b.nullable a.flast) (first vs) g));
      some = (la.some.0 ++ lb.some.0, (la.some.1, lb.some.1), (la.some.0, lb.some.0, refl, la.some.2, lb.some.2));
      first = λ t ts z w. seq_first w.0 w.1 t ts z.0 z.1 w.2 w.3 w.4;
      may_be_empty = λ z w. seq_empty w.0 w.1 z.0 z.1 w.2 w.3 w.4;
    }

-- one or the other

module _ {A : Type 0} (a b : Rule A) where
  by_first : (ws : List Lexeme) (t : Bool) → begins a.firsts ws ≡ t → (either a b).read ws ≡ (if t then a.read ws else b.read ws)
  by_first ws t e = ap (λ t. if t then a.read ws else b.read ws) e

  either_left : (ts : List Lexeme) (o : Answer A) → begins a.firsts ts ≡ true → Splits a ts o → Splits (either a b) ts o
  either_left ts (Ok p) e w = (w.0, w.1, inl w.2, λ vs h. by_first (w.0 ++ vs) true (same_begins a.firsts (w.0 ++ vs) ts (sym (ap head w.1 ∙ head-append w.0 p.1 vs h)) ∙ e) ∙ w.3 vs h)
  either_left ts (Err n) e w =
      (w.0, w.1, w.2, w.3, w.4, w.5, inl w.6, λ vs h. by_first (w.0 ++ vs) true (same_begins a.firsts (w.0 ++ vs) ts (sym (ap head w.4 ∙ head-append w.0 w.1 vs h)) ∙ e) ∙ w.7 vs h)

  either_right : (ts : List Lexeme) (o : Answer A) → begins a.firsts ts ≡ false → Splits b ts o → Splits (either a b) ts o
  either_right ts (Ok p) e w = (w.0, w.1, inr w.2, λ vs h. by_first (w.0 ++ vs) false (same_begins a.firsts (w.0 ++ vs) ts (sym (ap head w.1 ∙ head-append w.0 p.1 vs h)) ∙ e) ∙ w.3 vs h)
  either_right ts (Err n) e w =
      (w.0, w.1, w.2, w.3, w.4, w.5, inr w.6, λ vs h. by_first (w.0 ++ vs) false (same_begins a.firsts (w.0 ++ vs) ts (sym (ap head w.4 ∙ head-append w.0 w.1 vs h)) ∙ e) ∙ w.7 vs h)

  module _ (la : Lawful a) (lb : Lawful b) (some : a.nullable ≡ false) (apart_ones : apart b.firsts a.firsts ≡ true) where
    either_splits : (ts : List Lexeme) (t : Bool) → begins a.firsts ts ≡ t → Splits (either a b) ts (if t then a.read ts else b.read ts)
    either_splits ts true e = either_left ts (a.read ts) e (la.splits ts)
    either_splits ts false e = either_right ts (b.read ts) e (lb.splits ts)

    full : (x : A) → a.text [] x → ⊥
    full x t = clash a.nullable (la.may_be_empty x t) some
      where
        clash : (e : Bool) → e ≡ true → e ≡ false → ⊥
        clash e p q = cc

    left_complete : (us vs : List Lexeme) (x : A) → a.text us x → begins (either a b).flast vs ≡ false → (either a b).read (us ++ vs) ≡ Ok (x, vs)
    left_complete [] vs x t g = absurd (full x t)
    left_complete (u ∷ us) vs x t g =
        by_first (u ∷ (us ++ vs)) true (la.first u us x t)
        ∙ la.complete (u ∷ us) vs x t (not_left a.flast (b.flast ++ when b.nullable a.firsts) (first vs) g)

    right_flast : (vs : List Lexeme) → begins (either a b).flast vs ≡ false → begins b.flast vs ≡ false
    right_flast vs g = not_left b.flast (when b.nullable a.firsts) (first vs) (not_right a.flast (b.flast ++ when b.nullable a.firsts) (first vs) g)

    right_complete : (us vs : List Lexeme) (x : A) → b.text us x → begins (either a b).flast vs ≡ false → (either a b).read (us ++ vs) ≡ Ok (x, vs)
    right_complete [] vs x t g =
        by_first vs false (not_right b.flast a.firsts (first vs)
        (subst (λ e. begins (b.flast ++ when e a.firsts) vs ≡ false) (lb.may_be_empty x t) (not_right a.flast (b.flast ++ when b.nullable a.firsts) (first vs) g)))
        ∙ lb.complete [] vs x t (right_flast vs g)
    right_complete (u ∷ us) vs x t g =
        by_first (u ∷ (us ++ vs)) false (apart_is b.firsts a.firsts (class_of u) apart_ones (lb.first u us x t))
        ∙ lb.complete (u ∷ us) vs x t (right_flast vs g)

    either_complete : (us vs : List Lexeme) (x : A) → a.text us x ⊎ b.text us x → begins (either a b).flast vs ≡ false → (either a b).read (us ++ vs) ≡ Ok (x, vs)
    either_complete us vs x (inl t) g = left_complete us vs x t g
    either_complete us vs x (inr t) g = right_complete us vs x t g

    either_first : (t : Lexeme) (ts : List Lexeme) (x : A) → a.text (t ∷ ts) x ⊎ b.text (t ∷ ts) x → has (a.firsts ++ b.firsts) (class_of t) ≡ true
    either_first t ts x (inl w) = has_left a.firsts b.firsts (class_of t) (la.first t ts x w)
    either_first t ts x (inr w) = has_right a.firsts b.firsts (class_of t) (lb.first t ts x w)

    either_empty : (x : A) → a.text [] x ⊎ b.text [] x → b.nullable ≡ true
    either_empty x (inl w) = absurd (full x w)
    either_empty x (inr w) = lb.may_be_empty x w

    pub either_lawful : Lawful (either a b)
    either_lawful = record {
      splits = λ ts. either_splits ts (begins a.firsts ts) refl;
      complete = either_complete;
      some = (la.some.0, la.some.1, inl la.some.2);
      first = either_first;
      may_be_empty = either_empty;
    }
