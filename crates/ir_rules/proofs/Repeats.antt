-- The steps of a loop that reads the items of a chain. What the loop answers in the end is made of
-- the items that are left, by a function that each step renews.
use Rattle.std.proofs.Common.{◌≡◌, not, ◌&&◌, ◌||◌, ◌==◌, arith, ap, append_assoc, drop, refl, subst, sym, true, false, Bool, ℕ, List, [], ◌∷◌, ◌++◌, Ok, Err, Some, None, length, ◌∙◌, if◌then◌else◌}
use Rattle.std.proofs.lemmas.Bool.Decides.{nat_tests}
use Rattle.std.proofs.lemmas.List.Elements.{filter_map-append}
use Rattle.std.specs.List.{filter_map}
use Rattle.std.specs.Prelude.{Option}
use Rattle.std.specs.declared.result.Result.{Result}
use Rattle.ir_words.specs.Classes.{first, number, same}
use Rattle.ir_words.specs.Lexemes.{Lexeme}
use Rattle.ir_words.specs.declared.class.Class.{Class}
use Rattle.ir_rules.specs.Laws.{Lawful}
use Rattle.ir_rules.specs.Reading.{GivesUnless}
use Rattle.ir_rules.specs.Repeats.{into, prefixed}
use Rattle.ir_rules.specs.declared.end.End.{End}
use Rattle.ir_rules.specs.declared.end.End.TheVariants.{NoMemory, Bad}
use Rattle.ir_rules.specs.Rules.{Answer, Rule, ◌>>=◌, begins, chain, each, has, made, one_read, seq, ◌▷◌, with_item}
use Rattle.ir_rules.proofs.Chains.{chain_ends, chain_goes, item_and}

into_item : {A B : Type 0} (f g : List A → B) (x : A) → ((xs : List A) → f (x ∷ xs) ≡ g xs) → (o : Answer (List A)) → into f (o >>= with_item x) ≡ into g o
into_item f g x same (Ok q) = ap (λ y. Ok (y, q.1)) (same q.0)
into_item f g x same (Err n) = refl

-- How a part of a reader ends badly is how the whole one ends.
pub fails_so : {T U A B : Type 0} (P Q : Type 0) → (P → Q) → (given : U → A) (view : T → B) (part : Result A ℕ) (whole : Result B ℕ) (end : End) (result : Result T End)
    → result ≡ Err end → ((n : ℕ) → part ≡ Err n → whole ≡ Err n) → GivesUnless P given (Err end) part → GivesUnless Q view result whole
fails_so P Q weaker given view part whole NoMemory result is on e = subst (λ r. GivesUnless Q view r whole) (sym is) (weaker e)
fails_so P Q weaker given view part whole (Bad n) result is on e = subst (λ r. GivesUnless Q view r whole) (sym is) (on n e)

-- what is given exactly is given
pub exactly_gives : {T A : Type 0} (view : T → A) (result : Result T End) (read : Result A ℕ) → GivesUnless ⊥ view result read → GivesUnless (Unit {0}) view result read
exactly_gives view (Ok x) read g = g
exactly_gives view (Err NoMemory) read never = absurd never
exactly_gives view (Err (Bad left)) read g = g

module _ {S A B : Type 0} (firsts flast : List Class) (rule : S → Rule A) (next : S → A → S) (laws : (s : S) → Lawful (rule s))
    (some : (s : S) → (rule s).nullable ≡ false) where
  -- where no item begins, all are read
  pub chain_ended : (f : List A → B) (s : S) (ts : List Lexeme) (whole : Answer B) → into f ((chain firsts flast rule next s).read ts) ≡ whole → begins firsts ts ≡ false
      → whole ≡ Ok (f [], ts)
  chain_ended f s ts whole inv e = sym inv ∙ ap (into f) (chain_ends firsts flast rule next laws some s ts e)

  -- an item's bad token is the chain's
  pub chain_stops : (f : List A → B) (s : S) (ts : List Lexeme) (n : ℕ) (whole : Answer B) → into f ((chain firsts flast rule next s).read ts) ≡ whole → begins firsts ts ≡ true
      → (rule s).read ts ≡ Err n → whole ≡ Err n
  chain_stops f s ts n whole inv e r =
      sym inv ∙ ap (into f) (chain_goes firsts flast rule next laws some s ts e ∙ ap (λ o. o >>= item_and firsts flast rule next s) r)

  -- one more item, and the state after it
  pub chain_steps : (f g : List A → B) (s to : S) (x : A) (ts after : List Lexeme) (whole : Answer B) → to ≡ next s x → ((xs : List A) → f (x ∷ xs) ≡ g xs)
      → begins firsts ts ≡ true → (rule s).read ts ≡ Ok (x, after) → into f ((chain firsts flast rule next s).read ts) ≡ whole
      → into g ((chain firsts flast rule next to).read after) ≡ whole
  chain_steps f g s to x ts after whole is same e r inv =
      ap (λ t. into g ((chain firsts flast rule next t).read after)) is
      ∙ sym (into_item f g x same ((chain firsts flast rule next (next s x)).read after))
      ∙ ap (into f) (sym (chain_goes firsts flast rule next laws some s ts e ∙ ap (λ o. o >>= item_and firsts flast rule next s) r))
      ∙ inv

  -- how an item ends other than well, the chain does
  pub chain_fails : {T U : Type 0} (f : List A → B) (s : S) (ts : List Lexeme) (whole : Answer B) (P Q : Type 0) → (P → Q) → (given : U → A × List Lexeme)
      (view : T → B × List Lexeme) (end : End) (result : Result T End) → result ≡ Err end → into f ((chain firsts flast rule next s).read ts) ≡ whole
      → begins firsts ts ≡ true → GivesUnless P given (Err end) ((rule s).read ts) → GivesUnless Q view result whole
  chain_fails f s ts whole P Q weaker given view end result is inv e g =
      fails_so P Q weaker given view ((rule s).read ts) whole end result is (λ n r. chain_stops f s ts n whole inv e r) g

-- items of one rule
module _ {A B : Type 0} (a : Rule A) (law : Lawful a) (some : a.nullable ≡ false) where
  pub each_ended : (f : List A → B) (ts : List Lexeme) (whole : Answer B) → into f ((each a).read ts) ≡ whole → begins a.firsts ts ≡ false → whole ≡ Ok (f [], ts)
  each_ended f ts whole inv e = chain_ended {S = Unit {0}} a.firsts a.flast (λ s. a) (λ s x. s) (λ s. law) (λ s. some) f tt ts whole inv e

  pub each_stops : (f : List A → B) (ts : List Lexeme) (n : ℕ) (whole : Answer B) → into f ((each a).read ts) ≡ whole → begins a.firsts ts ≡ true
      → a.read ts ≡ Err n → whole ≡ Err n
  each_stops f ts n whole inv e r = chain_stops {S = Unit {0}} a.firsts a.flast (λ s. a) (λ s x. s) (λ s. law) (λ s. some) f tt ts n whole inv e r

  pub each_fails : {T U : Type 0} (f : List A → B) (ts : List Lexeme) (whole : Answer B) (P Q : Type 0) → (P → Q) → (given : U → A × List Lexeme) (view : T → B × List Lexeme)
      (end : End) (result : Result T End) → result ≡ Err end → into f ((each a).read ts) ≡ whole → begins a.firsts ts ≡ true → GivesUnless P given (Err end) (a.read ts)
      → GivesUnless Q view result whole
  each_fails f ts whole P Q weaker given view end result is inv e g =
      fails_so P Q weaker given view (a.read ts) whole end result is (λ n r. each_stops f ts n whole inv e r) g

  pub each_steps : (f g : List A → B) (x : A) (ts after : List Lexeme) (whole : Answer B) → ((xs : List A) → f (x ∷ xs) ≡ g xs)
      → begins a.firsts ts ≡ true → a.read ts ≡ Ok (x, after) → into f ((each a).read ts) ≡ whole → into g ((each a).read after) ≡ whole
  each_steps f g x ts after whole same e r inv =
      chain_steps {S = Unit {0}} a.firsts a.flast (λ s. a) (λ s x. s) (λ s. law) (λ s. some) f g tt tt x ts after whole refl same e r inv

-- one more item is at the end of those that are read
pub appended : {A : Type 0} (prefix more : List A) (x : A) → more ≡ prefix ++ x ∷ [] → (xs : List A) → prefix ++ x ∷ xs ≡ more ++ xs
appended prefix more x is xs = sym (ap (λ l. l ++ xs) is ∙ append_assoc prefix (x ∷ []) xs)

-- one more item is at the end of those that are read, if it gives something
pub sifted : {A B : Type 0} (h : A → Option B) (prefix more : List B) (x : A) → more ≡ prefix ++ filter_map h (x ∷ []) → (xs : List A)
    → prefix ++ filter_map h (x ∷ xs) ≡ more ++ filter_map h xs
sifted h prefix more x is xs =
    ap (λ l. prefix ++ l) (filter_map-append h (x ∷ []) xs)
    ∙ sym (append_assoc prefix (filter_map h (x ∷ [])) (filter_map h xs))
    ∙ sym (ap (λ l. l ++ filter_map h xs) is)

-- two lists at once
pub both : {A B : Type 0} {x x' : A} {y y' : B} → x ≡ x' → y ≡ y' → ◌≡◌ {A = A × B} (x, y) (x', y')
both {A} {B} {x} {x'} {y} {y'} p q = ap pair-left p ∙ ap pair-right q
  where
    pair-left : A → A × B
    pair-left a = (a, y)

    pair-right : B → A × B
    pair-right b = (x', b)

-- where a word stands, it begins the items
pub begun : (class : Class) (ts : List Lexeme) → has (class ∷ []) class ≡ true → first ts ≡ class → begins (class ∷ []) ts ≡ true
begun class ts h e = ap (has (class ∷ [])) e ∙ h

pub not_begun : (class : Class) (ts : List Lexeme) → false ≡ (number (first ts) == number class) → begins (class ∷ []) ts ≡ false
not_begun class ts e = go (number Class.End) (number (first ts)) (number class) e
  where
    go : (m n k : ℕ) → false ≡ (n == k) → (not (m == n) && (k == n || false)) ≡ false
    go m n k e = grind (arith, nat_tests)

abbrev with_word : {A : Type 0} → A × List Lexeme → Answer (Unit {0} × A)
with_word q = Ok ((tt, q.0), q.1)

abbrev behind_word : {A : Type 0} → (Unit {0} × A) × List Lexeme → Answer A
behind_word p = Ok (p.0.1, p.1)

abbrev word_and : {A : Type 0} → Rule A → List Lexeme → Bool → Answer A
word_and {A} a ts b =
    (one_read (if b then Some tt else None) (drop 1 ts) (length ts) >>= (λ (p : Unit {0} × List Lexeme). a.read p.1 >>= (λ (q : A × List Lexeme). with_word q)))
    >>= (λ (p : (Unit {0} × A) × List Lexeme). behind_word p)

itself : (n : ℕ) → (n == n) ≡ true
itself n = grind (arith, nat_tests)

as_it_was : {A : Type 0} (o : Answer A) → ((o >>= (λ (q : A × List Lexeme). with_word q)) >>= (λ (p : (Unit {0} × A) × List Lexeme). behind_word p)) ≡ o
as_it_was (Ok q) = refl
as_it_was (Err n) = refl

-- an item after a word that stands there
pub word_read : {A : Type 0} (class : Class) (a : Rule A) (ts : List Lexeme) (o : Answer A) → first ts ≡ class → a.read (drop 1 ts) ≡ o → (class ▷ a).read ts ≡ o
word_read {A} class a ts o e r =
    ap (λ c. word_and a ts (same class c)) e
    ∙ ap (word_and a ts) (itself (number class))
    ∙ ap (λ o. (o >>= (λ (q : A × List Lexeme). with_word q)) >>= (λ (p : (Unit {0} × A) × List Lexeme). behind_word p)) r
    ∙ as_it_was o

-- one item, and items of another rule after it
module _ {A : Type 0} (a b : Rule A) (x : A) (ts after : List Lexeme) (r : a.read ts ≡ Ok (x, after)) where
  abbrev join : (A × List A) × List Lexeme → Answer (List A)
  join p = Ok (p.0.0 ∷ p.0.1, p.1)

  abbrev and_each : A × List Lexeme → Answer (A × List A)
  and_each p = (each b).read p.1 >>= (λ (q : List A × List Lexeme). Ok ((p.0, q.0), q.1))

  pub first_and_each : (prefix : List A) → prefix ≡ x ∷ [] → prefixed prefix ((each b).read after) ≡ (made (λ (z : A × List A). z.0 ∷ z.1) (seq a (each b))).read ts
  first_and_each prefix is =
      ap (λ l. prefixed l ((each b).read after)) is ∙ joined ((each b).read after) ∙ ap (λ o. o >>= and_each >>= join) (sym r)
    where
      joined : (o : Answer (List A)) → prefixed (x ∷ []) o ≡ ((o >>= (λ (q : List A × List Lexeme). Ok ((x, q.0), q.1))) >>= join)
      joined (Ok q) = refl
      joined (Err n) = refl

  pub first_and_skipped : into (λ (xs : List A). tt {0}) ((each b).read after) ≡ into (λ (xs : List A). tt {0}) ((made (λ (z : A × List A). z.0 ∷ z.1) (seq a (each b))).read ts)
  first_and_skipped = joined ((each b).read after) ∙ ap (λ o. into (λ (xs : List A). tt {0}) (o >>= and_each >>= join)) (sym r)
    where
      joined : (o : Answer (List A)) → into (λ (xs : List A). tt {0}) o
          ≡ into (λ (xs : List A). tt {0}) ((o >>= (λ (q : List A × List Lexeme). Ok ((x, q.0), q.1))) >>= join)
      joined (Ok q) = refl
      joined (Err n) = refl
