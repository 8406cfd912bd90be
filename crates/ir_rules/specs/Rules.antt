-- The combinators of a grammar. A rule holds which tokens are its texts, each with its tree, and an
-- online reader: one that decides by the next token alone.
use Rattle.std.specs.Prelude.{◌≡◌, ℕ, zero, suc, ◌⊎◌, Bool, true, false, ◌&&◌, ◌||◌, ◌==◌, not, List, [], ◌∷◌, ◌++◌, drop, length, Some, None, Option, Ok, Err, if◌then◌else◌}
use Rattle.std.specs.declared.result.Result.{Result}
use Rattle.ir_words.specs.Classes.{class_of, first, head_text, number, same}
use Rattle.ir_words.specs.Lexemes.{Lexeme}
use Rattle.ir_words.specs.declared.class.Class.{Class}

-- a tree and the tokens after its text, or how many tokens are left from the first bad one on: 0
-- where the tokens end too soon
abbrev pub Answer : Type 0 → Type 0
Answer A = Result (A × List Lexeme) ℕ

abbrev pub ◌>>=◌ : {A B : Type 0} → Result A ℕ → (A → Result B ℕ) → Result B ℕ
Ok x >>= next = next x
Err left >>= next = Err left

infixl 20 ◌>>=◌
abbrev pub is_one : List Class → ℕ → Bool
is_one [] n = false
is_one (c ∷ cs) n = number c == n || is_one cs n

-- whether a class is in a set; the end of the tokens is in none
abbrev pub has : List Class → Class → Bool
has cs class = not (number Class.End == number class) && is_one cs (number class)

-- whether the first token is of one of these classes
abbrev pub begins : List Class → List Lexeme → Bool
begins cs ts = has cs (first ts)

-- whether no class is in both
abbrev pub apart : List Class → List Class → Bool
apart [] ds = true
apart (c ∷ cs) ds = not (has ds c) && apart cs ds

abbrev pub all_in : List Class → List Class → Bool
all_in [] ds = true
all_in (c ∷ cs) ds = has ds c && all_in cs ds

abbrev pub when : Bool → List Class → List Class
when true cs = cs
when false cs = []

pub record Rule (A : Type 0) : Type 1 where
  pub text : List Lexeme → A → Type 0
  pub read : List Lexeme → Answer A
  -- The sets that decide by one token ahead (Krishnaswami and Yallop, "A Typed, Algebraic Approach to Parsing"):
  -- the classes that a text may begin with, at least these,
  pub firsts : List Class
  -- those that may go on behind a whole text, at least these,
  pub flast : List Class
  -- and whether the empty text may be one
  pub nullable : Bool

abbrev pub one_read : {A : Type 0} → Option A → List Lexeme → ℕ → Answer A
one_read (Some x) ts left = Ok (x, ts)
one_read None ts left = Err left

abbrev pub one_of : {A : Type 0} → (Class → List ℕ → Option A) → List Lexeme → Answer A
one_of f ts = one_read (f (first ts) (head_text ts)) (drop 1 ts) (length ts)

-- one token, of one of these classes: its tree is by its class and its bytes
abbrev pub token : {A : Type 0} → List Class → (Class → List ℕ → Option A) → Rule A
token {A} cs f = record {
  text = λ ts x. (t : Lexeme) × (ts ≡ t ∷ []) × (f (class_of t) t.text ≡ Some x);
  read = one_of f;
  firsts = cs;
  flast = [];
  nullable = false;
}

abbrev pub is_word : Class → Class → List ℕ → Option (Unit {0})
is_word class c text = if same class c then Some tt else None

-- one token of a class
abbrev pub word : Class → Rule (Unit {0})
word class = token (class ∷ []) (is_word class)

-- no token
abbrev pub nothing : {A : Type 0} → A → Rule A
nothing {A} x = record {
  text = λ ts y. (ts ≡ []) × (x ≡ y);
  read = λ ts. Ok (x, ts);
  firsts = [];
  flast = [];
  nullable = true;
}

-- the same texts, with other trees
abbrev pub made : {A B : Type 0} → (A → B) → Rule A → Rule B
made {A} {B} f a = record {
  text = λ ts y. (x : A) × a.text ts x × (f x ≡ y);
  read = λ ts. a.read ts >>= (λ (p : A × List Lexeme). Ok (f p.0, p.1));
  firsts = a.firsts;
  flast = a.flast;
  nullable = a.nullable;
}

-- one after the other
abbrev pub seq : {A B : Type 0} → Rule A → Rule B → Rule (A × B)
seq {A} {B} a b = record {
  text = λ ts z. (us : List Lexeme) × (vs : List Lexeme) × (ts ≡ us ++ vs) × a.text us z.0 × b.text vs z.1;
  read = λ ts. a.read ts >>= (λ (p : A × List Lexeme). b.read p.1 >>= (λ (q : B × List Lexeme). Ok ((p.0, q.0), q.1)));
  firsts = a.firsts ++ when a.nullable b.firsts;
  flast = b.flast ++ when b.nullable a.flast;
  nullable = a.nullable && b.nullable;
}

-- one or the other, by the first token
abbrev pub either : {A : Type 0} → Rule A → Rule A → Rule A
either {A} a b = record {
  text = λ ts x. a.text ts x ⊎ b.text ts x;
  read = λ ts. if begins a.firsts ts then a.read ts else b.read ts;
  firsts = a.firsts ++ b.firsts;
  flast = a.flast ++ (b.flast ++ when b.nullable a.firsts);
  nullable = b.nullable;
}

-- the same rule, its sets stated
abbrev pub within : {A : Type 0} → List Class → List Class → Bool → Rule A → Rule A
within {A} firsts flast nullable r = record { text = r.text; read = r.read; firsts = firsts; flast = flast; nullable = nullable }

abbrev pub chain_text : {S A : Type 0} → (S → Rule A) → (S → A → S) → S → List Lexeme → List A → Type 0
chain_text rule next s ts [] = ts ≡ []
chain_text rule next s ts (x ∷ xs) =
    (us : List Lexeme) × (vs : List Lexeme) × (ts ≡ us ++ vs) × (rule s).text us x × chain_text rule next (next s x) vs xs

abbrev pub with_item : {A : Type 0} → A → List A × List Lexeme → Answer (List A)
with_item x q = Ok (x ∷ q.0, q.1)

-- items as long as one begins; the first argument bounds their number
abbrev pub chain_read : {S A : Type 0} → List Class → (S → Rule A) → (S → A → S) → ℕ → S → List Lexeme → Answer (List A)
chain_read firsts rule next zero s ts = Ok ([], ts)
chain_read {S} {A} firsts rule next (suc n) s ts =
    if begins firsts ts
    then ((rule s).read ts >>= (λ (p : A × List Lexeme). chain_read firsts rule next n (next s p.0) p.1 >>= with_item p.0))
    else Ok ([], ts)

-- Items, each by the rule of a state, from one state on. The rule of each state has its sets within
-- these.
abbrev pub chain : {S A : Type 0} → List Class → List Class → (S → Rule A) → (S → A → S) → S → Rule (List A)
chain {S} {A} firsts flast rule next s = record {
  text = chain_text rule next s;
  read = λ ts. chain_read firsts rule next (length ts) s ts;
  firsts = firsts;
  flast = flast ++ firsts;
  nullable = true;
}

abbrev pub each : {A : Type 0} → Rule A → Rule (List A)
each {A} a = chain {S = Unit {0}} a.firsts a.flast (λ s. a) (λ s x. s) tt

-- a token of a class before
abbrev pub ◌▷◌ : {A : Type 0} → Class → Rule A → Rule A
◌▷◌ {A} class a = made (λ (z : Unit {0} × A). z.1) (seq (word class) a)

-- a token of a class after
abbrev pub ◌◁◌ : {A : Type 0} → Rule A → Class → Rule A
◌◁◌ {A} a class = made (λ (z : A × Unit {0}). z.0) (seq a (word class))

infixr 30 ◌▷◌
infixl 31 ◌◁◌
abbrev pub option : {A : Type 0} → Rule A → Rule (Option A)
option {A} a = either (made (λ (x : A). Some x) a) (nothing None)

-- one or more, separated by commas
abbrev pub commas_some : {A : Type 0} → Rule A → Rule (List A)
commas_some {A} a = made (λ (z : A × List A). z.0 ∷ z.1) (seq a (each (Class.Comma ▷ a)))

-- none or more, separated by commas
abbrev pub commas : {A : Type 0} → Rule A → Rule (List A)
commas a = either (commas_some a) (nothing [])

-- none or more, their trees dropped
abbrev pub dropped : {A : Type 0} → Rule A → Rule (Unit {0})
dropped {A} a = made (λ (xs : List A). tt) (each a)
