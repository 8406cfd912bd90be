-- Sets of classes, and lists of lexemes that begin alike.
use Rattle.std.proofs.Common.{◌≡◌, ℕ, Bool, true, false, ◌&&◌, ◌||◌, ◌==◌, not, List, [], ◌∷◌, ◌++◌, arith, ap, refl, sym, ◌∙◌}
use Rattle.std.specs.Prelude.{Option, Some, None}
use Rattle.std.proofs.lemmas.Bool.Decides.{nat_tests}
use Rattle.ir_words.specs.Classes.{class_of, first, number}
use Rattle.ir_words.specs.Lexemes.{Lexeme}
use Rattle.ir_words.specs.declared.class.Class.{Class}
use Rattle.ir_rules.specs.Laws.{head}
use Rattle.ir_rules.specs.Rules.{all_in, apart, begins, has, is_one}

and_left : (a b : Bool) → (a && b) ≡ true → a ≡ true
and_left true b h = refl
and_left false b h = h

and_right : (a b : Bool) → (a && b) ≡ true → b ≡ true
and_right true b h = h
and_right false b h = absurd (cc)

or_split : (a b : Bool) → (a || b) ≡ false → (a ≡ false) × (b ≡ false)
or_split true b h = absurd (cc)
or_split false b h = (refl, h)

is_one-append : (cs ds : List Class) (n : ℕ) → is_one (cs ++ ds) n ≡ (is_one cs n || is_one ds n)
is_one-append [] ds n = refl
is_one-append (c ∷ cs) ds n = go (number c == n) (is_one-append cs ds n)
  where
    go : (b : Bool) → is_one (cs ++ ds) n ≡ (is_one cs n || is_one ds n) → (b || is_one (cs ++ ds) n) ≡ ((b || is_one cs n) || is_one ds n)
    go true e = refl
    go false e = e

pub has-append : (cs ds : List Class) (c : Class) → has (cs ++ ds) c ≡ (has cs c || has ds c)
has-append cs ds c = ap (λ b. not (number Class.End == number c) && b) (is_one-append cs ds (number c)) ∙ go (not (number Class.End == number c)) (is_one cs (number c)) (is_one ds (number c))
  where
    go : (e x y : Bool) → (e && (x || y)) ≡ ((e && x) || (e && y))
    go true x y = refl
    go false x y = refl

-- whether a class is in one set or in the other
pub in_either : (cs ds : List Class) (c : Class) (p q : Bool) → p ≡ has cs c → q ≡ has ds c → (p || q) ≡ has (cs ++ ds) c
in_either cs ds c p q e f = ap (λ b. b || q) e ∙ ap (λ b. has cs c || b) f ∙ sym (has-append cs ds c)

pub has_left : (cs ds : List Class) (c : Class) → has cs c ≡ true → has (cs ++ ds) c ≡ true
has_left cs ds c h = has-append cs ds c ∙ ap (λ b. b || has ds c) h

pub has_right : (cs ds : List Class) (c : Class) → has ds c ≡ true → has (cs ++ ds) c ≡ true
has_right cs ds c h = has-append cs ds c ∙ ap (λ b. has cs c || b) h ∙ go (has cs c)
  where
    go : (b : Bool) → (b || true) ≡ true
    go true = refl
    go false = refl

pub not_left : (cs ds : List Class) (c : Class) → has (cs ++ ds) c ≡ false → has cs c ≡ false
not_left cs ds c h = (or_split (has cs c) (has ds c) (sym (has-append cs ds c) ∙ h)).0

pub not_right : (cs ds : List Class) (c : Class) → has (cs ++ ds) c ≡ false → has ds c ≡ false
not_right cs ds c h = (or_split (has cs c) (has ds c) (sym (has-append cs ds c) ∙ h)).1

-- a class has only its number that counts
pub has_same : (ds : List Class) (c d : Class) → number c ≡ number d → has ds c ≡ has ds d
has_same ds c d e = ap (λ n. not (number Class.End == n) && is_one ds n) e

pub same_number : (x c : Class) → (number x == number c) ≡ true → number x ≡ number c
same_number x c e = nat_is (number x) (number c) e
  where
    nat_is : (m n : ℕ) → (m == n) ≡ true → m ≡ n
    nat_is m n e = grind (arith, nat_tests)

apart_one : (cs ds : List Class) (c : Class) → apart cs ds ≡ true → is_one cs (number c) ≡ true → has ds c ≡ false
apart_one [] ds c a h = absurd (cc)
apart_one (x ∷ cs) ds c a h = go (number x == number c) refl h (apart_one cs ds c (and_right (not (has ds x)) (apart cs ds) a))
  where
    here : (b : Bool) → not b ≡ true → b ≡ false
    here true e = absurd (cc)
    here false e = refl

    go : (b : Bool) → (number x == number c) ≡ b → (b || is_one cs (number c)) ≡ true → (is_one cs (number c) ≡ true → has ds c ≡ false)
        → has ds c ≡ false
    go true e m more = sym (has_same ds x c (same_number x c e)) ∙ here (has ds x) (and_left (not (has ds x)) (apart cs ds) a)
    go false e m more = more m

pub apart_is : (cs ds : List Class) (c : Class) → apart cs ds ≡ true → has cs c ≡ true → has ds c ≡ false
apart_is cs ds c a h = apart_one cs ds c a (and_right (not (number Class.End == number c)) (is_one cs (number c)) h)

not_both : (b : Bool) → b ≡ true → b ≡ false → ⊥
not_both b e f = cc

-- the other way round
pub apart_back : (cs ds : List Class) (c : Class) → apart cs ds ≡ true → has ds c ≡ true → has cs c ≡ false
apart_back cs ds c a h = go (has cs c) refl
  where
    go : (b : Bool) → has cs c ≡ b → has cs c ≡ false
    go true e = absurd (not_both (has ds c) h (apart_is cs ds c a e))
    go false e = e

within_one : (cs ds : List Class) (c : Class) → all_in cs ds ≡ true → is_one cs (number c) ≡ true → has ds c ≡ true
within_one [] ds c a h = absurd (cc)
within_one (x ∷ cs) ds c a h = go (number x == number c) refl h (within_one cs ds c (and_right (has ds x) (all_in cs ds) a))
  where
    go : (b : Bool) → (number x == number c) ≡ b → (b || is_one cs (number c)) ≡ true → (is_one cs (number c) ≡ true → has ds c ≡ true) → has ds c ≡ true
    go true e m more = sym (has_same ds x c (same_number x c e)) ∙ and_left (has ds x) (all_in cs ds) a
    go false e m more = more m

pub within_is : (cs ds : List Class) (c : Class) → all_in cs ds ≡ true → has cs c ≡ true → has ds c ≡ true
within_is cs ds c a h = within_one cs ds c a (and_right (not (number Class.End == number c)) (is_one cs (number c)) h)

pub not_within : (cs ds : List Class) (c : Class) → all_in cs ds ≡ true → has ds c ≡ false → has cs c ≡ false
not_within cs ds c a h = go (has cs c) refl
  where
    go : (b : Bool) → has cs c ≡ b → has cs c ≡ false
    go true e = absurd (not_both (has ds c) (within_is cs ds c a e) h)
    go false e = e

abbrev class_at : Option Lexeme → Class
class_at None = Class.End
class_at (Some t) = class_of t

first_at : (ts : List Lexeme) → first ts ≡ class_at (head ts)
first_at [] = refl
first_at (t ∷ ts) = refl

pub same_first : (ts us : List Lexeme) → head ts ≡ head us → first ts ≡ first us
same_first ts us h = first_at ts ∙ ap class_at h ∙ sym (first_at us)

pub same_begins : (cs : List Class) (ts us : List Lexeme) → head ts ≡ head us → begins cs ts ≡ begins cs us
same_begins cs ts us h = ap (has cs) (same_first ts us h)

pub head-append : (us vs ws : List Lexeme) → head vs ≡ head ws → head (us ++ vs) ≡ head (us ++ ws)
head-append [] vs ws h = h
head-append (u ∷ us) vs ws h = refl
