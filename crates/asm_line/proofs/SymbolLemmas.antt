-- How names are spelled, and that one spelling has one name.
use Rattle.std.proofs.Common.{◌≡◌, ◌<◌, ℕ, List, [], ◌∷◌, ◌++◌, ◌⊎◌, Bool, true, false, refl, sym, ap, ◌∙◌, arith, append_assoc, length, cond}
use Rattle.std.proofs.lemmas.Bool.Decides.{nat_tests}
use Rattle.std.proofs.Common.{length-append}
use Rattle.std.proofs.lemmas.List.{append-nil}
use Rattle.std.proofs.lemmas.List.Concat.{flat_map-append}
use Rattle.std.proofs.lemmas.List.Elements.{All-tail}
use Rattle.std.specs.List.{flat_map}
use Rattle.std.proofs.Common.{inl, inr}
use Rattle.std.proofs.lemmas.Bool.{false≢true}
use Rattle.asm_inst.proofs.BytesLemmas.{last_same, tail_same}
use Rattle.rv_isa.specs.Symbol.{AreBytes, escaped, is_bare, spelled}

pub escaped_once : (b d : ℕ) (rest more : List ℕ) → b < 256 → d < 256 → escaped b ++ rest ≡ escaped d ++ more → (b ≡ d) × (rest ≡ more)
escaped_once b d rest more hb hd e = grind (arith, nat_tests)

some_escape : (b : ℕ) (rest : List ℕ) → 0 < length (escaped b)
some_escape b rest = grind (arith, nat_tests)

pub escape_longer : (b : ℕ) (rest after : List ℕ) → rest ≡ escaped b ++ after → length after < length rest
escape_longer b rest after e = omega (arith, ap length e, length-append (escaped b) after, some_escape b rest)

-- each name that inner spells begins with the name so far, and the rest spells what is left of it
abbrev pub GoesOn : List ℕ → List ℕ → List ℕ → Type 0
GoesOn inner name rest = (n : List ℕ) → AreBytes n → inner ≡ flat_map escaped n → (m : List ℕ) × AreBytes m × (n ≡ name ++ m) × (rest ≡ flat_map escaped m)

pub goes_on_first : (inner : List ℕ) → GoesOn inner [] inner
goes_on_first inner n hn e = (n, hn, refl, e)

more_of : (name rest after n : List ℕ) (b : ℕ) → b < 256 → rest ≡ escaped b ++ after
    → (m : List ℕ) → AreBytes m → n ≡ name ++ m → rest ≡ flat_map escaped m
    → (m : List ℕ) × AreBytes m × (n ≡ (name ++ b ∷ []) ++ m) × (after ≡ flat_map escaped m)
more_of name rest after n b hb e [] hm is told = absurd (omega (arith, escape_longer b rest after e, ap length told))
more_of name rest after n b hb e (d ∷ m) hm is told =
    let same = escaped_once b d after (flat_map escaped m) hb (hm 0 0 (omega arith)) (sym e ∙ told) in
    (m, All-tail (λ x. x < 256) d m hm, is ∙ ap (λ x. name ++ x ∷ m) (sym same.0) ∙ sym (append_assoc name (b ∷ []) m), same.1)

pub goes_on_more : (inner name rest after : List ℕ) (b : ℕ) → b < 256 → rest ≡ escaped b ++ after → GoesOn inner name rest → GoesOn inner (name ++ b ∷ []) after
goes_on_more inner name rest after b hb e go n hn told =
    let left = go n hn told in
    more_of name rest after n b hb e left.0 left.1 left.2 left.3

stops_at : (rest m : List ℕ) → 0 < length rest → ((b : ℕ) (more : List ℕ) → b < 256 → rest ≡ escaped b ++ more → ⊥) → AreBytes m → rest ≡ flat_map escaped m → ⊥
stops_at rest [] some none hm told = omega (arith, ap length told)
stops_at rest (d ∷ m) some none hm told = none d (flat_map escaped m) (hm 0 0 (omega arith)) told

pub goes_no_further : (inner name rest : List ℕ) → 0 < length rest → ((b : ℕ) (more : List ℕ) → b < 256 → rest ≡ escaped b ++ more → ⊥) → GoesOn inner name rest → (n : List ℕ) → AreBytes n → inner ≡ flat_map escaped n → ⊥
goes_no_further inner name rest some none go n hn told =
    let left = go n hn told in stops_at rest left.0 some none left.1 left.3

pub told_more : (inner name rest after : List ℕ) (b : ℕ) → rest ≡ escaped b ++ after → inner ≡ flat_map escaped name ++ rest → inner ≡ flat_map escaped (name ++ b ∷ []) ++ after
told_more inner name rest after b e told =
    told ∙ ap (λ x. flat_map escaped name ++ x) e ∙ sym (append_assoc (flat_map escaped name) (escaped b) after)
    ∙ ap (λ x. x ++ after) (ap (λ x. flat_map escaped name ++ x) (sym (append-nil _)) ∙ sym (flat_map-append escaped name (b ∷ [])))

cons_same : (b d : ℕ) (n m : List ℕ) → b ≡ d → n ≡ m → b ∷ n ≡ d ∷ m
cons_same b d n m p q = cc

-- what stands between quotes
inside : (xs ys : List ℕ) → 34 ∷ (xs ++ 34 ∷ []) ≡ 34 ∷ (ys ++ 34 ∷ []) → xs ≡ ys
inside xs ys e = last_same xs ys 34 34 (tail_same 34 34 (xs ++ 34 ∷ []) (ys ++ 34 ∷ []) e)

quoted_is_not_bare : (bytes more : List ℕ) → bytes ≡ 34 ∷ more → false ≡ is_bare bytes
quoted_is_not_bare bytes more e = sym (ap is_bare e)

pub escapes_once : (n m : List ℕ) → AreBytes n → AreBytes m → flat_map escaped n ≡ flat_map escaped m → n ≡ m
escapes_once [] [] hn hm e = refl
escapes_once [] (d ∷ m) hn hm e = absurd (omega (arith, ap length e, length-append (escaped d) (flat_map escaped m), some_escape d []))
escapes_once (b ∷ n) [] hn hm e = absurd (omega (arith, ap length e, length-append (escaped b) (flat_map escaped n), some_escape b []))
escapes_once (b ∷ n) (d ∷ m) hn hm e =
    let same = escaped_once b d (flat_map escaped n) (flat_map escaped m) (hn 0 0 (omega arith)) (hm 0 0 (omega arith)) e in
    let rest = escapes_once n m (All-tail (λ x. x < 256) b n hn) (All-tail (λ x. x < 256) d m hm) same.1 in
    cons_same b d n m same.0 rest

-- how a name is spelled: bare, or quoted where it is not bare
abbrev pub IsBare : List ℕ → List ℕ → Type 0
IsBare bytes n = (is_bare n ≡ true) × (bytes ≡ n)

abbrev pub IsQuoted : List ℕ → List ℕ → Type 0
IsQuoted bytes n = (is_bare n ≡ false) × (bytes ≡ 34 ∷ (flat_map escaped n ++ 34 ∷ []))

pub spelled_bare : (n : List ℕ) → is_bare n ≡ true → spelled n ≡ n
spelled_bare n e = ap (λ b. cond b n (34 ∷ (flat_map escaped n ++ 34 ∷ []))) e

pub spelled_quoted : (n : List ℕ) → is_bare n ≡ false → spelled n ≡ 34 ∷ (flat_map escaped n ++ 34 ∷ [])
spelled_quoted n e = ap (λ b. cond b n (34 ∷ (flat_map escaped n ++ 34 ∷ []))) e

how_from : (bytes n : List ℕ) (b : Bool) → is_bare n ≡ b → bytes ≡ spelled n → IsBare bytes n ⊎ IsQuoted bytes n
how_from bytes n true is e = inl (is, e ∙ spelled_bare n is)
how_from bytes n false is e = inr (is, e ∙ spelled_quoted n is)

pub how_spelled : (bytes n : List ℕ) → bytes ≡ spelled n → IsBare bytes n ⊎ IsQuoted bytes n
how_spelled bytes n e = how_from bytes n (is_bare n) refl e

-- no name is spelled by bytes that are neither bare nor between quotes
pub not_spelled : (bytes : List ℕ) → is_bare bytes ≡ false → ((inner : List ℕ) → bytes ≡ 34 ∷ (inner ++ 34 ∷ []) → ⊥) → (n : List ℕ) → bytes ≡ spelled n → ⊥
not_spelled bytes bare none n e = elim (how_spelled bytes n e) [
  | inl h ↦ false≢true (sym bare ∙ ap is_bare h.1 ∙ h.0)
  | inr h ↦ none (flat_map escaped n) h.1
]

-- nor by such bytes between quotes as no escapes are
pub not_escaped : (bytes inner : List ℕ) → is_bare bytes ≡ false → bytes ≡ 34 ∷ (inner ++ 34 ∷ []) → ((n : List ℕ) → AreBytes n → inner ≡ flat_map escaped n → ⊥) → (n : List ℕ) → AreBytes n → bytes ≡ spelled n → ⊥
not_escaped bytes inner bare is none n hn e = elim (how_spelled bytes n e) [
  | inl h ↦ false≢true (sym bare ∙ ap is_bare h.1 ∙ h.0)
  | inr h ↦ none n hn (inside inner (flat_map escaped n) (sym is ∙ h.1))
]

-- nor by a bare name between quotes
pub not_quoted : (bytes inner name : List ℕ) → is_bare bytes ≡ false → bytes ≡ 34 ∷ (inner ++ 34 ∷ []) → AreBytes name → inner ≡ flat_map escaped name → is_bare name ≡ true → (n : List ℕ) → AreBytes n → bytes ≡ spelled n → ⊥
not_quoted bytes inner name bare is hname told quick n hn e = elim (how_spelled bytes n e) [
  | inl h ↦ false≢true (sym bare ∙ ap is_bare h.1 ∙ h.0)
  | inr h ↦
      let same = escapes_once n name hn hname (sym (inside inner (flat_map escaped n) (sym is ∙ h.1)) ∙ told) in
      false≢true (sym h.0 ∙ ap is_bare same ∙ quick)
]

pub quoted_is_spelled : (bytes inner name : List ℕ) → bytes ≡ 34 ∷ (inner ++ 34 ∷ []) → inner ≡ flat_map escaped name → is_bare name ≡ false → bytes ≡ spelled name
quoted_is_spelled bytes inner name is told bare =
    is ∙ ap (λ x. 34 ∷ (x ++ 34 ∷ [])) told ∙ sym (spelled_quoted name bare)

-- one spelling has one name
pub spelled_once : (n m : List ℕ) → AreBytes n → AreBytes m → spelled n ≡ spelled m → n ≡ m
spelled_once n m hn hm e = elim (how_spelled (spelled n) n refl) [
  | inl h ↦ elim (how_spelled (spelled n) m e) [
    | inl k ↦ sym h.1 ∙ k.1
    | inr k ↦ absurd (false≢true (quoted_is_not_bare _ _ k.1 ∙ ap is_bare h.1 ∙ h.0))
  ]
  | inr h ↦ elim (how_spelled (spelled n) m e) [
    | inl k ↦ absurd (false≢true (quoted_is_not_bare _ _ h.1 ∙ ap is_bare k.1 ∙ k.0))
    | inr k ↦ escapes_once n m hn hm (inside (flat_map escaped n) (flat_map escaped m) (sym h.1 ∙ k.1))
  ]
]
