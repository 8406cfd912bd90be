-- The bytes of a name as they stand between quotes.
use Rattle.std.proofs.Common.{◌≡◌, ◌∙◌, ℕ, ◌+◌, ◌<◌, false, if◌then◌else◌, List, [], ◌∷◌, ◌++◌, take, drop, length, get_or, append-nil, add-one, ap, subst, sym}
use Rattle.std.proofs.Math.Seq.{take-suc}
use Rattle.std.proofs.lemmas.Grind.{flat_map-append}
use Rattle.std.proofs.lemmas.List.{take-append-drop}
use Rattle.std.specs.List.{flat_map}
use Rattle.rv_isa.specs.Symbol.{escaped, is_bare, spelled}
use Rattle.llc_top.specs.Streams.{SinkChange, CutOff}

-- what the first n and one more become
more-escaped : (f : ℕ → List ℕ) (xs : List ℕ) (n d : ℕ) → n < length xs → flat_map f (take (n + 1) xs) ≡ flat_map f (take n xs) ++ f (get_or xs n d)
more-escaped f xs n d inside =
    ap (λ k. flat_map f (take k xs)) (add-one n)
    ∙ ap (flat_map f) (take-suc xs n d inside)
    ∙ flat_map-append f (take n xs) (get_or xs n d ∷ [])
    ∙ ap (λ l. flat_map f (take n xs) ++ l) (append-nil (f (get_or xs n d)))

-- and those behind them
pub all-escaped : (f : ℕ → List ℕ) (xs : List ℕ) (n d : ℕ) → n < length xs →
    flat_map f xs ≡ (flat_map f (take n xs) ++ f (get_or xs n d)) ++ flat_map f (drop (n + 1) xs)
all-escaped f xs n d inside =
    ap (flat_map f) (sym (take-append-drop (n + 1) xs))
    ∙ flat_map-append f (take (n + 1) xs) (drop (n + 1) xs)
    ∙ ap (λ l. l ++ flat_map f (drop (n + 1) xs)) (more-escaped f xs n d inside)

-- a name that is not bare is written in quotes
quoted : (name : List ℕ) → is_bare name ≡ false → (34 ∷ []) ++ (flat_map escaped name ++ 34 ∷ []) ≡ spelled name
quoted name is = sym (ap (λ bare. if bare then name else 34 ∷ (flat_map escaped name ++ 34 ∷ [])) is)

pub cut-quoted : (sink : SinkChange) (name : List ℕ) → is_bare name ≡ false →
    CutOff ((34 ∷ []) ++ (flat_map escaped name ++ 34 ∷ [])) sink → CutOff (spelled name) sink
cut-quoted sink name is cut = subst (λ (due : List ℕ). CutOff due sink) (quoted name is) cut
