-- Texts in a constant table.
use Rattle.std.proofs.Common.{◌≡◌, ◌<◌, ℕ, List, [], map, length, get_or, sym, Bor}
use Rattle.std.proofs.lemmas.List.{get_or-map}

-- the text at a place is the one that the list of texts has there
pub text_at : (table : List (Bor (List ℕ))) (place : ℕ) (d : Bor (List ℕ)) → place < length table →
    (get_or table place d).now ≡ get_or (map (λ text. text.now) table) place []
text_at table place d inside = sym (get_or-map {X = Bor (List ℕ)} (λ text. text.now) table place d [] inside)
