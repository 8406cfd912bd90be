-- The name of a parameter has a place.
use Rattle.std.proofs.Common.{◌≡◌, ◌<◌, ℕ, List, [], Bool, true, false, Some, None, cond, IsSome, length, map, position, get_or, refl, ap, ◌∙◌, arith}
use Rattle.std.specs.List.{position_or_len}
use Rattle.std.specs.Prelude.{nat_lt}
use Rattle.std.proofs.lemmas.Bool.{both_ways, cases_lt}
use Rattle.std.proofs.lemmas.Bool.Decides.{nat_tests}
use Rattle.std.proofs.lemmas.List.{length-map, get_or-map}
use Rattle.std.proofs.lemmas.List.Sums.{fails_before_first}
use Rattle.std.proofs.lemmas.Slice.Eq.{bytes_eq-Decides}
use Rattle.ir_ident.specs.Names.{same_name}
use Rattle.ir_syntax.specs.declared.function.Param.{Param}
use Rattle.ir_ident.specs.declared.name.Name.{Name}
use Rattle.ir_ident.specs.declared.name.Name.TheVariants.{Named}
use Rattle.cg_built.specs.Params.{place_of}

found_below : (place count : ℕ) → place < count → IsSome (cond (nat_lt place count) (Some place) None)
found_below place count inside = grind (arith, nat_tests, cases_lt place count)

position_found : {A : Type 0} (test : A → Bool) (xs : List A) (k : ℕ) (d : A) → k < length xs → test (get_or xs k d) ≡ true →
    IsSome (position test xs)
position_found test xs k d inside passes =
    found_below (position_or_len test xs) (length xs) (before (nat_lt k (position_or_len test xs)) refl)
  where
    before : (t : Bool) → nat_lt k (position_or_len test xs) ≡ t → position_or_len test xs < length xs
    before true is =
        let early : k < position_or_len test xs = grind (arith, nat_tests) in
        absurd (both_ways (test (get_or xs k d)) (fails_before_first test xs k d early) passes)
    before false is = grind (arith, nat_tests)

-- each name of a list, where these are the parameters' names
pub place_found : (param : List ℕ → Param) → ((name : List ℕ) → (param name).name ≡ Named name) → (names : List (List ℕ)) (k : ℕ) →
    k < length names → IsSome (place_of (Named (get_or names k [])) (map param names))
place_found param named names k inside =
    let name : List ℕ = get_or names k [] in
    let test : Param → Bool = λ p. same_name p.name (Named name) in
    let all : length (map param names) ≡ length names = length-map names param in
    let at : get_or (map param names) k (param []) ≡ param name = get_or-map param names k [] (param []) inside in
    let same : test (param name) ≡ true = ap (λ (n : Name). same_name n (Named name)) (named name) ∙ (bytes_eq-Decides name name).1 refl in
    position_found test (map param names) k (param []) (omega arith) (ap test at ∙ same)
