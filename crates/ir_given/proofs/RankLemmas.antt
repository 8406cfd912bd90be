-- The rank of an alias among the unnamed items.
use Rattle.std.proofs.Common.{◌≡◌, ◌∙◌, ℕ, ◌+◌, ◌<◌, Option, None, Some, IsSomeAnd, IsTrue, cond, List, ◌++◌, count_by, drop, map, option_map, slice_get, take, refl, ap, arith}
use Rattle.std.proofs.lemmas.List.{take-append-drop, take-map}
use Rattle.std.proofs.lemmas.List.Sums.{count_by_more_yes, sum_by-append}
use Rattle.std.proofs.lemmas.Option.{get_or_from_slice_get, slice_get-map, slice_get_within}
use Rattle.ir_ident.specs.declared.name.Name.{Name}
use Rattle.ir_syntax.specs.declared.alias.Alias.{Alias}
use Rattle.ir_syntax.specs.declared.module.Module.{Module}
use Rattle.ir_given.specs.Given.{alias_rank, is_unnamed, names_of}

count-append : (xs ys : List Name) → count_by is_unnamed (xs ++ ys) ≡ count_by is_unnamed xs + count_by is_unnamed ys
count-append xs ys = sum_by-append (λ n. cond (is_unnamed n) 1 0) xs ys

-- fewer stand before an unnamed one than in all
fewer : (names : List Name) (k : ℕ) (n : Name) → slice_get names k ≡ Some n → IsTrue (is_unnamed n) →
    count_by is_unnamed (take k names) < count_by is_unnamed names
fewer names k n at is =
    omega (
      arith,
      count_by_more_yes is_unnamed names k n (slice_get_within names k n at) (ap is_unnamed (get_or_from_slice_get names k n n at) ∙ is),
      count-append (take (k + 1) names) (drop (k + 1) names),
      ap (count_by is_unnamed) (take-append-drop (k + 1) names),
    )

-- an unnamed alias stands at one of the ranks
pub rank_below : (m : Module) (place : ℕ) (a : Alias) → slice_get m.aliases place ≡ Some a → IsTrue (is_unnamed a.name) →
    alias_rank m place < count_by is_unnamed (names_of m)
rank_below m place a at is =
    let functions = map (λ f. f.name) m.functions in
    let globals = map (λ g. g.name) m.globals in
    let aliases = map (λ a. a.name) m.aliases in
    let found : slice_get aliases place ≡ Some a.name = slice_get-map (λ a. a.name) m.aliases place ∙ ap (option_map (λ a. a.name)) at in
    omega (
      arith,
      fewer aliases place a.name found is,
      count-append functions (globals ++ aliases),
      count-append globals aliases,
      count-append functions (globals ++ map (λ a. a.name) (take place m.aliases)),
      count-append globals (map (λ a. a.name) (take place m.aliases)),
      ap (count_by is_unnamed) (take-map (λ a. a.name) place m.aliases),
    )

pub some_rank_below : (m : Module) (place : ℕ) → IsSomeAnd (slice_get m.aliases place) (λ a. IsTrue (is_unnamed a.name)) →
    alias_rank m place < count_by is_unnamed (names_of m)
some_rank_below m place is = at (slice_get m.aliases place) refl is
  where
    at : (found : Option Alias) → slice_get m.aliases place ≡ found → IsSomeAnd found (λ a. IsTrue (is_unnamed a.name)) →
        alias_rank m place < count_by is_unnamed (names_of m)
    at None found is = elim is [ ]
    at (Some a) found is = rank_below m place a found is
