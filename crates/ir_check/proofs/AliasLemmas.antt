-- The first alias that breaks a rule has a name.
use Rattle.std.proofs.Common.{◌≡◌, ◌∙◌, ℕ, ◌<◌, ◌≤◌, ◌↔◌, Bool, true, false, true≢false, cond, IsNone, MatchOption, Option, None, Some, List, length, nat_lt, refl, sym, ap, arith}
use Rattle.std.specs.List.{position, position_or_len}
use Rattle.std.specs.Option.{option_and_then}
use Rattle.std.proofs.lemmas.Bool.Decides.{nat_tests}
use Rattle.ir_aliases.specs.Ends.{first_bad_alias, is_bad_alias}
use Rattle.ir_check.specs.Faults.{IsAliasFault}
use Rattle.ir_given.specs.Given.{alias_symbol}
use Rattle.ir_syntax.specs.declared.alias.Alias.{Alias}
use Rattle.ir_syntax.specs.declared.module.Module.{Module}

abbrev number : Option ℕ → ℕ
number None = 0
number (Some n) = n

abbrev is_there : Option ℕ → Bool
is_there None = false
is_there (Some n) = true

-- what is found in a list stands in it
found_within : {A : Type 0} (p : A → Bool) (xs : List A) (place : ℕ) → position p xs ≡ Some place → place < length xs
found_within p xs place found = by (nat_lt (position_or_len p xs) (length xs)) refl found
  where
    by : (t : Bool) → nat_lt (position_or_len p xs) (length xs) ≡ t → cond t (Some (position_or_len p xs)) None ≡ Some place → place < length xs
    by true inside is = let same : position_or_len p xs ≡ place = ap number is in grind (arith, nat_tests, inside, same)
    by false outside is = absurd (true≢false (sym (ap is_there is)))

pub symbol_told : (m : Module) (place : ℕ) (symbol : Option (List ℕ)) → first_bad_alias m ≡ Some place → symbol ≡ alias_symbol m place →
    (IsNone symbol ↔ (length m.aliases ≤ place)) → MatchOption symbol (first_bad_alias m ≡ None) (IsAliasFault m)
symbol_told m place None bad is ends =
    let inside = found_within (λ (a : Alias). is_bad_alias m a.name) m.aliases place bad in
    let behind = ends.0 refl in
    absurd (omega (arith, inside, behind))
symbol_told m place (Some name) bad is ends = ap (option_and_then (alias_symbol m)) bad ∙ sym is
