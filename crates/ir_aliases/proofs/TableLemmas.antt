-- Tables of where aliases lead, and the steps along a chain.
use Rattle.std.proofs.Common.{◌≡◌, ◌∙◌, arith, sym, ap, refl, subst, ℕ, zero, suc, Bool, true, false, nat_eq, ◌+◌, ◌/◌, ◌%◌, ◌^◌, Option, None, Some, option_map, List, [], ◌∷◌, map, slice_get, length}
use Rattle.std.proofs.lemmas.Bool.Decides.{nat_tests}
use Rattle.std.proofs.lemmas.Option.{slice_get-map}
use Rattle.ir_aliases.specs.Ends.{alias_position, base_position, end_of, followed, further, moved}
use Rattle.ir_aliases.specs.Tables.{FindsEnds, Leads, base_positions, composed, doubled, further_by, or_ended, position_at}
use Rattle.ir_aliases.specs.declared.position.Position.{Position}
use Rattle.ir_aliases.specs.declared.position.Position.TheVariants.{Ended, At}
use Rattle.ir_syntax.specs.declared.alias.Alias.{Alias}
use Rattle.ir_syntax.specs.declared.module.Module.{Module}

wrapped_sum : (a b c : ℕ) → (a + (b + c) % 2 ^ 64) % 2 ^ 64 ≡ ((a + b) % 2 ^ 64 + c) % 2 ^ 64
wrapped_sum a b c = omega arith

-- moved by one offset and then by another one
pub moved_twice : (a b : ℕ) (position : Position) → moved a (moved b position) ≡ moved ((a + b) % 2 ^ 64) position
moved_twice a b (Ended None) = refl
moved_twice a b (Ended (Some e)) = ap (λ offset. Ended (Some (record { item = e.item; offset = offset }))) (wrapped_sum a b e.offset)
moved_twice a b (At place n) = ap (At place) (wrapped_sum a b n)

-- from a moved position a table leads to a moved one
further_moved : (table : List Position) (offset : ℕ) (position : Position) → further_by table (moved offset position) ≡ moved offset (further_by table position)
further_moved table offset (Ended None) = refl
further_moved table offset (Ended (Some e)) = refl
further_moved table offset (At place n) = sym (moved_twice offset n (position_at table place))

composed_at : (second : List Position) (position : Option Position) → or_ended (option_map (further_by second) position) ≡ further_by second (or_ended position)
composed_at second None = refl
composed_at second (Some position) = refl

-- two tables one after the other
further-composed : (first second : List Position) (position : Position) → further_by (composed first second) position ≡ further_by second (further_by first position)
further-composed first second (Ended end) = refl
further-composed first second (At place offset) =
    ap (λ found. moved offset (or_ended found)) (slice_get-map (further_by second) first place)
    ∙ ap (moved offset) (composed_at second (slice_get first place))
    ∙ sym (further_moved second offset (position_at first place))

-- first some steps and then more
followed_sum : (m : Module) (a b : ℕ) (position : Position) → followed m b (followed m a position) ≡ followed m (a + b) position
followed_sum m zero b position = ap (λ steps. followed m steps position) plus
  where
    plus : b ≡ zero + b
    plus = omega arith
followed_sum m (suc a) b position = followed_sum m a b (further m position) ∙ ap (λ steps. followed m steps position) plus
  where
    plus : suc (a + b) ≡ suc a + b
    plus = omega arith

pub leads_composed : (m : Module) (a b : ℕ) (first second : List Position) → Leads m a first → Leads m b second → Leads m (a + b) (composed first second)
leads_composed m a b first second one two position =
    further-composed first second position
    ∙ ap (further_by second) (one position)
    ∙ two (followed m a position)
    ∙ followed_sum m a b position

base_at : (m : Module) (found : Option Alias) (place : ℕ) → slice_get m.aliases place ≡ found →
    or_ended (option_map (λ (a : Alias). base_position m a.base) (slice_get m.aliases place)) ≡ alias_position m place
base_at m None place is = grind (arith, is)
base_at m (Some a) place is = grind (arith, is)

-- the bases lead one step
pub bases_lead : (m : Module) → Leads m 1 (base_positions m)
bases_lead m (Ended end) = refl
bases_lead m (At place offset) =
    ap (λ found. moved offset (or_ended found)) (slice_get-map (λ (a : Alias). base_position m a.base) m.aliases place)
    ∙ ap (moved offset) (base_at m (slice_get m.aliases place) place refl)

-- where there are no aliases a chain that is not at its end has none
pub no_end : (position : Position) → end_of (further_by [] position) ≡ end_of position
no_end (Ended end) = refl
no_end (At place offset) = refl

leads_twice : (m : Module) (half steps : ℕ) (table : List Position) → half + half ≡ steps → Leads m half table → Leads m steps (composed table table)
leads_twice m half steps table sum leads = subst (λ n. Leads m n (composed table table)) sum (leads_composed m half half table table leads leads)

leads_once_more : (m : Module) (steps more : ℕ) (table bases : List Position) → steps + 1 ≡ more → Leads m steps table → Leads m 1 bases → Leads m more (composed table bases)
leads_once_more m steps more table bases sum leads one = subst (λ n. Leads m n (composed table bases)) sum (leads_composed m steps 1 table bases leads one)

-- a table of half the steps, doubled
pub leads_doubled : (m : Module) (steps : ℕ) (bases half : List Position) (is_odd : Bool) → is_odd ≡ nat_eq (steps % 2) 1 →
    Leads m 1 bases → Leads m (steps / 2) half → Leads m steps (doubled bases half is_odd)
leads_doubled m steps bases half true is one leads =
    leads_once_more m (steps / 2 + steps / 2) steps (composed half half) bases (grind (arith, nat_tests, is)) (leads_twice m (steps / 2) (steps / 2 + steps / 2) half refl leads) one
leads_doubled m steps bases half false is one leads = leads_twice m (steps / 2) steps half (grind (arith, nat_tests, is)) leads

-- a table that leads as many steps as there are aliases
pub finds_some : (m : Module) (table : List Position) → Leads m (length m.aliases) table → FindsEnds m table
finds_some m table leads position = ap end_of (leads position)

no_aliases : {A B : Type 0} (xs : List A) (f : A → B) → length (map f xs) ≡ 0 → xs ≡ []
no_aliases [] f none = refl
no_aliases (x ∷ xs) f none = grind (arith, none)

pub finds_none : (m : Module) (table : List Position) → table ≡ base_positions m → length table ≡ 0 → FindsEnds m table
finds_none m table is none position =
    let no : m.aliases ≡ [] = no_aliases m.aliases (λ (a : Alias). base_position m a.base) (ap length (sym is) ∙ none) in
    ap (λ t. end_of (further_by t position)) (is ∙ ap (map (λ (a : Alias). base_position m a.base)) no)
    ∙ no_end position
    ∙ ap (λ (aliases : List Alias). end_of (followed m (length aliases) position)) (sym no)
