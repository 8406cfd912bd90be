-- Passes over the definitions of types.
use Rattle.std.proofs.Common.{◌≡◌, ◌||◌, ◌⊎◌, ◌∙◌, ℕ, zero, suc, ◌<◌, ◌≤◌, ◌+◌, ◌-◌, Bool, true, false, Option, None, Some, is_some, IfSome, List, [], ◌∷◌, ◌++◌, length, map, set, get_or, replicate, inl, inr, refl, sym, ap, subst, arith}
use Rattle.std.proofs.lemmas.Bool.{cases_eq}
use Rattle.std.proofs.lemmas.List.{length-replicate, length-set, replicate-append-replicate, set-get_or}
use Rattle.std.specs.Option.{option_and_then}
use Rattle.ir_ident.specs.declared.name.Name.{Name}
use Rattle.ir_sizes.proofs.MoreLemmas.{body_more, names_more, next_more, nothing_more}
use Rattle.ir_sizes.specs.Extents.{IsExtent}
use Rattle.ir_sizes.specs.Measured.{AreExtents, body_extent, extent_at, extents_after, extents_by, next_extents, place_of}
use Rattle.ir_sizes.specs.Passes.{Below, IsPart, IsPass, known_or, whole_extents}
use Rattle.ir_sizes.specs.Sized.{level_limit}
use Rattle.ir_sizes.specs.declared.extent.Extent.{Extent}
use Rattle.ir_syntax.specs.declared.type_def.TypeDef.{TypeDef}

-- the extent at a place
pub at_place : (xs : List (Option Extent)) (place : ℕ) (x : Option Extent) → place < length xs → x ≡ get_or xs place x → extent_at xs place ≡ x
at_place [] place x inside is = absurd (omega (arith, inside))
at_place (y ∷ xs) zero x inside is = sym is
at_place (y ∷ xs) (suc place) x inside is = at_place xs place x (omega (arith, inside)) is

-- what is known stays
pub stays_known : (xs : List (Option Extent)) (place : ℕ) (x new : Option Extent) → place < length xs → x ≡ get_or xs place x → is_some x ≡ true →
    xs ≡ set xs place (known_or (extent_at xs place) new)
stays_known xs place x new inside is some =
    sym (set-get_or xs place x) ∙ ap (set xs place) (sym is) ∙ ap (set xs place) (sym (ap (λ o. known_or o new) (at_place xs place x inside is) ∙ by x some))
  where
    by : (o : Option Extent) → is_some o ≡ true → known_or o new ≡ o
    by None some = absurd (cc)
    by (Some e) some = refl

-- what is not known is new
pub becomes_known : (xs : List (Option Extent)) (place : ℕ) (x new : Option Extent) → place < length xs → x ≡ get_or xs place x → is_some x ≡ false →
    set xs place new ≡ set xs place (known_or (extent_at xs place) new)
becomes_known xs place x new inside is none =
    ap (set xs place) (sym (ap (λ o. known_or o new) (at_place xs place x inside is) ∙ by x none))
  where
    by : (o : Option Extent) → is_some o ≡ false → known_or o new ≡ new
    by None none = refl
    by (Some e) none = absurd (cc)

pub set_here : (xs : List (Option Extent)) (place : ℕ) (new : Option Extent) → place < length xs → extent_at (set xs place new) place ≡ new
set_here [] place new inside = absurd (omega (arith, inside))
set_here (x ∷ xs) zero new inside = refl
set_here (x ∷ xs) (suc place) new inside = set_here xs place new (omega (arith, inside))

pub set_there : (xs : List (Option Extent)) (place other : ℕ) (new : Option Extent) → (other ≡ place → ⊥) → extent_at (set xs place new) other ≡ extent_at xs other
set_there [] place other new differ = refl
set_there (x ∷ xs) zero zero new differ = absurd (differ refl)
set_there (x ∷ xs) zero (suc other) new differ = refl
set_there (x ∷ xs) (suc place) zero new differ = refl
set_there (x ∷ xs) (suc place) (suc other) new differ = set_there xs place other new (λ same. differ (ap (λ n. suc n) same))

-- extents stay within the limits
pub set_measured : (xs : List (Option Extent)) (place : ℕ) (new : Option Extent) → place < length xs → AreExtents xs → IfSome new IsExtent → AreExtents (set xs place new)
set_measured xs place new inside are is other = by (cases_eq other place)
  where
    by : (other ≡ place) ⊎ (other ≡ place → ⊥) → IfSome (extent_at (set xs place new) other) IsExtent
    by (inl same) = subst (λ o. IfSome o IsExtent) (sym (ap (extent_at (set xs place new)) same ∙ set_here xs place new inside)) is
    by (inr differ) = subst (λ o. IfSome o IsExtent) (sym (set_there xs place other new differ)) (are other)

-- One definition measured: `new` is what is measured at a place from the extents that are known, of which `all` has each.
module _ (all xs : List (Option Extent)) (place : ℕ) (new : Option Extent) (inside : place < length xs) where
  abbrev pub after : List (Option Extent)
  after = set xs place (known_or (extent_at xs place) new)

  -- what was known is kept
  pub one_kept : Below xs after
  one_kept other e is = by (cases_eq other place)
    where
      known : (o : Option Extent) → o ≡ Some e → known_or o new ≡ Some e
      known None no_ = absurd (cc)
      known (Some x) same = same

      by : (other ≡ place) ⊎ (other ≡ place → ⊥) → extent_at (set xs place (known_or (extent_at xs place) new)) other ≡ Some e
      by (inl same) =
          ap (extent_at (set xs place (known_or (extent_at xs place) new))) same ∙ set_here xs place (known_or (extent_at xs place) new) inside
          ∙ known (extent_at xs place) (ap (extent_at xs) (sym same) ∙ is)
      by (inr differ) = set_there xs place other (known_or (extent_at xs place) new) differ ∙ is

  -- what is found is true
  pub one_true : Below xs all → ((e : Extent) → new ≡ Some e → extent_at all place ≡ Some e) → Below after all
  one_true below here other e is = by (cases_eq other place)
    where
      known : (o : Option Extent) → ((x : Extent) → o ≡ Some x → extent_at all place ≡ Some x) → known_or o new ≡ Some e → extent_at all place ≡ Some e
      known None old found = here e found
      known (Some x) old found = old e found

      by : (other ≡ place) ⊎ (other ≡ place → ⊥) → extent_at all other ≡ Some e
      by (inl same) =
          ap (extent_at all) same
          ∙ known (extent_at xs place) (below place)
          (sym (set_here xs place (known_or (extent_at xs place) new) inside)
          ∙ ap (extent_at (set xs place (known_or (extent_at xs place) new))) (sym same) ∙ is)
      by (inr differ) = below other e (sym (set_there xs place other (known_or (extent_at xs place) new) differ) ∙ is)

  -- what is measured is found
  pub one_found : Below xs all → ((e : Extent) → new ≡ Some e → extent_at all place ≡ Some e) → (e : Extent) → new ≡ Some e → extent_at after place ≡ Some e
  one_found below here e is = set_here xs place (known_or (extent_at xs place) new) inside ∙ known (extent_at xs place) refl
    where
      known : (o : Option Extent) → extent_at xs place ≡ o → known_or o new ≡ Some e
      known None old = is
      known (Some x) old = sym (below place x old) ∙ here e is

-- the same extents at all places
pub same_extents : (xs ys : List (Option Extent)) → length xs ≡ length ys → Below xs ys → Below ys xs → xs ≡ ys
same_extents [] [] long there back = refl
same_extents [] (y ∷ ys) long there back = absurd (omega (arith, long))
same_extents (x ∷ xs) [] long there back = absurd (omega (arith, long))
same_extents (x ∷ xs) (y ∷ ys) long there back =
    (λ i. by x y (there 0) (back 0) i ∷ same_extents xs ys (omega (arith, long)) (λ place. there (suc place)) (λ place. back (suc place)) i)
  where
    by : (a b : Option Extent) → ((e : Extent) → a ≡ Some e → b ≡ Some e) → ((e : Extent) → b ≡ Some e → a ≡ Some e) → a ≡ b
    by None None to from = refl
    by None (Some e) to from = from e refl
    by (Some e) b to from = sym (to e refl)

-- no extents are known at first
pub nothing_known : (count place : ℕ) → extent_at (replicate count None) place ≡ None
nothing_known zero place = refl
nothing_known (suc count) zero = refl
nothing_known (suc count) (suc place) = nothing_known count place

-- the places that so many steps of a pass have measured
abbrev pub Passed : Bool → ℕ → ℕ → ℕ → Type 0
Passed true count step place = place < step
Passed false count step place = count ≤ place + step

abbrev pub place_in : Bool → ℕ → ℕ → ℕ
place_in true count step = step
place_in false count step = count - 1 - step

one_step : (forward : Bool) (count step place : ℕ) → step < count → place < count → Passed forward count (step + 1) place →
    Passed forward count step place ⊎ (place ≡ place_in forward count step)
one_step true count step place few inside passed = by (cases_eq place step)
  where
    by : (place ≡ step) ⊎ (place ≡ step → ⊥) → (place < step) ⊎ (place ≡ step)
    by (inl same) = inr same
    by (inr differ) = inl (grind (arith, differ, passed))
one_step false count step place few inside passed = by (cases_eq place (count - 1 - step))
  where
    by : (place ≡ count - 1 - step) ⊎ (place ≡ count - 1 - step → ⊥) → (count ≤ place + step) ⊎ (place ≡ count - 1 - step)
    by (inl same) = inr same
    by (inr differ) = inl (grind (arith, differ, passed, few, inside))

-- a pass so far
pub record IsPartOfPass (defs : List TypeDef) (old new : List (Option Extent)) (found forward : Bool) (step : ℕ) : Type 0 where
  pub part : IsPart defs new
  pub kept : Below old new
  pub all : (place : ℕ) → Passed forward (length defs) step place → (e : Extent) → extent_at (next_extents defs (extents_by defs old)) place ≡ Some e →
      extent_at new place ≡ Some e
  pub same : found ≡ false → new ≡ old

next_at : (known : Name → Option Extent) (defs : List TypeDef) (place : ℕ) (d : TypeDef) → place < length defs → d ≡ get_or defs place d →
    extent_at (next_extents defs known) place ≡ body_extent known d.body
next_at known [] place d inside is = absurd (omega (arith, inside))
next_at known (x ∷ defs) zero d inside is = ap (λ y. body_extent known y.body) (sym is)
next_at known (x ∷ defs) (suc place) d inside is = next_at known defs place d (omega (arith, inside)) is

some_inside : (known : Name → Option Extent) (defs : List TypeDef) (place : ℕ) (e : Extent) → extent_at (next_extents defs known) place ≡ Some e → place < length defs
some_inside known [] place e is = absurd (cc)
some_inside known (x ∷ defs) zero e is = omega arith
some_inside known (x ∷ defs) (suc place) e is = omega (arith, some_inside known defs place e is)

neither : (a b : Bool) → (a || b) ≡ false → (a ≡ false) × (b ≡ false)
neither false b is = (refl, is)
neither true b is = absurd (cc)

place_inside : (forward : Bool) (count step : ℕ) → step < count → place_in forward count step < count
place_inside true count step few = few
place_inside false count step few = omega (arith, few)

-- one more step of a pass
module _ (defs : List TypeDef) (old xs ys : List (Option Extent)) (found new_found forward : Bool) (step place : ℕ) (d : TypeDef)
    (before : IsPartOfPass defs old xs found forward step) (few : step < length defs) (at : place ≡ place_in forward (length defs) step)
    (is_def : d ≡ get_or defs place d)
    (is : ys ≡ set xs place (known_or (extent_at xs place) (body_extent (extents_by defs xs) d.body))) (unfound : new_found ≡ false → ys ≡ xs) where
  among_defs : place < length defs
  among_defs = subst (λ p. p < length defs) (sym at) (place_inside forward (length defs) step few)

  inside : place < length xs
  inside = subst (λ n. place < n) (sym before.part.each) among_defs

  here : (e : Extent) → body_extent (extents_by defs xs) d.body ≡ Some e → extent_at (whole_extents defs) place ≡ Some e
  here e made =
      ap (λ all. extent_at all place) (sym (nothing_more defs))
      ∙ next_at (extents_by defs (whole_extents defs)) defs place d among_defs is_def
      ∙ body_more (extents_by defs xs) (extents_by defs (whole_extents defs)) (names_more defs xs (whole_extents defs) before.part.true_) d.body e made

  keeps : Below xs ys
  keeps = subst (λ zs. Below xs zs) (sym is) (one_kept (whole_extents defs) xs place (body_extent (extents_by defs xs) d.body) inside)

  finds : (e : Extent) → body_extent (extents_by defs xs) d.body ≡ Some e → extent_at ys place ≡ Some e
  finds e made =
      ap (λ zs. extent_at zs place) is
      ∙ one_found (whole_extents defs) xs place (body_extent (extents_by defs xs) d.body) inside before.part.true_ here e made

  all_found : (other : ℕ) → Passed forward (length defs) (step + 1) other → (e : Extent) → extent_at (next_extents defs (extents_by defs old)) other ≡ Some e →
      extent_at ys other ≡ Some e
  all_found other passed e made =
      by (one_step forward (length defs) step other few (some_inside (extents_by defs old) defs other e made) passed)
    where
      by : Passed forward (length defs) step other ⊎ (other ≡ place_in forward (length defs) step) → extent_at ys other ≡ Some e
      by (inl earlier) = keeps other e (before.all other earlier e made)
      by (inr now) =
          let same : other ≡ place = now ∙ sym at in
          ap (extent_at ys) same
          ∙ finds e
          (body_more (extents_by defs old) (extents_by defs xs) (names_more defs old xs before.kept) d.body e
          (sym (next_at (extents_by defs old) defs place d among_defs is_def)
          ∙ ap (extent_at (next_extents defs (extents_by defs old))) (sym same) ∙ made))

  pub one_more_step : IsPartOfPass defs old ys (found || new_found) forward (step + 1)
  one_more_step = record {
    part = record {
      each = ap length is ∙ length-set xs place (known_or (extent_at xs place) (body_extent (extents_by defs xs) d.body)) ∙ before.part.each;
      true_ = subst (λ zs. Below zs (whole_extents defs)) (sym is)
          (one_true (whole_extents defs) xs place (body_extent (extents_by defs xs) d.body) inside before.part.true_ here);
    };
    kept = λ other e known. keeps other e (before.kept other e known);
    all = all_found;
    same = λ none. unfound (neither found new_found none).1 ∙ before.same (neither found new_found none).0;
  }

-- all steps are a pass
pub whole_pass : (defs : List TypeDef) (old new : List (Option Extent)) (found forward : Bool) (step : ℕ) → length defs ≤ step →
    IsPartOfPass defs old new found forward step → IsPass defs old new found
whole_pass defs old new found forward step enough so_far = record {
  kept = so_far.kept;
  all = λ place e made. so_far.all place (by forward (some_inside (extents_by defs old) defs place e made)) e made;
  same = so_far.same;
}
  where
    by : {place : ℕ} → (f : Bool) → place < length defs → Passed f (length defs) step place
    by true within = omega (arith, within, enough)
    by false within = omega (arith, enough)

-- no step has been made
pub no_step : (defs : List TypeDef) (old : List (Option Extent)) (forward : Bool) → IsPart defs old → IsPartOfPass defs old old false forward 0
no_step defs old forward part = record {
  part = part;
  kept = λ place e known. known;
  all = λ place passed e made. absurd (by forward (some_inside (extents_by defs old) defs place e made) passed);
  same = λ none. refl;
}
  where
    by : {place : ℕ} → (f : Bool) → place < length defs → Passed f (length defs) 0 place → ⊥
    by true within passed = omega (arith, passed)
    by false within passed = omega (arith, within, passed)

-- what a table knows of names, by the places of the definitions
pub known_names : (defs : List TypeDef) (places : Name → Option ℕ) (xs : List (Option Extent)) → ((name : Name) → places name ≡ place_of defs name) →
    (name : Name) → option_and_then (extent_at xs) (places name) ≡ extents_by defs xs name
known_names defs places xs is name = ap (option_and_then (extent_at xs)) (is name)

-- what rounds find, passes find
pub rounds_below : (defs : List TypeDef) (found : List (Option Extent)) (rounds : ℕ) →
    Below (next_extents defs (extents_by defs found)) found → Below (extents_after defs rounds) found
unfolding extents_after
rounds_below defs found zero closed place e known = absurd (cc)
rounds_below defs found (suc rounds) closed place e known =
    closed place e
    (next_more defs (extents_after defs rounds) found (rounds_below defs found rounds closed) place e known)

-- a pass is worth a round
pub one_more_round : (defs : List TypeDef) (old new : List (Option Extent)) (found : Bool) (rounds : ℕ) →
    Below (extents_after defs rounds) old → IsPass defs old new found → Below (extents_after defs (rounds + 1)) new
unfolding extents_after
one_more_round defs old new found rounds so_far pass =
    let next : suc rounds ≡ rounds + 1 = omega arith in
    subst (λ n. Below (extents_after defs n) new) next
    (λ place e known. pass.all place e (next_more defs (extents_after defs rounds) old so_far place e known))

mapped_length : (f : TypeDef → Option Extent) (defs : List TypeDef) → length (map f defs) ≡ length defs
mapped_length f [] = refl
mapped_length f (d ∷ defs) = ap (λ n. suc n) (mapped_length f defs)

whole_length : (defs : List TypeDef) → length (whole_extents defs) ≡ length defs
unfolding extents_after
whole_length defs = mapped_length (λ d. body_extent (extents_by defs (extents_after defs 63)) d.body) defs

-- all that the rounds find, and nothing else
pub all_extents : (defs : List TypeDef) (found : List (Option Extent)) → IsPart defs found → Below (whole_extents defs) found → found ≡ whole_extents defs
all_extents defs found part all = same_extents found (whole_extents defs) (part.each ∙ sym (whole_length defs)) part.true_ all

-- a pass that finds nothing was the last one
pub nothing_found : (defs : List TypeDef) (old new : List (Option Extent)) → IsPart defs new → IsPass defs old new false → new ≡ whole_extents defs
nothing_found defs old new part pass =
    all_extents defs new part
    (rounds_below defs new level_limit (subst (λ xs. Below (next_extents defs (extents_by defs xs)) new) (sym (pass.same refl)) pass.all))

-- where nothing is known yet
pub none_part : (defs : List TypeDef) → IsPart defs (replicate (length defs) None)
none_part defs = record {
  each = length-replicate (length defs) None;
  true_ = λ place e known. absurd (none_differs e (sym (nothing_known (length defs) place) ∙ known));
}
  where
    none_differs : (e : Extent) → None ≡ Some e → ⊥
    none_differs e is = cc

-- nothing that is known is measured
pub none_measured : (count : ℕ) → AreExtents (replicate count None)
none_measured count place = subst (λ o. IfSome o IsExtent) (sym (nothing_known count place)) tt

-- no round finds nothing
pub no_round : (defs : List TypeDef) (found : List (Option Extent)) → Below (extents_after defs 0) found
unfolding extents_after
no_round defs found place e known = absurd (cc)

-- one more that is not known
pub one_more_none : (none : Option Extent) (count : ℕ) → replicate count none ++ none ∷ [] ≡ replicate (count + 1) none
one_more_none none count = replicate-append-replicate count 1 none
