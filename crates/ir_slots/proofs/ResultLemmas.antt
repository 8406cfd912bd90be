-- Results of a function's instructions and phis, written into their slots.
use Rattle.std.proofs.Common.{◌≡◌, ◌≢◌, ◌∙◌, ◌<◌, inl, inr, pred, is_some, ℕ, zero, suc, Bool, true, false, Option, None, Some, option_map, List, [], ◌∷◌, ◌++◌, length, get_or, map, if◌then◌else◌, refl, sym, ap, subst, arith, length-set}
use Rattle.std.proofs.lemmas.Bool.Decides.{Decides-eqb}
use Rattle.std.proofs.lemmas.Slice.Eq.{bytes_eq-Decides}
use Rattle.std.specs.Prelude.{slice_get}
use Rattle.std.specs.List.{flat_map}
use Rattle.ir_ident.specs.Names.{same_name}
use Rattle.ir_ident.specs.declared.name.Name.{Name}
use Rattle.ir_ident.specs.declared.name.Name.TheVariants.{Named, Unnamed, Implicit}
use Rattle.ir_sem.specs.Configs.{blocks_of, blocks_in}
use Rattle.ir_sem.specs.Effects.{all_defined}
use Rattle.ir_sem.specs.Locals.{defined}
use Rattle.ir_sem.specs.declared.value.Value.{Value}
use Rattle.ir_sem.specs.declared.value.Value.TheVariants.{Poison}
use Rattle.ir_slots.specs.Results.{ArePhiSlots, Includes, IsAmong, IsSlot, phi_slots, with_result, with_results}
use Rattle.ir_slots.specs.Slots.{locals_in, slot_names, slot_of, slot_value, value_names}
use Rattle.ir_syntax.specs.declared.block.Block.{Block}
use Rattle.ir_syntax.specs.declared.function.Function.{Function}
use Rattle.ir_syntax.specs.declared.phi.Phi.{Phi}
use Rattle.ir_walk.specs.Locals.{in_block, in_body, in_instr, in_param, in_phi}

pub among_left : (names more : List Name) (name : Name) → IsAmong names name → IsAmong (names ++ more) name
among_left [] more name is = absurd is
among_left (own ∷ names) more name (inl is) = inl is
among_left (own ∷ names) more name (inr in_rest) = inr (among_left names more name in_rest)

pub among_right : (more names : List Name) (name : Name) → IsAmong names name → IsAmong (more ++ names) name
among_right [] names name is = is
among_right (own ∷ more) names name is = inr (among_right more names name is)

-- names of one item among those of all
pub among_all : {A : Type 0} (found : A → List Name) (xs : List A) (i : ℕ) (x : A) → slice_get xs i ≡ Some x → Includes (flat_map found xs) (found x)
among_all found [] i x at name is = absurd (cc)
among_all found (y ∷ xs) zero x at name is = among_left (found y) (flat_map found xs) name (subst (λ z. IsAmong (found z) name) (sym (some_is at)) is)
  where
    some_is : {A : Type 0} {a b : A} → Some a ≡ Some b → a ≡ b
    some_is same = cc
among_all found (y ∷ xs) (suc i) x at name is = among_right (found y) (flat_map found xs) name (among_all found xs i x at name is)

same_is : (a b : Name) → same_name a b ≡ true → a ≡ b
same_is (Named a) (Named b) same = ap Named ((bytes_eq-Decides a b).0 same)
same_is (Unnamed a) (Unnamed b) same = ap Unnamed ((Decides-eqb a b).0 same)
same_is (Named a) (Unnamed b) same = absurd (cc)
same_is (Unnamed a) (Named b) same = absurd (cc)
same_is Implicit (Named b) same = absurd (cc)
same_is Implicit (Unnamed b) same = absurd (cc)
same_is (Named a) Implicit same = absurd (cc)
same_is (Unnamed a) Implicit same = absurd (cc)
same_is Implicit Implicit same = absurd (cc)

-- a name that is another one is itself
self_same : (a b : Name) → same_name a b ≡ true → same_name a a ≡ true
self_same a b same = ap (same_name a) (same_is a b same) ∙ same

-- the values with one more slot in front
pub one_more : (own : Name) (names : List Name) (value : Value) (values : List Value) (name : Name)
    → locals_in (own ∷ names) (value ∷ values) name ≡ (if same_name own name then value else locals_in names values name)
one_more own names value values name = by (same_name own name) (slot_of names name)
  where
    by : (t : Bool) (slot : Option ℕ) → slot_value (value ∷ values) (if t then Some 0 else option_map (λ place. suc place) slot) ≡ (if t then value else slot_value values slot)
    by true slot = refl
    by false None = refl
    by false (Some slot) = refl

-- a value written at a slot is read by the names of that slot
abbrev Reads : List Name → Name → List Value → Value → Name → Type 0
Reads names name values value other =
    (if same_name name other then value else locals_in names values other) ≡ locals_in names (with_result values (slot_of names name) value) other

with_rest : (v : Value) (values : List Value) (slot : Option ℕ) (value : Value)
    → with_result (v ∷ values) (option_map (λ place. suc place) slot) value ≡ v ∷ with_result values slot value
with_rest v values None value = refl
with_rest v values (Some slot) value = refl

module _ (name : Name) (value : Value) (other : Name) where
  -- a name that has no slot is none
  no_name : same_name name name ≢ true → same_name name other ≡ false
  no_name not_self = by (same_name name other) refl
    where
      by : (t : Bool) → same_name name other ≡ t → t ≡ false
      by true is = absurd (not_self (self_same name other is))
      by false is = refl

  in_front : (s : Bool) (v : Value) (rest : Value) → (if s then value else (if s then v else rest)) ≡ (if s then value else rest)
  in_front true v rest = refl
  in_front false v rest = refl

  turned : (s t : Bool) (v rest : Value) → (s ≡ true → t ≡ true → ⊥)
      → (if s then value else (if t then v else rest)) ≡ (if t then v else (if s then value else rest))
  turned true true v rest apart = absurd (apart refl refl)
  turned true false v rest apart = refl
  turned false t v rest apart = refl

  write : (names : List Name) (values : List Value) → length values ≡ length names
      → (same_name name name ≡ true → is_some (slot_of names name) ≡ true) → Reads names name values value other
  write [] [] long has = ap (λ t. if t then value else Poison) (no_name (λ self. absurd (false_is (has self))))
    where
      false_is : false ≡ true → ⊥
      false_is same = absurd (cc)
  write [] (v ∷ values) long has = absurd (cc)
  write (own ∷ names) [] long has = absurd (cc)
  write (own ∷ names) (v ∷ values) long has =
      ap (λ found. if same_name name other then value else found) (one_more own names v values other) ∙ by (same_name own name) refl (write names values (ap pred long))
    where
      rest : Value
      rest = locals_in names values other

      apart : same_name own name ≡ false → same_name name other ≡ true → same_name own other ≡ true → ⊥
      apart not_one one two =
          let is : own ≡ name = same_is own other two ∙ sym (same_is name other one) in
          let self : same_name own name ≡ true = ap (same_name own) (sym is) ∙ self_same own other two in
          absurd (cc)

      by : (t : Bool) → same_name own name ≡ t
          → ((same_name name name ≡ true → is_some (slot_of names name) ≡ true) → Reads names name values value other) → (if same_name name other then value else (if same_name own other then v else rest))
          ≡ locals_in (own ∷ names) (with_result (v ∷ values) (if t then Some 0 else option_map (λ place. suc place) (slot_of names name)) value) other
      by true is behind =
          ap (λ n. if same_name n other then value else (if same_name own other then v else rest)) (sym (same_is own name is))
          ∙ in_front (same_name own other) v rest
          ∙ sym (one_more own names value values other)
      by false is behind =
          turned (same_name name other) (same_name own other) v rest (apart is)
          ∙ ap (λ found. if same_name own other then v else found) (behind later)
          ∙ sym (one_more own names v (with_result values (slot_of names name) value) other)
          ∙ ap (λ all. locals_in (own ∷ names) all other) (sym (with_rest v values (slot_of names name) value))
        where
          some_rest : (slot : Option ℕ) → is_some (option_map (λ place. suc place) slot) ≡ true → is_some slot ≡ true
          some_rest None some = some
          some_rest (Some slot) some = refl

          later : same_name name name ≡ true → is_some (slot_of names name) ≡ true
          later self = some_rest (slot_of names name)
              (ap (λ t. is_some (if t then Some 0 else option_map (λ place. suc place) (slot_of names name))) (sym is) ∙ has self)

-- a name that is among these has a slot
has_slot : (names : List Name) (name : Name) → IsAmong names name → same_name name name ≡ true → is_some (slot_of names name) ≡ true
has_slot [] name is self = absurd is
has_slot (own ∷ names) name (inl is) self = ap (λ n. is_some (slot_of (n ∷ names) name)) is ∙ ap (λ t. is_some (if t then Some 0 else option_map (λ place. suc place) (slot_of names name))) self
has_slot (own ∷ names) name (inr later) self = by (same_name own name) (has_slot names name later self)
  where
    by : (t : Bool) → is_some (slot_of names name) ≡ true → is_some (if t then Some 0 else option_map (λ place. suc place) (slot_of names name)) ≡ true
    by true some = refl
    by false some = mapped (slot_of names name) some
      where
        mapped : (slot : Option ℕ) → is_some slot ≡ true → is_some (option_map (λ place. suc place) slot) ≡ true
        mapped None some = some
        mapped (Some slot) some = refl

-- a result that is among these names goes into its slot
pub result_slot : (names : List Name) (name : Name) → IsAmong names name → IsSlot names (Some name) (slot_of names name)
result_slot names name is values value long = λ i other. write name value other names values long (has_slot names name is) i

pub no_result : (names : List Name) → IsSlot names None None
no_result names values value long = refl

-- slots stay as many
pub result_length : (values : List Value) (slot : Option ℕ) (value : Value) → length (with_result values slot value) ≡ length values
result_length values None value = refl
result_length values (Some slot) value = length-set values slot value

pub results_length : (values : List Value) (slots : List (Option ℕ)) (new : List Value) → length (with_results values slots new) ≡ length values
results_length values [] new = refl
results_length values (slot ∷ slots) [] = refl
results_length values (slot ∷ slots) (value ∷ new) = result_length (with_results values slots new) slot value ∙ results_length values slots new

-- the results of phis go into their slots
pub phis_written : (names : List Name) (phis : List Phi) (values new : List Value) → length values ≡ length names → Includes names (map (λ (phi : Phi). phi.result) phis)
    → all_defined (map (λ (phi : Phi). phi.result) phis) new (locals_in names values) ≡ locals_in names (with_results values (phi_slots names phis) new)
phis_written names [] values new long among = refl
phis_written names (phi ∷ phis) values [] long among = refl
phis_written names (phi ∷ phis) values (value ∷ new) long among =
    ap (defined phi.result value) (phis_written names phis values new long (λ name is. among name (inr is)))
    ∙ result_slot names phi.result (among phi.result (inl refl)) (with_results values (phi_slots names phis) new) value (results_length values (phi_slots names phis) new ∙ long)

pub are_phi_slots : (names : List Name) (phis : List Phi) → Includes names (map (λ (phi : Phi). phi.result) phis) → ArePhiSlots names phis (phi_slots names phis)
are_phi_slots names phis among values new long = phis_written names phis values new long among

-- the names of one of these items are among those that all names have
pub includes_item : {A : Type 0} (found : A → List Name) (names : List Name) (xs : List A) (i : ℕ) (x : A) → Includes names (flat_map found xs) → i < length xs
    → x ≡ get_or xs i x → Includes names (found x)
includes_item found names xs i x all inside is name own = all name (among_all found xs i x (slice_get_at xs i x inside is) name own)
  where
    slice_get_at : {A : Type 0} (xs : List A) (i : ℕ) (x : A) → i < length xs → x ≡ get_or xs i x → slice_get xs i ≡ Some x
    slice_get_at [] i x inside is = absurd (omega (arith, inside))
    slice_get_at (y ∷ xs) zero x inside is = ap Some (sym is)
    slice_get_at (y ∷ xs) (suc i) x inside is = slice_get_at xs i x (omega (arith, inside)) is

pub phis_include : (phis : List Phi) → Includes (flat_map (in_phi value_names) phis) (map (λ (phi : Phi). phi.result) phis)
phis_include [] name is = is
phis_include (phi ∷ phis) name (inl own) = inl own
phis_include (phi ∷ phis) name (inr later) = inr (phis_include phis name later)

pub block_has_phis : (names : List Name) (block : Block) → Includes names (in_block value_names block) → Includes names (flat_map (in_phi value_names) block.phis)
block_has_phis names block all name is = all name (among_left (flat_map (in_phi value_names) block.phis) (flat_map (in_instr value_names) block.instrs) name is)

pub block_has_instrs : (names : List Name) (block : Block) → Includes names (in_block value_names block) → Includes names (flat_map (in_instr value_names) block.instrs)
block_has_instrs names block all name is = all name (among_right (flat_map (in_phi value_names) block.phis) (flat_map (in_instr value_names) block.instrs) name is)

-- what is in the body of a function has slots
pub body_includes : (f : Function) (i : ℕ) (block : Block) → i < length (blocks_of f) → block ≡ get_or (blocks_of f) i block → Includes (slot_names f) (in_block value_names block)
body_includes f i block inside is = includes_item (in_block value_names) (slot_names f) (blocks_of f) i block (λ name own. among_right (flat_map (in_param value_names) f.params) (in_body value_names f.blocks) name (by f.blocks name own)) inside is
  where
    by : (blocks : Option (List Block)) (name : Name) → IsAmong (flat_map (in_block value_names) (blocks_in blocks)) name → IsAmong (in_body value_names blocks) name
    by None name is = is
    by (Some blocks) name is = is
