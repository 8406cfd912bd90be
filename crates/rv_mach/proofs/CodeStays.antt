-- Code stays where a store spares it.
use Rattle.std.proofs.Common.{◌≡◌, ◌∙◌, ap, ap₂, sym, subst, refl, ℕ, suc, zero, ◌+◌, ◌-◌, ◌*◌, ◌/◌, ◌%◌, ◌<◌, ◌≤◌, ◌==◌, Bool, true, false, nat_le, List, [], ◌∷◌, length, Option, Some, None, Ok, Err, Result, if◌then◌else◌, slice_index, slice_set, inl, inr, arith}
use Rattle.std.specs.Prelude.{◌⊎◌, ◌≢◌, ◌&&◌}
use Rattle.std.proofs.lemmas.Bool.{cases_lt}
use Rattle.std.proofs.lemmas.Bool.Decides.{nat_tests}
use Rattle.std.proofs.lemmas.List.{get_or-set_other, length-set}
use Rattle.rv_isa.specs.declared.inst.Inst.{Inst}
use Rattle.rv_mach.specs.declared.action.Action.{Action}
use Rattle.rv_mach.specs.declared.action.Action.TheVariants.{Set, Load, Store, Branch, Jump, Pass, Call, Break}
use Rattle.rv_mach.specs.declared.place.Place.{Place}
use Rattle.rv_mach.specs.declared.place.Place.TheVariants.{Image, Stack}
use Rattle.rv_mach.specs.declared.size.Size.{Size}
use Rattle.rv_mach.specs.declared.stop.TrapKind.{TrapKind}
use Rattle.rv_mach.specs.declared.stop.TrapKind.TheVariants as trap
use Rattle.rv_mach.specs.Layout.{fetched, image_start, stack_start, is_in_image, word_at}
use Rattle.rv_mach.specs.Memory.{bytes_of, index_in, place_of, placed, with_number, written_to}
use Rattle.rv_mach.specs.State.{State}
use Rattle.rv_mach.specs.Step.{Effect, falls, jumps, puts, stops, act, action, instruction_fetched, settled}
use Rattle.rv_mach.specs.Code.{HasCode, Spares}
use Rattle.rv_mach.proofs.Keeping.{AfterStore, IsSteady, Leaves, performed_left}

-- so many bytes from an index on are written, and others stay

length-with_number : (n value : ℕ) (bytes : List ℕ) (i : ℕ) → length (with_number n value bytes i) ≡ length bytes
length-with_number zero value bytes i = refl
length-with_number (suc n) value bytes i =
    length-with_number n (value / 0x100) (slice_set bytes i (value % 0x100)) (i + 1) ∙ length-set bytes i (value % 0x100)

index-with_number : (n value : ℕ) (bytes : List ℕ) (i k : ℕ) → (k < i) ⊎ (i + n ≤ k)
    → slice_index (with_number n value bytes i) k ≡ slice_index bytes k
index-with_number zero value bytes i k apart = refl
index-with_number (suc n) value bytes i k apart =
    let other : k ≢ i = elim apart [ inl under ↦ (λ e. absurd (omega (arith, e, under))) | inr over ↦ (λ e. absurd (omega (arith, e, over))) ] in
    let later : (k < i + 1) ⊎ (i + 1 + n ≤ k) = elim apart [ inl under ↦ inl (omega arith) | inr over ↦ inr (omega arith) ] in
    index-with_number n (value / 0x100) (slice_set bytes i (value % 0x100)) (i + 1) k later
    ∙ get_or-set_other bytes i k (value % 0x100) 0 other

-- the words of code that a number in the image spares
module _ (image : List ℕ) (n value at : ℕ) (above : image_start ≤ at) where
  changed : List ℕ
  changed = with_number n value image (at - image_start)

  fetch_by : ℕ → Bool → ℕ → Result ℕ TrapKind
  fetch_by address inside word = if address % 4 == 0 then if inside then Ok word else Err trap.Unmapped else Err trap.Misaligned

  word_stays : (address : ℕ) → image_start ≤ address → (at + n ≤ address) ⊎ (address + 4 ≤ at)
      → word_at changed (address - image_start) ≡ word_at image (address - image_start)
  unfolding changed
  word_stays address from apart =
      let byte : (j : ℕ) → j < 4 → slice_index changed (address - image_start + j) ≡ slice_index image (address - image_start + j) =
      λ j small. index-with_number n value image (at - image_start) (address - image_start + j)
      (elim apart [ inl under ↦ inr (omega arith) | inr over ↦ inl (omega arith) ]) in
      let start : address - image_start + 0 ≡ address - image_start = omega arith in
      let first : slice_index changed (address - image_start) ≡ slice_index image (address - image_start) =
      subst (λ k. slice_index changed k ≡ slice_index image k) start (byte 0 (omega arith)) in
      let second = byte 1 (omega arith) in
      let third = byte 2 (omega arith) in
      let fourth = byte 3 (omega arith) in
      omega arith

  fetched_from : (address : ℕ) → image_start ≤ address → (at + n ≤ address) ⊎ (address + 4 ≤ at)
      → fetched changed address ≡ fetched image address
  unfolding changed fetch_by
  fetched_from address from apart =
      let inside : is_in_image changed address ≡ is_in_image image address =
      ap (λ count. nat_le image_start address && nat_le (address + 4) (image_start + count)) (length-with_number n value image (at - image_start)) in
      ap₂ (fetch_by address) inside (word_stays address from apart)

  fetched_below : (bytes : List ℕ) (address : ℕ) → address < image_start → fetched bytes address ≡ fetch_by address false 0
  unfolding fetch_by
  fetched_below bytes address below =
      let outside : is_in_image bytes address ≡ false = grind (arith, nat_tests) in
      ap (λ inside. fetch_by address inside (word_at bytes (address - image_start))) outside

  fetched_stays : (address : ℕ) → (at + n ≤ address) ⊎ (address + 4 ≤ at) → fetched changed address ≡ fetched image address
  fetched_stays address apart = elim (cases_lt address image_start) [
    | inl below ↦ fetched_below changed address below ∙ sym (fetched_below image address below)
    | inr from ↦ fetched_from address from apart
  ]

  pub code_left : (address : ℕ) (code : List Inst) → (at + n ≤ address) ⊎ (address + 4 * length code ≤ at)
      → HasCode image address code → HasCode (with_number n value image (at - image_start)) address code
  unfolding changed
  code_left address [] apart has = tt
  code_left address (i ∷ code) apart has =
      let here : (at + n ≤ address) ⊎ (address + 4 ≤ at) = elim apart [ inl under ↦ inl under | inr over ↦ inr (omega arith) ] in
      let later : (at + n ≤ address + 4) ⊎ (address + 4 + 4 * length code ≤ at) =
      elim apart [ inl under ↦ inl (omega arith) | inr over ↦ inr (omega arith) ] in
      (ap instruction_fetched (fetched_stays address here) ∙ has.0, code_left (address + 4) code later has.1)

-- where a number in the image lies

image_found : (image stack : Option ℕ) (i : ℕ) → place_of image stack ≡ Ok (Image i) → image ≡ Some i
image_found (Some j) stack i is = cc
image_found None (Some j) i is = absurd (cc)
image_found None None i is = absurd (cc)

index_is : (start count size address i : ℕ) → index_in start count size address ≡ Some i → (start ≤ address) × (i ≡ address - start)
index_is start count size address i is = grind (arith, nat_tests)

aligned_found : (t : Bool) (found : Result Place TrapKind) (place : Place) → (if t then found else Err trap.Misaligned) ≡ Ok place → found ≡ Ok place
aligned_found true found place is = is
aligned_found false found place is = absurd (cc)

placed_in_image : (size : Size) (at : ℕ) (m : State) (i : ℕ) → placed size at m ≡ Ok (Image i) → (image_start ≤ at) × (i ≡ at - image_start)
placed_in_image size at m i is =
    let in_image = index_in image_start (length m.image) (bytes_of size) at in
    let in_stack = index_in stack_start (length m.stack) (bytes_of size) at in
    index_is image_start (length m.image) (bytes_of size) at i
    (image_found in_image in_stack i (aligned_found (at % bytes_of size == 0) (place_of in_image in_stack) (Image i) is))

HasCodeAt : ℕ → List Inst → State → Type 0
HasCodeAt address code m = HasCode m.image address code

code_steady : (address : ℕ) (code : List Inst) → IsSteady (HasCodeAt address code)
unfolding HasCodeAt
code_steady address code = record { registers = λ r value m has. has; taken = λ m has. has }

stored_code : (address : ℕ) (code : List Inst) (m : State) (size : Size) (value at : ℕ) → HasCode m.image address code
    → (at + bytes_of size ≤ address) ⊎ (address + 4 * length code ≤ at)
    → (place : Place) → placed size at m ≡ Ok place → HasCodeAt address code (written_to place size value m)
unfolding HasCodeAt
stored_code address code m size value at has apart (Image i) is =
    let lies = placed_in_image size at m i is in
    subst (λ k. HasCode (with_number (bytes_of size) value m.image k) address code) (sym lies.1)
    (code_left m.image (bytes_of size) value at lies.0 address code apart has)
stored_code address code m size value at has apart (Stack i) is = has

after_spared : (address : ℕ) (code : List Inst) (a : Action) (m : State) → HasCode m.image address code → Spares address (4 * length code) a
    → AfterStore (HasCodeAt address code) a m
after_spared address code (Set value) m has spares = tt
after_spared address code (Load size signed from) m has spares = tt
after_spared address code (Store size value at) m has spares = stored_code address code m size value at has spares
after_spared address code (Branch taken target) m has spares = tt
after_spared address code (Jump target) m has spares = tt
after_spared address code Pass m has spares = tt
after_spared address code Call m has spares = tt
after_spared address code Break m has spares = tt

settled-code : (address : ℕ) (code : List Inst) (e : Effect) (output : List ℕ) → Leaves (HasCodeAt address code) e
    → HasCode (settled e output).machine.image address code
unfolding HasCodeAt
settled-code address code (falls m) output has = has
settled-code address code (jumps target m) output has = has
settled-code address code (puts byte m) output has = has
settled-code address code (stops stop m) output has = has

pub code-stays : (input output : List ℕ) (i : Inst) (m : State) (address : ℕ) (code : List Inst)
    → HasCode m.image address code → Spares address (4 * length code) (action i m)
    → HasCode (settled (act input i m) output).machine.image address code
unfolding HasCodeAt
code-stays input output i m address code has spares =
    settled-code address code (act input i m) output
    (performed_left (HasCodeAt address code) (code_steady address code) (action i m) i.rd input m has
    (after_spared address code (action i m) m has spares))
