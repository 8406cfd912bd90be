-- An image that has the words of code has the code.
use Rattle.std.proofs.Common.{◌≡◌, ◌∙◌, ap, sym, refl, ℕ, ◌+◌, ◌-◌, ◌*◌, ◌%◌, ◌<◌, ◌≤◌, ◌^◌, Ok, List, [], ◌∷◌, ◌++◌, All, length, map, take, drop, arith, append_assoc, length-append}
use Rattle.std.specs.Prelude.{flat_map, slice_index}
use Rattle.std.specs.Int.{to_le_bytes, w32}
use Rattle.std.proofs.lemmas.List.{get_or-drop, length-drop, take-append-drop}
use Rattle.std.proofs.lemmas.List.Elements.{All-head, All-tail}
use Rattle.std.proofs.lemmas.Nat.{from_le_bytes-to_le_bytes_4}
use Rattle.std.proofs.Math.Seq.{drop-drop}
use Rattle.rv_isa.specs.declared.inst.Inst.{Inst}
use Rattle.rv_isa.specs.Encoding.{IsInst, encoded}
use Rattle.rv_isa.proofs.Table.{decoded-encoded, has_fields}
use Rattle.rv_mach.specs.Layout.{word_at, fetched, image_start}
use Rattle.rv_mach.specs.Step.{instruction_fetched, instruction_of_word}
use Rattle.rv_mach.specs.Code.{HasCode}
use Rattle.rv_mach.proofs.Steps.{fetched-at}

-- the bytes of words, the low byte of each first
abbrev pub bytes_of : List ℕ → List ℕ
bytes_of words = flat_map (to_le_bytes w32) words

-- a word that stands at an index of an image
pub record HasWordAt (image : List ℕ) (k word : ℕ) : Type 0 where
  pub within : k + 4 ≤ length image
  pub is : word_at image k ≡ word

-- the word that begins what is left of an image from an index on
word_first : (image rest : List ℕ) (k word : ℕ) → word < 2 ^ 32 → drop k image ≡ to_le_bytes w32 word ++ rest → HasWordAt image k word
word_first image rest k word fits left =
    let byte : (j : ℕ) → slice_index image (k + j) ≡ slice_index (to_le_bytes w32 word ++ rest) j =
    λ j. sym (get_or-drop k image j 0) ∙ ap (λ bytes. slice_index bytes j) left in
    let first : slice_index image k ≡ slice_index (to_le_bytes w32 word ++ rest) 0 =
    ap (slice_index image) (omega arith) ∙ byte 0 in
    let value = from_le_bytes-to_le_bytes_4 word fits in
    let second = byte 1 in
    let third = byte 2 in
    let fourth = byte 3 in
    let four : length (to_le_bytes w32 word) ≡ 4 = refl in
    let long : length image - k ≡ length (to_le_bytes w32 word) + length rest =
    sym (length-drop k image) ∙ ap length left ∙ length-append (to_le_bytes w32 word) rest in
    record { within = omega arith; is = omega arith }

-- the instruction of a word is fetched
instruction_first : (image rest : List ℕ) (k : ℕ) (i : Inst) → IsInst i → k % 4 ≡ 0 → drop k image ≡ to_le_bytes w32 (encoded i) ++ rest
    → instruction_fetched (fetched image (image_start + k)) ≡ Ok i
instruction_first image rest k i is aligned left =
    let word = word_first image rest k (encoded i) (has_fields i is).fits left in
    let within = word.within in
    let fetch = fetched-at image (image_start + k) (omega arith) (omega arith) (omega arith) in
    let index : image_start + k - image_start ≡ k = omega arith in
    ap instruction_fetched (fetch ∙ ap (λ j. Ok (word_at image j)) index ∙ ap Ok word.is)
    ∙ ap instruction_of_word (decoded-encoded i is)

-- what is left from an index on begins with the words of code
pub code_left : (image rest : List ℕ) (k address : ℕ) (code : List Inst) → address ≡ image_start + k → k % 4 ≡ 0 → All IsInst code
    → drop k image ≡ bytes_of (map encoded code) ++ rest → HasCode image address code
code_left image rest k address [] place aligned formed left = tt
code_left image rest k address (i ∷ code) place aligned formed left =
    let is = All-head IsInst i code formed in
    let four = to_le_bytes w32 (encoded i) in
    let later : drop (k + 4) image ≡ bytes_of (map encoded code) ++ rest =
    sym (drop-drop 4 k image) ∙ ap (drop 4) left in (
      ap (λ a. instruction_fetched (fetched image a)) place
          ∙ instruction_first image (bytes_of (map encoded code) ++ rest) k i is aligned (left ∙ append_assoc four (bytes_of (map encoded code)) rest),
      code_left image rest (k + 4) (address + 4) code (omega arith) (omega arith) (All-tail IsInst i code formed) later,
    )

-- the bytes from an index on, as many as the code's, are those of its words
pub words_have_code : (image : List ℕ) (k : ℕ) (code : List Inst) → All IsInst code
    → take (4 * length code) (drop (4 * k) image) ≡ bytes_of (map encoded code) → HasCode image (image_start + 4 * k) code
words_have_code image k code formed words =
    let rest = drop (4 * length code) (drop (4 * k) image) in
    code_left image rest (4 * k) (image_start + 4 * k) code refl (omega arith) formed
    (sym (take-append-drop (4 * length code) (drop (4 * k) image)) ∙ ap (λ bytes. bytes ++ rest) words)
