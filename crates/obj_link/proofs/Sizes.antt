-- The size of an image is that of its words.
use Rattle.std.proofs.Common.{◌≡◌, ◌+◌, ◌*◌, ℕ, List, [], ◌∷◌, ◌++◌, length, refl, arith, length-append}
use Rattle.std.specs.List.{flat_map}
use Rattle.std.specs.Int.{to_le_bytes, w32}
use Rattle.std.proofs.lemmas.List.{length-map}
use Rattle.std.proofs.lemmas.List.Sums.{sum_by-cons}
use Rattle.asm_read.specs.declared.object.Object.{Object}
use Rattle.obj_link.specs.Names.{with_before}
use Rattle.obj_link.specs.Layout.{size_of, image_size, instructions_of, instruction_count, sections_of, globals}
use Rattle.obj_link.specs.Words.{line_word, address_of, words_of, image_bytes}

pub image_size-instructions : (objects : List Object) → image_size objects ≡ 4 * instruction_count objects
image_size-instructions [] = refl
image_size-instructions (object ∷ objects) =
    let size : image_size (object ∷ objects) ≡ size_of object + image_size objects = sum_by-cons size_of object objects in
    let count : instruction_count (object ∷ objects) ≡ instructions_of object + instruction_count objects =
    sum_by-cons instructions_of object objects
    in
    let later = image_size-instructions objects in
    omega arith

pub length-bytes : (words : List ℕ) → length (flat_map (to_le_bytes w32) words) ≡ 4 * length words
length-bytes [] = refl
length-bytes (word ∷ words) =
    let here : length (to_le_bytes w32 word) ≡ 4 = refl in
    let whole = length-append (to_le_bytes w32 word) (flat_map (to_le_bytes w32) words) in
    let later = length-bytes words in
    omega arith

length-words_of : (all before : List Object) (object : Object) → length (words_of all before object) ≡ instructions_of object
length-words_of all before object =
    length-map object.words (line_word (address_of (sections_of all before object) object.symbols (globals all)))

pub length-words : (all before objects : List Object) → length (flat_map (λ p. words_of all p.0 p.1) (with_before before objects)) ≡ instruction_count objects
length-words all before [] = refl
length-words all before (object ∷ objects) =
    let whole = length-append (words_of all before object) (flat_map (λ p. words_of all p.0 p.1) (with_before (before ++ object ∷ []) objects)) in
    let here = length-words_of all before object in
    let count : instruction_count (object ∷ objects) ≡ instructions_of object + instruction_count objects =
    sum_by-cons instructions_of object objects
    in
    let later = length-words all (before ++ object ∷ []) objects in
    omega arith

pub length-image_bytes : (objects : List Object) → length (image_bytes objects) ≡ image_size objects
length-image_bytes objects =
    let words = length-words objects [] objects in
    let bytes = length-bytes (flat_map (λ p. words_of objects p.0 p.1) (with_before [] objects)) in
    let size = image_size-instructions objects in
    omega arith
