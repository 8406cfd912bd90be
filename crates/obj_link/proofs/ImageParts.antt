-- The bytes of an image are those of the words of each object at its place.
use Rattle.std.proofs.Common.{◌≡◌, ◌+◌, ◌*◌, ◌+ℤ◌, ◌≤◌, ◌^◌, ℕ, pos, List, ◌∷◌, ◌++◌, [], length, map, take, drop, ap, ap₂, sym, ◌∙◌, arith, append_assoc, length-append}
use Rattle.std.specs.List.{flat_map}
use Rattle.std.specs.Int.{to_le_bytes, w32}
use Rattle.std.proofs.lemmas.Grind.{flat_map-append}
use Rattle.std.proofs.lemmas.List.{length-map, map-append}
use Rattle.std.proofs.lemmas.List.Sums.{sum_by-append, sum_by-cons}
use Rattle.std.proofs.Math.Seq.{drop-append_seam, take-append_seam}
use Rattle.rv_isa.specs.declared.inst.Line.{Line}
use Rattle.asm_read.specs.declared.object.Object.{Object}
use Rattle.asm_read.specs.declared.object.ObjectSymbol.{ObjectSymbol}
use Rattle.asm_read.specs.declared.object.Section.{Section}
use Rattle.asm_read.specs.declared.object.Section.TheVariants.{Text}
use Rattle.obj_link.specs.Layout.{begin_in, sections_of, image_size, instruction_count, low_64, size_of, symbol_address}
use Rattle.obj_link.specs.Names.{with_before}
use Rattle.obj_link.specs.Words.{image_bytes, line_word, name_address, words_of}
use Rattle.obj_link.proofs.Around.{split_before}
use Rattle.obj_link.proofs.Sizes.{image_size-instructions, length-bytes, length-words}

abbrev bytes_of : List ℕ → List ℕ
bytes_of words = flat_map (to_le_bytes w32) words

-- the part of a list between two others
middle : {A : Type 0} (all prefix part back : List A) (n m : ℕ) → all ≡ prefix ++ (part ++ back) → n ≡ length prefix → m ≡ length part
    → take m (drop n all) ≡ part
middle all prefix part back n m is begin long =
    ap₂ (λ k xs. take m (drop k xs)) begin is ∙ ap (take m) (drop-append_seam prefix (part ++ back))
    ∙ ap (λ k. take k (part ++ back)) long ∙ take-append_seam part back

-- the words of lines of an object are in the words of the image
lines_split : (objects before after : List Object) (object : Object) (prefix lines back : List Line) → objects ≡ before ++ object ∷ after
    → object.words ≡ prefix ++ (lines ++ back) → (rest : List ℕ)
    × (image_bytes objects
    ≡ bytes_of (flat_map (λ p. words_of objects p.0 p.1) (with_before [] before) ++ map (line_word (name_address objects before object)) prefix)
    ++ (bytes_of (map (line_word (name_address objects before object)) lines) ++ rest))
lines_split objects before after object prefix lines back is parts =
    let word : Line → ℕ = line_word (name_address objects before object) in
    let first : List ℕ = flat_map (λ p. words_of objects p.0 p.1) (with_before [] before) in
    let last : List ℕ = flat_map (λ p. words_of objects p.0 p.1) (with_before (before ++ object ∷ []) after) in
    let own : map word object.words ≡ map word prefix ++ (map word lines ++ map word back) =
    ap (map word) parts ∙ map-append word prefix (lines ++ back) ∙ ap (λ more. map word prefix ++ more) (map-append word lines back) in
    let words = split_before (λ p. words_of objects p.0 p.1) objects before object after is
    ∙ ap (λ more. first ++ (more ++ last)) own
    ∙ ap (λ more. first ++ more) (append_assoc (map word prefix) (map word lines ++ map word back) last)
    ∙ ap (λ more. first ++ (map word prefix ++ more)) (append_assoc (map word lines) (map word back) last)
    ∙ sym (append_assoc first (map word prefix) (map word lines ++ (map word back ++ last))) in (
      bytes_of (map word back ++ last),
      ap bytes_of words
          ∙ flat_map-append (to_le_bytes w32) (first ++ map word prefix) (map word lines ++ (map word back ++ last))
          ∙ ap (λ more. bytes_of (first ++ map word prefix) ++ more) (flat_map-append (to_le_bytes w32) (map word lines) (map word back ++ last)),
    )

-- lines of an object lie where the objects and the lines before them end
pub lines_lie : (objects before after : List Object) (object : Object) (prefix lines back : List Line) → objects ≡ before ++ object ∷ after
    → object.words ≡ prefix ++ (lines ++ back)
    → take (4 * length lines) (drop (4 * (instruction_count before + length prefix)) (image_bytes objects))
    ≡ bytes_of (map (line_word (name_address objects before object)) lines)
lines_lie objects before after object prefix lines back is parts =
    let word : Line → ℕ = line_word (name_address objects before object) in
    let first : List ℕ = flat_map (λ p. words_of objects p.0 p.1) (with_before [] before) in
    let split = lines_split objects before after object prefix lines back is parts in
    let count = length-words objects [] before in
    let in_prefix = length-map prefix word in
    let in_lines = length-map lines word in
    let joined = length-append first (map word prefix) in
    let begin = length-bytes (first ++ map word prefix) in
    let long = length-bytes (map word lines) in
    middle (image_bytes objects) (bytes_of (first ++ map word prefix)) (bytes_of (map word lines)) split.0
    (4 * (instruction_count before + length prefix)) (4 * length lines) split.1 (omega arith) (omega arith)

-- a symbol of text at an offset of whole lines is at the address of the line there
by_section : (section : Section) (objects before after : List Object) (object : Object) (s : ObjectSymbol) (k : ℕ) → section ≡ Text
    → objects ≡ before ++ object ∷ after → image_size objects ≤ 67108864 → s.offset ≡ pos (4 * k) → k ≤ length object.words
    → symbol_address (begin_in (sections_of objects before object) section) s ≡ 0x10000 + 4 * (instruction_count before + k)
by_section Text objects before after object s k text is small offset within =
    let size = image_size-instructions before in
    let whole = ap image_size is ∙ sum_by-append size_of before (object ∷ after) in
    let own = sum_by-cons size_of object after in
    let fits : 0x10000 + image_size before + 4 * k ≤ 2 ^ 63 = omega arith in
    ap (λ o. low_64 (pos (0x10000 + image_size before) +ℤ o)) offset ∙ omega arith

pub symbol_lies : (objects before after : List Object) (object : Object) (s : ObjectSymbol) (k : ℕ) → s.section ≡ Text
    → objects ≡ before ++ object ∷ after → image_size objects ≤ 67108864 → s.offset ≡ pos (4 * k) → k ≤ length object.words
    → symbol_address (begin_in (sections_of objects before object) s.section) s ≡ 0x10000 + 4 * (instruction_count before + k)
symbol_lies objects before after object s k text is small offset within =
    by_section s.section objects before after object s k text is small offset within
