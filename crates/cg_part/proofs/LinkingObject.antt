-- The image of one object behind the runtime: the runtime's start calls the object's `main`, whose code lies there.
use Rattle.std.proofs.Common.{◌≡◌, ◌≤◌, ◌<◌, ◌+◌, ◌*◌, ◌%◌, ◌^◌, ◌++◌, ◌∷◌, [], ℕ, pos, List, All, Contains, true, codes, length, map, take, drop, refl, ap, sym, ◌∙◌, subst, arith, length-append}
use Rattle.std.proofs.lemmas.List.{length-map}
use Rattle.asm_read.specs.declared.object.Object.{Object}
use Rattle.asm_read.specs.declared.object.ObjectSymbol.{ObjectSymbol}
use Rattle.asm_read.specs.declared.object.Section.TheVariants.{Text}
use Rattle.obj_link.specs.Image.{linked_image}
use Rattle.obj_link.specs.Layout.{image_size, instruction_count, section_begin, symbol_address}
use Rattle.obj_link.specs.Names.{HasDistinctNames, defines, duplicates}
use Rattle.obj_link.specs.Runtime.{runtime, runtime_words}
use Rattle.obj_link.specs.Words.{line_word, name_address}
use Rattle.obj_link.proofs.ImageParts.{lines_lie, symbol_lies}
use Rattle.obj_link.proofs.OneAddress.{global_stands}
use Rattle.obj_link.proofs.Sizes.{image_size-instructions}
use Rattle.rv_isa.specs.Encoding.{IsInst, encoded}
use Rattle.rv_isa.specs.declared.inst.Inst.{Inst}
use Rattle.rv_isa.specs.declared.inst.Line.{Line}
use Rattle.rv_isa.specs.declared.inst.Line.TheVariants.{Plain}
use Rattle.rv_mach.specs.Code.{HasCode}
use Rattle.rv_mach.proofs.CodeParts.{has-prefix}
use Rattle.rv_mach.proofs.Fetching.{bytes_of, words_have_code}
use Rattle.cg_part.proofs.Programs.{host_code, runtime_code, start_code}
use Rattle.cg_part.proofs.RunningCode.{runtime_encoded, runtime_formed}

-- a global symbol of an object's text, and the code that lies at it
pub record HasSymbol (object : Object) (name : List ℕ) (code : List Inst) : Type 0 where
  pub symbol : ObjectSymbol
  pub among : Contains object.symbols symbol
  pub name_is : symbol.name ≡ name
  pub global : symbol.global ≡ true
  pub text : symbol.section ≡ Text
  pub prefix : List Line
  pub suffix : List Line
  pub words : object.words ≡ prefix ++ (map (λ i. Plain i) code ++ suffix)
  pub offset : symbol.offset ≡ pos (4 * length prefix)

-- the words of code that waits for no address
plain_words : (address : List ℕ → ℕ) (code : List Inst) → map (line_word address) (map (λ i. Plain i) code) ≡ map encoded code
plain_words address [] = refl
plain_words address (i ∷ code) = ap (λ more. encoded i ∷ more) (plain_words address code)

-- the object has that code and all of the runtime's
pub least_instructions : (object : Object) (name : List ℕ) (code : List Inst) → HasSymbol object name code
    → 12 + length code ≤ instruction_count (runtime ∷ object ∷ [])
least_instructions object name code has =
    let lines : List Line = map (λ i. Plain i) code in
    let count = length-map code (λ i. Plain i) in
    let whole = ap length has.words ∙ length-append has.prefix (lines ++ has.suffix) in
    let inner = length-append lines has.suffix in
    omega arith

-- where the code of `main` lies in the image, and that the runtime's start calls it
pub record Calls (image : List ℕ) (code : List Inst) : Type 0 where
  pub address : ℕ
  pub aligned : address % 4 ≡ 0
  pub small : address < 2 ^ 30
  pub start : HasCode image 0x10000 (start_code address)
  pub main : HasCode image address code

pub main_called : (object : Object) (code : List Inst) → HasSymbol object (codes "main") code → HasDistinctNames object
    → duplicates (runtime ∷ object ∷ []) ≡ [] → image_size (runtime ∷ object ∷ []) ≤ 67108864 → All IsInst code
    → Calls (linked_image (runtime ∷ object ∷ [])).bytes code
main_called object code has distinct differ small formed =
    let objects : List Object = runtime ∷ object ∷ [] in
    let image : List ℕ = (linked_image objects).bytes in
    let main : ObjectSymbol = has.symbol in
    let before : ℕ = length has.prefix in
    let lines : List Line = map (λ i. Plain i) code in
    let size = image_size-instructions objects in
    let count = length-map code (λ i. Plain i) in
    let whole = ap length has.words ∙ length-append has.prefix (lines ++ has.suffix) in
    let place : symbol_address (section_begin objects (runtime ∷ []) object main.section) main ≡ 0x10000 + 4 * (12 + before) =
    symbol_lies objects (runtime ∷ []) [] object main before has.text refl small has.offset (omega arith) in
    let named : name_address objects [] runtime (codes "main") ≡ 0x10000 + 4 * (12 + before) =
    ap (name_address objects [] runtime) (sym has.name_is)
    ∙ global_stands objects [] (runtime ∷ []) [] runtime object main refl differ distinct has.among has.global (ap (defines runtime) has.name_is)
    ∙ place in
    let fits : 0x10000 + 4 * (12 + before) < 2 ^ 30 = omega arith in
    let runtime_is : take 48 (drop 0 image) ≡ bytes_of (map encoded (runtime_code (0x10000 + 4 * (12 + before)))) =
    lines_lie objects [] (object ∷ []) runtime [] runtime_words [] refl refl
    ∙ ap bytes_of (runtime_encoded (name_address objects [] runtime) (subst (λ a. a < 2 ^ 64) (sym named) (omega arith)))
    ∙ ap (λ a. bytes_of (map encoded (runtime_code a))) named in
    let main_is : take (4 * length code) (drop (4 * (12 + before)) image) ≡ bytes_of (map encoded code) =
    ap (λ n. take (4 * n) (drop (4 * (12 + before)) image)) (sym count)
    ∙ lines_lie objects (runtime ∷ []) [] object has.prefix lines has.suffix refl has.words
    ∙ ap bytes_of (plain_words (name_address objects (runtime ∷ []) object) code) in
    record {
      address = 0x10000 + 4 * (12 + before);
      aligned = omega arith;
      small = fits;
      start = has-prefix image 0x10000 (start_code (0x10000 + 4 * (12 + before))) host_code
          (words_have_code image 0 (runtime_code (0x10000 + 4 * (12 + before))) (runtime_formed (0x10000 + 4 * (12 + before))) runtime_is);
      main = words_have_code image (12 + before) code formed main_is;
    }
