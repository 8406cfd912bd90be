-- The words and the bytes of an image.
use Rattle.std.specs.Prelude.{◌/◌, ◌%◌, ◌+ℤ◌, ◌-ℤ◌, ◌||◌, ℕ, ℤ, pos, negsuc, Bool, List, [], map, flat_map, find, option_map, unwrap_or, Option, is_some}
use Rattle.std.specs.List.{list_all}
use Rattle.std.specs.Int.{to_le_bytes, w32}
use Rattle.std.specs.Str.{bytes_eq}
use Rattle.rv_isa.specs.Encoding.{encoded}
use Rattle.rv_isa.specs.Format.{sign_extended}
use Rattle.rv_isa.specs.Instructions.{unimp_word}
use Rattle.rv_isa.specs.declared.inst.Line.{Line}
use Rattle.rv_isa.specs.declared.inst.Line.TheVariants.{Plain, High, Low, Unimp}
use Rattle.asm_read.specs.declared.object.Object.{Object}
use Rattle.asm_read.specs.declared.object.ObjectSymbol.{ObjectSymbol}
use Rattle.obj_link.specs.declared.image.SymbolAddress.{SymbolAddress}
use Rattle.obj_link.specs.Names.{with_before}
use Rattle.obj_link.specs.Layout.{low_64, address_in, sections_of, globals}
use Rattle.obj_link.specs.declared.sections.SectionAddresses.{SectionAddresses}

-- The parts of an address that two instructions load (RISC-V ELF psABI, R_RISCV_HI20 and R_RISCV_LO12_I).

-- `%lo`: the low 12 bits of an address, signed
abbrev pub low_part : ℕ → ℤ
low_part address = sign_extended 12 (address % 0x1000)

abbrev pub magnitude : ℤ → ℕ
magnitude (pos n) = n
magnitude (negsuc n) = 0

-- `%hi`: the low 20 bits of the rest over 4096
abbrev pub high_part : ℕ → ℕ
high_part address = magnitude (pos address -ℤ low_part address) / 0x1000 % 0x100000

-- The address that a name stands for in an object: that of the object's own symbol, else of the global
-- one (0 for a name that neither defines, which no need of a linked object is). `sections` tells where the object's
-- sections begin.

abbrev pub own_address : SectionAddresses → List ObjectSymbol → List ℕ → Option ℕ
own_address sections symbols name = option_map (address_in sections) (find (λ s. bytes_eq s.name name) symbols)

abbrev pub global_address : List SymbolAddress → List ℕ → Option ℕ
global_address globals name = option_map (λ s. s.address) (find (λ s. bytes_eq s.name name) globals)

abbrev pub address_of : SectionAddresses → List ObjectSymbol → List SymbolAddress → List ℕ → ℕ
address_of sections symbols globals name =
    unwrap_or (own_address sections symbols name) (unwrap_or (global_address globals name) 0)

-- the address that a name stands for in an object, by all objects and those before it
abbrev pub name_address : List Object → List Object → Object → List ℕ → ℕ
name_address objects before object name =
    address_of (sections_of objects before object) object.symbols (globals objects) name

-- an address with an offset added
abbrev pub moved : ℕ → ℤ → ℕ
moved address offset = low_64 (pos address +ℤ offset)

-- the word of a line, by the addresses of names
abbrev pub line_word : (List ℕ → ℕ) → Line → ℕ
line_word address (Plain i) = encoded i
line_word address (High i symbol offset) =
    encoded (record i { imm = pos (high_part (moved (address symbol) offset)) })
line_word address (Low i symbol offset) =
    encoded (record i { imm = low_part (moved (address symbol) offset) })
line_word address Unimp = unimp_word

-- the words of lines, by where the sections of their object begin, its symbols and the global ones
abbrev pub words_at : SectionAddresses → List ObjectSymbol → List SymbolAddress → List Line → List ℕ
words_at sections symbols globals lines = map (line_word (address_of sections symbols globals)) lines

-- the words of an object, by all objects and those before it
abbrev pub words_of : List Object → List Object → Object → List ℕ
words_of objects before object =
    words_at (sections_of objects before object) object.symbols (globals objects) object.words

abbrev pub image_words : List Object → List ℕ
image_words objects = flat_map (λ p. words_of objects p.0 p.1) (with_before [] objects)

-- each word has its low byte first
abbrev pub image_bytes : List Object → List ℕ
image_bytes objects = flat_map (to_le_bytes w32) (image_words objects)

-- whether a name stands for an address in an object
abbrev pub is_named : List Object → List Object → Object → List ℕ → Bool
is_named objects before object name =
    is_some (own_address (sections_of objects before object) object.symbols name)
    || is_some (global_address (globals objects) name)

-- whether each need of each object stands for an address
abbrev pub are_needs_named : List Object → Bool
are_needs_named objects = list_all (λ p. list_all (is_named objects p.0 p.1) p.1.needs) (with_before [] objects)
