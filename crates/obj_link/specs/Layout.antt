-- Where the sections of each object lie, and the addresses of its symbols.
use Rattle.std.specs.Prelude.{◌+◌, ◌-◌, ◌*◌, ◌%◌, ◌^◌, ◌+ℤ◌, ℕ, ℤ, pos, negsuc, List, [], map, filter, length, sum_by}
use Rattle.std.specs.List.{flat_map}
use Rattle.obj_link.specs.Names.{with_before}
use Rattle.obj_link.specs.declared.image.SymbolAddress.{SymbolAddress}
use Rattle.asm_read.specs.declared.object.Object.{Object}
use Rattle.asm_read.specs.declared.object.ObjectSymbol.{ObjectSymbol}
use Rattle.asm_read.specs.declared.object.Section.{Section}
use Rattle.asm_read.specs.declared.object.Section.TheVariants.{Text}
use Rattle.obj_link.specs.declared.sections.SectionAddresses.{SectionAddresses}

abbrev pub instructions_of : Object → ℕ
instructions_of object = length object.words

abbrev pub instruction_count : List Object → ℕ
instruction_count objects = sum_by instructions_of objects

-- the size of the text of an object in bytes
abbrev pub size_of : Object → ℕ
size_of object = 4 * length object.words

abbrev pub image_size : List Object → ℕ
image_size objects = sum_by size_of objects

-- where the text of an object begins, by the objects before it
abbrev pub text_begin : List Object → ℕ
text_begin before = 0x10000 + image_size before

-- where the sections of an object begin, by all objects and those before it
abbrev pub sections_of : List Object → List Object → Object → SectionAddresses
sections_of objects before object = record { text = text_begin before }

abbrev pub begin_in : SectionAddresses → Section → ℕ
begin_in sections Text = sections.text

-- where a section of an object begins
abbrev pub section_begin : List Object → List Object → Object → Section → ℕ
section_begin objects before object section = begin_in (sections_of objects before object) section

-- a number modulo 2^64
abbrev pub low_64 : ℤ → ℕ
low_64 (pos n) = n % 2 ^ 64
low_64 (negsuc n) = 2 ^ 64 - 1 - n % 2 ^ 64

-- the address of a symbol whose section begins here
abbrev pub symbol_address : ℕ → ObjectSymbol → ℕ
symbol_address begin symbol = low_64 (pos begin +ℤ symbol.offset)

-- the address of a symbol of an object whose sections begin here
abbrev pub address_in : SectionAddresses → ObjectSymbol → ℕ
address_in sections symbol = symbol_address (begin_in sections symbol.section) symbol

abbrev pub addressed : SectionAddresses → ObjectSymbol → SymbolAddress
addressed sections symbol = record { name = symbol.name; address = address_in sections symbol }

-- the addresses of the symbols of an object
abbrev pub addresses_of : List Object → List Object → Object → List SymbolAddress
addresses_of objects before object = map (addressed (sections_of objects before object)) object.symbols

-- the addresses of the symbols of each object
abbrev pub addresses : List Object → List (List SymbolAddress)
addresses objects = map (λ p. addresses_of objects p.0 p.1) (with_before [] objects)

abbrev pub globals_of : List Object → List Object → Object → List SymbolAddress
globals_of objects before object =
    map (addressed (sections_of objects before object)) (filter (λ s. s.global) object.symbols)

-- the addresses of the global symbols
abbrev pub globals : List Object → List SymbolAddress
globals objects = flat_map (λ p. globals_of objects p.0 p.1) (with_before [] objects)
