-- The symbols that a text defines, exports and needs, read off its lines. A symbol is given as it is spelled.
use Rattle.std.specs.Prelude.{◌==◌, ◌&&◌, ℕ, Bool, true, false, not, nat_eq, bytes_eq, List, [], ◌∷◌, drop, length, codes, flat_map, if◌then◌else◌}
use Rattle.std.specs.List.{starts_with}
use Rattle.rv_isa.specs.Lines.{pieces_of}
use Rattle.rv_isa.specs.Symbol.{is_digit, is_number, is_symbol_byte}

-- the bytes up to the first that fails a test
abbrev pub leading : (ℕ → Bool) → List ℕ → List ℕ
leading test [] = []
leading test (b ∷ bytes) = if test b then b ∷ leading test bytes else []

-- and those from it on
abbrev pub after_leading : (ℕ → Bool) → List ℕ → List ℕ
after_leading test [] = []
after_leading test (b ∷ bytes) = if test b then after_leading test bytes else b ∷ bytes

-- The bytes up to the quote that ends a symbol. One after a backslash ends none.
abbrev pub quoted_prefix : Bool → List ℕ → List ℕ
quoted_prefix escape [] = []
quoted_prefix true (b ∷ bytes) = b ∷ quoted_prefix false bytes
quoted_prefix false (b ∷ bytes) = if b == 34 then b ∷ [] else b ∷ quoted_prefix (b == 92) bytes

-- the symbol that a text begins with, empty where it begins with none
abbrev pub symbol_at : List ℕ → List ℕ
symbol_at [] = []
symbol_at (b ∷ bytes) =
    if b == 34 then b ∷ quoted_prefix false bytes
    else if is_digit b then []
    else leading is_symbol_byte (b ∷ bytes)

-- two numbers with `_` between them
abbrev pub is_number_pair : List ℕ → Bool
is_number_pair bytes = is_number (leading is_digit bytes) && starts_with nat_eq (after_leading is_digit bytes) (codes "_")
    && is_number (drop 1 (after_leading is_digit bytes))

-- a label within a function
abbrev pub is_label : List ℕ → Bool
is_label symbol = starts_with nat_eq symbol (codes ".LBB") && is_number_pair (drop 4 symbol)

-- the symbol, where there is one
abbrev pub one_symbol : List ℕ → List (List ℕ)
one_symbol [] = []
one_symbol (b ∷ bytes) = (b ∷ bytes) ∷ []

-- the symbol that a line defines: one before a colon, other than a label, or one that is set
abbrev pub defined_in : List ℕ → List (List ℕ)
defined_in line =
    if starts_with nat_eq line (codes "\t.set\t") then one_symbol (symbol_at (drop 6 line))
    else if bytes_eq (drop (length (symbol_at line)) line) (codes ":") && not (is_label (symbol_at line)) then one_symbol (symbol_at line)
    else []

-- the symbol that a line exports
abbrev pub exported_in : List ℕ → List (List ℕ)
exported_in line = if starts_with nat_eq line (codes "\t.globl\t") then one_symbol (symbol_at (drop 8 line)) else []

-- the symbol behind the first `%hi(` or `%lo(`
abbrev pub after_percent : List ℕ → List (List ℕ)
after_percent [] = []
after_percent (b ∷ bytes) = if b == 37 then one_symbol (symbol_at (drop 3 bytes)) else after_percent bytes

-- the symbol among the operands of an instruction or of an address in data
abbrev pub needed_in : List ℕ → List (List ℕ)
needed_in line =
    if starts_with nat_eq line (codes "\t.dword\t") then one_symbol (symbol_at (drop 8 line))
    else if starts_with nat_eq line (codes "\t.") then []
    else if starts_with nat_eq line (codes "\t") then after_percent line
    else []

abbrev pub symbols_of : List ℕ → List (List ℕ)
symbols_of text = flat_map defined_in (pieces_of text)

abbrev pub globals_of : List ℕ → List (List ℕ)
globals_of text = flat_map exported_in (pieces_of text)

abbrev pub needs_of : List ℕ → List (List ℕ)
needs_of text = flat_map needed_in (pieces_of text)
