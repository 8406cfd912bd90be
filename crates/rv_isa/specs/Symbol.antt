-- Names of symbols, and how they are spelled in assembly.
use Rattle.std.specs.Prelude.{◌≡◌, ◌<◌, ◌+◌, ◌/◌, ◌%◌, ◌&&◌, ◌||◌, ◌==◌, ℕ, Bool, false, not, nat_le, List, [], ◌∷◌, ◌++◌, codes, IsTrue, if◌then◌else◌}
use Rattle.std.specs.List.{All, flat_map, list_all}

abbrev pub is_digit : ℕ → Bool
is_digit b = nat_le 48 b && nat_le b 57

abbrev pub is_letter : ℕ → Bool
is_letter b = (nat_le 65 b && nat_le b 90) || (nat_le 97 b && nat_le b 122)

-- a letter, a digit, `_`, `.` or `$`
abbrev pub is_symbol_byte : ℕ → Bool
is_symbol_byte b = is_letter b || is_digit b || b == 95 || b == 46 || b == 36

-- a name that stands without quotes: one or more symbol bytes, the first no digit
abbrev pub is_bare : List ℕ → Bool
is_bare [] = false
is_bare (b ∷ bytes) = is_symbol_byte b && not (is_digit b) && list_all is_symbol_byte bytes

-- a byte between quotes: `\"`, `\\`, itself from 0x20 to 0x7E, else a backslash and three octal digits
abbrev pub escaped : ℕ → List ℕ
escaped b =
    if b == 34 then 92 ∷ 34 ∷ []
    else if b == 92 then 92 ∷ 92 ∷ []
    else if nat_le 32 b && nat_le b 126 then b ∷ []
    else 92 ∷ (48 + b / 64) ∷ (48 + b / 8 % 8) ∷ (48 + b % 8) ∷ []

-- a name as the assembly writes it
abbrev pub spelled : List ℕ → List ℕ
spelled name = if is_bare name then name else 34 ∷ (flat_map escaped name ++ 34 ∷ [])

-- bytes from 0 to 255
abbrev pub AreBytes : List ℕ → Type 0
AreBytes bytes = All (λ b. b < 256) bytes

-- a number in its one spelling: `0`, or digits that do not begin with 0
abbrev pub is_number : List ℕ → Bool
is_number [] = false
is_number (digit ∷ []) = is_digit digit
is_number (first ∷ second ∷ more) = is_digit first && not (first == 48) && list_all is_digit (second ∷ more)

-- `.LBBf_b` for two numbers: a label within a function, and no symbol
abbrev pub IsLabel : List ℕ → Type 0
IsLabel name = (f b : List ℕ) × (name ≡ codes ".LBB" ++ (f ++ 95 ∷ b)) × IsTrue (is_number f) × IsTrue (is_number b)

-- a name of a symbol: any bytes, unless they are a label
abbrev pub IsSymbol : List ℕ → Type 0
IsSymbol name = AreBytes name × ¬ (IsLabel name)
