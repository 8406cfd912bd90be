-- Classes of characters, as bytes of ASCII.
use Rattle.std.specs.Prelude.{ℕ, Bool, ◌&&◌, ◌||◌, ◌==◌, not, nat_le, List}
use Rattle.std.specs.List.{prefix_len}
use Rattle.ir_lex.specs.declared.class.Class.{Class}
use Rattle.ir_lex.specs.declared.class.Class.TheVariants.{Digit, Hexadecimal, Name, Quoted, Comment}

-- a blank, a tab, a carriage return or a line feed
abbrev pub is_blank : ℕ → Bool
is_blank b = b == 32 || b == 9 || b == 13 || b == 10

abbrev pub is_digit : ℕ → Bool
is_digit b = nat_le 48 b && nat_le b 57

abbrev pub is_letter : ℕ → Bool
is_letter b = (nat_le 65 b && nat_le b 90) || (nat_le 97 b && nat_le b 122)

-- 0 to 9, A to F, a to f
abbrev pub is_hexadecimal : ℕ → Bool
is_hexadecimal b = is_digit b || (nat_le 65 b && nat_le b 70) || (nat_le 97 b && nat_le b 102)

-- a letter, a digit, `-`, `$`, `.` or `_`
abbrev pub is_name_byte : ℕ → Bool
is_name_byte b = is_letter b || is_digit b || b == 45 || b == 36 || b == 46 || b == 95

abbrev pub is_in : Class → ℕ → Bool
is_in Digit b = is_digit b
is_in Hexadecimal b = is_hexadecimal b
is_in Name b = is_name_byte b
is_in Quoted b = not (b == 34)
is_in Comment b = not (b == 10)

-- how many bytes of a class stand at the start
abbrev pub run : Class → List ℕ → ℕ
run class bytes = prefix_len (is_in class) bytes
