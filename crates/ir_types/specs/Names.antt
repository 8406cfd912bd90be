-- Names and numbers as tokens write them (LangRef, "Identifiers" and "Simple Constants").
use Rattle.std.specs.Prelude.{ℕ, ◌-◌, ◌==◌, Option, Some, None, List, drop, take, length, slice_index, if◌then◌else◌}
use Rattle.std.specs.List.{list_all}
use Rattle.ir_lex.specs.Characters.{is_digit}
use Rattle.ir_lex.specs.Escapes.{unescaped}
use Rattle.ir_lex.specs.Lengths.{minus_len}
use Rattle.ir_lex.specs.Literals.{decimal_after, is_in_range}
use Rattle.ir_syntax.specs.declared.literal.Literal.{Literal}
use Rattle.ir_ident.specs.declared.name.Name.{Name}
use Rattle.ir_ident.specs.declared.name.Name.TheVariants.{Named, Unnamed}
use Rattle.ir_ident.specs.declared.name.NameUse.{NameUse}

-- what stands between quotes
abbrev pub between_quotes : List ℕ → List ℕ
between_quotes text = take (length text - 2) (drop 1 text)

-- Digits are the number of an unnamed item, a string is the bytes that it stands for, and other
-- characters are a name as they stand.
unfoldable pub name_of : List ℕ → Name
name_of text =
    if list_all is_digit text then Unnamed (decimal_after 0 text)
    else if slice_index text 0 == 34 then Named (unescaped (between_quotes text))
    else Named text

-- the name behind the sigil of a token
abbrev pub sigil_name : List ℕ → Name
sigil_name text = name_of (drop 1 text)

-- the name before the colon of a label
abbrev pub label_name : List ℕ → Name
label_name text = name_of (take (length text - 1) text)

-- a name where it is used
abbrev pub use_of : ℕ × Name → NameUse
use_of z = record { line = z.0; name = z.1 }

-- an integer literal of -2^127 to 2^128 - 1
unfoldable pub literal_of : List ℕ → Option Literal
literal_of text =
    if is_in_range text
    then Some (record { negative = slice_index text 0 == 45; magnitude = decimal_after 0 (drop (minus_len text) text) })
    else None
