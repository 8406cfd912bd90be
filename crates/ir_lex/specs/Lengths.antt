-- How long the token of each kind is that begins at the start of the bytes; 0 where none begins.
use Rattle.std.specs.Prelude.{ℕ, ◌+◌, not, ◌&&◌, ◌||◌, ◌==◌, List, codes, drop, length, slice_index, take, if◌then◌else◌}
use Rattle.std.specs.Str.{bytes_eq}
use Rattle.ir_lex.specs.Characters.{is_digit, run}
use Rattle.ir_lex.specs.declared.class.Class.TheVariants.{Digit, Hexadecimal, Name, Quoted}
use Rattle.ir_lex.specs.declared.kind.Kind.{Kind}
use Rattle.ir_lex.specs.declared.kind.Kind.TheVariants.{Label, Int, Real, Word, Str, CStr, Global, Local, Meta, Attr, Equal, Comma, Star, OpenRound, CloseRound, OpenSquare, CloseSquare, OpenCurly, CloseCurly, OpenPacked, ClosePacked, Less, Greater, Bar, Bang, Ellipsis}

-- n more after the first k, or nothing where n is 0
abbrev pub more_than : ℕ → ℕ → ℕ
more_than k n = if n == 0 then 0 else k + n

-- a word as it stands
unfoldable pub spelled_len : List ℕ → List ℕ → ℕ
spelled_len word bytes = if bytes_eq (take (length word) bytes) word then length word else 0

-- `"`, bytes other than `"`, `"`
unfoldable pub string_len : List ℕ → ℕ
string_len bytes =
    if slice_index bytes 0 == 34 && slice_index bytes (1 + run Quoted (drop 1 bytes)) == 34
    then 2 + run Quoted (drop 1 bytes) else 0

-- characters of a name, or a string
unfoldable pub content_len : List ℕ → ℕ
content_len bytes = if string_len bytes == 0 then run Name bytes else string_len bytes

-- characters of a name or a string, directly followed by `:`
unfoldable pub label_len : List ℕ → ℕ
label_len bytes =
    if slice_index bytes (content_len bytes) == 58 && not (content_len bytes == 0)
    then content_len bytes + 1 else 0

-- 1 where the first byte is `-`
unfoldable pub minus_len : List ℕ → ℕ
minus_len bytes = if slice_index bytes 0 == 45 then 1 else 0

-- an optional `-` and digits
unfoldable pub int_len : List ℕ → ℕ
int_len bytes = more_than (minus_len bytes) (run Digit (drop (minus_len bytes) bytes))

-- `.` and digits
unfoldable pub point_len : List ℕ → ℕ
point_len bytes = if slice_index bytes 0 == 46 then more_than 1 (run Digit (drop 1 bytes)) else 0

-- 1 where the first byte is `+` or `-`
unfoldable pub sign_len : List ℕ → ℕ
sign_len bytes = if slice_index bytes 0 == 43 || slice_index bytes 0 == 45 then 1 else 0

-- `e` or `E`, an optional sign, and digits
unfoldable pub exponent_len : List ℕ → ℕ
exponent_len bytes =
    if slice_index bytes 0 == 101 || slice_index bytes 0 == 69
    then (let k = 1 + sign_len (drop 1 bytes) in more_than k (run Digit (drop k bytes))) else 0

-- an INT, a point with digits, and an optional exponent
unfoldable pub decimal_len : List ℕ → ℕ
decimal_len bytes =
    let k = int_len bytes in
    let m = point_len (drop k bytes) in
    if k == 0 || m == 0 then 0 else k + m + exponent_len (drop (k + m) bytes)

-- 1 where the first byte is one of `K L M H R`
unfoldable pub format_len : List ℕ → ℕ
format_len bytes =
    let b = slice_index bytes 0 in
    if b == 75 || b == 76 || b == 77 || b == 72 || b == 82 then 1 else 0

-- `0x`, at most one of `K L M H R`, and hexadecimal digits
unfoldable pub hexadecimal_len : List ℕ → ℕ
hexadecimal_len bytes =
    if slice_index bytes 0 == 48 && slice_index bytes 1 == 120
    then (let k = 2 + format_len (drop 2 bytes) in more_than k (run Hexadecimal (drop k bytes))) else 0

unfoldable pub real_len : List ℕ → ℕ
real_len bytes = if decimal_len bytes == 0 then hexadecimal_len bytes else decimal_len bytes

-- characters of a name that begin with neither a digit nor `-`, and aren't `...`
unfoldable pub word_len : List ℕ → ℕ
word_len bytes =
    let b = slice_index bytes 0 in
    if is_digit b || b == 45 || bytes_eq (take (run Name bytes) bytes) (codes "...") then 0 else run Name bytes

-- `c` and a string
unfoldable pub cstring_len : List ℕ → ℕ
cstring_len bytes = if slice_index bytes 0 == 99 then more_than 1 (string_len (drop 1 bytes)) else 0

-- a mark, and characters of a name or a string
unfoldable pub marked_len : ℕ → List ℕ → ℕ
marked_len mark bytes = if slice_index bytes 0 == mark then more_than 1 (content_len (drop 1 bytes)) else 0

-- `#` and digits
unfoldable pub attribute_len : List ℕ → ℕ
attribute_len bytes = if slice_index bytes 0 == 35 then more_than 1 (run Digit (drop 1 bytes)) else 0

unfoldable pub len_of : Kind → List ℕ → ℕ
len_of Label bytes = label_len bytes
len_of Int bytes = int_len bytes
len_of Real bytes = real_len bytes
len_of Word bytes = word_len bytes
len_of Str bytes = string_len bytes
len_of CStr bytes = cstring_len bytes
len_of Global bytes = marked_len 64 bytes
len_of Local bytes = marked_len 37 bytes
len_of Meta bytes = marked_len 33 bytes
len_of Attr bytes = attribute_len bytes
len_of Equal bytes = spelled_len (codes "=") bytes
len_of Comma bytes = spelled_len (codes ",") bytes
len_of Star bytes = spelled_len (codes "*") bytes
len_of OpenRound bytes = spelled_len (codes "(") bytes
len_of CloseRound bytes = spelled_len (codes ")") bytes
len_of OpenSquare bytes = spelled_len (codes "[") bytes
len_of CloseSquare bytes = spelled_len (codes "]") bytes
len_of OpenCurly bytes = spelled_len (codes "{") bytes
len_of CloseCurly bytes = spelled_len (codes "}") bytes
len_of OpenPacked bytes = spelled_len (codes "<{") bytes
len_of ClosePacked bytes = spelled_len (codes "}>") bytes
len_of Less bytes = spelled_len (codes "<") bytes
len_of Greater bytes = spelled_len (codes ">") bytes
len_of Bar bytes = spelled_len (codes "|") bytes
len_of Bang bytes = spelled_len (codes "!") bytes
len_of Ellipsis bytes = spelled_len (codes "...") bytes
