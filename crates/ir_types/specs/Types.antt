-- Types as the text writes them (LangRef, "Type System"), with at most so many brackets inside each
-- other.
use Rattle.std.specs.Prelude.{ℕ, zero, suc, ◌==◌, ◌&&◌, ◌||◌, not, nat_lt, Option, Some, None, List, [], ◌∷◌, drop, if◌then◌else◌, true, false}
use Rattle.ir_lex.specs.Literals.{decimal_after}
use Rattle.ir_syntax.specs.Types.{TextTree, int, ptr, array, struct, named, trees_from}
use Rattle.ir_syntax.specs.declared.literal.Literal.{Literal}
use Rattle.ir_ident.specs.declared.name.Name.{Name}
use Rattle.ir_ident.specs.declared.name.NameUse.{NameUse}
use Rattle.ir_words.specs.declared.class.Class.{Class}
use Rattle.ir_words.specs.declared.class.Class.TheVariants.{Local, Int, IntType, Ptr, Times, OpenSquare, CloseSquare, OpenCurly, CloseCurly, OpenPacked, ClosePacked, Void}
use Rattle.ir_rules.specs.Leaves.{leaf, lined, means}
use Rattle.ir_rules.specs.Rules.{Rule, ◌▷◌, ◌◁◌, commas, either, made, seq, within}
use Rattle.ir_types.specs.Names.{literal_of, sigil_name, use_of}

-- LOCAL: `%` and a name
abbrev pub local_names : Rule Name
local_names = leaf (Local ∷ []) (λ (text : List ℕ). Some (sigil_name text))

-- LOCAL, where it is used
abbrev pub local_uses : Rule NameUse
local_uses = made use_of (lined local_names)

-- INT
abbrev pub literals : Rule Literal
literals = leaf (Int ∷ []) literal_of

-- from 0 to 4294967295
abbrev pub as_length : Option Literal → Option ℕ
as_length None = None
as_length (Some l) = if (l.negative && not (l.magnitude == 0)) || nat_lt 4294967295 l.magnitude then None else Some l.magnitude

-- the INT of an array type
abbrev pub array_lengths : Rule ℕ
array_lengths = leaf (Int ∷ []) (λ (text : List ℕ). as_length (literal_of text))

-- iN
abbrev pub integer_types : Rule TextTree
integer_types = leaf (IntType ∷ []) (λ (text : List ℕ). Some (int (decimal_after 0 (drop 1 text))))

-- iN | "ptr" | LOCAL
unfoldable pub simple_forms : Rule TextTree
simple_forms = either integer_types (either (means Ptr ptr) (made (λ (n : NameUse). named n) local_uses))

abbrev pub simple_types : Rule TextTree
simple_types = within (IntType ∷ Ptr ∷ Local ∷ []) [] false simple_forms

-- [ INT "x" type ]
abbrev pub arrays : Rule TextTree → Rule TextTree
arrays t = made (λ (z : ℕ × TextTree). array z.0 z.1) (OpenSquare ▷ seq array_lengths (Times ▷ t ◁ CloseSquare))

-- { type,* }
abbrev pub plain_structs : Rule TextTree → Rule TextTree
plain_structs t = made (λ (ts : List TextTree). struct false (trees_from ts)) (OpenCurly ▷ commas t ◁ CloseCurly)

-- <{ type,* }>
abbrev pub packed_structs : Rule TextTree → Rule TextTree
packed_structs t = made (λ (ts : List TextTree). struct true (trees_from ts)) (OpenPacked ▷ commas t ◁ ClosePacked)

abbrev pub structs : Rule TextTree → Rule TextTree
structs t = either (plain_structs t) (packed_structs t)

-- the tokens that a type begins with
abbrev pub type_firsts : List Class
type_firsts = OpenSquare ∷ OpenCurly ∷ OpenPacked ∷ IntType ∷ Ptr ∷ Local ∷ []

abbrev pub of_types : Rule TextTree → Rule TextTree
of_types r = within type_firsts [] false r

-- iN | "ptr" | [ INT "x" type ] | struct | LOCAL
unfoldable pub types_in : ℕ → Rule TextTree
types_in zero = simple_types
types_in (suc depth) = either (arrays (of_types (types_in depth))) (either (structs (of_types (types_in depth))) simple_types)

abbrev pub types : ℕ → Rule TextTree
types depth = of_types (types_in depth)

-- type | "void"
abbrev pub result_types : Rule (Option TextTree)
result_types = within (Void ∷ type_firsts) [] false
    (either (means Void None) (made (λ (t : TextTree). Some t) (types 64)))
