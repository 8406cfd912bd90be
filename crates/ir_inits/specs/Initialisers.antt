-- Initialisers (LangRef, "Global Variables" and "Complex Constants"), with at most so many brackets
-- inside each other: those of the types and of the addresses in them count.
use Rattle.std.specs.Prelude.{ℕ, zero, suc, ◌-◌, Some, List, [], ◌∷◌, false, drop, take, length}
use Rattle.ir_lex.specs.Escapes.{unescaped}
use Rattle.ir_syntax.specs.InitLists.{inits_from}
use Rattle.ir_syntax.specs.Inits.{InitText, value, zeros, bytes, array, struct, packed}
use Rattle.ir_syntax.specs.Types.{TextTree}
use Rattle.ir_syntax.specs.declared.init.TypedInit.{TypedInit}
use Rattle.ir_syntax.specs.declared.operand.ConstantGep.{ConstantGep}
use Rattle.ir_syntax.specs.declared.operand.Operand.{Operand}
use Rattle.ir_syntax.specs.declared.operand.Operand.TheVariants.{Gep}
use Rattle.ir_words.specs.declared.class.Class.TheVariants.{CStr, CloseCurly, ClosePacked, CloseSquare, Getelementptr, OpenCurly, OpenPacked, OpenSquare, Zeroinitializer}
use Rattle.ir_rules.specs.Leaves.{leaf, means}
use Rattle.ir_rules.specs.Rules.{Rule, ◌▷◌, ◌◁◌, commas, either, made, seq, within}
use Rattle.ir_types.specs.Types.{type_firsts, types}
use Rattle.ir_values.specs.Values.{constant_geps, scalar_firsts, scalars}

-- what stands between the quotes of `c"..."`
abbrev pub characters_of : List ℕ → List ℕ
characters_of text = unescaped (take (length text - 3) (drop 2 text))

-- CSTR
abbrev pub character_arrays : Rule (List ℕ)
character_arrays = leaf (CStr ∷ []) (λ (text : List ℕ). Some (characters_of text))

-- a scalar | "zeroinitializer" | CSTR
unfoldable pub plain_forms : Rule InitText
plain_forms = either (means Zeroinitializer zeros) (either (made (λ (b : List ℕ). bytes b) character_arrays) (made (λ (o : Operand). value o) scalars))

abbrev pub plain_inits : Rule InitText
plain_inits = within (Zeroinitializer ∷ CStr ∷ scalar_firsts) [] false plain_forms

abbrev pub of_inits : Rule InitText → Rule InitText
of_inits r = within (OpenSquare ∷ OpenCurly ∷ OpenPacked ∷ Getelementptr ∷ Zeroinitializer ∷ CStr ∷ scalar_firsts) [] false r

abbrev pub part_of : TextTree × InitText → TypedInit
part_of z = record { ty = z.0; init = z.1 }

-- type init
abbrev pub parts : ℕ → Rule InitText → Rule TypedInit
parts depth inside = within type_firsts [] false (made part_of (seq (types depth) inside))

-- [ tinit,* ]
abbrev pub array_inits : Rule TypedInit → Rule InitText
array_inits part = made (λ (ps : List TypedInit). array (inits_from ps)) (OpenSquare ▷ commas part ◁ CloseSquare)

-- { tinit,* }
abbrev pub struct_inits : Rule TypedInit → Rule InitText
struct_inits part = made (λ (ps : List TypedInit). struct (inits_from ps)) (OpenCurly ▷ commas part ◁ CloseCurly)

-- <{ tinit,* }>
abbrev pub packed_inits : Rule TypedInit → Rule InitText
packed_inits part = made (λ (ps : List TypedInit). packed (inits_from ps)) (OpenPacked ▷ commas part ◁ ClosePacked)

abbrev pub gep_inits : ℕ → Rule InitText
gep_inits depth = made (λ (g : ConstantGep). value (Gep g)) (constant_geps depth)

-- [ tinit,* ] | { tinit,* } | <{ tinit,* }> | cgep | an initialiser without brackets
abbrev pub bracketed_inits : ℕ → Rule InitText → Rule InitText
bracketed_inits depth inside =
    either (array_inits (parts depth inside)) (either (struct_inits (parts depth inside)) (either (packed_inits (parts depth inside))
    (either (gep_inits depth) plain_inits)))

-- value | "zeroinitializer" | CSTR | [ tinit,* ] | { tinit,* } | <{ tinit,* }>
unfoldable pub inits_in : ℕ → Rule InitText
inits_in zero = plain_inits
inits_in (suc depth) = bracketed_inits depth (of_inits (inits_in depth))

abbrev pub inits : ℕ → Rule InitText
inits depth = of_inits (inits_in depth)
