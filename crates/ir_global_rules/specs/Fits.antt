-- Initialisers of their types (LangRef, "Global Variables" and "Complex Constants").
use Rattle.std.specs.Prelude.{ℕ, ◌-◌, Bool, true, false, ◌&&◌, nat_eq, Option, None, Some, List, length, if◌then◌else◌}
use Rattle.ir_sizes.specs.Named.{written_out}
use Rattle.ir_global_rules.specs.Same.{same_flag, same_type}
use Rattle.ir_syntax.specs.Inits.{InitText, value, zeros, bytes, array, struct, packed, InitTexts, end, more}
use Rattle.ir_syntax.specs.Types as text
use Rattle.ir_syntax.specs.Types.{TextTree, TextTrees}
use Rattle.ir_syntax.specs.declared.global.Global as variable
use Rattle.ir_syntax.specs.declared.operand.Operand.{Operand}
use Rattle.ir_syntax.specs.declared.operand.Operand.TheVariants.{Local, Global, Int, True, False, Null, Undef, Poison, Gep}
use Rattle.ir_syntax.specs.declared.type_def.TypeDef.{TypeDef}

abbrev pub is_int : TextTree → Bool
is_int (text.int bits) = true
is_int other = false

abbrev pub has_bits : ℕ → TextTree → Bool
has_bits width (text.int bits) = nat_eq bits width
has_bits width other = false

abbrev pub is_ptr : TextTree → Bool
is_ptr text.ptr = true
is_ptr other = false

-- a number is of any integer type, `undef` and `poison` are of any type, and a local name of none
abbrev pub constant_fits : TextTree → Operand → Bool
constant_fits ty (Local used) = false
constant_fits ty (Global used) = is_ptr ty
constant_fits ty (Int literal) = is_int ty
constant_fits ty True = has_bits 1 ty
constant_fits ty False = has_bits 1 ty
constant_fits ty Null = is_ptr ty
constant_fits ty Undef = true
constant_fits ty Poison = true
constant_fits ty (Gep gep) = is_ptr ty

-- bytes are an array of `i8` of as many elements
abbrev pub bytes_fit : TextTree → ℕ → Bool
bytes_fit (text.array len elem) count = nat_eq len count && has_bits 8 elem
bytes_fit other count = false

abbrev pub array_holds : (ℕ → TextTree → Bool) → TextTree → Bool
array_holds holds (text.array len elem) = holds len elem
array_holds holds other = false

abbrev pub fields_hold : Bool → (TextTrees → Bool) → Option TextTree → Bool
fields_hold wanted holds (Some (text.struct is_packed fields)) = same_flag is_packed wanted && holds fields
fields_hold wanted holds other = false

abbrev mutual
  -- an initialiser of a type
  pub fits : List TypeDef → TextTree → InitText → Bool
  fits defs ty (value operand) = constant_fits ty operand
  fits defs ty zeros = true
  fits defs ty (bytes text) = bytes_fit ty (length text)
  fits defs ty (array parts) = array_holds (λ len elem. elements_fit defs elem len parts) ty
  fits defs ty (struct parts) = fields_hold false (λ fields. fields_fit defs fields parts) (written_out defs ty)
  fits defs ty (packed parts) = fields_hold true (λ fields. fields_fit defs fields parts) (written_out defs ty)

  -- so many elements, each written with the type of elements and of it
  pub elements_fit : List TypeDef → TextTree → ℕ → InitTexts → Bool
  elements_fit defs elem left end = nat_eq left 0
  elements_fit defs elem left (more ty init tail) =
      if nat_eq left 0 then false else ((same_type defs elem ty && fits defs elem init) && elements_fit defs elem (left - 1) tail)

  -- as many parts as fields, each written with the type of its field and of it
  pub fields_fit : List TypeDef → TextTrees → InitTexts → Bool
  fields_fit defs text.end end = true
  fields_fit defs (text.more field fields) end = false
  fields_fit defs text.end (more ty init tail) = false
  fields_fit defs (text.more field fields) (more ty init tail) = (same_type defs field ty && fits defs field init) && fields_fit defs fields tail

abbrev pub maybe_fits : List TypeDef → TextTree → Option InitText → Bool
maybe_fits defs ty None = true
maybe_fits defs ty (Some init) = fits defs ty init

-- the initialiser of a global variable is of its type; a declaration has none
abbrev pub init_fits : List TypeDef → variable.Global → Bool
init_fits defs g = maybe_fits defs g.ty g.init
