-- Types that are the same, where a name stands for its struct (LangRef, "Structure Type").
use Rattle.std.specs.Prelude.{ℕ, zero, suc, Bool, true, false, ◌&&◌, ◌||◌, nat_eq, Option, None, Some, List}
use Rattle.ir_sizes.specs.Named.{written_out}
use Rattle.ir_ident.specs.Names.{same_name}
use Rattle.ir_sizes.specs.Sized.{level_limit}
use Rattle.ir_syntax.specs.Types.{TextTree, int, ptr, array, struct, named, TextTrees, end, more}
use Rattle.ir_syntax.specs.declared.type_def.TypeDef.{TypeDef}

abbrev pub are_one_name : TextTree → TextTree → Bool
are_one_name (named a) (named b) = same_name a.name b.name
are_one_name a b = false

abbrev pub are_one_scalar : TextTree → TextTree → Bool
are_one_scalar (int a) (int b) = nat_eq a b
are_one_scalar ptr ptr = true
are_one_scalar a b = false

abbrev pub same_flag : Bool → Bool → Bool
same_flag true b = b
same_flag false true = false
same_flag false false = true

-- fields of the same types, as `same` has it of two types
abbrev pub same_fields : (TextTree → TextTree → Bool) → TextTrees → TextTrees → Bool
same_fields same end end = true
same_fields same (more a rest_a) (more b rest_b) = same a b && same_fields same rest_a rest_b
same_fields same end (more b rest_b) = false
same_fields same (more a rest_a) end = false

-- types that are no names, as `same` has it of the types of their parts
abbrev pub same_parts : (TextTree → TextTree → Bool) → TextTree → TextTree → Bool
same_parts same (int a) (int b) = nat_eq a b
same_parts same ptr ptr = true
same_parts same (array m a) (array n b) = nat_eq m n && same a b
same_parts same (struct p fields_a) (struct q fields_b) = same_flag p q && same_fields same fields_a fields_b
same_parts same a b = false

abbrev pub both_hold : (TextTree → TextTree → Bool) → Option TextTree → Option TextTree → Bool
both_hold holds (Some a) (Some b) = holds a b
both_hold holds (Some a) None = false
both_hold holds None b = false

-- the same name, or types of the same parts in at most so many levels
unfoldable pub same_within : List TypeDef → ℕ → TextTree → TextTree → Bool
same_within defs zero a b = are_one_name a b || are_one_scalar a b
same_within defs (suc levels) a b =
    are_one_name a b || both_hold (same_parts (same_within defs levels)) (written_out defs a) (written_out defs b)

abbrev pub same_type : List TypeDef → TextTree → TextTree → Bool
same_type defs a b = same_within defs level_limit a b
