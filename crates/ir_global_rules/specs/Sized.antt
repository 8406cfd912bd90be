-- The types that global variables and aliases write have sizes (LangRef, "Structure Type").
use Rattle.std.specs.Prelude.{Bool, true, ◌&&◌, Option, None, Some, List}
use Rattle.std.specs.List.{list_all}
use Rattle.ir_sizes.specs.Sized.{is_sized}
use Rattle.ir_syntax.specs.Inits.{InitText, value, zeros, bytes, array, struct, packed, InitTexts, end, more}
use Rattle.ir_syntax.specs.Types.{TextTree}
use Rattle.ir_syntax.specs.declared.alias.Alias.{Alias}
use Rattle.ir_syntax.specs.declared.alias.AliasBase.{AliasBase}
use Rattle.ir_syntax.specs.declared.alias.AliasBase.TheVariants as base
use Rattle.ir_syntax.specs.declared.global.Global.{Global}
use Rattle.ir_syntax.specs.declared.operand.GepParts.{GepParts}
use Rattle.ir_syntax.specs.declared.operand.Operand.{Operand}
use Rattle.ir_syntax.specs.declared.operand.Operand.TheVariants as operand
use Rattle.ir_syntax.specs.declared.type_def.TypeDef.{TypeDef}

-- the types of a constant address have sizes
abbrev pub gep_sized : List TypeDef → GepParts → Bool
gep_sized defs g = is_sized defs g.ty && list_all (λ i. is_sized defs i.ty) g.indices

abbrev pub operand_sized : List TypeDef → Operand → Bool
operand_sized defs (operand.Gep gep) = gep_sized defs gep
operand_sized defs other = true

-- the types in an initialiser have sizes
abbrev mutual
  pub init_sized : List TypeDef → InitText → Bool
  init_sized defs (value operand) = operand_sized defs operand
  init_sized defs zeros = true
  init_sized defs (bytes text) = true
  init_sized defs (array parts) = parts_sized defs parts
  init_sized defs (struct parts) = parts_sized defs parts
  init_sized defs (packed parts) = parts_sized defs parts

  pub parts_sized : List TypeDef → InitTexts → Bool
  parts_sized defs end = true
  parts_sized defs (more ty init tail) = (is_sized defs ty && init_sized defs init) && parts_sized defs tail

-- a declaration has no initialiser
abbrev pub maybe_init_sized : List TypeDef → Option InitText → Bool
maybe_init_sized defs None = true
maybe_init_sized defs (Some init) = init_sized defs init

-- the types that a global variable writes have sizes
abbrev pub is_global_sized : List TypeDef → Global → Bool
is_global_sized defs g = is_sized defs g.ty && maybe_init_sized defs g.init

-- `void` has no size and needs none
abbrev pub maybe_sized : List TypeDef → Option TextTree → Bool
maybe_sized defs None = true
maybe_sized defs (Some ty) = is_sized defs ty

abbrev pub maybe_types_sized : List TypeDef → Option (List TextTree) → Bool
maybe_types_sized defs None = true
maybe_types_sized defs (Some types) = list_all (is_sized defs) types

abbrev pub base_sized : List TypeDef → AliasBase → Bool
base_sized defs (base.Gep gep) = gep_sized defs gep
base_sized defs (base.Global used) = true

-- the types that an alias writes have sizes
abbrev pub is_alias_sized : List TypeDef → Alias → Bool
is_alias_sized defs a = maybe_sized defs a.result && (maybe_types_sized defs a.params && base_sized defs a.base)
