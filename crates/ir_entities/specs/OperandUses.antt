-- The names that operands and initialisers use.
use Rattle.std.specs.Prelude.{List, [], ◌∷◌, ◌++◌}
use Rattle.std.specs.List.{flat_map}
use Rattle.ir_entities.specs.declared.site.NameKind.TheVariants as kind
use Rattle.ir_entities.specs.Sites.{Site}
use Rattle.ir_entities.specs.Uses.{type_uses}
use Rattle.ir_syntax.specs.declared.operand.ConstantGep.{ConstantGep}
use Rattle.ir_syntax.specs.declared.operand.Operand.{Operand}
use Rattle.ir_syntax.specs.declared.operand.Operand.TheVariants.{Local, Global, Int, True, False, Null, Undef, Poison, Gep}
use Rattle.ir_syntax.specs.declared.operand.TypedLiteral.{TypedLiteral}
use Rattle.ir_syntax.specs.Inits.{InitText, value, zeros, bytes, array, struct, packed, InitTexts, end, more}

abbrev pub literal_uses : TypedLiteral → List Site
literal_uses l = type_uses l.ty

abbrev pub gep_uses : ConstantGep → List Site
gep_uses g = type_uses g.ty ++ (kind.Global, g.base) ∷ flat_map literal_uses g.indices

abbrev pub operand_uses : Operand → List Site
operand_uses (Local name) = (kind.Value, name) ∷ []
operand_uses (Global name) = (kind.Global, name) ∷ []
operand_uses (Gep gep) = gep_uses gep
operand_uses (Int literal) = []
operand_uses True = []
operand_uses False = []
operand_uses Null = []
operand_uses Undef = []
operand_uses Poison = []

abbrev mutual
  pub init_uses : InitText → List Site
  init_uses zeros = []
  init_uses (value operand) = operand_uses operand
  init_uses (bytes text) = []
  init_uses (array parts) = element_uses parts
  init_uses (struct parts) = element_uses parts
  init_uses (packed parts) = element_uses parts

  pub element_uses : InitTexts → List Site
  element_uses end = []
  element_uses (more ty init tail) = type_uses ty ++ (init_uses init ++ element_uses tail)
