-- The operands of instructions, terminators and initialisers in the order of the text.
use Rattle.std.specs.Prelude.{List, [], ◌∷◌, ◌++◌, Option, None, Some}
use Rattle.ir_syntax.specs.Inits.{InitText, value, zeros, bytes, array, struct, packed, InitTexts, end, more}
use Rattle.ir_syntax.specs.declared.operand.Operand.{Operand}
use Rattle.ir_walk.specs.Parts.{Part, type_part, operand_part, callee_part, label_part}

-- a part that is an operand; the function that is called is none
abbrev pub part_operands : Part → List Operand
part_operands (operand_part operand) = operand ∷ []
part_operands (type_part ty) = []
part_operands (callee_part callee) = []
part_operands (label_part label) = []

abbrev mutual
  pub init_operands : InitText → List Operand
  init_operands (value operand) = operand ∷ []
  init_operands zeros = []
  init_operands (bytes text) = []
  init_operands (array parts) = element_operands parts
  init_operands (struct parts) = element_operands parts
  init_operands (packed parts) = element_operands parts

  pub element_operands : InitTexts → List Operand
  element_operands end = []
  element_operands (more ty init tail) = init_operands init ++ element_operands tail

-- a declaration has no initialiser
abbrev pub maybe_init_operands : Option InitText → List Operand
maybe_init_operands None = []
maybe_init_operands (Some init) = init_operands init
