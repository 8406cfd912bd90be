-- Initialisers with their types and their constant addresses replaced.
use Rattle.ir_rewrite.specs.Rewritten.{Rewriting, rewritten_operand}
use Rattle.ir_syntax.specs.Inits.{InitText, value, zeros, bytes, array, struct, packed, InitTexts, end, more}

abbrev mutual
  pub rewritten_init : Rewriting InitText
  rewritten_init ty_of gep_of (value operand) = value (rewritten_operand ty_of gep_of operand)
  rewritten_init ty_of gep_of zeros = zeros
  rewritten_init ty_of gep_of (bytes text) = bytes text
  rewritten_init ty_of gep_of (array parts) = array (rewritten_parts ty_of gep_of parts)
  rewritten_init ty_of gep_of (struct parts) = struct (rewritten_parts ty_of gep_of parts)
  rewritten_init ty_of gep_of (packed parts) = packed (rewritten_parts ty_of gep_of parts)

  pub rewritten_parts : Rewriting InitTexts
  rewritten_parts ty_of gep_of end = end
  rewritten_parts ty_of gep_of (more ty init rest) = more (ty_of ty) (rewritten_init ty_of gep_of init) (rewritten_parts ty_of gep_of rest)
