-- Initialisers as plain trees: what the text writes of one, without the boxes that it is kept in.
use Rattle.std.specs.Prelude.{ℕ, List}
use Rattle.ir_syntax.specs.declared.init_tree.InitTree.{InitTree}
use Rattle.ir_syntax.specs.declared.init_tree.InitTree.TheVariants.{Value, Zero, Bytes, Array, Struct, Packed}
use Rattle.ir_syntax.specs.declared.init_tree.InitTreeList.{InitTreeList}
use Rattle.ir_syntax.specs.declared.init_tree.InitTreeList.TheVariants.{End, More'}
use Rattle.ir_syntax.specs.declared.operand.Operand.{Operand}
use Rattle.ir_syntax.specs.Types.{TextTree}

mutual
  -- an initialiser: a scalar, zeros of any type, the bytes of an array, or the parts of an array or a struct
  pub data InitText : Type 0 where
    value : Operand → InitText
    zeros : InitText
    bytes : List ℕ → InitText
    array : InitTexts → InitText
    struct : InitTexts → InitText
    packed : InitTexts → InitText

  -- parts in order, each with its type
  pub data InitTexts : Type 0 where
    end : InitTexts
    more : TextTree → InitText → InitTexts → InitTexts

abbrev mutual
  pub init_of : InitTree → InitText
  init_of (Value operand) = value operand
  init_of Zero = zeros
  init_of (Bytes text) = bytes text
  init_of (Array parts) = array (inits_in parts)
  init_of (Struct parts) = struct (inits_in parts)
  init_of (Packed parts) = packed (inits_in parts)

  pub inits_in : InitTreeList → InitTexts
  inits_in End = end
  inits_in (More' p ty init tail) = more ty (init_of init) (inits_in tail)
