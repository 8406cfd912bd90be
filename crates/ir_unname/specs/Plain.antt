-- Types without names as the text writes them.
use Rattle.std.specs.Prelude.{Bool, true, false}
use Rattle.ir_syntax.specs.Types.{TextTree, int, ptr, array, struct, TextTrees, end, more}
use Rattle.ty_core.specs.Tree as plain
use Rattle.ty_core.specs.Tree.{Tree, Trees}

abbrev mutual
  pub text_of : Tree → TextTree
  text_of (plain.int bits) = int bits
  text_of plain.ptr = ptr
  text_of (plain.array len elem) = array len (text_of elem)
  text_of (plain.struct packed fields) = struct packed (texts_of fields)

  pub texts_of : Trees → TextTrees
  texts_of plain.end = end
  texts_of (plain.more head tail) = more (text_of head) (texts_of tail)

-- an integer or a pointer
abbrev pub is_scalar : TextTree → Bool
is_scalar (int bits) = true
is_scalar ptr = true
is_scalar other = false
