-- A module in which each type that has a size is written without names, and each constant address as a number of bytes
-- (LangRef, "Structure Type" and "'getelementptr' Instruction").
use Rattle.std.specs.Prelude.{ℕ, false, Option, None, Some, List, [], ◌∷◌}
use Rattle.ir_geps.specs.Offsets.{parts_offset}
use Rattle.ir_rewrite.specs.Modules.{rewritten_module}
use Rattle.ir_sizes.specs.Sized.{sized_tree}
use Rattle.ir_syntax.specs.Types.{TextTree, int}
use Rattle.ir_syntax.specs.declared.module.Module.{Module}
use Rattle.ir_syntax.specs.declared.operand.GepParts.{GepParts}
use Rattle.ir_syntax.specs.declared.type_def.TypeDef.{TypeDef}
use Rattle.ir_unname.specs.Plain.{text_of}
use Rattle.ty_core.specs.Tree.{Tree}

-- the text of a type without names, or where there is none, this type
abbrev pub text_or : TextTree → Option Tree → TextTree
text_or ty None = ty
text_or ty (Some tree) = text_of tree

-- a type that has a size with the names in it replaced by what they stand for; any other type as it is
abbrev pub without_names : List TypeDef → TextTree → TextTree
without_names defs ty = text_or ty (sized_tree defs ty)

-- an address so many bytes behind the same base, or where no number is known, the address as it is
abbrev pub bytes_behind : GepParts → Option ℕ → GepParts
bytes_behind g None = g
bytes_behind g (Some offset) = record g {
  ty = int 8;
  indices = record { ty = int 64; value = record { negative = false; magnitude = offset } } ∷ [];
}

-- a constant address by its offset in bytes modulo 2^64
abbrev pub byte_offset : List TypeDef → GepParts → GepParts
byte_offset defs g = bytes_behind g (parts_offset defs g)

-- no type is defined, since none has a name
abbrev pub unnamed : Module → Module
unnamed m = record (rewritten_module (without_names m.types) (byte_offset m.types) m) { types = [] }
