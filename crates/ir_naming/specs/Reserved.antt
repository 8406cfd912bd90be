-- Names that no item of a module may have.
use Rattle.std.specs.Prelude.{ℕ, Bool, false, ◌&&◌, ◌||◌, nat_eq, List, [], ◌∷◌, bytes_eq, codes, drop, if◌then◌else◌}
use Rattle.std.specs.List.{starts_with}
use Rattle.std.specs.Char.{is_ascii_digit}
use Rattle.ir_ident.specs.Names.{name_bytes}
use Rattle.ir_naming.specs.Items.{NamedItem}

abbrev pub begins_digit : List ℕ → Bool
begins_digit [] = false
begins_digit (b ∷ bytes) = is_ascii_digit b

-- the labels of the blocks in the assembly begin so: no function, variable or alias does, defined or declared
abbrev pub is_label_name : List ℕ → Bool
is_label_name name = starts_with nat_eq name (codes ".LBB") && begins_digit (drop 4 name)

-- the names of the start of a program, of the functions of its host and of intrinsics: nothing is defined by one
abbrev pub is_reserved : List ℕ → Bool
is_reserved name =
    bytes_eq name (codes "_start") || starts_with nat_eq name (codes "__host_") || starts_with nat_eq name (codes "llvm.") || is_label_name name

-- a definition whose name is reserved, or a declaration whose name is that of a label
abbrev pub is_misnamed : NamedItem → Bool
is_misnamed i = if i.defined then is_reserved (name_bytes i.name) else is_label_name (name_bytes i.name)
