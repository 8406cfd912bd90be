-- Accesses to memory (LangRef, "'load' Instruction" and "'store' Instruction").
use Rattle.std.specs.Prelude.{ℕ, ◌+◌, ◌%◌, ◌^◌, Bool, ◌&&◌, not, nat_eq, nat_lt, max, min, Option, None, Some, option_map, List, length}
use Rattle.std.specs.List.{list_all}
use Rattle.ir_mem.specs.Memory.{can_access, loaded}
use Rattle.ir_mem.specs.declared.block.Block.{Block}
use Rattle.ir_sem.specs.Operands.{bits_of}
use Rattle.ir_sem.specs.declared.value.Value.{Value}
use Rattle.ir_sem.specs.declared.value.Value.TheVariants.{Number}
use Rattle.ir_sizes.specs.Sized.{layout_in}
use Rattle.ir_syntax.specs.Types.{TextTree}
use Rattle.ir_syntax.specs.declared.type_def.TypeDef.{TypeDef}
use Rattle.ty_core.specs.Size.{bytes_of}
use Rattle.ty_core.specs.declared.extent.Layout.{Layout}

-- the bytes of a value in memory
abbrev pub value_size : TextTree → ℕ
value_size ty = bytes_of (bits_of ty)

-- what bytes hold: so many numbers below 256
abbrev pub fills : ℕ → List ℕ → Bool
fills size bytes = nat_eq (length bytes) size && list_all (λ byte. nat_lt byte 256) bytes

abbrev pub natural_align : Option Layout → ℕ
natural_align None = 1
natural_align (Some layout) = layout.align

-- the alignment that is written, or else that of the type; none is 0
abbrev pub align_or : List TypeDef → TextTree → Option ℕ → ℕ
align_or defs ty (Some align) = max align 1
align_or defs ty None = natural_align (layout_in defs ty)

abbrev pub is_aligned : ℕ → ℕ → Bool
is_aligned at align = nat_eq (at % align) 0

-- a range may be read, or written
abbrev pub may_access : List Block → ℕ → ℕ → ℕ → Bool → Bool
may_access blocks at size align write = is_aligned at align && can_access blocks at size write

-- two ranges of one size share bytes and are not one
abbrev pub overlap : ℕ → ℕ → ℕ → Bool
overlap a b size = not (nat_eq a b) && nat_lt (max a b) (min a b + size)

-- the value of so many bits at an address: the lowest bits of the bytes
abbrev pub value_at : List Block → ℕ → ℕ → Option Value
value_at blocks at bits = option_map (λ n. Number (n % 2 ^ bits)) (loaded blocks at (bytes_of bits))
