-- The blocks of variables and the bytes that they begin with (LangRef, "Global Variables").
use Rattle.std.specs.Prelude.{ℕ, ◌-◌, Bool, true, false, ◌&&◌, not, Option, None, Some, List, [], ◌∷◌, ◌++◌, length, replicate, take}
use Rattle.ir_geps.specs.Offsets.{stride}
use Rattle.ir_mem.specs.Bytes.{to_little}
use Rattle.ir_mem.specs.Placing.{can_place, placed}
use Rattle.ir_mem.specs.declared.block.Block.{Block}
use Rattle.ir_sem.specs.Accesses.{align_or}
use Rattle.ir_sem.specs.Addresses.{Loaded, defined_globals}
use Rattle.ir_sem.specs.Locals.{none_defined}
use Rattle.ir_sem.specs.Operands.{operand_value}
use Rattle.ir_sem.specs.declared.value.Value.{Value}
use Rattle.ir_sem.specs.declared.value.Value.TheVariants.{Number, Poison}
use Rattle.ir_sizes.specs.Sized.{layout_in}
use Rattle.ir_syntax.specs.Inits.{InitText, value, zeros, bytes, array, struct, packed, InitTexts, end, more}
use Rattle.ir_syntax.specs.Types.{TextTree}
use Rattle.ir_syntax.specs.declared.global.Global.{Global}
use Rattle.ty_core.specs.Size.{begin_at}
use Rattle.ty_core.specs.declared.extent.Layout.{Layout}

-- a type without a size is empty; no checked module has one
abbrev pub or_empty : Option Layout → Layout
or_empty None = record { size = 0; align = 1 }
or_empty (Some layout) = layout

abbrev pub layout : Loaded → TextTree → Layout
layout l ty = or_empty (layout_in l.text.types ty)

-- bytes, and zeros up to a size
abbrev pub padded : ℕ → List ℕ → List ℕ
padded size done = done ++ replicate (size - length done) 0

-- poison is stored as 0
abbrev pub value_bytes : ℕ → Value → List ℕ
value_bytes size (Number n) = to_little size n
value_bytes size Poison = replicate size 0

abbrev mutual
  -- the bytes of an initialiser of a type
  pub init_bytes : Loaded → TextTree → InitText → List ℕ
  init_bytes l ty (value operand) = value_bytes (layout l ty).size (operand_value l none_defined ty operand)
  init_bytes l ty zeros = replicate (layout l ty).size 0
  init_bytes l ty (bytes text) = text
  init_bytes l ty (array parts) = part_bytes l false [] parts
  init_bytes l ty (struct parts) = padded (layout l ty).size (part_bytes l false [] parts)
  init_bytes l ty (packed parts) = padded (layout l ty).size (part_bytes l true [] parts)

  -- the parts of one behind these bytes: each begins at a multiple of its alignment, unless they are packed, and takes its stride
  pub part_bytes : Loaded → Bool → List ℕ → InitTexts → List ℕ
  part_bytes l dense done end = done
  part_bytes l dense done (more ty init tail) =
      part_bytes l dense
      (padded (begin_at dense (length done) (layout l ty).align) done ++ padded (stride (layout l ty)) (init_bytes l ty init)) tail

-- exactly so many bytes; those of an initialiser that fits its type are as they are
abbrev pub fitted : ℕ → List ℕ → List ℕ
fitted size done = take size (padded size done)

abbrev pub maybe_bytes : Loaded → TextTree → Option InitText → List ℕ
maybe_bytes l ty None = []
maybe_bytes l ty (Some init) = init_bytes l ty init

-- the bytes that a variable begins with: as many as its type has
abbrev pub initial_bytes : Loaded → Global → List ℕ
initial_bytes l g = fitted (layout l g.ty).size (maybe_bytes l g.ty g.init)

-- the block of a variable: nothing may be stored into a constant
abbrev pub global_block : Loaded → Global → ℕ → Block
global_block l g base = record { base = base; bytes = initial_bytes l g; writable = not g.constant }

-- the blocks with those of variables at addresses, placed in order
abbrev pub with_globals : Loaded → List Global → List ℕ → List Block → List Block
with_globals l (g ∷ globals) (base ∷ bases) blocks = with_globals l globals bases (placed (global_block l g base) blocks)
with_globals l globals bases blocks = blocks

-- the block of a variable can have an address
abbrev pub can_have : List Block → Loaded → Global → ℕ → Bool
can_have blocks l g base = can_place blocks base (length (initial_bytes l g)) (align_or l.text.types g.ty g.align)

-- the block of each of these variables can have its address behind those before it
abbrev pub are_placeable : Loaded → List Global → List ℕ → List Block → Bool
are_placeable l (g ∷ globals) (base ∷ bases) blocks =
    can_have blocks l g base && are_placeable l globals bases (placed (global_block l g base) blocks)
are_placeable l globals bases blocks = true

abbrev pub is_placeable : Loaded → Bool
is_placeable l = are_placeable l (defined_globals l.text) l.addresses []

abbrev pub global_blocks : Loaded → List Block
global_blocks l = with_globals l (defined_globals l.text) l.addresses []
