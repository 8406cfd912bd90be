-- The actions of steps, with numbers in place of lists of bytes.
use Rattle.std.specs.Prelude.{ℕ, ◌<◌, ◌≤◌, true, false, List, replicate}
use Rattle.ir_access.specs.declared.action.Action as access
use Rattle.ir_access.specs.declared.action.Action.TheVariants.{Give, Choose, Reserve, Write, WriteAny, Copy, Fill, FillAny, Put, Get, Trap, Break}
use Rattle.ir_mem.specs.Bytes.{to_little}
use Rattle.ir_mem.specs.Memory.{CanAccess}
use Rattle.ir_mem.specs.declared.block.Block.{Block}
use Rattle.ir_sem.specs.Actions.{Action, give, choose, reserve, write, write_any, fill_any, put, get, trap, break}
use Rattle.ir_sem.specs.Intrinsics.{bytes_at}

-- what an action is, over these live blocks
abbrev pub action_of : List Block → access.Action → Action
action_of blocks (Give value) = give value
action_of blocks (Choose bits) = choose bits
action_of blocks (Reserve size align) = reserve size align
action_of blocks (Write at size number) = write at (to_little size number)
action_of blocks (WriteAny at size) = write_any at size
action_of blocks (Copy to from size) = write to (bytes_at blocks from size)
action_of blocks (Fill to size byte) = write to (replicate size byte)
action_of blocks (FillAny to size) = fill_any to size
action_of blocks (Put byte) = put byte
action_of blocks Get = get
action_of blocks Trap = trap
action_of blocks Break = break

-- a range that is not empty may be written
abbrev pub IsWritable : List Block → ℕ → ℕ → Type 0
IsWritable blocks at size = (0 < size) × CanAccess blocks at size true

-- it may be read
abbrev pub IsReadable : List Block → ℕ → ℕ → Type 0
IsReadable blocks at size = (0 < size) × CanAccess blocks at size false

-- each range of an action can be accessed, and a value has 8 bytes at most
abbrev pub IsFit : List Block → access.Action → Type 0
IsFit blocks (Reserve size align) = 0 < align
IsFit blocks (Write at size number) = (size ≤ 8) × IsWritable blocks at size
IsFit blocks (WriteAny at size) = (size ≤ 8) × IsWritable blocks at size
IsFit blocks (Copy to from size) = IsWritable blocks to size × IsReadable blocks from size
IsFit blocks (Fill to size byte) = IsWritable blocks to size
IsFit blocks (FillAny to size) = IsWritable blocks to size
IsFit blocks other = Unit {0}
