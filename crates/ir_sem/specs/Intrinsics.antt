-- What intrinsics and the functions of the host do (LangRef, "Intrinsic Functions").
use Rattle.std.specs.Prelude.{ℕ, ◌%◌, Bool, true, false, ◌&&◌, ◌||◌, not, nat_eq, List, [], ◌∷◌, map, replicate, bytes_eq, codes, if◌then◌else◌}
use Rattle.std.specs.Option.{option_map_or}
use Rattle.cg_num.specs.declared.function.IntegerFunction.{IntegerFunction}
use Rattle.ir_call_rules.specs.Intrinsics.{intrinsic_of}
use Rattle.ir_call_rules.specs.declared.intrinsic.Intrinsic.{Intrinsic}
use Rattle.ir_call_rules.specs.declared.intrinsic.Intrinsic.TheVariants.{Integer, Trap, Memcpy, Memmove, Memset}
use Rattle.ir_mem.specs.Memory.{block_at, bytes_from}
use Rattle.ir_mem.specs.declared.block.Block.{Block}
use Rattle.ir_sem.specs.Accesses.{may_access, overlap}
use Rattle.ir_sem.specs.Actions.{Action, give, write, fill_any, put, get, trap, break, given}
use Rattle.ir_sem.specs.Operands.{narrowed}
use Rattle.ir_sem.specs.Operations.{applied}
use Rattle.ir_sem.specs.declared.argument.Argument.{Argument}
use Rattle.ir_sem.specs.declared.value.Value.{Value}
use Rattle.ir_sem.specs.declared.value.Value.TheVariants.{Number, Poison}

abbrev pub values_of : List Argument → List Value
values_of arguments = map (λ a. a.value) arguments

-- arguments that are left out are 0
abbrev pub called_with : IntegerFunction → ℕ → List Value → Action
called_with function bits (a ∷ []) = given (applied function bits (narrowed bits a) (Number 0) (Number 0))
called_with function bits (a ∷ b ∷ []) = given (applied function bits (narrowed bits a) (narrowed bits b) (Number 0))
called_with function bits (a ∷ b ∷ c ∷ more) = given (applied function bits (narrowed bits a) (narrowed bits b) (narrowed bits c))
called_with function bits [] = break

abbrev pub bytes_at : List Block → ℕ → ℕ → List ℕ
bytes_at blocks at size = option_map_or (bytes_from at size) (block_at blocks at size) []

-- bytes go from one range to another, which it may overlap or not
abbrev pub copied : List Block → Bool → Argument → Argument → ℕ → Action
copied blocks may_overlap to from size = by to.value from.value
  where
    by : Value → Value → Action
    by (Number a) (Number b) =
        if may_access blocks a size to.align true && may_access blocks b size from.align false && (may_overlap || not (overlap a b size))
        then write a (bytes_at blocks b size) else break
    by a b = break

-- each byte of a range is set to the lowest byte of a number
abbrev pub all_set : ℕ → ℕ → Value → Action
all_set to size (Number byte) = write to (replicate size (byte % 256))
all_set to size Poison = fill_any to size

abbrev pub filled : List Block → Argument → Value → ℕ → Action
filled blocks to byte size = by to.value
  where
    by : Value → Action
    by (Number a) = if may_access blocks a size to.align true then all_set a size byte else break
    by Poison = break

-- of length 0, nothing is looked at
abbrev pub unless_empty : Value → (ℕ → Action) → Action
unless_empty (Number size) act = if nat_eq size 0 then give Poison else act size
unless_empty Poison act = break

abbrev pub intrinsic_action : List Block → Intrinsic → List Argument → Action
intrinsic_action blocks (Integer function bits) arguments = called_with function bits (values_of arguments)
intrinsic_action blocks Trap arguments = trap
intrinsic_action blocks Memcpy (to ∷ from ∷ size ∷ more) = unless_empty size.value (copied blocks false to from)
intrinsic_action blocks Memmove (to ∷ from ∷ size ∷ more) = unless_empty size.value (copied blocks true to from)
intrinsic_action blocks Memset (to ∷ byte ∷ size ∷ more) = unless_empty size.value (filled blocks to byte.value)
intrinsic_action blocks other arguments = break

-- the lowest byte is put
abbrev pub put_action : List Value → Action
put_action (Number n ∷ values) = put (n % 256)
put_action other = break

-- what a function without a body does, by its name
abbrev pub declared_action : List Block → List ℕ → List Argument → Action
declared_action blocks name arguments =
    if bytes_eq name (codes "__host_put") then put_action (values_of arguments)
    else if bytes_eq name (codes "__host_get") then get
    else option_map_or (λ intrinsic. intrinsic_action blocks intrinsic arguments) (intrinsic_of name) break
