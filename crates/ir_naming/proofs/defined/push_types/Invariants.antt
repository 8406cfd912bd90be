use Rattle.std.proofs.Common.{◌≡◌, ◌++◌, take, map}
use Rattle.ir_naming.specs.Repeated.{type_name}
use Rattle.ir_naming.proofs.defined.push_types.Given as goal

abbrev pub invariant-loop-ty : goal.invariant-loop-ty
invariant-loop-ty l = l.names.items ≡ l.initial.names.items ++ map type_name (take l.ty-index l.types)
