use Rattle.std.proofs.Common.{refl, rules}
use Rattle.ir_ident.specs.NameMaps.{value_of}
use Rattle.ir_ident.specs.declared.name.Name.TheVariants.{Named, Unnamed, Implicit}
use Rattle.ir_ident.proofs.names.NameMap.with_room.Goals as goal

pub returns : goal.returns
unfolding value_of
returns g c (Named bytes) = search rules
returns g c (Unnamed n) = c.new.ensures n
returns g c Implicit = refl
