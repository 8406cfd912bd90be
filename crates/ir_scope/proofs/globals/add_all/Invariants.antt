use Rattle.std.proofs.Common.{◌≡◌, option_map, take}
use Rattle.ir_ident.specs.NameMaps.{or_else, value_of}
use Rattle.ir_ident.specs.Places.{place_by}
use Rattle.ir_ident.specs.declared.name.Name.{Name}
use Rattle.ir_scope.proofs.globals.add_all.Given as goal

abbrev pub invariant-loop-place : goal.invariant-loop-place
invariant-loop-place g l = (name : Name) → value_of l.found name
    ≡ or_else (value_of l.initial.found name) (option_map g.T.Item.item_at (place_by g.T.Item.name_of (take l.place l.list) name))
