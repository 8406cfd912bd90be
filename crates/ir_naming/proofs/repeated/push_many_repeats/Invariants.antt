use Rattle.std.proofs.Common.{◌≡◌, ◌++◌, take}
use Rattle.ir_naming.specs.Repeated.{is_among, repeats}
use Rattle.ir_ident.specs.NameMaps.{has_name}
use Rattle.ir_ident.specs.declared.name.Name.{Name}
use Rattle.ir_naming.proofs.repeated.push_many_repeats.Given as goal

abbrev pub invariant-loop-defined : goal.invariant-loop-defined
invariant-loop-defined l = record {
  said : l.lines.items ≡ l.initial.lines.items ++ repeats (take l.defined-index l.names);
  known : (name : Name) → has_name l.seen name ≡ is_among (take l.defined-index l.names) name;
}
