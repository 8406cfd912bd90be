use Rattle.std.proofs.Common.{◌≡◌, ◌++◌, take, drop}
use Rattle.std.specs.List.{flat_map}
use Rattle.obj_link.specs.Names.{with_before}
use Rattle.obj_link.specs.Layout.{globals_of, globals, text_begin}
use Rattle.obj_link.proofs.layout.global_addresses.Given as goal

-- what stands, and what is left from here on, are all
abbrev pub invariant-loop-index : goal.invariant-loop-index
invariant-loop-index l = record {
  begins : l.text ≡ text_begin (take l.index l.inputs);
  whole : l.found.items ++ flat_map (λ p. globals_of l.inputs p.0 p.1) (with_before (take l.index l.inputs) (drop l.index l.inputs)) ≡ globals l.inputs;
}
