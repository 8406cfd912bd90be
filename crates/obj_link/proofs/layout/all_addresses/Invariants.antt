use Rattle.std.proofs.Common.{◌≡◌, ◌++◌, take, drop, map}
use Rattle.obj_link.specs.Names.{with_before}
use Rattle.obj_link.specs.Layout.{addresses_of, addresses, text_begin}
use Rattle.obj_link.proofs.layout.all_addresses.Given as goal

-- what stands, and what is left from here on, are all
abbrev pub invariant-loop-index : goal.invariant-loop-index
invariant-loop-index l = record {
  begins : l.text ≡ text_begin (take l.index l.inputs);
  whole : l.objects.items ++ map (λ p. addresses_of l.inputs p.0 p.1) (with_before (take l.index l.inputs) (drop l.index l.inputs)) ≡ addresses l.inputs;
}
