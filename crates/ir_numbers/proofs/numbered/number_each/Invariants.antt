use Rattle.std.proofs.Common.{◌≡◌, ◌+◌, ◌++◌, take, drop, flat_map}
use Rattle.ir_numbers.specs.Unnamed.{unnamed_in}
use Rattle.ir_numbers.specs.Numbered.{each_numbered}
use Rattle.ir_numbers.proofs.numbered.number_each.Given as goal

abbrev pub invariant-loop-part : goal.invariant-loop-part
invariant-loop-part g l = record {
  parts : take l.part-index l.parts ++ each_numbered g.T.Counted.numbered g.T.Counted.sites l.count (drop l.part-index l.parts) ≡ each_numbered g.T.Counted.numbered g.T.Counted.sites l.initial.count l.initial.parts;
  count : l.count + unnamed_in (flat_map g.T.Counted.sites (drop l.part-index l.parts)) ≡ l.initial.count + unnamed_in (flat_map g.T.Counted.sites l.initial.parts);
}
