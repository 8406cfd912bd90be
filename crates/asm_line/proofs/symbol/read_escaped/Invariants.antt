use Rattle.std.proofs.Common.{◌≡◌, ◌++◌, length}
use Rattle.std.specs.List.{flat_map}
use Rattle.rv_isa.specs.Symbol.{AreBytes, escaped}
use Rattle.asm_line.proofs.SymbolLemmas.{GoesOn}
use Rattle.asm_line.proofs.symbol.read_escaped.Given as goal

abbrev pub invariant-loop-rest : goal.invariant-loop-rest
invariant-loop-rest l = record {
  bytes : AreBytes l.name.items;
  told : l.inner ≡ flat_map escaped l.name.items ++ l.rest;
  goes_on : GoesOn l.inner l.name.items l.rest;
}

abbrev pub decreases-loop-rest : goal.decreases-loop-rest
decreases-loop-rest l = length l.rest
