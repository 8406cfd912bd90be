use Rattle.std.proofs.Common.{◌≡◌, take}
use Rattle.std.specs.List.{list_any}
use Rattle.rv_isa.specs.Relocation.{AreLines}
use Rattle.asm_read.specs.Assembly.{exports, symbols_after}
use Rattle.asm_read.specs.Checks.{statements_in}
use Rattle.asm_read.specs.Labels.{place, words_after}
use Rattle.asm_read.proofs.build.object_of.Given as goal

abbrev pub invariant-loop-line : goal.invariant-loop-line
invariant-loop-line l = record {
  words : l.words.items ≡ words_after (place (statements_in l.lines)) 0 (statements_in (take l.line-index l.lines));
  lines : AreLines l.words.items;
  symbols : l.symbols.items ≡ symbols_after (λ q. list_any (exports q) (statements_in l.lines)) 0 (statements_in (take l.line-index l.lines));
}
