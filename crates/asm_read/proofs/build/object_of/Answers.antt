use Rattle.std.proofs.Common.{◌≡◌, ap, ◌∙◌, length, take, arith}
use Rattle.asm_read.specs.Checks.{has, place_in, statements_in}
use Rattle.asm_read.specs.Labels.{place, size}
use Rattle.asm_read.proofs.BuildLemmas.{symbols_more}
use Rattle.asm_read.proofs.LabelLemmas.{far_here, lines_more, words_more, words_size}
use Rattle.asm_read.proofs.build.object_of.Goals as goal

pub loop-line-preserved : goal.loop-line-preserved
loop-line-preserved c =
    let lines = c.args.lines.now in
    let line = c.line-item.result in
    let inv = c.loop-line.invariant in
    let told : length c.loop-line.words.items ≡ size (statements_in (take c.loop-line.line-index lines)) = ap length inv.words ∙ words_size (place (statements_in lines)) 0 (statements_in (take c.loop-line.line-index lines)) in
    let count : c.len.result ≡ size (statements_in (take c.loop-line.line-index lines)) = omega (arith, c.len.ensures, c.loop-line.words.ok.0, told) in
    let near = far_here lines c.loop-line.line-index line (length c.loop-line.words.items) (place_in c.args.places.now) c.loop-line-test.true c.line-item.is told c.requires.places ∙ c.requires.near c.loop-line.line-index in
    record {
      words = words_more lines _ line (place_in c.args.places.now) (place (statements_in lines)) _ _ c.loop-line-test.true c.line-item.is c.requires.places inv.words c.in_ok-add_word.ensures;
      lines = lines_more lines _ line (place_in c.args.places.now) _ _ c.loop-line-test.true c.line-item.is c.requires.grammar near inv.lines c.in_ok-add_word.ensures;
      symbols = symbols_more lines _ line c.len.result (has c.args.globals.now) _ _ c.loop-line-test.true c.line-item.is c.requires.globals inv.symbols count c.in_ok-add_symbol.ensures;
    }

pub add_word-requires : goal.add_word-requires
add_word-requires c =
    let lines = c.args.lines.now in
    let inv = c.loop-line.invariant in
    let told : length c.loop-line.words.items ≡ size (statements_in (take c.loop-line.line-index lines)) = ap length inv.words ∙ words_size (place (statements_in lines)) 0 (statements_in (take c.loop-line.line-index lines)) in
    far_here lines c.loop-line.line-index c.line-item.result (length c.loop-line.words.items) (place_in c.args.places.now) c.loop-line-test.true c.line-item.is told c.requires.places ∙ c.requires.near c.loop-line.line-index
