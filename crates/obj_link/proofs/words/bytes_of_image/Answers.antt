use Rattle.rv_isa.specs.declared.inst.Line.{Line}
use Rattle.asm_read.specs.declared.object.ObjectSymbol.{ObjectSymbol}
use Rattle.obj_link.specs.declared.image.SymbolAddress.{SymbolAddress}
use Rattle.std.proofs.Common.{ℕ, List, ◌≡◌, ◌++◌, ap, ◌∙◌, arith, take}
use Rattle.std.specs.List.{flat_map}
use Rattle.std.specs.Int.{to_le_bytes, w32}
use Rattle.obj_link.specs.Layout.{size_of, globals}
use Rattle.obj_link.specs.Words.{words_of, words_at}
use Rattle.obj_link.proofs.Placing.{sum_at, sum_at_le, nested_at}
use Rattle.obj_link.proofs.words.bytes_of_image.Goals as goal

-- these bytes with those of an object's lines behind them
abbrev written : List ℕ → ℕ → List ObjectSymbol → List SymbolAddress → List Line → List ℕ
written before text symbols globals lines =
    before ++ flat_map (to_le_bytes w32) (words_at (record { text = text }) symbols globals lines)

pub loop-index-preserved : goal.loop-index-preserved
loop-index-preserved c =
    let within = sum_at_le size_of c.args.inputs.now c.loop-index.index c.get-object.result.now c.get-object.ensures in
    let step = sum_at size_of c.args.inputs.now c.loop-index.index c.get-object.result.now c.get-object.ensures in
    let here : c.push_lines.new.bytes.items ≡ c.loop-index.bytes.items ++ flat_map (to_le_bytes w32) (words_of c.args.inputs.now (take c.loop-index.index c.args.inputs.now) c.get-object.result.now) =
    c.in_ok-push_lines.ensures
    ∙ ap (λ lines. written c.loop-index.bytes.items c.loop-index.text c.as_slice.result.now c.args.globals.now lines) c.as_slice-in-loop-index.ensures.value
    ∙ ap (λ symbols. written c.loop-index.bytes.items c.loop-index.text symbols c.args.globals.now c.get-object.result.now.words) c.as_slice.ensures
    ∙ ap (λ all. written c.loop-index.bytes.items c.loop-index.text c.get-object.result.now.symbols all c.get-object.result.now.words) c.requires.globals
    ∙ ap (λ text. written c.loop-index.bytes.items text c.get-object.result.now.symbols (globals c.args.inputs.now) c.get-object.result.now.words) c.loop-index.invariant.begins
    in
    record {
      begins = omega arith;
      whole = nested_at (to_le_bytes w32) (λ p. words_of c.args.inputs.now p.0 p.1) c.loop-index.bytes.items _ c.args.inputs.now c.loop-index.index _ _ c.get-object.ensures c.loop-index.invariant.whole here;
    }
