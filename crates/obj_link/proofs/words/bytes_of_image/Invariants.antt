use Rattle.std.proofs.Common.{◌≡◌, ◌++◌, take, drop}
use Rattle.std.specs.List.{flat_map}
use Rattle.std.specs.Int.{to_le_bytes, w32}
use Rattle.obj_link.specs.Names.{with_before}
use Rattle.obj_link.specs.Layout.{text_begin}
use Rattle.obj_link.specs.Words.{words_of, image_bytes}
use Rattle.obj_link.proofs.words.bytes_of_image.Given as goal

-- what stands, and what is left from here on, are all
abbrev pub invariant-loop-index : goal.invariant-loop-index
invariant-loop-index l = record {
  begins : l.text ≡ text_begin (take l.index l.inputs);
  whole : l.bytes.items ++ flat_map (to_le_bytes w32) (flat_map (λ p. words_of l.inputs p.0 p.1) (with_before (take l.index l.inputs) (drop l.index l.inputs))) ≡ image_bytes l.inputs;
}
