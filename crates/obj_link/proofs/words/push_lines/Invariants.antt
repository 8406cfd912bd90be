use Rattle.std.proofs.Common.{◌≡◌, ◌++◌, take}
use Rattle.std.specs.List.{flat_map}
use Rattle.std.specs.Int.{to_le_bytes, w32}
use Rattle.obj_link.specs.Words.{words_at}
use Rattle.obj_link.proofs.words.push_lines.Given as goal

abbrev pub invariant-loop-line : goal.invariant-loop-line
invariant-loop-line l =
    l.bytes.items ≡ l.initial.bytes.items
    ++ flat_map (to_le_bytes w32) (words_at l.scope.sections l.scope.symbols.now l.scope.globals.now (take l.line-index l.lines))
