-- Each of the lines that have words has one.
use Rattle.std.proofs.Common.{◌<◌, ℕ, suc, zero, List, [], ◌∷◌, length, get_or, arith}
use Rattle.rv_isa.specs.Relocation.{IsLine, AreLines}
use Rattle.rv_isa.specs.declared.inst.Line.{Line}

pub line_at : (lines : List Line) (i : ℕ) (d : Line) → AreLines lines → i < length lines → IsLine (get_or lines i d)
line_at [] i d are within = absurd (omega arith)
line_at (line ∷ lines) zero d are within = are.0
line_at (line ∷ lines) (suc i) d are within = line_at lines i d are.1 (omega arith)
