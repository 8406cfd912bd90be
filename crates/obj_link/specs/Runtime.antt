-- The runtime, which every program begins with.
use Rattle.std.specs.Prelude.{ℕ, pos, List, [], ◌∷◌, codes, true}
use Rattle.rv_isa.specs.Instructions.{ecall, jalr, li, lui, ret}
use Rattle.rv_isa.specs.Registers.{a0, a1, a7, ra}
use Rattle.rv_isa.specs.declared.inst.Line.{Line}
use Rattle.rv_isa.specs.declared.inst.Line.TheVariants.{Plain, High, Low}
use Rattle.asm_read.specs.declared.object.Object.{Object}
use Rattle.asm_read.specs.declared.object.ObjectSymbol.{ObjectSymbol}
use Rattle.asm_read.specs.declared.object.Section.TheVariants.{Text}

-- `lui ra, %hi(main)`
abbrev pub lui_main : Line
lui_main = High (lui ra (pos 0)) (codes "main") (pos 0)

-- `jalr ra, %lo(main)(ra)`
abbrev pub jalr_main : Line
jalr_main = Low (jalr ra ra (pos 0)) (codes "main") (pos 0)

-- `_start` calls `main` with zeros and exits with its result, `__host_put` writes a byte,
-- `__host_get` reads one
abbrev pub runtime_words : List Line
runtime_words =
    Plain (li a0 (pos 0)) ∷ Plain (li a1 (pos 0)) ∷ lui_main ∷ jalr_main ∷ Plain (li a7 (pos 93)) ∷ Plain ecall
    ∷ Plain (li a7 (pos 1)) ∷ Plain ecall ∷ Plain ret
    ∷ Plain (li a7 (pos 2)) ∷ Plain ecall ∷ Plain ret ∷ []

-- a global symbol at this distance from the beginning
abbrev pub entry : List ℕ → ℕ → ObjectSymbol
entry name offset = record { name = name; global = true; section = Text; offset = pos offset }

abbrev pub runtime_symbols : List ObjectSymbol
runtime_symbols = entry (codes "_start") 0 ∷ entry (codes "__host_put") 24 ∷ entry (codes "__host_get") 36 ∷ []

abbrev pub runtime : Object
runtime = record { words = runtime_words; symbols = runtime_symbols; needs = codes "main" ∷ [] }
