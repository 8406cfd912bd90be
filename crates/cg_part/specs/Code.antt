-- The code of a function that returns a constant or one of its arguments.
use Rattle.std.specs.Prelude.{◌+◌, ◌-◌, ℕ, ℤ, pos, Option, Some, None, List, [], ◌∷◌, ◌++◌, map, length, if◌then◌else◌}
use Rattle.std.specs.List.{range_with_len}
use Rattle.ir_syntax.specs.Literals.{literal_value}
use Rattle.ir_syntax.specs.declared.block.Block.{Block}
use Rattle.ir_syntax.specs.declared.operand.Operand.{Operand}
use Rattle.ir_syntax.specs.declared.operand.Operand.TheVariants.{Local, Int}
use Rattle.ir_syntax.specs.declared.term.Term.{Term}
use Rattle.ir_syntax.specs.declared.term.Term.TheVariants.{Ret}
use Rattle.ir_syntax.specs.declared.function.Function.{Function}
use Rattle.ir_syntax.specs.declared.function.Param.{Param}
use Rattle.cg_built.specs.Params.{place_of}
use Rattle.rv_isa.specs.Text.{is_zero}
use Rattle.rv_isa.specs.declared.inst.Inst.{Inst}
use Rattle.rv_isa.specs.Instructions.{li, mv, ret}
use Rattle.rv_isa.specs.Registers.{a0, t0, t1}

-- count argument registers from the given one on, each copied into rd; a0 is x10
abbrev pub copies : ℕ → ℕ → ℕ → List Inst
copies rd first count = map (λ i. mv rd (a0 + i)) (range_with_len first count)

-- Of count arguments the one at a place is returned. t0, which is x5, has it after the copies up to it,
-- and those after it go into t1, which is x6.
abbrev pub argument_code : ℕ → ℕ → List Inst
argument_code count place =
    copies t0 0 (place + 1) ++ copies t1 (place + 1) (count - (place + 1)) ++ mv a0 t0 ∷ ret ∷ []

-- a constant goes into a0, by way of t0; 0 needs no register of its own
abbrev pub value_code : ℤ → List Inst
value_code value = if is_zero value then li a0 (pos 0) ∷ [] else li t0 value ∷ mv a0 t0 ∷ []

-- a constant is returned
abbrev pub constant_code : ℕ → ℤ → List Inst
constant_code count value = copies t0 0 count ++ value_code value ++ ret ∷ []

abbrev pub code_at : ℕ → Option ℕ → List Inst
code_at count (Some place) = argument_code count place
code_at count None = []

-- an operand is returned; one that is not built has no code
abbrev pub operand_code : List Param → Operand → List Inst
operand_code params (Local used) = code_at (length params) (place_of used.name params)
operand_code params (Int literal) = constant_code (length params) (literal_value literal)
operand_code params other = []

abbrev pub term_code : List Param → Term → List Inst
term_code params (Ret line ty value) = operand_code params value
term_code params other = []

-- a body of one block; a declaration has no code
abbrev pub body_code : List Param → Option (List Block) → List Inst
body_code params None = []
body_code params (Some []) = []
body_code params (Some (block ∷ [])) = term_code params block.term
body_code params (Some (block ∷ next ∷ more)) = []

abbrev pub function_code : Function → List Inst
function_code f = body_code f.params f.blocks
