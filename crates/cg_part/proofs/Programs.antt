-- The objects of a program, their image, and the code of the runtime in it.
use Rattle.std.specs.Prelude.{ℕ, pos, List, [], ◌∷◌, ◌++◌}
use Rattle.asm_read.specs.declared.object.Object.{Object}
use Rattle.ir_syntax.specs.declared.module.Module.{Module}
use Rattle.obj_link.specs.Image.{linked_image}
use Rattle.obj_link.specs.Runtime.{runtime}
use Rattle.obj_link.specs.Words.{high_part, low_part}
use Rattle.obj_link.specs.declared.image.Image.{Image}
use Rattle.rv_isa.specs.declared.inst.Inst.{Inst}
use Rattle.rv_isa.specs.Instructions.{addi, ecall, jalr, lui, ret}
use Rattle.cg_part.proofs.Objects.{part_object}

-- the objects of a program: the runtime, and that of its module
abbrev pub program_objects : Module → List Object
program_objects m = runtime ∷ part_object m ∷ []

-- the image of a program
abbrev pub program_image : Module → Image
program_image m = linked_image (program_objects m)

-- `lui rd, %hi(address)`
abbrev pub load_high : ℕ → ℕ → Inst
load_high rd address = lui rd (pos (high_part address))

-- `jalr rd, %lo(address)(rd)`
abbrev pub call_low : ℕ → ℕ → Inst
call_low rd address = jalr rd rd (low_part address)

-- `_start` calls `main`, which lies at an address, with zeros, and exits with its result
abbrev pub start_code : ℕ → List Inst
start_code address =
    addi 10 0 (pos 0) ∷ addi 11 0 (pos 0) ∷ load_high 1 address ∷ call_low 1 address
    ∷ addi 17 0 (pos 93) ∷ ecall ∷ []

-- `__host_put` and `__host_get`, which follow it
abbrev pub host_code : List Inst
host_code =
    addi 17 0 (pos 1) ∷ ecall ∷ ret ∷ addi 17 0 (pos 2) ∷ ecall ∷ ret ∷ []

-- the code of the runtime where `main` lies at an address
abbrev pub runtime_code : ℕ → List Inst
runtime_code address = start_code address ++ host_code
