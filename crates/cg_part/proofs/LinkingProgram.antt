-- A program exits with the constant that its `main` returns, before it has made as many steps as it has instructions.
use Rattle.std.proofs.Common.{◌≤◌, ◌<◌, ◌+◌, ◌%◌, ◌^◌, ◌++◌, ◌∷◌, [], ℕ, List, codes, length, subst, arith, length-append}
use Rattle.ir_syntax.specs.Literals.{literal_value}
use Rattle.ir_syntax.specs.declared.function.Function.{Function}
use Rattle.ir_syntax.specs.declared.module.Module.{Module}
use Rattle.obj_link.specs.Layout.{image_size, instruction_count}
use Rattle.rv_isa.specs.Format.{low_bits}
use Rattle.rv_isa.specs.Instructions.{ret}
use Rattle.rv_isa.specs.declared.inst.Inst.{Inst}
use Rattle.cg_built.proofs.Programs.{IsProgram}
use Rattle.cg_part.specs.Code.{function_code, value_code}
use Rattle.cg_part.specs.Meaning.{IsMain}
use Rattle.cg_part.proofs.InstructionLemmas.{constant_formed}
use Rattle.cg_part.proofs.LinkingLists.{main_defined}
use Rattle.cg_part.proofs.LinkingMain.{ReturnsConstant}
use Rattle.cg_part.proofs.LinkingNames.{part_differs}
use Rattle.cg_part.proofs.LinkingObject.{HasSymbol, least_instructions, main_called}
use Rattle.cg_part.proofs.LinkingPart.{part_distinct, part_has}
use Rattle.cg_part.proofs.Mains.{main_named}
use Rattle.cg_part.proofs.Objects.{part_object}
use Rattle.cg_part.proofs.Programs.{program_image, program_objects}
use Rattle.cg_part.proofs.RunningMain.{main_runs}
use Rattle.cg_part.proofs.RunningSteps.{ExitsAfter}

-- the code of `main` lies at its symbol
main_has : (m : Module) (f : Function) → IsMain m f → (constant : ReturnsConstant f) →
    HasSymbol (part_object m) (codes "main") (value_code (literal_value constant.literal) ++ ret ∷ [])
main_has m f main constant =
    subst (λ code. HasSymbol (part_object m) (codes "main") code) constant.code
    (subst (λ name. HasSymbol (part_object m) name (function_code f)) (main_named m f main) (part_has m f (main_defined m f main)))

pub program_exits : (m : Module) (f : Function) → IsProgram m → IsMain m f → image_size (program_objects m) ≤ 67108864 →
    (constant : ReturnsConstant f) (input : List ℕ) →
    ExitsAfter (program_image m).bytes input (length (value_code (literal_value constant.literal)) + 6) (low_bits 64 (literal_value constant.literal) % 2 ^ 32)
program_exits m f program main small constant input =
    let code : List Inst = value_code (literal_value constant.literal) ++ ret ∷ [] in
    let call = main_called (part_object m) code (main_has m f main constant) (part_distinct m program) (part_differs m program) small
    (constant_formed 0 (literal_value constant.literal) (omega arith) constant.signed) in
    main_runs (program_image m).bytes input call.address (literal_value constant.literal) constant.signed call.aligned call.small call.start call.main

pub program_long : (m : Module) (f : Function) → IsMain m f → (constant : ReturnsConstant f) →
    length (value_code (literal_value constant.literal)) + 6 < instruction_count (program_objects m)
program_long m f main constant =
    let least = least_instructions (part_object m) (codes "main") (value_code (literal_value constant.literal) ++ ret ∷ []) (main_has m f main constant) in
    let parts = length-append (value_code (literal_value constant.literal)) (ret ∷ []) in
    omega arith
