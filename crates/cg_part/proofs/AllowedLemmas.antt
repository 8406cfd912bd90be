-- What the linked image of a program shows is what its module allows.
use Rattle.std.proofs.Common.{◌≡◌, ◌≤◌, ◌<◌, ◌+◌, ◌/◌, ◌%◌, ◌^◌, ◌∷◌, [], ℕ, ℤ, Option, Some, List, length, refl, ap, ap₂, sym, subst, ◌∙◌, arith}
use Rattle.std.specs.Prelude.{find, option_map}
use Rattle.std.specs.Option.{option_and_then}
use Rattle.std.proofs.Math.Logic.{⊎_elim}
use Rattle.std.proofs.Math.Nat.{div-eq_of_lt}
use Rattle.std.proofs.lemmas.List.Elements.{All-contains}
use Rattle.std.proofs.lemmas.Bool.{cases_lt}
use Rattle.asm_read.specs.declared.object.Object.{Object}
use Rattle.ir_ident.specs.declared.name.Name.{Name}
use Rattle.ir_sem.specs.Actions.{none}
use Rattle.ir_sem.specs.Addresses.{Loaded}
use Rattle.ir_sem.specs.Configs.{Call, Config, Spot, within, blocks_in, body_of, first_block, opened}
use Rattle.ir_sem.specs.Locals.{with_arguments}
use Rattle.ir_sem.specs.Mains.{is_main}
use Rattle.ir_sem.specs.Runs as runs
use Rattle.ir_sem.specs.Runs.{IsRun, Run, ended, first_run, further, going, opening, opening_of, zeros_for}
use Rattle.ir_syntax.specs.Literals.{literal_value, wrapped}
use Rattle.ir_syntax.specs.Types.{int}
use Rattle.ir_syntax.specs.declared.block.Block.{Block}
use Rattle.ir_syntax.specs.declared.function.Function.{Function}
use Rattle.ir_syntax.specs.declared.literal.Literal.{Literal}
use Rattle.ir_syntax.specs.declared.operand.Operand.TheVariants.{Int}
use Rattle.ir_syntax.specs.declared.term.Term.TheVariants.{Ret}
use Rattle.ir_syntax.specs.declared.module.Module.{Module}
use Rattle.obj_link.specs.Image.{linked_image}
use Rattle.obj_link.specs.Layout.{image_size}
use Rattle.obj_link.specs.Runtime.{runtime}
use Rattle.obj_link.specs.declared.image.Image.{Image}
use Rattle.rv_isa.specs.Format.{low_bits}
use Rattle.rv_mach.specs.Run.{Behaviour}
use Rattle.cg_built.specs.Built.{IsBuiltFunction}
use Rattle.cg_built.proofs.Programs.{IsProgram}
use Rattle.cg_built.specs.Definitions.{defined_functions}
use Rattle.cg_part.specs.Allowed.{Allowed, RunsAllowed, Shows}
use Rattle.cg_part.specs.Code.{value_code}
use Rattle.cg_part.specs.Linking.{IsImageOf}
use Rattle.cg_part.specs.Meaning.{IsMain, loaded_at}
use Rattle.cg_part.specs.Text.{part_text}
use Rattle.cg_part.proofs.AssemblingLemmas.{part_assembles}
use Rattle.cg_part.proofs.LinkingImage.{objects_once}
use Rattle.cg_part.proofs.LinkingLists.{main_defined}
use Rattle.cg_part.proofs.LinkingMain.{ReturnsConstant, main_code}
use Rattle.cg_part.proofs.LinkingNames.{part_differs}
use Rattle.cg_part.proofs.LinkingProgram.{program_exits, program_long}
use Rattle.cg_part.proofs.Objects.{part_object}
use Rattle.cg_part.proofs.Programs.{program_image, program_objects}
use Rattle.cg_part.proofs.RunningSteps.{ExitsAfter}
use Rattle.cg_part.proofs.RunningValues.{constant_value}

-- fewer steps than the image has instructions ask for no segment
none_begun : (n count : ℕ) → n < count → n / count ≤ 0
none_begun n count few = omega (arith, div-eq_of_lt few)

-- a run that has ended at its first step
abbrev exited : ℕ → Run
exited value = record { state = ended value; output = []; begun = 1 }

-- `main` stands at its one instruction
abbrev standing : Loaded → List ℕ → Function → Spot → Config
standing l input f spot = opening_of l input (record { function = f; locals = with_arguments f.params (zeros_for f.params); allocas = []; spot = spot })

returns : (l : Loaded) (input : List ℕ) (f : Function) (label : Name) (line : ℕ) (literal : Literal) →
    further l none (first_run (standing l input f (within label [] (Ret line (int 32) (Int literal))))) ≡ Some (exited (wrapped 32 literal % 2 ^ 32 % 2 ^ 32))
returns l input f label line literal = refl

-- a `main` that returns a constant opens in front of that
opens : (l : Loaded) (input : List ℕ) (f : Function) → find is_main l.text.functions ≡ Some f → (constant : ReturnsConstant f) →
    opening l input ≡ Some (standing l input f (within constant.block.label [] (Ret constant.line (int 32) (Int constant.literal))))
opens l input f found constant =
    ap (λ o. option_map (opening_of l input) (option_and_then (λ (g : Function). opened (zeros_for g.params) g) o)) found
    ∙ ap (λ blocks. option_map (opening_of l input) (option_map (called l input f) (first_block (blocks_in blocks)))) constant.body
    ∙ ap₂ (λ instrs term. Some (standing l input f (within constant.block.label instrs term))) constant.instrs constant.term
  where
    called : Loaded → List ℕ → Function → Block → Call
    called l input f block = record { function = f; locals = with_arguments f.params (zeros_for f.params); allocas = []; spot = body_of block }

returned : (l : Loaded) (input : List ℕ) (f : Function) → find is_main l.text.functions ≡ Some f → (constant : ReturnsConstant f) →
    IsRun l input (exited (wrapped 32 constant.literal % 2 ^ 32 % 2 ^ 32))
unfolding runs.run_by
returned l input f found constant =
    (none ∷ [], by (opening l input) (opens l input f found constant))
  where
    by : (o : Option Config) → o ≡ Some (standing l input f (within constant.block.label [] (Ret constant.line (int 32) (Int constant.literal)))) →
        option_and_then (further l none) (option_map first_run o) ≡ Some (exited (wrapped 32 constant.literal % 2 ^ 32 % 2 ^ 32))
    by o is = ap (λ o. option_and_then (further l none) (option_map first_run o)) is
        ∙ returns l input f constant.block.label constant.line constant.literal

-- the run before its first step
not_begun : (l : Loaded) (input : List ℕ) (c : Config) → opening l input ≡ Some c → IsRun l input (first_run c)
unfolding runs.run_by
not_begun l input c is = ([], ap (option_map first_run) is)

-- a machine that exits after fewer steps than the image has instructions, with the code that `main` returns
exits_allowed : (m : Module) (f : Function) (image : Image) (input : List ℕ) (steps code n : ℕ) → IsMain m f → (constant : ReturnsConstant f) →
    steps < image.instructions → wrapped 32 constant.literal % 2 ^ 32 % 2 ^ 32 ≡ code → ExitsAfter image.bytes input steps code → Allowed m image input n
exits_allowed m f image input steps code n main constant few same exits =
    let l : Loaded = loaded_at m image.addresses in
    let value : ℕ = wrapped 32 constant.literal % 2 ^ 32 % 2 ^ 32 in
    let c : Config = standing l input f (within constant.block.label [] (Ret constant.line (int 32) (Int constant.literal))) in
    ⊎_elim
    (λ later. record {
      run = exited value;
      is_run = returned l input f main.found constant;
      shows = subst (λ (s : Behaviour). Shows image input n s.stop s.output (ended value) (exited value))
          (sym (exits.exits n later)) (sym same, refl);
    })
    (λ within. record {
      run = first_run c;
      is_run = not_begun l input c (opens l input f main.found constant);
      shows = subst (λ (s : Behaviour). Shows image input n s.stop s.output (going c) (first_run c)) (sym (exits.runs n within))
          (record { output_is = refl; progress = none_begun n image.instructions (omega arith) });
    })
    (cases_lt steps n)

-- whatever the input and the steps, the image of a program shows what its module allows
program_shows : (m : Module) (f : Function) → IsProgram m → IsMain m f → image_size (program_objects m) ≤ 67108864 →
    (input : List ℕ) (n : ℕ) → Allowed m (program_image m) input n
program_shows m f program main small input n =
    let built : IsBuiltFunction f = All-contains IsBuiltFunction (defined_functions m) f program.functions (main_defined m f main) in
    let constant = main_code m f built main in
    let value : ℤ = literal_value constant.literal in
    exits_allowed m f (program_image m) input (length (value_code value) + 6) (low_bits 64 value % 2 ^ 32) n main constant
    (program_long m f main constant)
    (constant_value constant.literal constant.signed)
    (program_exits m f program main small constant input)

-- The text of a program assembles, its names differ, and its image shows what the module allows.
pub program_allowed : (m : Module) → IsProgram m → RunsAllowed m (part_text m ∷ [])
program_allowed m program = record {
  objects = part_object m ∷ [];
  assembled = (part_assembles m program, tt);
  differ = part_differs m program;
  allowed = λ runnable. program_shows m runnable.main program runnable.is_main runnable.small;
}

-- so does the image that it was linked to
pub image_allowed : (m : Module) (f : Function) (image : Image) → IsProgram m → IsMain m f → IsImageOf (part_text m ∷ []) image →
    (input : List ℕ) (n : ℕ) → Allowed m image input n
image_allowed m f image program main of_text input n =
    let is : of_text.objects ≡ part_object m ∷ [] =
    objects_once (part_text m ∷ []) of_text.objects (part_object m ∷ []) of_text.assembled (part_assembles m program, tt) in
    let small : image_size (program_objects m) ≤ 67108864 =
    subst (λ (objects : List Object). image_size (runtime ∷ objects) ≤ 67108864) is of_text.linkable.small in
    subst (λ (i : Image). Allowed m i input n)
    (sym (of_text.linked ∙ ap (λ (objects : List Object). linked_image (runtime ∷ objects)) is))
    (program_shows m f program main small input n)
