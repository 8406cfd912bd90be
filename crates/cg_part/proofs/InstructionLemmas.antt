-- The instructions of a function of the built set: each is a load of a constant, a copy or a return.
use Rattle.std.proofs.Common.{◌≤◌, ◌<◌, ◌+◌, ◌-◌, ◌∷◌, [], ℕ, ℤ, zero, suc, List, Option, Some, None, IfSome, Bool, true, false, cond, pos, All, length, arith, position, refl}
use Rattle.std.specs.List.{position_or_len, AllByRecursion as ByRecursion}
use Rattle.std.specs.Prelude.{nat_lt}
use Rattle.std.proofs.lemmas.Bool.{cases_lt}
use Rattle.std.proofs.lemmas.Bool.Decides.{nat_tests}
use Rattle.std.proofs.lemmas.List.Elements.{All-append, All-nil, All-cons}
use Rattle.ir_syntax.specs.Literals.{literal_value}
use Rattle.ir_ident.specs.Names.{same_name}
use Rattle.ir_syntax.specs.declared.block.Block.{Block}
use Rattle.ir_syntax.specs.declared.operand.Operand.{Operand}
use Rattle.ir_syntax.specs.declared.operand.Operand.TheVariants.{Local, Int}
use Rattle.ir_syntax.specs.declared.term.Term.{Term}
use Rattle.ir_syntax.specs.declared.term.Term.TheVariants.{Ret}
use Rattle.ir_syntax.specs.declared.function.Function.{Function}
use Rattle.ir_syntax.specs.declared.function.Param.{Param}
use Rattle.rv_isa.specs.Encoding.{IsInst, IsSigned12}
use Rattle.rv_isa.specs.Text.{is_zero}
use Rattle.rv_isa.specs.declared.inst.Inst.{Inst}
use Rattle.cg_built.specs.Built.{IsBuiltFunction, IsBuiltBody, IsBuiltOperand, IsBuiltTerm}
use Rattle.cg_part.specs.Code.{copies, argument_code, constant_code, code_at, operand_code, term_code, body_code, function_code}
use Rattle.rv_isa.specs.Instructions.{addi, mv, ret}
use Rattle.cg_part.proofs.Objects.{part_code}

inside_of : (place count : ℕ) → IfSome (cond (nat_lt place count) (Some place) None) (λ p. p < count)
inside_of place count = grind (arith, nat_tests, cases_lt place count)

pub position_inside : (test : Param → Bool) (params : List Param) → IfSome (position test params) (λ p. p < length params)
position_inside test params = inside_of (position_or_len test params) (length params)

-- what holds of each instruction that is used
pub record IsOfUsed (P : Inst → Type 0) : Type 0 where
  pub load : (rd : ℕ) (imm : ℤ) → rd < 32 → IsSigned12 imm → P (addi rd 0 imm)
  pub copy : (rd rs : ℕ) → rd < 32 → 0 < rs → rs < 32 → P (mv rd rs)
  pub back : P ret

module _ (P : Inst → Type 0) (used : IsOfUsed P) where
  copies_hold : (rd first count : ℕ) → rd < 32 → first + count ≤ 8 → All P (copies rd first count)
  copies_hold rd first zero low within = All-nil P
  copies_hold rd first (suc count) low within =
      All-cons P (mv rd (10 + first)) (copies rd (first + 1) count) (used.copy rd (10 + first) low (omega arith) (omega arith))
      (copies_hold rd (first + 1) count low (omega arith))

  end_holds : All P (mv 10 5 ∷ ret ∷ [])
  end_holds =
      All-cons P (mv 10 5) (ret ∷ []) (used.copy 10 5 (omega arith) (omega arith) (omega arith))
      (All-cons P ret [] used.back (All-nil P))

  argument_holds : (count place : ℕ) → place < count → count ≤ 8 → All P (argument_code count place)
  argument_holds count place inside few =
      All-append P _ _
      (All-append P _ _ (copies_hold 5 0 (place + 1) (omega arith) (omega arith))
      (copies_hold 6 (place + 1) (count - (place + 1)) (omega arith) (omega arith)))
      end_holds

  value_holds : (zero : Bool) (value : ℤ) → IsSigned12 value → All P (cond zero (addi 10 0 (pos 0) ∷ []) (addi 5 0 value ∷ mv 10 5 ∷ []))
  value_holds true value held =
      All-cons P (addi 10 0 (pos 0)) [] (used.load 10 (pos 0) (omega arith) (omega arith, omega arith)) (All-nil P)
  value_holds false value held =
      All-cons P (addi 5 0 value) (mv 10 5 ∷ []) (used.load 5 value (omega arith) held)
      (All-cons P (mv 10 5) [] (used.copy 10 5 (omega arith) (omega arith) (omega arith)) (All-nil P))

  constant_holds : (count : ℕ) (value : ℤ) → count ≤ 8 → IsSigned12 value → All P (constant_code count value)
  constant_holds count value few held =
      All-append P _ _
      (All-append P _ _ (copies_hold 5 0 count (omega arith) (omega arith)) (value_holds (is_zero value) value held))
      (All-cons P ret [] used.back (All-nil P))

  code_at_holds : (count : ℕ) (place : Option ℕ) → IfSome place (λ p. p < count) → count ≤ 8 → All P (code_at count place)
  code_at_holds count (Some place) inside few = argument_holds count place inside few
  code_at_holds count None inside few = All-nil P

  operand_holds : (params : List Param) (value : Operand) → length params ≤ 8 → IsBuiltOperand params value → All P (operand_code params value)
  operand_holds params (Local used) few built = code_at_holds (length params) _ (position_inside (λ p. same_name p.name used.name) params) few
  operand_holds params (Int literal) few built = constant_holds (length params) (literal_value literal) few built
  operand_holds params other few built = absurd built

  term_holds : (params : List Param) (term : Term) → length params ≤ 8 → IsBuiltTerm params term → All P (term_code params term)
  term_holds params (Ret line ty value) few built = operand_holds params value few built
  term_holds params other few built = absurd built

  body_holds : (params : List Param) (blocks : Option (List Block)) → length params ≤ 8 → IsBuiltBody params blocks → All P (body_code params blocks)
  body_holds params None few built = All-nil P
  body_holds params (Some []) few built = All-nil P
  body_holds params (Some (block ∷ [])) few built = term_holds params block.term few built.term
  body_holds params (Some (block ∷ next ∷ more)) few built = All-nil P

  pub code_holds : (f : Function) → IsBuiltFunction f → All P (function_code f)
  code_holds f built = body_holds f.params f.blocks built.arguments built.body

pub addi_formed : (rd rs1 : ℕ) (imm : ℤ) → rd < 32 → rs1 < 32 → IsSigned12 imm → IsInst (addi rd rs1 imm)
addi_formed rd rs1 imm low_rd low_rs1 held = record { rd = low_rd; rs1 = low_rs1; rs2 = omega arith; row = (refl, held) }

pub move_formed : (rd rs1 : ℕ) → rd < 32 → rs1 < 32 → IsInst (mv rd rs1)
move_formed rd rs1 low_rd low_rs1 = addi_formed rd rs1 (pos 0) low_rd low_rs1 (omega arith, omega arith)

pub return_formed : IsInst ret
return_formed = record { rd = omega arith; rs1 = omega arith; rs2 = omega arith; row = (refl, (omega arith, omega arith)) }

used_formed : IsOfUsed IsInst
used_formed = record {
  load = λ rd imm low held. addi_formed rd 0 imm low (omega arith) held;
  copy = λ rd rs low above low_rs. move_formed rd rs low low_rs;
  back = return_formed;
}

-- so is the code of a constant
pub constant_formed : (count : ℕ) (value : ℤ) → count ≤ 8 → IsSigned12 value → All IsInst (constant_code count value)
constant_formed = constant_holds IsInst used_formed

-- the code of a function is of the table
pub code_formed : (f : Function) → IsBuiltFunction f → All IsInst (function_code f)
code_formed = code_holds IsInst used_formed

pub part_formed : (functions : List Function) → ByRecursion IsBuiltFunction functions → All IsInst (part_code functions)
part_formed [] built = All-nil IsInst
part_formed (f ∷ functions) built =
    All-append IsInst (function_code f) (part_code functions) (code_formed f built.0) (part_formed functions built.1)
