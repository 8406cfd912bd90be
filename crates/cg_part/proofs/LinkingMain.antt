-- The code of a `main`, which returns a constant.
use Rattle.std.proofs.Common.{◌≡◌, ◌++◌, ◌∷◌, [], ℕ, List, Option, Some, None, refl, ap, ap₂, sym, ◌∙◌, subst}
use Rattle.std.specs.Prelude.{unwrap_or}
use Rattle.ir_syntax.specs.Literals.{literal_value}
use Rattle.ir_syntax.specs.Types.{TextTree, int}
use Rattle.ir_syntax.specs.declared.block.Block.{Block}
use Rattle.ir_syntax.specs.declared.literal.Literal.{Literal}
use Rattle.ir_syntax.specs.declared.operand.Operand.TheVariants.{Local, Int}
use Rattle.ir_syntax.specs.declared.term.Term.{Term}
use Rattle.ir_syntax.specs.declared.term.Term.TheVariants.{Ret}
use Rattle.ir_syntax.specs.declared.function.Function.{Function}
use Rattle.ir_syntax.specs.declared.module.Module.{Module}
use Rattle.rv_isa.specs.Encoding.{IsSigned12}
use Rattle.cg_built.specs.Built.{IsBuiltFunction, IsBuiltBlock, IsBuiltBody, IsBuiltTerm, IsTypedBody, GivesType}
use Rattle.cg_part.specs.Code.{value_code, term_code, body_code, function_code}
use Rattle.rv_isa.specs.Instructions.{ret}
use Rattle.cg_part.specs.Meaning.{IsMain}
use Rattle.cg_part.proofs.Mains.{main_params, main_result}

-- a function of one block that returns a constant as an i32, and whose code loads it and returns
pub record ReturnsConstant (f : Function) : Type 0 where
  pub block : Block
  pub line : ℕ
  pub literal : Literal
  pub body : f.blocks ≡ Some (block ∷ [])
  pub instrs : block.instrs ≡ []
  pub term : block.term ≡ Ret line (int 32) (Int literal)
  pub signed : IsSigned12 (literal_value literal)
  pub code : function_code f ≡ value_code (literal_value literal) ++ ret ∷ []

-- two types of a result that are one
same_type : (a b : TextTree) → Some a ≡ Some b → b ≡ a
same_type a b typed = ap (λ o. unwrap_or o a) (sym typed)

module _ (f : Function) (none : f.params ≡ []) where
  by_term : (block : Block) (term : Term) → f.blocks ≡ Some (block ∷ []) → IsBuiltBlock [] block → block.term ≡ term →
      IsBuiltTerm [] term → GivesType (Some (int 32)) term → ReturnsConstant f
  by_term block (Ret line ty (Local used)) body plain is built typed = absurd (cc)
  by_term block (Ret line ty (Int literal)) body plain is built typed = record {
    block = block;
    line = line;
    literal = literal;
    body = body;
    instrs = plain.instrs;
    term = is ∙ ap (λ t. Ret line t (Int literal)) (same_type (int 32) ty typed);
    signed = built;
    code = ap₂ body_code none body ∙ ap (term_code []) is;
  }
  by_term block (Ret line ty other) body plain is built typed = absurd built
  by_term block other body plain is built typed = absurd built

  by_body : (blocks : Option (List Block)) → f.blocks ≡ blocks → IsBuiltBody [] blocks → IsTypedBody (Some (int 32)) blocks →
      ReturnsConstant f
  by_body None body built typed = absurd built
  by_body (Some []) body built typed = absurd built
  by_body (Some (block ∷ [])) body built typed = by_term block block.term body built refl built.term typed
  by_body (Some (block ∷ next ∷ more)) body built typed = absurd built

pub main_code : (m : Module) (f : Function) → IsBuiltFunction f → IsMain m f → ReturnsConstant f
main_code m f built main =
    let none : f.params ≡ [] = main_params m f built main in
    by_body f none f.blocks refl (subst (λ params. IsBuiltBody params f.blocks) none built.body)
    (subst (λ result. IsTypedBody result f.blocks) (main_result m f main) built.typed)
