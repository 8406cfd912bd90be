-- The form of a function that is built. It follows from the tests of `Unbuilt`, and the code of the function is made by it.
use Rattle.std.specs.Prelude.{◌≡◌, ◌≤◌, ◌&&◌, ◌⊎◌, ℕ, Bool, not, Option, Some, None, IsSome, List, [], ◌∷◌, length, All, IsTrue}
use Rattle.ir_syntax.specs.Literals.{literal_value}
use Rattle.ir_ident.specs.Names.{name_bytes}
use Rattle.ir_syntax.specs.Types.{TextTree, int}
use Rattle.ir_syntax.specs.declared.block.Block.{Block}
use Rattle.ir_syntax.specs.declared.operand.Operand.{Operand}
use Rattle.ir_syntax.specs.declared.operand.Operand.TheVariants.{Local, Int}
use Rattle.ir_syntax.specs.declared.term.Term.{Term}
use Rattle.ir_syntax.specs.declared.term.Term.TheVariants.{Ret}
use Rattle.ir_syntax.specs.declared.function.Function.{Function}
use Rattle.ir_syntax.specs.declared.function.Param.{Param}
use Rattle.ir_syntax.specs.declared.linkage.Linkage.TheVariants.{External}
use Rattle.ir_syntax.specs.declared.linkage.Visibility.TheVariants.{Default}
use Rattle.ir_naming.specs.Reserved.{is_reserved}
use Rattle.rv_isa.specs.Encoding.{IsSigned12}
use Rattle.rv_isa.specs.Symbol.{is_bare}
use Rattle.cg_built.specs.Params.{place_of}

-- a name that the assembly writes without quotes, and that a definition may have
abbrev pub is_built_name : List ℕ → Bool
is_built_name name = is_bare name && not (is_reserved name)

-- one of the parameters, or a number that one instruction can load
abbrev pub IsBuiltOperand : List Param → Operand → Type 0
IsBuiltOperand params (Local used) = IsSome (place_of used.name params)
IsBuiltOperand params (Int literal) = IsSigned12 (literal_value literal)
IsBuiltOperand params other = ⊥

abbrev pub IsBuiltTerm : List Param → Term → Type 0
IsBuiltTerm params (Ret line ty value) = IsBuiltOperand params value
IsBuiltTerm params other = ⊥

-- a block of a terminator alone
pub record IsBuiltBlock (params : List Param) (block : Block) : Type 0 where
  pub phis : block.phis ≡ []
  pub instrs : block.instrs ≡ []
  pub term : IsBuiltTerm params block.term

-- a body of one block
abbrev pub IsBuiltBody : List Param → Option (List Block) → Type 0
IsBuiltBody params None = ⊥
IsBuiltBody params (Some []) = ⊥
IsBuiltBody params (Some (block ∷ [])) = IsBuiltBlock params block
IsBuiltBody params (Some (block ∷ next ∷ more)) = ⊥

-- an integer of 32 or of 64 bits
abbrev pub IsBuiltType : Option TextTree → Type 0
IsBuiltType None = ⊥
IsBuiltType (Some ty) = (ty ≡ int 32) ⊎ (ty ≡ int 64)

-- a terminator that returns a value of the result type
abbrev pub GivesType : Option TextTree → Term → Type 0
GivesType result (Ret line ty value) = result ≡ Some ty
GivesType result other = ⊥

-- the terminator of a body of one block does
abbrev pub IsTypedBody : Option TextTree → Option (List Block) → Type 0
IsTypedBody result None = ⊥
IsTypedBody result (Some []) = ⊥
IsTypedBody result (Some (block ∷ [])) = GivesType result block.term
IsTypedBody result (Some (block ∷ next ∷ more)) = ⊥

-- a definition that every part of the program sees, whose name needs no quotes, whose arguments have registers and
-- the type of its result, and that returns at once a value of this type
pub record IsBuiltFunction (f : Function) : Type 0 where
  pub name : IsTrue (is_built_name (name_bytes f.name))
  pub linkage : f.linkage ≡ External
  pub visibility : f.visibility ≡ Default
  pub result : IsBuiltType f.result
  pub params : All (λ p. p.ty ≡ f.result) f.params
  pub arguments : length f.params ≤ 8
  pub body : IsBuiltBody f.params f.blocks
  pub typed : IsTypedBody f.result f.blocks

abbrev pub function_name : Function → List ℕ
function_name f = name_bytes f.name
