-- Terminators (LangRef, "Terminator Instructions").
use Rattle.std.specs.Prelude.{ℕ, List, [], ◌∷◌, false}
use Rattle.ir_syntax.specs.Types.{TextTree}
use Rattle.ir_syntax.specs.declared.literal.Literal.{Literal}
use Rattle.ir_ident.specs.declared.name.NameUse.{NameUse}
use Rattle.ir_syntax.specs.declared.operand.TypedOperand.{TypedOperand}
use Rattle.ir_syntax.specs.declared.term.Case.{Case}
use Rattle.ir_syntax.specs.declared.term.Term.{Term}
use Rattle.ir_syntax.specs.declared.term.Term.TheVariants as term
use Rattle.ir_terms.specs.declared.term_body.TermBody.{TermBody}
use Rattle.ir_terms.specs.declared.term_body.TermBody.TheVariants as form
use Rattle.ir_words.specs.declared.class.Class.{Class}
use Rattle.ir_words.specs.declared.class.Class.TheVariants.{Br, CloseSquare, Comma, LabelWord, OpenSquare, Ret, Switch, Unreachable, Void}
use Rattle.ir_rules.specs.Leaves.{ending, lined, means}
use Rattle.ir_rules.specs.Rules.{Rule, ◌▷◌, ◌◁◌, each, either, made, seq, within}
use Rattle.ir_attributes.specs.Attributes.{attachments}
use Rattle.ir_types.specs.Types.{literals, local_uses, type_firsts, types}
use Rattle.ir_values.specs.Values.{typed_operands}

-- the terminator that begins on a line
abbrev pub term_of : ℕ × TermBody → Term
term_of z = at z.0 z.1
  where
    at : ℕ → TermBody → Term
    at line form.ReturnVoid = term.ReturnVoid line
    at line (form.Return o) = term.Ret line o.ty o.value
    at line (form.Jump target) = term.Br line target
    at line (form.Branch o then_target else_target) = term.CondBr line o.ty o.value then_target else_target
    at line (form.Switch o default cases) = term.Switch line o.ty o.value default cases
    at line form.Unreachable = term.Unreachable line

-- "label" LOCAL
abbrev pub targets : Rule NameUse
targets = LabelWord ▷ local_uses

-- "ret" "void" | "ret" type value
unfoldable pub return_forms : Rule TermBody
return_forms = Ret ▷ either (means Void form.ReturnVoid) (made (λ (o : TypedOperand). form.Return o) typed_operands)

abbrev pub returns : Rule TermBody
returns = within (Ret ∷ []) [] false return_forms

abbrev pub branch_of : TypedOperand × (NameUse × NameUse) → TermBody
branch_of z = form.Branch z.0 z.1.0 z.1.1

-- type value , "label" LOCAL , "label" LOCAL
unfoldable pub conditional_forms : Rule TermBody
conditional_forms = made branch_of (seq typed_operands (seq (Comma ▷ targets) (Comma ▷ targets)))

abbrev pub conditionals : Rule TermBody
conditionals = within type_firsts [] false conditional_forms

-- "br" "label" LOCAL | "br" type value , "label" LOCAL , "label" LOCAL
unfoldable pub branch_forms : Rule TermBody
branch_forms = Br ▷ either (made (λ (target : NameUse). form.Jump target) targets) conditionals

abbrev pub branches : Rule TermBody
branches = within (Br ∷ []) [] false branch_forms

abbrev pub case_of : TextTree × (Literal × NameUse) → Case
case_of z = record { ty = z.0; value = z.1.0; target = z.1.1 }

-- type INT , "label" LOCAL
unfoldable pub case_forms : Rule Case
case_forms = made case_of (seq (types 64) (seq literals (Comma ▷ targets)))

abbrev pub cases : Rule Case
cases = within type_firsts [] false case_forms

abbrev pub switch_of : TypedOperand × (NameUse × List Case) → TermBody
switch_of z = form.Switch z.0 z.1.0 z.1.1

-- "switch" type value , "label" LOCAL [ (type INT , "label" LOCAL)* ]
unfoldable pub switch_forms : Rule TermBody
switch_forms = made switch_of (Switch ▷ seq typed_operands (seq (Comma ▷ targets) (OpenSquare ▷ each cases ◁ CloseSquare)))

abbrev pub switches : Rule TermBody
switches = within (Switch ∷ []) [] false switch_forms

-- a terminator without the metadata behind it
abbrev pub endings : Rule TermBody
endings = either returns (either branches (either switches (means Unreachable form.Unreachable)))

-- term
unfoldable pub term_forms : Rule Term
term_forms = made term_of (lined (ending endings attachments))

-- the first words of terminators
abbrev pub term_firsts : List Class
term_firsts = Ret ∷ Br ∷ Switch ∷ Unreachable ∷ []

abbrev pub terms : Rule Term
terms = within term_firsts (Comma ∷ []) false term_forms
