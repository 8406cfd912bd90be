-- What a terminator, and the phis of a block, are about to do (LangRef, "Terminator Instructions" and "'phi' Instruction").
use Rattle.std.specs.Prelude.{ℕ, nat_eq, Option, None, Some, List, [], ◌∷◌, find, map, if◌then◌else◌}
use Rattle.std.specs.Option.{option_map_or}
use Rattle.ir_ident.specs.Names.{same_name}
use Rattle.ir_ident.specs.declared.name.Name.{Name}
use Rattle.ir_ident.specs.declared.name.NameUse.{NameUse}
use Rattle.ir_sem.specs.Actions.{Action, assign, jump, leave, break}
use Rattle.ir_sem.specs.Addresses.{Loaded}
use Rattle.ir_sem.specs.Locals.{Locals}
use Rattle.ir_sem.specs.Operands.{bits_of, operand_value}
use Rattle.ir_sem.specs.declared.value.Value.{Value}
use Rattle.ir_sem.specs.declared.value.Value.TheVariants.{Number, Poison}
use Rattle.ir_syntax.specs.Literals.{wrapped}
use Rattle.ir_syntax.specs.declared.phi.Phi.{Phi}
use Rattle.ir_syntax.specs.declared.phi.PhiEntry.{PhiEntry}
use Rattle.ir_syntax.specs.declared.term.Case.{Case}
use Rattle.ir_syntax.specs.declared.term.Term.{Term}
use Rattle.ir_syntax.specs.declared.term.Term.TheVariants.{ReturnVoid, Ret, Br, CondBr, Switch, Unreachable}

abbrev pub branched : NameUse → NameUse → Value → Action
branched then_target else_target (Number condition) = jump (if nat_eq condition 0 then else_target.name else then_target.name)
branched then_target else_target Poison = break

-- the target of the first case with a number, or else the default
abbrev pub case_target : ℕ → ℕ → NameUse → List Case → NameUse
case_target bits n default [] = default
case_target bits n default (c ∷ cases) = if nat_eq (wrapped bits c.value) n then c.target else case_target bits n default cases

abbrev pub switched : ℕ → NameUse → List Case → Value → Action
switched bits default cases (Number n) = jump (case_target bits n default cases).name
switched bits default cases Poison = break

abbrev pub term_action : Loaded → Locals → Term → Action
term_action l locals (ReturnVoid line) = leave None
term_action l locals (Ret line ty value) = leave (Some (operand_value l locals ty value))
term_action l locals (Br line target) = jump target.name
term_action l locals (CondBr line ty condition then_target else_target) =
    branched then_target else_target (operand_value l locals ty condition)
term_action l locals (Switch line ty value default cases) =
    switched (bits_of ty) default cases (operand_value l locals ty value)
term_action l locals (Unreachable line) = break

-- the entry of the block that a run comes from
abbrev pub entry_from : Name → List PhiEntry → Option PhiEntry
entry_from from entries = find (λ (entry : PhiEntry). same_name entry.block.name from) entries

abbrev pub phi_value : Loaded → Locals → Name → Phi → Value
phi_value l locals from phi = option_map_or (λ (entry : PhiEntry). operand_value l locals phi.ty entry.value) (entry_from from phi.entries) Poison

-- all phis of a block take their values at once
abbrev pub phis_action : Loaded → Locals → Name → List Phi → Action
phis_action l locals from phis = assign (map (λ (phi : Phi). phi.result) phis) (map (phi_value l locals from) phis)
