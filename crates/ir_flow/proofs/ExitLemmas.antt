-- Exits do what their terminators do.
use Rattle.std.proofs.Common.{◌≡◌, inl, inr, ℕ, Bool, true, false, nat_eq, Option, None, Some, List, if◌then◌else◌, refl, sym, ap, subst}
use Rattle.ir_flow.proofs.CaseLemmas.{cases_lead}
use Rattle.ir_flow.specs.Cases.{AreCases}
use Rattle.ir_flow.specs.Edges.{IsEdge}
use Rattle.ir_flow.specs.Exits.{Goes, IsBranch, IsExit, IsSwitch, branch_way, case_edge, edge_way, switch_way, way}
use Rattle.ir_flow.specs.declared.edge.CaseEdge.{CaseEdge}
use Rattle.ir_flow.specs.declared.edge.Edge.{Edge}
use Rattle.ir_flow.specs.declared.exit.Exit.{Exit}
use Rattle.ir_flow.specs.declared.exit.Exit.TheVariants as exit
use Rattle.ir_ident.specs.declared.name.Name.{Name}
use Rattle.ir_ident.specs.declared.name.NameUse.{NameUse}
use Rattle.ir_sem.specs.Actions.{jump, leave}
use Rattle.ir_sem.specs.Addresses.{Loaded}
use Rattle.ir_sem.specs.Operands.{bits_of}
use Rattle.ir_sem.specs.Terminators.{branched, case_target, switched}
use Rattle.ir_sem.specs.declared.value.Value.{Value}
use Rattle.ir_sem.specs.declared.value.Value.TheVariants.{Number, Poison}
use Rattle.ir_slots.specs.Slots.{slot_names}
use Rattle.ir_slots.specs.Sources.{IsInput, input_value}
use Rattle.ir_slots.specs.declared.input.Input.{Input}
use Rattle.ir_syntax.specs.Types.{TextTree}
use Rattle.ir_syntax.specs.declared.function.Function.{Function}
use Rattle.ir_syntax.specs.declared.operand.Operand.{Operand}
use Rattle.ir_syntax.specs.declared.term.Case.{Case}
use Rattle.ir_syntax.specs.declared.term.Term.TheVariants as term

module _ (l : Loaded) (f : Function) (from : Name) where
  -- an edge is that of a jump
  edge_goes : (label : Name) (edge : Option Edge) → IsEdge l f from label edge → Goes l f from (edge_way edge) (jump label)
  edge_goes label None none = inr (label, refl, none)
  edge_goes label (Some edge) is = (label, refl, is)

  branch_goes : (then_target else_target : NameUse) (then_edge else_edge : Option Edge) (condition : Value) → IsEdge l f from then_target.name then_edge
      → IsEdge l f from else_target.name else_edge → Goes l f from (branch_way then_edge else_edge condition) (branched then_target else_target condition)
  branch_goes then_target else_target then_edge else_edge (Number n) then_is else_is = by (nat_eq n 0)
    where
      by : (zero : Bool) → Goes l f from (edge_way (if zero then else_edge else then_edge)) (jump (if zero then else_target.name else then_target.name))
      by true = edge_goes else_target.name else_edge else_is
      by false = edge_goes then_target.name then_edge then_is
  branch_goes then_target else_target then_edge else_edge Poison then_is else_is = inl refl

  switch_goes : (bits : ℕ) (default : NameUse) (edge : Option Edge) (cases : List Case) (edges : List CaseEdge) (value : Value) → IsEdge l f from default.name edge
      → AreCases l f from bits cases edges → Goes l f from (switch_way edge edges value) (switched bits default cases value)
  switch_goes bits default edge cases edges (Number n) is all =
      edge_goes (case_target bits n default cases).name (case_edge n edge edges) (cases_lead l f from bits n default edge cases edges is all)
  switch_goes bits default edge cases edges Poison is all = inl refl

  pub return_void : (line : ℕ) → IsExit l f from (term.ReturnVoid line) exit.ReturnVoid
  return_void line values = refl

  pub returns_value : (line : ℕ) (ty : TextTree) (value : Operand) (input : Input) → IsInput l (slot_names f) ty value input
      → IsExit l f from (term.Ret line ty value) (exit.Return input)
  returns_value line ty value input is values = ap (λ v. leave (Some v)) (sym (is values))

  pub jumps : (line : ℕ) (target : NameUse) (edge : Option Edge) → IsEdge l f from target.name edge → IsExit l f from (term.Br line target) (exit.Jump edge)
  jumps line target edge is values = edge_goes target.name edge is

  pub branches : (then_target else_target : NameUse) (input : Input) (then_edge else_edge : Option Edge) → IsEdge l f from then_target.name then_edge
      → IsEdge l f from else_target.name else_edge → IsBranch l f from input then_target else_target (exit.Branch input then_edge else_edge)
  branches then_target else_target input then_edge else_edge then_is else_is values =
      branch_goes then_target else_target then_edge else_edge (input_value values input) then_is else_is

  pub branches_on : (line : ℕ) (ty : TextTree) (condition : Operand) (then_target else_target : NameUse) (input : Input) (leaving : Exit)
      → IsInput l (slot_names f) ty condition input → IsBranch l f from input then_target else_target leaving
      → IsExit l f from (term.CondBr line ty condition then_target else_target) leaving
  branches_on line ty condition then_target else_target input leaving is goes values =
      subst (λ v. Goes l f from (way values leaving) (branched then_target else_target v)) (is values) (goes values)

  pub switches : (default : NameUse) (cases : List Case) (input : Input) (edge : Option Edge) (edges : List CaseEdge) → IsEdge l f from default.name edge
      → AreCases l f from input.width cases edges → IsSwitch l f from input default cases (exit.Switch input edge edges)
  switches default cases input edge edges is all values = switch_goes input.width default edge cases edges (input_value values input) is all

  pub switches_on : (line : ℕ) (ty : TextTree) (value : Operand) (default : NameUse) (cases : List Case) (input : Input) (leaving : Exit)
      → IsInput l (slot_names f) ty value input → input.width ≡ bits_of ty → IsSwitch l f from input default cases leaving
      → IsExit l f from (term.Switch line ty value default cases) leaving
  switches_on line ty value default cases input leaving is width goes values =
      subst (λ v. Goes l f from (way values leaving) (switched (bits_of ty) default cases v)) (is values)
      (subst (λ bits. Goes l f from (way values leaving) (switched bits default cases (input_value values input))) width (goes values))

  pub unreachable : (line : ℕ) → IsExit l f from (term.Unreachable line) exit.Unreachable
  unreachable line values = inl refl
