-- How blocks are left.
use Rattle.std.specs.Prelude.{◌≡◌, ◌⊎◌, ℕ, nat_eq, Option, None, Some, List, [], ◌∷◌, if◌then◌else◌}
use Rattle.ir_ident.specs.declared.name.Name.{Name}
use Rattle.ir_ident.specs.declared.name.NameUse.{NameUse}
use Rattle.ir_sem.specs.Actions.{Action, jump, leave, break}
use Rattle.ir_sem.specs.Addresses.{Loaded}
use Rattle.ir_sem.specs.Configs.{block_labelled}
use Rattle.ir_sem.specs.Terminators.{branched, switched, term_action}
use Rattle.ir_sem.specs.declared.value.Value.{Value}
use Rattle.ir_sem.specs.declared.value.Value.TheVariants.{Number, Poison}
use Rattle.ir_flow.specs.Edges.{IsEdge}
use Rattle.ir_flow.specs.declared.edge.Edge.{Edge}
use Rattle.ir_flow.specs.declared.edge.CaseEdge.{CaseEdge}
use Rattle.ir_flow.specs.declared.exit.Exit.{Exit}
use Rattle.ir_flow.specs.declared.exit.Exit.TheVariants.{ReturnVoid, Return, Jump, Branch, Switch, Unreachable}
use Rattle.ir_flow.specs.declared.exit.Turn.{Turn}
use Rattle.ir_flow.specs.declared.exit.Turn.TheVariants.{Back, Along, Nowhere}
use Rattle.ir_slots.specs.Slots.{locals_in, slot_names}
use Rattle.ir_slots.specs.Sources.{input_value}
use Rattle.ir_syntax.specs.declared.function.Function.{Function}
use Rattle.ir_slots.specs.declared.input.Input.{Input}
use Rattle.ir_syntax.specs.declared.term.Case.{Case}
use Rattle.ir_syntax.specs.declared.term.Term.{Term}

-- back to the call with a value or none, along an edge, or nowhere: that is undefined behaviour
pub data Way : Type 0 where
  back : Option Value → Way
  along : Edge → Way
  nowhere : Way

abbrev pub way_of : Turn → Way
way_of (Back value) = back value
way_of (Along edge) = along edge.now
way_of Nowhere = nowhere

abbrev pub edge_way : Option Edge → Way
edge_way None = nowhere
edge_way (Some edge) = along edge

abbrev pub branch_way : Option Edge → Option Edge → Value → Way
branch_way then_edge else_edge (Number condition) = edge_way (if nat_eq condition 0 then else_edge else then_edge)
branch_way then_edge else_edge Poison = nowhere

-- the edge of the first case with a number, or else the default
abbrev pub case_edge : ℕ → Option Edge → List CaseEdge → Option Edge
case_edge n default [] = default
case_edge n default (c ∷ cases) = if nat_eq c.number n then c.edge else case_edge n default cases

abbrev pub switch_way : Option Edge → List CaseEdge → Value → Way
switch_way default cases (Number n) = edge_way (case_edge n default cases)
switch_way default cases Poison = nowhere

-- where an exit leads, where the slots have these values
abbrev pub way : List Value → Exit → Way
way values ReturnVoid = back None
way values (Return value) = back (Some (input_value values value))
way values (Jump edge) = edge_way edge
way values (Branch condition then_edge else_edge) = branch_way then_edge else_edge (input_value values condition)
way values (Switch value default cases) = switch_way default cases (input_value values value)
way values Unreachable = nowhere

-- a way is that of an action from a block
abbrev pub Goes : Loaded → Function → Name → Way → Action → Type 0
Goes l f from (back value) action = action ≡ leave value
Goes l f from (along edge) action = (label : Name) × (action ≡ jump label) × IsEdge l f from label (Some edge)
Goes l f from nowhere action = (action ≡ break) ⊎ ((label : Name) × (action ≡ jump label) × (block_labelled f label ≡ None))

-- an exit does what a terminator does, whatever values the slots have
abbrev pub IsExit : Loaded → Function → Name → Term → Exit → Type 0
IsExit l f from term exit = (values : List Value) → Goes l f from (way values exit) (term_action l (locals_in (slot_names f) values) term)

-- an exit branches on an input
abbrev pub IsBranch : Loaded → Function → Name → Input → NameUse → NameUse → Exit → Type 0
IsBranch l f from condition then_target else_target exit =
    (values : List Value) → Goes l f from (way values exit) (branched then_target else_target (input_value values condition))

-- an exit switches on an input
abbrev pub IsSwitch : Loaded → Function → Name → Input → NameUse → List Case → Exit → Type 0
IsSwitch l f from value default cases exit =
    (values : List Value) → Goes l f from (way values exit) (switched value.width default cases (input_value values value))
