-- The edges of the cases of a switch.
use Rattle.std.specs.Prelude.{◌≡◌, ℕ, List}
use Rattle.std.specs.List.{AllZip}
use Rattle.ir_ident.specs.declared.name.Name.{Name}
use Rattle.ir_sem.specs.Addresses.{Loaded}
use Rattle.ir_flow.specs.Edges.{IsEdge}
use Rattle.ir_flow.specs.declared.edge.CaseEdge.{CaseEdge}
use Rattle.ir_syntax.specs.Literals.{wrapped}
use Rattle.ir_syntax.specs.declared.function.Function.{Function}
use Rattle.ir_syntax.specs.declared.term.Case.{Case}

-- the edge of a case whose number has so many bits
abbrev pub IsCase : Loaded → Function → Name → ℕ → Case → CaseEdge → Type 0
IsCase l f from bits c edge = (edge.number ≡ wrapped bits c.value) × IsEdge l f from c.target.name edge.edge

abbrev pub AreCases : Loaded → Function → Name → ℕ → List Case → List CaseEdge → Type 0
AreCases l f from bits cases edges = AllZip (IsCase l f from bits) cases edges
