-- The edges of cases, and the one that a number takes.
use Rattle.std.proofs.Common.{◌≡◌, ◌∙◌, ℕ, Bool, true, false, nat_eq, Option, ◌+◌, ◌<◌, length, take, get_or, List, [], ◌∷◌, ◌++◌, if◌then◌else◌, sym, ap, subst}
use Rattle.std.proofs.lemmas.List.{take_more}
use Rattle.std.specs.List.{AllZip}
use Rattle.ir_flow.specs.Cases.{AreCases, IsCase}
use Rattle.ir_flow.specs.Edges.{IsEdge}
use Rattle.ir_flow.specs.Exits.{case_edge}
use Rattle.ir_flow.specs.declared.edge.CaseEdge.{CaseEdge}
use Rattle.ir_flow.specs.declared.edge.Edge.{Edge}
use Rattle.ir_ident.specs.declared.name.Name.{Name}
use Rattle.ir_ident.specs.declared.name.NameUse.{NameUse}
use Rattle.ir_sem.specs.Addresses.{Loaded}
use Rattle.ir_sem.specs.Terminators.{case_target}
use Rattle.ir_syntax.specs.Literals.{wrapped}
use Rattle.ir_syntax.specs.declared.function.Function.{Function}
use Rattle.ir_syntax.specs.declared.term.Case.{Case}

-- one more of two lists
pub zip_more : {A B : Type 0} (R : A → B → Type 0) (xs : List A) (ys : List B) (x : A) (y : B) → AllZip R xs ys → R x y → AllZip R (xs ++ x ∷ []) (ys ++ y ∷ [])
zip_more R [] [] x y all one = (one, tt)
zip_more R [] (z ∷ ys) x y all one = absurd all
zip_more R (z ∷ xs) [] x y all one = absurd all
zip_more R (w ∷ xs) (z ∷ ys) x y (first, rest) one = (first, zip_more R xs ys x y rest one)

-- the edge of a number's case is that to the target of the case
pub cases_lead : (l : Loaded) (f : Function) (from : Name) (bits n : ℕ) (default : NameUse) (edge : Option Edge) (cases : List Case) (edges : List CaseEdge)
    → IsEdge l f from default.name edge → AreCases l f from bits cases edges → IsEdge l f from (case_target bits n default cases).name (case_edge n edge edges)
cases_lead l f from bits n default edge [] [] is all = is
cases_lead l f from bits n default edge [] (e ∷ edges) is all = absurd all
cases_lead l f from bits n default edge (c ∷ cases) [] is all = absurd all
cases_lead l f from bits n default edge (c ∷ cases) (e ∷ edges) is ((number, leads), rest) =
    subst (λ t. IsEdge l f from (case_target bits n default (c ∷ cases)).name (if t then e.edge else case_edge n edge edges)) (ap (λ k. nat_eq k n) (sym number))
    (by (nat_eq (wrapped bits c.value) n) (cases_lead l f from bits n default edge cases edges is rest))
  where
    by : (here : Bool) → IsEdge l f from (case_target bits n default cases).name (case_edge n edge edges)
        → IsEdge l f from (if here then c.target else case_target bits n default cases).name (if here then e.edge else case_edge n edge edges)
    by true later = leads
    by false later = later

-- the edge of one more case
pub cases_more : (l : Loaded) (f : Function) (from : Name) (bits : ℕ) (cases : List Case) (i : ℕ) (c : Case) (edges : List CaseEdge) (edge : CaseEdge) → i < length cases
    → c ≡ get_or cases i c → AreCases l f from bits (take i cases) edges → IsCase l f from bits c edge → AreCases l f from bits (take (i + 1) cases) (edges ++ edge ∷ [])
cases_more l f from bits cases i c edges edge inside is before one =
    subst (λ cases. AreCases l f from bits cases (edges ++ edge ∷ [])) (ap (λ x. take i cases ++ x ∷ []) is ∙ sym (take_more cases i c inside))
    (zip_more (IsCase l f from bits) (take i cases) edges c edge before one)
