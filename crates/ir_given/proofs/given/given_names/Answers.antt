use Rattle.std.proofs.Common.{◌≡◌, ◌∙◌, ◌<◌, ◌^◌, ap, arith, length, subst, sym, All, IsTrue, bytes_eq}
use Rattle.std.proofs.lemmas.Result.{IfOk-weaker}
use Rattle.std.specs.List.{IsDistinct}
use Rattle.ir_given.proofs.CountLemmas.{given_count, given_differ, given_free}
use Rattle.ir_given.specs.Given.{given_to, is_free, names_of, names_with}
use Rattle.ir_given.proofs.given.given_names.Goals as goal

same : (c : goal.After-drop-names) → c.as_slice-2.result.now ≡ names_of c.args.m.now
same c = c.as_slice-2.ensures.value ∙ c.in_ok-names.ensures ∙ ap (names_with c.args.m.now) c.as_slice.ensures

small : (c : goal.After-drop-names) → length (names_of c.args.m.now) < 2 ^ 64
small c = omega (arith, ap length (same c), c.as_slice-2.ensures.len)

pub returns-clause-count : goal.returns-clause-count
returns-clause-count c =
    IfOk-weaker c.given_to.result _ _ (λ given is. ap length (is ∙ ap given_to (same c)) ∙ given_count (names_of c.args.m.now) (small c)) c.given_to.ensures

pub returns-clause-differ : goal.returns-clause-differ
returns-clause-differ c =
    IfOk-weaker c.given_to.result _ _ (λ given is. subst (IsDistinct bytes_eq) (sym (is ∙ ap given_to (same c))) (given_differ (names_of c.args.m.now) (small c)))
    c.given_to.ensures

pub returns-clause-free : goal.returns-clause-free
returns-clause-free c =
    IfOk-weaker c.given_to.result _ _ (λ given is. subst (All (λ name. IsTrue (is_free (names_of c.args.m.now) name))) (sym (is ∙ ap given_to (same c)))
    (given_free (names_of c.args.m.now))) c.given_to.ensures
