use Rattle.std.proofs.Common.{rules, refl, ◌≡◌, ◌∙◌, ap, sym}
use Rattle.ty_core.specs.Tree.{tree_of, trees_of}
use Rattle.ty_core.specs.Size.{layout_of, end_of}
use Rattle.ty_core.proofs.Alignments.{one_is_least}
use Rattle.ty_core.proofs.Ends.{is_too_big}
use Rattle.ty_core.proofs.measure.+measure.Goals as goal

pub struct_layout-loop-rest-init : goal.struct_layout-loop-rest-init
struct_layout-loop-rest-init t c = record {
  ends = refl;
  aligned = one_is_least (trees_of c.args.fields.now);
  within = refl;
  small = search rules;
  aligns = search rules;
  shorter = search rules;
}

pub struct_layout-returns-in_err-end-clause-too_big : goal.struct_layout-returns-in_err-end-clause-too_big
struct_layout-returns-in_err-end-clause-too_big t c =
    let field : c.in_ok-field.field ≡ layout_of (tree_of c.in-More.head.value) =
    c.in_ok-field.ensures.ok ∙ ap (λ ty. layout_of (tree_of ty)) c.deref.ensures in
    let same = ap (λ list. end_of c.args.packed c.loop-rest.end (trees_of list)) (sym c.in-More.is) ∙ c.loop-rest.invariant.ends in
    let big = is_too_big c.args.packed (trees_of c.args.fields.now) (tree_of c.in-More.head.value) (trees_of c.in-More.tail.value)
    c.loop-rest.end c.in_ok-field.field field c.in_err-end.ensures.too_big same in
    search (rules, big)
