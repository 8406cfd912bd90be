use Rattle.std.proofs.Common.{rules, ◌≡◌, ◌∙◌, IfOk, Some, option_map, suc, [], ◌∷◌, ◌++◌, map, ap, subst}
use Rattle.ir_sizes.proofs.ReplacedLemmas.{all_made, fields_behind, one_above, one_more}
use Rattle.ir_sizes.specs.Sized.{fields_by, replaced}
use Rattle.ir_syntax.specs.Types as text
use Rattle.ty_core.specs.Tree.{end, tree_of, types_in}
use Rattle.ir_sizes.proofs.replaced.+replacing.Goals as goal

pub replaced-returns-in-Some : goal.replaced-returns-in-Some
replaced-returns-in-Some t c =
    let above : c.args.levels ≡ suc c.in-Some.below = search rules in
    subst
    (λ of_levels. IfOk c.replaced_type.result (λ tree. option_map tree_of tree ≡ of_levels))
    (one_above c.args.types.now c.args.levels c.in-Some.below (text.tree_of c.args.ty.now) above) c.replaced_type.ensures

pub replaced_fields-loop-rest-preserved : goal.replaced_fields-loop-rest-preserved
replaced_fields-loop-rest-preserved t c =
    let inner = replaced c.args.types.now c.args.levels in
    let node = c.in-More.node.value in
    let is : Some (tree_of c.in-Some.ty) ≡ inner (text.tree_of node.ty) = search rules in
    let items : c.push.new.self.items ≡ c.loop-rest.made.items ++ c.in-Some.ty ∷ [] = search rules in
    let tail : c.deref-in-More.result.now.tail ≡ node.tail = search rules in
    let before : option_map (fields_behind (map tree_of c.loop-rest.made.items)) (fields_by inner (text.more (text.tree_of node.ty) (text.trees_in node.tail)))
    ≡ fields_by inner (text.trees_in c.args.fields.now) = search rules in
    (λ i. option_map (fields_behind (map tree_of (items i))) (fields_by inner (text.trees_in (tail i))))
    ∙ one_more inner c.loop-rest.made.items c.in-Some.ty (text.tree_of node.ty) (text.trees_in node.tail)
    (fields_by inner (text.trees_in c.args.fields.now)) is before

pub replaced_fields-returns : goal.replaced_fields-returns
replaced_fields-returns t c =
    let inner = replaced c.args.types.now c.args.levels in
    let is : types_in c.in_ok-list.list ≡ c.loop-rest.made.items = search rules in
    let whole : Some (fields_behind (map tree_of c.loop-rest.made.items) end) ≡ fields_by inner (text.trees_in c.args.fields.now) = search rules in
    ap (λ fields. Some fields) (all_made c.in_ok-list.list c.loop-rest.made.items is) ∙ whole
