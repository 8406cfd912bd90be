use Rattle.std.proofs.Common.{◌<◌, arith, Contains, filter, length, List, subst, sym}
use Rattle.std.proofs.lemmas.List.Elements.{All-contains, Contains-get_or}
use Rattle.ir_syntax.specs.declared.function.Function.{Function}
use Rattle.cg_built.specs.Built.{IsBuiltFunction}
use Rattle.cg_built.specs.Definitions.{has_body}
use Rattle.cg_part.proofs.LinkingLists.{among_passing}
use Rattle.cg_part.proofs.Items.{items_more}
use Rattle.cg_part.proofs.text.push_functions.Goals as goal

pub push_definition-requires : goal.push_definition-requires
push_definition-requires c = λ defined.
    (let functions : List Function = c.args.functions.now in
    let inside : c.loop-function.function-index < length functions = omega arith in
    let among : Contains functions c.function-item.result =
    subst (λ f. Contains functions f) (sym c.function-item.is)
    (Contains-get_or functions c.loop-function.function-index c.function-item.result inside) in
    All-contains IsBuiltFunction (filter has_body functions) c.function-item.result c.requires
    (among_passing has_body functions c.function-item.result among defined))

pub loop-function-preserved : goal.loop-function-preserved
loop-function-preserved c =
    let inside : c.loop-function.function-index < length c.args.functions.now = omega arith in
    items_more _ _ _ c.args.functions.now c.loop-function.function-index _ inside c.loop-function.invariant c.function-item.is
    c.in_ok-push_definition.ensures
