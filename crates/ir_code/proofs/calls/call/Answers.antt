use Rattle.std.proofs.Common.{rules, ◌≡◌, ◌∙◌, None, Some, List, length, slice_get, refl, ap, sym}
use Rattle.std.proofs.lemmas.Option.{slice_get_past, slice_get_read}
use Rattle.ir_code.proofs.CallLemmas.{callee_at, declared_callee}
use Rattle.ir_code.specs.Prepared.{arguments_in}
use Rattle.ir_ident.specs.Names.{name_bytes}
use Rattle.ir_loaded.specs.Pairs.{loaded}
use Rattle.ir_sem.specs.Instructions.{callee, callee_action}
use Rattle.ir_sem.specs.Intrinsics.{declared_action}
use Rattle.ir_slots.specs.Slots.{slot_names}
use Rattle.ir_syntax.specs.declared.function.Function.{Function}
use Rattle.ir_code.proofs.calls.call.Goals as goal

pub returns-in-None : goal.returns-in-None
returns-in-None c = λ values blocks.
    let l = loaded c.args.l.now in
    let functions = c.as_slice.result.now in
    let same : functions ≡ l.text.functions = search rules in
    let there : slice_get l.text.functions c.in-Some.place ≡ None =
    ap (λ (fs : List Function). slice_get fs c.in-Some.place) (sym same) ∙ slice_get_past functions c.in-Some.place c.in-None.ensures.lookup.3 in
    let called : c.called_function.result ≡ Some c.in-Some.place = search rules in
    let none : callee l c.args.name.now ≡ None = callee_at l c.args.name.now c.called_function.result c.in-Some.place None (search rules) called there in
    ap (λ f. callee_action blocks f (arguments_in l (slot_names c.args.slots.now) values c.args.args.now)) none

pub returns-in-Some-2 : goal.returns-in-Some-2
returns-in-Some-2 c = λ values blocks.
    let l = loaded c.args.l.now in
    let functions = c.as_slice.result.now in
    let f = c.in-Some-2.function.now in
    let arguments = arguments_in l (slot_names c.args.slots.now) values c.args.args.now in
    let same : functions ≡ l.text.functions = search rules in
    let there : slice_get l.text.functions c.in-Some.place ≡ Some f =
    ap (λ (fs : List Function). slice_get fs c.in-Some.place) (sym same)
    ∙ slice_get_read functions (length functions) c.in-Some.place f refl c.in-Some-2.ensures.lookup.3.0 c.in-Some-2.ensures.lookup.1 in
    let called : c.called_function.result ≡ Some c.in-Some.place = search rules in
    let some : callee l c.args.name.now ≡ Some f = callee_at l c.args.name.now c.called_function.result c.in-Some.place (Some f) (search rules) called there in
    let bytes : c.bytes_of.result.now ≡ name_bytes f.name = search rules in
    ap (λ found. callee_action blocks found arguments) some
    ∙ declared_callee blocks f arguments (search rules)
    ∙ ap (λ name. declared_action blocks name arguments) (sym bytes)
    ∙ c.declared.ensures values blocks
