use Rattle.std.proofs.Common.{◌≡◌, ◌∙◌, Some, None, ap, nat_lt, rules, sym}
use Rattle.std.specs.List.{list_any, sum, sum_by}
use Rattle.ir_check.proofs.SizeLemmas.{above-same, first-arm, last-arm, second-arm, total-same}
use Rattle.ir_cfg.specs.Capped.{capped}
use Rattle.ir_cfg.specs.Sizes.{function_size}
use Rattle.ir_syntax.specs.declared.refusal.Count.TheVariants.{Instructions, OneFunction}
use Rattle.ir_check.proofs.limits.exceeded_reachable_size.Goals as goal

pub returns-then-is_any_above : goal.returns-then-is_any_above
returns-then-is_any_above c =
    let long : c.is_any_above.result ≡ list_any (λ f. nat_lt 65536 (function_size f)) c.args.functions.now =
    c.is_any_above.ensures ∙ ap (list_any (nat_lt 65536)) (c.as_slice.ensures.value ∙ c.in_ok-sizes.ensures) ∙ above-same function_size c.args.functions.now in
    first-arm _ _ (Some OneFunction) (Some Instructions) None (sym long ∙ c.if-is_any_above.true)

pub returns-then-total_size-gt-TOTAL_LIMIT : goal.returns-then-total_size-gt-TOTAL_LIMIT
returns-then-total_size-gt-TOTAL_LIMIT c =
    let long : c.is_any_above.result ≡ list_any (λ f. nat_lt 65536 (function_size f)) c.args.functions.now =
    c.is_any_above.ensures ∙ ap (list_any (nat_lt 65536)) (c.as_slice.ensures.value ∙ c.in_ok-sizes.ensures) ∙ above-same function_size c.args.functions.now in
    let total : nat_lt 262144 c.total_size.result ≡ nat_lt 262144 (sum_by function_size c.args.functions.now) =
    ap (nat_lt 262144) (c.total_size.ensures ∙ ap (λ sizes. capped (sum sizes)) (c.as_slice-2.ensures.value ∙ c.in_ok-sizes.ensures)) ∙ total-same function_size c.args.functions.now in
    second-arm _ _ (Some OneFunction) (Some Instructions) None (sym long ∙ c.if-is_any_above.false) (sym total ∙ search rules)

pub returns : goal.returns
returns c =
    let long : c.is_any_above.result ≡ list_any (λ f. nat_lt 65536 (function_size f)) c.args.functions.now =
    c.is_any_above.ensures ∙ ap (list_any (nat_lt 65536)) (c.as_slice.ensures.value ∙ c.in_ok-sizes.ensures) ∙ above-same function_size c.args.functions.now in
    let total : nat_lt 262144 c.total_size.result ≡ nat_lt 262144 (sum_by function_size c.args.functions.now) =
    ap (nat_lt 262144) (c.total_size.ensures ∙ ap (λ sizes. capped (sum sizes)) (c.as_slice-2.ensures.value ∙ c.in_ok-sizes.ensures)) ∙ total-same function_size c.args.functions.now in
    last-arm _ _ (Some OneFunction) (Some Instructions) None (sym long ∙ c.if-is_any_above.false) (sym total ∙ search rules)
