use Rattle.std.proofs.Common.{◌≡◌, sym, ◌∙◌, arith}
use Rattle.std.proofs.lemmas.Int.{ints}
use Rattle.std.proofs.lemmas.Slice.Eq.{bytes_eq-Decides}
use Rattle.std.proofs.lemmas.Bool.{false≢true}
use Rattle.asm_inst.proofs.NumberLemmas.{IsSmall, small_between, spelled_is_text, spelled_parses, written}
use Rattle.asm_inst.proofs.number.read_number.Goals as goal
use Rattle.asm_inst.proofs.number.read_number.Goals.{then-value-lowest-via-then-value-lowest, then-value-lowest-via-else-value-lowest+then-value-highest}

pub returns-in_default : goal.returns-in_default
returns-in_default c = λ z h.
    let small : IsSmall z = small_between c.args.low c.args.high z (omega (arith, ints), omega (arith, ints)) (omega (arith, ints), omega (arith, ints)) h.0 in
    c.in_default.ensures.cases.0 (spelled_is_text _ z small h.1)

pub returns-in_default-parse : goal.returns-in_default-parse
returns-in_default-parse c = λ z h.
    let small : IsSmall z = small_between c.args.low c.args.high z (omega (arith, ints), omega (arith, ints)) (omega (arith, ints), omega (arith, ints)) h.0 in
    let parsed = spelled_parses c.in-Ok.text.now z c.parse.result small (c.in-Ok.ensures.cases.0 ∙ h.1) c.parse.ensures.value.0 in
    cc

pub returns-then-value-lowest : goal.returns-then-value-lowest
returns-then-value-lowest c = λ z h.
    let small : IsSmall z = small_between c.args.low c.args.high z (omega (arith, ints), omega (arith, ints)) (omega (arith, ints), omega (arith, ints)) h.0 in
    let parsed = spelled_parses c.in-Ok.text.now z c.parse.result small (c.in-Ok.ensures.cases.0 ∙ h.1) c.parse.ensures.value.0 in
    let is : c.in-Ok-parse.value ≡ z = cc in
    elim c.then-value-lowest.branch [
      | then-value-lowest-via-then-value-lowest w ↦ omega (arith, ints, h.0, is)
      | then-value-lowest-via-else-value-lowest+then-value-highest w ↦ omega (arith, ints, h.0, is)
    ]

pub returns-else-eq : goal.returns-else-eq
returns-else-eq c = λ z h.
    let small : IsSmall z = small_between c.args.low c.args.high z (omega (arith, ints), omega (arith, ints)) (omega (arith, ints), omega (arith, ints)) h.0 in
    let parsed = spelled_parses c.in-Ok.text.now z c.parse.result small (c.in-Ok.ensures.cases.0 ∙ h.1) c.parse.ensures.value.0 in
    let is : c.in-Ok-parse.value ≡ z = cc in
    let same : c.as_bytes.result.now ≡ c.args.bytes.now = c.as_bytes.ensures.value ∙ c.format.ensures.text ∙ written _ z is small ∙ sym h.1 in
    false≢true (c.if-eq.ensures ∙ (bytes_eq-Decides _ _).1 same)
