use Rattle.std.proofs.Common.{rules, ◌≡◌, ℕ, ◌^◌, nat_lt, if◌then◌else◌}
use Rattle.std.specs.Int.Digits.{digits_of}
use Rattle.ir_ident.proofs.NameLemmas.{large_added, on_err, small_added}
use Rattle.ir_ident.specs.NameMaps.{key_value, number_value, small_value}
use Rattle.ir_ident.proofs.number_map.NumberMap.add.Goals as goal

pub returns-in_ok-add_small-in-Small-clause-ok : goal.returns-in_ok-add_small-in-Small-clause-ok
unfolding number_value
returns-in_ok-add_small-in-Small-clause-ok g c = λ n.
    small_added n c.args.number.now c.args.value _ _ _ (search rules) (search rules)

pub returns-in_ok-add_key-in-Large-clause-ok : goal.returns-in_ok-add_key-in-Large-clause-ok
unfolding number_value
returns-in_ok-add_key-in-Large-clause-ok g c = λ n.
    large_added n c.args.number.now c.args.value _ _ _ c.in-Large.bytes.now (search rules) (search rules) (search rules)

pub returns-in_err-add_small-in-Small-clause-err : goal.returns-in_err-add_small-in-Small-clause-err
unfolding number_value
returns-in_err-add_small-in-Small-clause-err g c =
    let same : (n : ℕ) → number_value (record { small = c.add_small.new.numbers; large = c.args.self.now.large }) n ≡ number_value c.args.self.now n =
    λ n i. if nat_lt n (2 ^ 64) then c.in_err-add_small-in-Small.ensures.err n i else key_value c.args.self.now.large (digits_of 10 n) in
    on_err _ same

pub returns-in_err-add_key-in-Large-clause-err : goal.returns-in_err-add_key-in-Large-clause-err
unfolding number_value
returns-in_err-add_key-in-Large-clause-err g c =
    let same : (n : ℕ) → number_value (record { small = c.args.self.now.small; large = c.add_key.new.names }) n ≡ number_value c.args.self.now n =
    λ n i. if nat_lt n (2 ^ 64) then small_value c.args.self.now.small n else c.in_err-add_key-in-Large.ensures.err (digits_of 10 n) i in
    on_err _ same
