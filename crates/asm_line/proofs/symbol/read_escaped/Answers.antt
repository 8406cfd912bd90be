use Rattle.std.proofs.Common.{◌≡◌, ◌<◌, ◌++◌, ℕ, List, [], ◌∷◌, subst, sym, rules}
use Rattle.std.specs.List.{flat_map}
use Rattle.std.proofs.lemmas.List.Elements.{All-push}
use Rattle.rv_isa.specs.Symbol.{AreBytes, escaped}
use Rattle.asm_line.proofs.SymbolLemmas.{GoesOn, goes_on_more, goes_no_further, told_more}
use Rattle.asm_line.proofs.symbol.read_escaped.Goals as goal

pub returns-in_default : goal.returns-in_default
returns-in_default c = goes_no_further _ c.loop-rest.name.items _ (search rules) c.in_default.ensures c.loop-rest.invariant.goes_on

pub loop-rest-preserved : goal.loop-rest-preserved
loop-rest-preserved c =
    let name : List ℕ = c.loop-rest.name.items in
    let inv = c.loop-rest.invariant in
    let read = c.in-Some.ensures in
    let items : name ++ c.in-Some.byte ∷ [] ≡ c.push.new.self.items = sym c.in_ok-push.ensures.items in
    record {
      bytes = subst AreBytes items (All-push (λ b. b < 256) name _ inv.bytes read.0);
      told = subst (λ n. c.args.inner.now ≡ flat_map escaped n ++ c.in-Some.after.now) items (told_more _ name _ _ _ read.1 inv.told);
      goes_on = subst (λ n. GoesOn c.args.inner.now n c.in-Some.after.now) items (goes_on_more _ name _ _ _ read.0 read.1 inv.goes_on);
    }
