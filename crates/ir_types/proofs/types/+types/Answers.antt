use Rattle.std.proofs.Common.{◌++◌, ◌∙◌, ap, refl, rules, sym, Err, Ok}
use Rattle.ir_words.proofs.Numbers.{same_is}
use Rattle.ir_words.specs.declared.class.Class.TheVariants as Classes
use Rattle.ir_rules.specs.Rules.{commas, ◌▷◌}
use Rattle.ir_rules.proofs.Repeats.{appended, begun, each_steps, each_stops, fails_so, word_read}
use Rattle.ir_rules.proofs.Whole.{read_shorter}
use Rattle.ir_rules.proofs.Words.{before_law}
use Rattle.ir_types.specs.Types.{types}
use Rattle.ir_types.proofs.TypeLaws.{types_law}
use Rattle.ir_types.proofs.types.+types.Goals as goal

pub read_types-loop-alloc-smaller : goal.read_types-loop-alloc-smaller
read_types-loop-alloc-smaller t c =
    read_shorter (Classes.Comma ▷ types c.args.depth) (before_law Classes.Comma _ refl refl (types_law c.args.depth)) refl c.loop-alloc.rest (c.in_ok-ty.ty, c.in_ok-ty.after)
    (word_read Classes.Comma (types c.args.depth) c.loop-alloc.rest (Ok (c.in_ok-ty.ty, c.in_ok-ty.after))
    (sym c.first-in-loop-alloc.ensures ∙ same_is _ Classes.Comma (sym c.loop-alloc-test.ensures)) (search rules))

pub read_types-loop-alloc-preserved : goal.read_types-loop-alloc-preserved
read_types-loop-alloc-preserved t c =
    let comma = sym c.first-in-loop-alloc.ensures ∙ same_is _ Classes.Comma (sym c.loop-alloc-test.ensures) in
    each_steps (Classes.Comma ▷ types c.args.depth) (before_law Classes.Comma _ refl refl (types_law c.args.depth)) refl (λ tys. c.loop-alloc.list.items ++ tys)
    (λ tys. c.push-in-loop-alloc.new.self.items ++ tys) c.in_ok-ty.ty c.loop-alloc.rest c.in_ok-ty.after _
    (appended c.loop-alloc.list.items c.push-in-loop-alloc.new.self.items c.in_ok-ty.ty (search rules)) (begun Classes.Comma c.loop-alloc.rest refl comma)
    (word_read Classes.Comma (types c.args.depth) c.loop-alloc.rest (Ok (c.in_ok-ty.ty, c.in_ok-ty.after)) comma (search rules)) c.loop-alloc.invariant

pub read_types-returns-in_err-ty : goal.read_types-returns-in_err-ty
read_types-returns-in_err-ty t c =
    let comma = sym c.first-in-loop-alloc.ensures ∙ same_is _ Classes.Comma (sym c.loop-alloc-test.ensures) in
    fails_so (Unit {0}) (Unit {0}) (λ u. u) (λ x. x) (λ x. x) ((types c.args.depth).read c.skip.result) ((commas (types c.args.depth)).read c.args.rest) c.in_err-ty.field-0.0
    c.from_residual-in_err-ty.result (search rules)
    (λ n r. each_stops (Classes.Comma ▷ types c.args.depth) (before_law Classes.Comma _ refl refl (types_law c.args.depth)) refl (λ tys. c.loop-alloc.list.items ++ tys)
    c.loop-alloc.rest n _ c.loop-alloc.invariant (begun Classes.Comma c.loop-alloc.rest refl comma)
    (word_read Classes.Comma (types c.args.depth) c.loop-alloc.rest (Err n) comma (ap (types c.args.depth).read (sym c.skip.ensures) ∙ r)))
    (search rules)
