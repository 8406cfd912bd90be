use Rattle.std.proofs.Common.{◌≡◌, ◌∙◌, ap, arith, length, subst, sym}
use Rattle.ir_ident.specs.NameMaps.{value_of}
use Rattle.ir_sizes.proofs.PassLemmas.{all_extents, no_round, none_measured, none_part, nothing_found, one_more_round}
use Rattle.ir_sizes.specs.Measured.{AreExtents, extents_after}
use Rattle.ir_sizes.specs.Passes.{Below, IsPart, IsPass}
use Rattle.ir_sizes.proofs.rounds.table_of.Goals as goal

pub loop-round-init : goal.loop-round-init
loop-round-init c = record {
  places = c.in_ok-places_of.ensures;
  part = subst (IsPart c.args.defs.now) (sym c.in_ok-no_extents.ensures) (none_part c.args.defs.now);
  rounds = no_round c.args.defs.now c.in_ok-no_extents.field-0.items;
  measured = subst AreExtents (sym c.in_ok-no_extents.ensures) (none_measured (length c.args.defs.now));
}

pub returns-then-not-pass-clause-known : goal.returns-then-not-pass-clause-known
returns-then-not-pass-clause-known c = (
  nothing_found c.args.defs.now c.loop-round.table.extents.items c.pass.new.table.extents.items c.pass.ensures.part
      (subst (IsPass c.args.defs.now c.loop-round.table.extents.items c.pass.new.table.extents.items) c.if-not-pass.true c.pass.ensures.pass),
  λ name. ap (λ p. value_of p name) c.pass.ensures.places ∙ c.loop-round.invariant.places name,
)

pub loop-round-preserved : goal.loop-round-preserved
loop-round-preserved c = record {
  places = λ name. ap (λ p. value_of p name) c.pass.ensures.places ∙ c.loop-round.invariant.places name;
  part = c.pass.ensures.part;
  rounds = one_more_round c.args.defs.now c.loop-round.table.extents.items c.pass.new.table.extents.items c.pass.result c.loop-round.round
      c.loop-round.invariant.rounds c.pass.ensures.pass;
  measured = c.pass.ensures.measured;
}

pub returns-clause-known : goal.returns-clause-known
returns-clause-known c =
    let last : c.loop-round.round ≡ 64 = omega arith in (
      all_extents c.args.defs.now c.loop-round.table.extents.items c.loop-round.invariant.part
          (subst (λ n. Below (extents_after c.args.defs.now n) c.loop-round.table.extents.items) last c.loop-round.invariant.rounds),
      c.loop-round.invariant.places,
    )
