use Rattle.std.proofs.Common.{◌≡◌, ◌∙◌, ◌≤◌, true, List, ap, insert, is_ok, if◌then◌else◌, length, subst, sym}
use Rattle.ir_mem.proofs.ChangeLemmas.{insert_placed, insert_stays}
use Rattle.ir_mem.proofs.LastLemmas.{IsBegun}
use Rattle.ir_mem.specs.Placing.{can_place, fresh, placed}
use Rattle.ir_mem.specs.declared.block.Block.{Block}
use Rattle.ir_mem.proofs.memory.Memory.place.Goals.{Joined-insert-2, in-Err, in-Ok-insert}
use Rattle.ir_mem.proofs.memory.Memory.place.Goals as goal

upto : (c : Joined-insert-2) → c.begun-place.result ≤ length c.self.inside.blocks.items
upto c = subst (λ (blocks : List Block). c.begun-place.result ≤ length blocks) c.as_slice-2.ensures.value c.begun-place.ensures.bound

cut : (c : Joined-insert-2) → IsBegun c.self.inside.blocks.items c.args.at c.begun-place.result
cut c = subst (λ (blocks : List Block). IsBegun blocks c.args.at c.begun-place.result) c.as_slice-2.ensures.value c.begun-place.ensures.cut

free : (c : Joined-insert-2) → can_place c.self.inside.blocks.items c.args.at c.args.size c.args.align ≡ true
free c =
    ap (λ blocks. can_place blocks c.args.at c.args.size c.args.align) (sym c.as_slice.ensures.value) ∙ sym c.can_place.ensures ∙ c.if-not-can_place.false

pub invariant_of-self : goal.invariant_of-self
invariant_of-self c =
    insert_stays (is_ok c.insert.result) c.self.inside.blocks.items c.insert.new.self.items c.self.invariant c.args.at c.args.size c.args.align c.args.fill
    c.begun-place.result c.in-Ok.bytes c.in-Ok.ensures (upto c) (cut c) (free c) c.insert.ensures.items

pub returns-clause-ok : goal.returns-clause-ok
returns-clause-ok c = elim c.match-insert.branch [
  | in-Ok-insert w ↦
      rw w.result-is
      (insert_placed c.self.inside.blocks.items c.insert.new.self.items c.args.at c.args.size c.args.fill c.begun-place.result c.in-Ok.bytes c.in-Ok.ensures
      (upto c) (cut c)
      (c.insert.ensures.items
      ∙ ap (λ r. if is_ok r then insert c.self.inside.blocks.items c.begun-place.result (record { base = c.args.at; bytes = c.in-Ok.bytes; writable = true }) else c.self.inside.blocks.items)
      w.in-Ok-insert.is)
      ∙ ap (placed (fresh c.args.at c.args.size c.args.fill)) c.self.view_is)
  | in-Err w ↦ rw w.result-is tt
]
