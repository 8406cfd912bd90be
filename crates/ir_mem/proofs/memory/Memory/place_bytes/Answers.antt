use Rattle.std.proofs.Common.{◌∙◌, ◌≤◌, List, ap, insert, is_ok, if◌then◌else◌, length, subst, sym}
use Rattle.ir_mem.proofs.ChangeLemmas.{block_placed, block_stays}
use Rattle.ir_mem.proofs.LastLemmas.{IsBegun}
use Rattle.ir_mem.specs.Placing.{can_place, placed}
use Rattle.ir_mem.specs.declared.block.Block.{Block}
use Rattle.ir_mem.proofs.memory.Memory.place_bytes.Goals.{Joined-insert-2, in-Err, in-Ok}
use Rattle.ir_mem.proofs.memory.Memory.place_bytes.Goals as goal

abbrev new : (c : Joined-insert-2) → Block
new c = record { base = c.args.at; bytes = c.from_vec-bytes.result; writable = c.args.writable }

upto : (c : Joined-insert-2) → c.begun-place.result ≤ length c.self.inside.blocks.items
upto c = subst (λ (blocks : List Block). c.begun-place.result ≤ length blocks) c.as_slice-2.ensures.value c.begun-place.ensures.bound

cut : (c : Joined-insert-2) → IsBegun c.self.inside.blocks.items c.args.at c.begun-place.result
cut c = subst (λ (blocks : List Block). IsBegun blocks c.args.at c.begun-place.result) c.as_slice-2.ensures.value c.begun-place.ensures.cut

pub invariant_of-self : goal.invariant_of-self
invariant_of-self c =
    block_stays (is_ok c.insert.result) c.self.inside.blocks.items c.insert.new.self.items c.self.invariant (new c) c.args.align c.begun-place.result
    (upto c) (cut c)
    (ap (λ size. can_place c.self.inside.blocks.items c.args.at size c.args.align) (sym c.len.ensures)
    ∙ ap (λ blocks. can_place blocks c.args.at c.len.result c.args.align) (sym c.as_slice.ensures.value)
    ∙ sym c.can_place.ensures ∙ c.if-not-can_place.false)
    c.insert.ensures.items

pub returns-clause-ok : goal.returns-clause-ok
returns-clause-ok c = elim c.match-insert.branch [
  | in-Ok w ↦
      rw w.result-is
      (block_placed c.self.inside.blocks.items c.insert.new.self.items (new c) c.begun-place.result (upto c) (cut c)
      (c.insert.ensures.items ∙ ap (λ r. if is_ok r then insert c.self.inside.blocks.items c.begun-place.result (new c) else c.self.inside.blocks.items) w.in-Ok.is)
      ∙ ap (λ bytes. placed (record { base = c.args.at; bytes = bytes; writable = c.args.writable }) c.self.inside.blocks.items) c.from_vec-bytes.ensures
      ∙ ap (placed (record { base = c.args.at; bytes = c.args.bytes.items; writable = c.args.writable })) c.self.view_is)
  | in-Err w ↦ rw w.result-is tt
]
