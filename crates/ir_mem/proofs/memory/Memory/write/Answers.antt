use Rattle.std.proofs.Common.{◌≡◌, ◌∙◌, false, refl, None, ap, length, subst, sym}
use Rattle.std.specs.Option.{option_map_or}
use Rattle.ir_mem.proofs.ChangeLemmas.{bytes_stored, found, found_writable}
use Rattle.ir_mem.proofs.FindLemmas.{none_found, nothing_stored}
use Rattle.ir_mem.proofs.StayLemmas.{stored_stays}
use Rattle.ir_mem.specs.Memory.{IsMemory, block_at, holds, stored}
use Rattle.ir_mem.specs.declared.block.Block.{Block}
use Rattle.ir_mem.proofs.memory.Memory.write.Goals as goal

pub returns-in_err-place-clause-stored : goal.returns-in_err-place-clause-stored
returns-in_err-place-clause-stored c =
    let bytes = c.args.bytes.now in
    let none : block_at c.as_slice.result.now c.args.at (length bytes) ≡ None =
    c.in_err-place.ensures.none in
    let none' : block_at c.args.self.now c.args.at (length bytes) ≡ None =
    ap (λ blocks. block_at blocks c.args.at (length bytes)) (sym c.self.view_is ∙ sym c.as_slice.ensures.value)
    ∙ none in
    sym (nothing_stored c.args.at bytes c.args.self.now (none_found (holds c.args.at (length bytes)) c.args.self.now none'))

pub invariant_of-self : goal.invariant_of-self
invariant_of-self c =
    let blocks = c.self.inside.blocks.items in
    let bytes = c.args.bytes.now in
    let block = c.index_mut.result.now in
    let held = c.in_ok-place.ensures.held in
    let is =
    found c.as_slice.result.now blocks c.as_slice.ensures.value c.self.invariant c.args.at (length bytes) c.in_ok-place.place block c.requires
    c.in_ok-place.ensures.bound held c.index_mut.ensures.value in
    subst IsMemory
    (sym (bytes_stored blocks c.args.at (length bytes) c.in_ok-place.place bytes refl block c.put_bytes.new.block is c.put_bytes.ensures.put))
    (stored_stays c.args.at bytes blocks c.self.invariant)

pub returns-clause-found : goal.returns-clause-found
returns-clause-found c =
    let blocks = c.self.inside.blocks.items in
    let bytes = c.args.bytes.now in
    let block = c.index_mut.result.now in
    let held = c.in_ok-place.ensures.held in
    let is =
    found c.as_slice.result.now blocks c.as_slice.ensures.value c.self.invariant c.args.at (length bytes) c.in_ok-place.place block c.requires
    c.in_ok-place.ensures.bound held c.index_mut.ensures.value in
    c.put_bytes.ensures.found
    ∙ found_writable blocks c.args.at (length bytes) c.in_ok-place.place block is
    ∙ ap (λ bs. option_map_or (λ (b : Block). b.writable) (block_at bs c.args.at (length bytes)) false) c.self.view_is

pub returns-clause-stored : goal.returns-clause-stored
returns-clause-stored c =
    let blocks = c.self.inside.blocks.items in
    let bytes = c.args.bytes.now in
    let block = c.index_mut.result.now in
    let held = c.in_ok-place.ensures.held in
    let is =
    found c.as_slice.result.now blocks c.as_slice.ensures.value c.self.invariant c.args.at (length bytes) c.in_ok-place.place block c.requires
    c.in_ok-place.ensures.bound held c.index_mut.ensures.value in
    bytes_stored blocks c.args.at (length bytes) c.in_ok-place.place bytes refl block c.put_bytes.new.block is c.put_bytes.ensures.put
    ∙ ap (stored c.args.at bytes) c.self.view_is
