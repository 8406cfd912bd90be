use Rattle.ir_names.proofs.SetLemmas.{knows_none}
use Rattle.ir_names.proofs.definitions.Definitions.with_room_for.Goals as goal

pub returns : goal.returns
returns c = λ s.
    knows_none c.in_ok-with_room.field-0 c.in_ok-with_room-2.field-0 c.in_ok-with_room-3.field-0 c.in_ok-with_room-4.field-0
    c.in_ok-with_room.ensures c.in_ok-with_room-2.ensures c.in_ok-with_room-3.ensures c.in_ok-with_room-4.ensures s.0 s.1.name
