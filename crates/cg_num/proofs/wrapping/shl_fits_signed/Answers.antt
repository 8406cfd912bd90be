use Rattle.std.proofs.Common.{rules}
use Rattle.cg_num.proofs.ShiftLemmas.{negative_below_half, shifted_below_half}
use Rattle.cg_num.proofs.wrapping.shl_fits_signed.Goals as goal

pub returns-then-a-half : goal.returns-then-a-half
returns-then-a-half c = search (rules, shifted_below_half)

pub returns-else-a-half : goal.returns-else-a-half
returns-else-a-half c = search (rules, negative_below_half)
