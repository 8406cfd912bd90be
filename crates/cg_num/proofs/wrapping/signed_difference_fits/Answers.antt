use Rattle.std.proofs.Common.{rules}
use Rattle.cg_num.proofs.SignLemmas.{fits_no_width}
use Rattle.cg_num.proofs.wrapping.signed_difference_fits.Goals as goal

pub returns-in-None : goal.returns-in-None
returns-in-None c = search (rules, fits_no_width)
