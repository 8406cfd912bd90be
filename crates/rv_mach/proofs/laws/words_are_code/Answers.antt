use Rattle.rv_mach.proofs.Fetching.{words_have_code}
use Rattle.rv_mach.proofs.laws.words_are_code.Goals as goal

pub returns : goal.returns
returns c = words_have_code
