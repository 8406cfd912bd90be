use Rattle.std.proofs.Common.{◌++◌}
use Rattle.ir_rules.proofs.Sets.{in_either}
use Rattle.ir_calls.specs.Calls.{convention_firsts}
use Rattle.ir_globals.specs.Heads.{address_firsts, style_firsts}
use Rattle.ir_globals.proofs.heads.is_mark.Goals as goal

pub returns : goal.returns
returns c = in_either (style_firsts ++ address_firsts) convention_firsts c.args.class _ _ c.is_style_or_address.ensures c.is_convention.ensures
