-- Parts of an initialiser are those of their list.
use Rattle.std.proofs.Common.{◌≡◌, refl, ap}
use Rattle.ir_syntax.specs.InitLists.{inits_from, parts_of}
use Rattle.ir_syntax.specs.Inits.{InitTexts, end, more}

pub is_from_its_list : (parts : InitTexts) → inits_from (parts_of parts) ≡ parts
is_from_its_list end = refl
is_from_its_list (more ty init rest) = ap (more ty init) (is_from_its_list rest)
