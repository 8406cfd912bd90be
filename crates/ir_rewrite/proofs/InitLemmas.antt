-- Parts of an initialiser are those of their list.
use Rattle.std.proofs.Common.{◌≡◌, ◌∙◌, ap, sym}
use Rattle.ir_syntax.proofs.Parts.{is_from_its_list}
use Rattle.ir_syntax.specs.InitLists.{inits_from, parts_of}
use Rattle.ir_syntax.specs.Inits.{InitTexts}

pub same_if_same_list : (a b : InitTexts) → parts_of a ≡ parts_of b → a ≡ b
same_if_same_list a b same = sym (is_from_its_list a) ∙ ap inits_from same ∙ is_from_its_list b
