-- Functions, declared and defined (LangRef, "Functions").
use Rattle.std.specs.Prelude.{ℕ, Option, Some, None, List, [], ◌∷◌, true, false}
use Rattle.ir_syntax.specs.declared.block.Block.{Block}
use Rattle.ir_syntax.specs.declared.function.Function.{Function}
use Rattle.ir_syntax.specs.declared.linkage.Linkage.{Linkage}
use Rattle.ir_syntax.specs.declared.linkage.Linkage.TheVariants as link
use Rattle.ir_words.specs.declared.class.Class.{Class}
use Rattle.ir_words.specs.declared.class.Class.TheVariants as class
use Rattle.ir_rules.specs.Leaves.{ending, leading, lined}
use Rattle.ir_rules.specs.Rules.{Rule, ◌▷◌, ◌◁◌, dropped, each, made, option, seq, within, word}
use Rattle.ir_attributes.specs.Attributes.{attachment}
use Rattle.ir_body.specs.Blocks.{block_firsts, blocks}
use Rattle.ir_globals.specs.Heads.{linkage, visibility}
use Rattle.ir_entities.specs.declared.entity.Entity.{Entity}
use Rattle.ir_entities.specs.declared.entity.Entity.TheVariants as entity
use Rattle.ir_functions.specs.declared.opening.Opening.{Opening}
use Rattle.ir_prototypes.specs.Prototypes.{Signature, declared_end_firsts, declared_ends, declared_signatures, defined_ends, defined_signatures, params, signature_of}

-- first block*
abbrev pub block_lists : Rule (List Block)
block_lists = made (λ (z : Block × List Block). z.0 ∷ z.1) (seq (blocks true) (each (blocks false)))

-- first block* }
unfoldable pub closed_block_forms : Rule (List Block)
closed_block_forms = block_lists ◁ class.CloseCurly

abbrev pub closed_blocks : Rule (List Block)
closed_blocks = within block_firsts [] false closed_block_forms

abbrev pub function_of : ℕ → Linkage → Signature → Option (List Block) → Function
function_of line linkage s blocks = record {
  line = line;
  place = 0;
  name = s.1.1.0.name;
  name_line = s.1.1.0.line;
  linkage = linkage;
  visibility = s.0;
  result = s.1.0;
  params = s.1.1.1;
  blocks = blocks;
}

abbrev pub declaration_of : ℕ × Signature → Option Entity
declaration_of z = Some (entity.Function (function_of z.0 link.External z.1 None))

-- "declare" (META META)* ["external"] pre* attr* rtype GLOBAL ( param,* ) dsuf*
unfoldable pub declaration_forms : Rule (Option Entity)
declaration_forms = made declaration_of (lined (class.Declare ▷ leading (dropped attachment)
    (leading (option (word class.External)) (ending declared_signatures (dropped declared_ends)))))

abbrev pub suffix_flast : List Class
suffix_flast = class.OpenRound ∷ class.Equal ∷ declared_end_firsts

abbrev pub declarations : Rule (Option Entity)
declarations = within (class.Declare ∷ []) suffix_flast false declaration_forms

-- what a definition says before its blocks, on the line of "define"
abbrev pub OpeningParts : Type 0
OpeningParts = ℕ × (Linkage × Signature)

-- what is kept of it in code, as it is here
abbrev pub opening_parts : Opening → OpeningParts
opening_parts o = (o.line, (o.linkage, signature_of o.prototype))

-- "define" [linkage] pre* attr* rtype GLOBAL ( param,* ) fsuf* {
unfoldable pub opening_forms : Rule OpeningParts
opening_forms = lined (class.Define ▷ seq linkage (ending defined_signatures (dropped defined_ends) ◁ class.OpenCurly))

abbrev pub openings : Rule OpeningParts
openings = within (class.Define ∷ []) [] false opening_forms

abbrev pub definition_of : OpeningParts × List Block → Option Entity
definition_of z = Some (entity.Function (function_of z.0.0 z.0.1.0 z.0.1.1 (Some z.1)))

-- "define" [linkage] pre* attr* rtype GLOBAL ( param,* ) fsuf* { first block* }
unfoldable pub definition_forms : Rule (Option Entity)
definition_forms = made definition_of (seq openings closed_blocks)

abbrev pub definitions : Rule (Option Entity)
definitions = within (class.Define ∷ []) [] false definition_forms
