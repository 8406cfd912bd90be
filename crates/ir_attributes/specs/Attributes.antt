-- Attributes, of which an alignment alone is kept (LangRef, "Parameter Attributes", "Function
-- Attributes" and "Attribute Groups").
use Rattle.std.specs.Prelude.{ℕ, ◌^◌, ◌||◌, nat_lt, Option, Some, None, List, [], ◌∷◌, false, true, fold, if◌then◌else◌}
use Rattle.ir_syntax.specs.declared.literal.Literal.{Literal}
use Rattle.ir_words.specs.declared.class.Class.{Class}
use Rattle.ir_words.specs.declared.class.Class.TheVariants.{Align, Attribute, Attr, Comma, Equal, Meta, OpenRound, Str}
use Rattle.ir_rules.specs.Balance.{enclosed}
use Rattle.ir_rules.specs.Leaves.{means}
use Rattle.ir_rules.specs.declared.bracket.Bracket.TheVariants.{Round}
use Rattle.ir_rules.specs.Rules.{Rule, ◌▷◌, dropped, each, either, made, option, within, word}
use Rattle.ir_types.specs.Types.{literals}

-- An alignment as an item keeps it: one below 0 or above 2^63 is kept as 0, which none may be.
abbrev pub alignment_of : Literal → ℕ
alignment_of l = if l.negative || nat_lt (2 ^ 63) l.magnitude then 0 else l.magnitude

-- "align" INT
abbrev pub alignments : Rule ℕ
alignments = Align ▷ made alignment_of literals

-- ( BAL )
abbrev pub round_brackets : Rule (Unit {0})
round_brackets = enclosed Round

abbrev pub no_alignment : {A : Type 0} → A → Option ℕ
no_alignment x = None

-- W ["(" BAL ")"] | "align" INT | STR ["=" STR] | ATTR
unfoldable pub attribute_forms : Rule (Option ℕ)
attribute_forms =
    either (made no_alignment (Attribute ▷ option round_brackets))
    (either (made (λ (n : ℕ). Some n) alignments)
    (either (made no_alignment (Str ▷ option (Equal ▷ word Str))) (means Attr None)))

-- the tokens that an attribute begins with
abbrev pub attribute_firsts : List Class
attribute_firsts = Attribute ∷ Align ∷ Str ∷ Attr ∷ []

-- those that may go on behind attributes
abbrev pub attribute_flast : List Class
attribute_flast = OpenRound ∷ Equal ∷ attribute_firsts

abbrev pub an_attribute : Rule (Option ℕ)
an_attribute = within attribute_firsts (OpenRound ∷ Equal ∷ []) false attribute_forms

-- of several alignments the last one counts
abbrev pub later : Option ℕ → Option ℕ → Option ℕ
later before None = before
later before (Some n) = Some n

-- attr*
unfoldable pub attribute_list : Rule (Option ℕ)
attribute_list = made (λ (found : List (Option ℕ)). fold later None found) (each an_attribute)

abbrev pub attributes : Rule (Option ℕ)
attributes = within attribute_firsts attribute_flast true attribute_list

-- META META
abbrev pub attachment : Rule (Unit {0})
attachment = Meta ▷ word Meta

-- (, META META)*
unfoldable pub attachment_list : Rule (Unit {0})
attachment_list = dropped (Comma ▷ attachment)

abbrev pub attachments : Rule (Unit {0})
attachments = within (Comma ∷ []) (Comma ∷ []) true attachment_list
