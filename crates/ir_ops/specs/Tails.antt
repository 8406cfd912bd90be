-- What may stand after a comma behind an operation: an alignment, or metadata to its end.
use Rattle.std.specs.Prelude.{ℕ, Option, Some, None, [], ◌∷◌, false, true}
use Rattle.ir_syntax.specs.declared.operand.TypedLiteral.{TypedLiteral}
use Rattle.ir_words.specs.declared.class.Class.TheVariants.{Align, Comma, Meta}
use Rattle.ir_rules.specs.Leaves.{ending, leading}
use Rattle.ir_rules.specs.Rules.{Rule, ◌▷◌, either, made, nothing, seq, within}
use Rattle.ir_attributes.specs.Attributes.{alignments, attachment, attachments}
use Rattle.ir_types.specs.Types.{type_firsts}
use Rattle.ir_values.specs.Values.{typed_literals}

-- "align" INT md* | META META md*
unfoldable pub aligned_forms : Rule (Option ℕ)
aligned_forms =
    either (made (λ (n : ℕ). Some n) (ending alignments attachments))
    (made (λ (u : Unit {0}). None) (leading attachment attachments))

abbrev pub aligned : Rule (Option ℕ)
aligned = within (Align ∷ Meta ∷ []) (Comma ∷ []) false aligned_forms

-- [, "align" INT] md*
unfoldable pub align_tail_forms : Rule (Option ℕ)
align_tail_forms = either (Comma ▷ aligned) (nothing None)

abbrev pub align_tail : Rule (Option ℕ)
align_tail = within (Comma ∷ []) (Comma ∷ []) true align_tail_forms

-- how many elements are allocated, and at which alignment
abbrev pub Allocation : Type 0
Allocation = Option TypedLiteral × Option ℕ

-- type INT [, "align" INT] md* | "align" INT md* | META META md*
unfoldable pub counted_forms : Rule Allocation
counted_forms =
    either (made (λ (n : Option ℕ). (None, n)) aligned)
    (made (λ (z : TypedLiteral × Option ℕ). (Some z.0, z.1)) (seq (typed_literals 64) align_tail))

abbrev pub counted : Rule Allocation
counted = within (Align ∷ Meta ∷ type_firsts) (Comma ∷ []) false counted_forms

-- [, type INT] [, "align" INT] md*
unfoldable pub alloca_tail_forms : Rule Allocation
alloca_tail_forms = either (Comma ▷ counted) (nothing (None, None))

abbrev pub alloca_tail : Rule Allocation
alloca_tail = within (Comma ∷ []) (Comma ∷ []) true alloca_tail_forms
