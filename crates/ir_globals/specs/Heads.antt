-- What stands before a global's type or a function's result (LangRef, "Linkage Types", "Visibility
-- Styles", "Calling Conventions", "Runtime Preemption Specifiers").
use Rattle.std.specs.Prelude.{Option, Some, None, List, [], ◌∷◌, ◌++◌, true, false, fold}
use Rattle.ir_syntax.specs.declared.linkage.Linkage.{Linkage}
use Rattle.ir_syntax.specs.declared.linkage.Linkage.TheVariants as link
use Rattle.ir_syntax.specs.declared.linkage.Visibility.{Visibility}
use Rattle.ir_syntax.specs.declared.linkage.Visibility.TheVariants as seen
use Rattle.ir_words.specs.declared.class.Class.{Class}
use Rattle.ir_words.specs.declared.class.Class.TheVariants.{Default, DsoLocal, DsoPreemptable, External, ExternallyInitialized, Hidden, Internal, LocalUnnamedAddr, Private, Protected, UnnamedAddr}
use Rattle.ir_rules.specs.Leaves.{means}
use Rattle.ir_rules.specs.Rules.{Rule, each, either, made, nothing, within, word}
use Rattle.ir_calls.specs.Calls.{convention, convention_firsts}

-- ["private" | "internal"]
unfoldable pub local_linkage_forms : Rule Linkage
local_linkage_forms = either (means Private link.Internal) (either (means Internal link.Internal) (nothing link.External))

abbrev pub local_linkage : Rule Linkage
local_linkage = within (Private ∷ Internal ∷ []) (Private ∷ Internal ∷ []) true local_linkage_forms

-- ["private" | "internal" | "external"]
unfoldable pub linkage_forms : Rule Linkage
linkage_forms = either (means External link.External) local_linkage

abbrev pub linkage : Rule Linkage
linkage = within (External ∷ Private ∷ Internal ∷ []) (External ∷ Private ∷ Internal ∷ []) true linkage_forms

-- "default" | "hidden" | "protected"
unfoldable pub style_forms : Rule Visibility
style_forms = either (means Default seen.Default) (either (means Hidden seen.Hidden) (means Protected seen.Protected))

abbrev pub style_firsts : List Class
style_firsts = Default ∷ Hidden ∷ Protected ∷ []

abbrev pub styles : Rule Visibility
styles = within style_firsts [] false style_forms

-- "dso_local" | "dso_preemptable" | "unnamed_addr" | "local_unnamed_addr" | "externally_initialized"
unfoldable pub address_forms : Rule (Unit {0})
address_forms =
    either (word DsoLocal) (either (word DsoPreemptable) (either (word UnnamedAddr) (either (word LocalUnnamedAddr) (word ExternallyInitialized))))

abbrev pub address_firsts : List Class
address_firsts = DsoLocal ∷ DsoPreemptable ∷ UnnamedAddr ∷ LocalUnnamedAddr ∷ ExternallyInitialized ∷ []

abbrev pub addresses : Rule (Unit {0})
addresses = within address_firsts [] false address_forms

-- a visibility, a word on the address, or a calling convention
unfoldable pub mark_forms : Rule (Option Visibility)
mark_forms =
    either (made (λ (v : Visibility). Some v) styles)
    (either (made (λ (u : Unit {0}). None) addresses) (made (λ (u : Unit {0}). None) convention))

abbrev pub mark_firsts : List Class
mark_firsts = style_firsts ++ address_firsts ++ convention_firsts

abbrev pub marks : Rule (Option Visibility)
marks = within mark_firsts [] false mark_forms

-- of several visibilities the last one counts
abbrev pub later_seen : Visibility → Option Visibility → Visibility
later_seen before None = before
later_seen before (Some v) = v

-- those words in any number
unfoldable pub visibility_forms : Rule Visibility
visibility_forms = made (λ (found : List (Option Visibility)). fold later_seen seen.Default found) (each marks)

abbrev pub visibility : Rule Visibility
visibility = within mark_firsts mark_firsts true visibility_forms
