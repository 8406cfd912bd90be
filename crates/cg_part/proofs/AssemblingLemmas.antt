-- The text of a module assembles to the module's object, and to no other, and it resolves.
use Rattle.std.proofs.Common.{◌≡◌, ◌∷◌, [], ℕ, List, subst}
use Rattle.std.proofs.lemmas.Simd.{map-map}
use Rattle.asm_print.proofs.Assembling.{items_assemble, items_assemble_once, items_not_refused}
use Rattle.asm_print.proofs.Resolving.{items_resolve}
use Rattle.asm_print.specs.Items.{Item}
use Rattle.asm_print.specs.Resolving.{Resolves}
use Rattle.asm_read.specs.Assembly.{Assembles, IsRefusal}
use Rattle.asm_read.specs.declared.object.Object.{Object}
use Rattle.asm_read.specs.declared.refusal.AsmRefusal.TheVariants.{Line as RefusedLine}
use Rattle.ir_syntax.specs.declared.module.Module.{Module}
use Rattle.rv_isa.specs.Symbol.{spelled}
use Rattle.cg_built.specs.Definitions.{defined_functions}
use Rattle.cg_built.proofs.Programs.{IsProgram}
use Rattle.cg_part.specs.Text.{declared_symbols, defined_symbols, item_of, items_of, part_text}
use Rattle.cg_part.proofs.Items.{are_items}
use Rattle.cg_part.proofs.Objects.{part_object}

pub part_assembles : (m : Module) → IsProgram m → Assembles (part_text m) (part_object m)
unfolding part_text
part_assembles m program = items_assemble (items_of m) (are_items m program)

pub part_assembles_once : (m : Module) (object : Object) → IsProgram m → Assembles (part_text m) object → object ≡ part_object m
unfolding part_text
part_assembles_once m object program other = items_assemble_once (items_of m) object (are_items m program) other

pub part_not_refused : (m : Module) (line : ℕ) → IsProgram m → IsRefusal (part_text m) (RefusedLine line) → ⊥
unfolding part_text
part_not_refused m line program refused = items_not_refused (items_of m) line (are_items m program) refused

pub part_resolves : (m : Module) → IsProgram m → Resolves (defined_symbols m) (declared_symbols m) (part_text m ∷ [])
unfolding part_text
part_resolves m program =
    subst (λ (defined : List (List ℕ)). Resolves defined (declared_symbols m) (part_text m ∷ []))
    (map-map (λ (item : Item). spelled item.name) item_of (defined_functions m))
    (items_resolve (items_of m) (declared_symbols m) (are_items m program).formed)
