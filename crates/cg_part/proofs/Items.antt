-- The functions of a module of the built set as items.
use Rattle.std.proofs.Common.{◌≡◌, ◌<◌, ◌+◌, ◌++◌, ◌∷◌, [], ℕ, List, All, filter, get_or, take, length, map, refl, ap, sym, subst, ◌∙◌, arith, append_assoc}
use Rattle.std.specs.Prelude.{bytes_eq}
use Rattle.std.specs.List.{IsDistinct, AllByRecursion as ByRecursion}
use Rattle.std.proofs.lemmas.List.{map-append, take_more}
use Rattle.std.proofs.lemmas.List.Elements.{All-cons, All-nil, filter-append, recursion_from_All}
use Rattle.std.proofs.lemmas.Simd.{map-map}
use Rattle.asm_print.specs.Items.{AreItems, IsItem, Item, items_text}
use Rattle.asm_print.proofs.Written.{items_text-append}
use Rattle.asm_inst.specs.Grammar.{IsRead}
use Rattle.ir_syntax.specs.declared.function.Function.{Function}
use Rattle.ir_syntax.specs.declared.module.Module.{Module}
use Rattle.cg_built.specs.Built.{IsBuiltFunction, function_name}
use Rattle.cg_built.specs.Definitions.{defined_functions, has_body}
use Rattle.cg_built.proofs.Programs.{IsProgram}
use Rattle.cg_part.specs.Text.{item_of, items_of}
use Rattle.cg_part.proofs.InstructionLemmas.{IsOfUsed, addi_formed, code_holds, move_formed, return_formed}
use Rattle.cg_part.proofs.NameLemmas.{name_is_symbol}

used_read : IsOfUsed IsRead
used_read = record {
  load = λ rd imm low held. record { inst = addi_formed rd 0 imm low (omega arith) held; in_text = refl; ranged = held };
  copy = λ rd rs low above low_rs. record { inst = move_formed rd rs low low_rs; in_text = refl; ranged = (omega arith, omega arith) };
  back = record { inst = return_formed; in_text = refl; ranged = (omega arith, omega arith) };
}

item_formed : (f : Function) → IsBuiltFunction f → IsItem (item_of f)
item_formed f built = record { symbol = name_is_symbol (function_name f) built.name; read = code_holds IsRead used_read f built }

all_formed : (functions : List Function) → ByRecursion IsBuiltFunction functions → All IsItem (map item_of functions)
all_formed [] built = All-nil IsItem
all_formed (f ∷ functions) built = All-cons IsItem (item_of f) (map item_of functions) (item_formed f built.0) (all_formed functions built.1)

pub are_items : (m : Module) → IsProgram m → AreItems (items_of m)
are_items m program = record {
  formed = all_formed (defined_functions m) (recursion_from_All IsBuiltFunction (defined_functions m) program.functions);
  differ = subst (IsDistinct bytes_eq) (sym (map-map (λ (item : Item). item.name) item_of (defined_functions m))) program.differ;
}

-- the items of the functions up to a place, and the one of that place
pub items_more : (old out new : List ℕ) (functions : List Function) (place : ℕ) (f : Function) → place < length functions →
    out ≡ old ++ items_text (map item_of (filter has_body (take place functions))) →
    f ≡ get_or functions place f →
    new ≡ out ++ items_text (map item_of (filter has_body (f ∷ []))) →
    new ≡ old ++ items_text (map item_of (filter has_body (take (place + 1) functions)))
items_more old out new functions place f inside so_far is next =
    let before : List Item = map item_of (filter has_body (take place functions)) in
    let last : List Item = map item_of (filter has_body (f ∷ [])) in
    let whole : map item_of (filter has_body (take (place + 1) functions)) ≡ before ++ last =
    ap (λ all. map item_of (filter has_body all)) (take_more functions place f inside ∙ ap (λ g. take place functions ++ g ∷ []) (sym is))
    ∙ ap (map item_of) (filter-append has_body (take place functions) (f ∷ []))
    ∙ map-append item_of (filter has_body (take place functions)) (filter has_body (f ∷ [])) in
    next
    ∙ ap (λ text. text ++ items_text last) so_far
    ∙ append_assoc old (items_text before) (items_text last)
    ∙ ap (λ text. old ++ text) (sym (ap items_text whole ∙ items_text-append before last))
