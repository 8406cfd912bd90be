-- What a bad token of a first block is to the items and to the module.
use Rattle.std.proofs.Common.{◌≡◌, ℕ, true, false, List, [], ◌∷◌, ◌++◌, Ok, Err, ap, inl, inr, refl, ◌∙◌, if◌then◌else◌}
use Rattle.std.specs.Prelude.{Option, filter_map}
use Rattle.ir_syntax.specs.declared.block.Block.{Block}
use Rattle.ir_words.specs.Classes.{first}
use Rattle.ir_words.specs.Lexemes.{Lexeme}
use Rattle.ir_words.specs.declared.class.Class.{Class}
use Rattle.ir_words.specs.declared.class.Class.TheVariants as class
use Rattle.ir_rules.specs.Reading.{Begins, ended, read_all}
use Rattle.ir_rules.specs.Rules.{Answer, Rule, ◌>>=◌, apart, begins, each, made, seq, word}
use Rattle.ir_rules.proofs.Chains.{each_lawful, read_starts}
use Rattle.ir_rules.proofs.Sets.{apart_is}
use Rattle.ir_rules.proofs.Words.{word_law}
use Rattle.ir_body.specs.Blocks.{blocks}
use Rattle.ir_body.proofs.BlockLaws.{blocks_law}
use Rattle.ir_items.specs.Entities.{entities, entity_forms, item_entities, module_forms, modules, no_entity, type_defs}
use Rattle.ir_functions.specs.Functions.{OpeningParts, block_lists, closed_block_forms, closed_blocks, declarations, definition_forms, definition_of, definitions, openings}
use Rattle.ir_globals.specs.Variables.{global_entities}
use Rattle.ir_entities.specs.declared.entity.Entity.{Entity}
use Rattle.ir_items.proofs.Begun.{first_begun, item_begun, made_begun, second_begun}
use Rattle.ir_functions.proofs.FunctionLaws.{openings_law}

-- what is read where a part is bad

module _ {A B : Type 0} (a : Rule A) where
  made_bad : (f : A → B) (ts : List Lexeme) (n : ℕ) → a.read ts ≡ Err n → (made f a).read ts ≡ Err n
  made_bad f ts n e = ap (λ o. o >>= (λ (p : A × List Lexeme). Ok (f p.0, p.1))) e

  module _ (b : Rule B) where
    abbrev second : A × List Lexeme → Answer (A × B)
    second p = b.read p.1 >>= (λ (q : B × List Lexeme). Ok ((p.0, q.0), q.1))

    first_bad : (ts : List Lexeme) (n : ℕ) → a.read ts ≡ Err n → (seq a b).read ts ≡ Err n
    first_bad ts n e = ap (λ o. o >>= (λ (p : A × List Lexeme). second p)) e

    second_bad : (ts : List Lexeme) (p : A × List Lexeme) (n : ℕ) → a.read ts ≡ Ok p → b.read p.1 ≡ Err n → (seq a b).read ts ≡ Err n
    second_bad ts p n e f =
        ap (λ o. o >>= (λ (p : A × List Lexeme). second p)) e ∙ ap (λ o. o >>= (λ (q : B × List Lexeme). Ok ((p.0, q.0), q.1))) f

-- the header of a definition begins with its word
pub opening_begins : (ts : List Lexeme) (p : OpeningParts × List Lexeme) → openings.read ts ≡ Ok p → begins (class.Define ∷ []) ts ≡ true
opening_begins ts p e =
    read_starts {S = Unit {0}} openings.firsts openings.flast (λ s. openings) (λ s x. s) (λ s. openings_law) (λ s. refl) (λ s c h. h) (λ s c h. h) refl tt ts p e

-- and that word begins no other item
pub definition_read : (ts : List Lexeme) → begins (class.Define ∷ []) ts ≡ true → entities.read ts ≡ definitions.read ts
unfolding entity_forms
definition_read ts b =
    ap (λ t. if t then no_entity.read ts else item_entities.read ts) (other no_entity.firsts refl)
    ∙ ap (λ t. if t then type_defs.read ts else (if begins declarations.firsts ts then declarations.read ts else (if begins definitions.firsts ts then definitions.read ts else global_entities.read ts))) (other type_defs.firsts refl)
    ∙ ap (λ t. if t then declarations.read ts else (if begins definitions.firsts ts then definitions.read ts else global_entities.read ts)) (other declarations.firsts refl)
    ∙ ap (λ t. if t then definitions.read ts else global_entities.read ts) b
  where
    other : (cs : List Class) → apart (class.Define ∷ []) cs ≡ true → begins cs ts ≡ false
    other cs e = apart_is (class.Define ∷ []) cs (first ts) e b

list_bad : (ts : List Lexeme) (n : ℕ) → (blocks true).read ts ≡ Err n → block_lists.read ts ≡ Err n
list_bad ts n e =
    made_bad (seq (blocks true) (each (blocks false))) (λ (z : Block × List Block). z.0 ∷ z.1) ts n (first_bad (blocks true) (each (blocks false)) ts n e)

closed_bad : (ts : List Lexeme) (n : ℕ) → (blocks true).read ts ≡ Err n → closed_blocks.read ts ≡ Err n
unfolding closed_block_forms
closed_bad ts n e =
    made_bad (seq block_lists (word class.CloseCurly)) (λ (z : List Block × Unit {0}). z.0) ts n
    (first_bad block_lists (word class.CloseCurly) ts n (list_bad ts n e))

-- a first block's bad token is that of the item
pub entity_bad : (ts : List Lexeme) (p : OpeningParts × List Lexeme) (n : ℕ) → openings.read ts ≡ Ok p → (blocks true).read p.1 ≡ Err n → entities.read ts ≡ Err n
unfolding definition_forms
entity_bad ts p n e f =
    definition_read ts (opening_begins ts p e) ∙ made_bad (seq openings closed_blocks) definition_of ts n (second_bad openings closed_blocks ts p n e (closed_bad p.1 n f))

-- and an item's bad token that of the module
pub module_bad : (ts : List Lexeme) (n : ℕ) → (each entities).read ts ≡ Err n → read_all modules ts ≡ Err n
unfolding module_forms
module_bad ts n e = ap (λ o. o >>= ended) (made_bad (each entities) (λ (found : List (Option Entity)). filter_map (λ e. e) found) ts n e)

-- behind items and the header of a definition a first block has begun
list_begun : (ts : List Lexeme) → Begins (blocks true) ts → Begins block_lists ts
list_begun ts w =
    made_begun (seq (blocks true) (each (blocks false))) (λ (z : Block × List Block). z.0 ∷ z.1) ts
    (first_begun (blocks true) (each (blocks false)) (each_lawful (blocks false) (blocks_law false) refl refl) ts w)

closed_begun : (ts : List Lexeme) → Begins (blocks true) ts → Begins closed_blocks ts
unfolding closed_block_forms
closed_begun ts w =
    made_begun (seq block_lists (word class.CloseCurly)) (λ (z : List Block × Unit {0}). z.0) ts
    (first_begun block_lists (word class.CloseCurly) (word_law class.CloseCurly refl refl) ts (list_begun ts w))

pub module_begun : (items header block : List Lexeme) (found : List (Option Entity)) (z : OpeningParts) → (each entities).text items found → openings.text header z
    → Begins (blocks true) block → Begins modules (items ++ (header ++ block))
unfolding module_forms entity_forms definition_forms
module_begun items header block found z t o w =
    made_begun (each entities) (λ (found : List (Option Entity)). filter_map (λ e. e) found) (items ++ (header ++ block))
    (item_begun entities items (header ++ block) found t (of_definition
    (made_begun (seq openings closed_blocks) definition_of (header ++ block) (second_begun openings closed_blocks header block z o (closed_begun block w)))))
  where
    of_definition : Begins definitions (header ++ block) → Begins entities (header ++ block)
    of_definition w = (w.0, w.1, inr (inr (inr (inl w.2))))
