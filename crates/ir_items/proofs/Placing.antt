-- Where the items are read again, the first bad token is placed: in a first block or not.
use Rattle.std.proofs.Common.{◌≡◌, ℕ, suc, ◌-◌, ◌<◌, ◌==◌, ◌&&◌, not, Bool, true, false, List, [], ◌∷◌, ◌++◌, Ok, Err, arith, ap, append_assoc, drop, length, refl, subst, sym, take, ◌∙◌}
use Rattle.std.proofs.lemmas.List.{length-append, length-drop, take-append-drop, take_at}
use Rattle.std.proofs.Math.Seq.{drop-append_seam, take-append_seam}
use Rattle.std.specs.Prelude.{IfOk, Option}
use Rattle.std.specs.declared.result.Result.{Result}
use Rattle.ir_syntax.specs.declared.block.Block.{Block}
use Rattle.ir_words.specs.Classes.{first, number}
use Rattle.ir_words.specs.Lexemes.{Lexeme}
use Rattle.ir_words.specs.declared.class.Class.TheVariants as class
use Rattle.ir_rules.specs.Laws.{Splits}
use Rattle.ir_rules.specs.Reading.{Begins, Reads, read_all}
use Rattle.ir_rules.specs.Rules.{Answer, begins, each, has}
use Rattle.ir_rules.proofs.Chains.{read_starts}
use Rattle.ir_rules.proofs.Sets.{within_is}
use Rattle.ir_rules.proofs.Whole.{read_all_reads}
use Rattle.ir_body.specs.Blocks.{blocks}
use Rattle.ir_body.proofs.BlockLaws.{blocks_law}
use Rattle.ir_items.specs.Entities.{entities, entity_firsts, modules}
use Rattle.ir_items.specs.FirstBlocks.{IsInFirstBlock, TellsFirstBlock, is_bad, stops_behind, stops_in_block}
use Rattle.ir_functions.specs.Functions.{OpeningParts, openings}
use Rattle.ir_entities.specs.declared.entity.Entity.{Entity}
use Rattle.ir_items.proofs.BlockParts.{entity_bad, module_bad, module_begun, opening_begins}
use Rattle.ir_items.proofs.EntityLaws.{entities_law, modules_law}
use Rattle.ir_functions.proofs.FunctionLaws.{openings_law}
use Rattle.ir_items.proofs.Unended.{unended_stops}
use Rattle.ir_items.proofs.Walks.{after_items, walk_bad, walk_same, walk_text}

both : (b : Bool) → b ≡ true → b ≡ false → ⊥
both b e f = absurd (cc)

-- the tokens before and from a place on

place : (all before bad : List Lexeme) → all ≡ before ++ bad → length all - length bad ≡ length before
place all before bad e = omega (arith, ap length e, length-append before bad)

before_place : (all before bad : List Lexeme) → all ≡ before ++ bad → take (length all - length bad) all ≡ before
before_place all before bad e = ap (λ n. take n all) (place all before bad e) ∙ ap (take (length before)) e ∙ take-append_seam before bad

from_place : (all before bad : List Lexeme) → all ≡ before ++ bad → drop (length all - length bad) all ≡ bad
from_place all before bad e = ap (λ n. drop n all) (place all before bad e) ∙ ap (drop (length before)) e ∙ drop-append_seam before bad

-- how the header of a definition and a first block behind it stop
record Stop (rest : List Lexeme) : Type 0 where
  behind : OpeningParts × List Lexeme
  opened : openings.read rest ≡ Ok behind
  left : ℕ
  bad : (blocks true).read behind.1 ≡ Err left

stop_of : (rest : List Lexeme) → stops_in_block rest ≡ true → Stop rest
stop_of rest e = go (openings.read rest) refl e
  where
    inner : (p : OpeningParts × List Lexeme) → openings.read rest ≡ Ok p → (o : Answer Block) → (blocks true).read p.1 ≡ o → is_bad o ≡ true → Stop rest
    inner p e (Ok q) f s = absurd (cc)
    inner p e (Err n) f s = record { behind = p; opened = e; left = n; bad = f }

    go : (o : Answer OpeningParts) → openings.read rest ≡ o → stops_behind o ≡ true → Stop rest
    go (Ok p) e s = inner p e ((blocks true).read p.1) refl s
    go (Err n) e s = absurd (cc)

module _ (all rest : List Lexeme) (n : ℕ) (walk : after_items entities n all ≡ Ok rest) where
  -- a block that stops there is a first block that has begun
  module _ (left : ℕ) (read : read_all modules all ≡ Err left) where
    inside : (p : OpeningParts × List Lexeme) → Splits openings rest (Ok p) → (m : ℕ) → Splits (blocks true) p.1 (Err m) → left ≡ m
        → first (drop (length all - left) all) ≡ class.Alloca → IsInFirstBlock (take (length all - left) all)
    inside p o m b is alloca = go (walk_text entities entities_law refl refl n all rest walk)
      where
        go : (us : List Lexeme) × (xs : List (Option Entity)) × (all ≡ us ++ rest) × (each entities).text us xs → IsInFirstBlock (take (length all - left) all)
        go w = subst IsInFirstBlock (sym (ap (λ n. take (length all - n) all) same ∙ before_place all before b.1 parts)) (record {
          items = w.0;
          header = o.0;
          block = b.0;
          parts = refl;
          whole = (w.1, w.3);
          opened = (p.0, o.2);
          begun = (b.2, b.3, b.6);
          unended = λ x t. clash x (sym ((blocks_law true).complete b.0 b.1 x t apart) ∙ b.7 b.1 refl);
        })
          where
            before : List Lexeme
            before = w.0 ++ (o.0 ++ b.0)

            same : left ≡ length b.1
            same = is ∙ b.5

            parts : all ≡ before ++ b.1
            parts =
                w.2 ∙ ap (λ l. w.0 ++ l) (o.1 ∙ ap (λ l. o.0 ++ l) b.4 ∙ sym (append_assoc o.0 b.0 b.1)) ∙ sym (append_assoc w.0 (o.0 ++ b.0) b.1)

            is_alloca : first b.1 ≡ class.Alloca
            is_alloca = ap first (sym (ap (λ n. drop (length all - n) all) same ∙ from_place all before b.1 parts)) ∙ alloca

            apart : begins (blocks true).flast b.1 ≡ false
            apart = ap (has (blocks true).flast) is_alloca

            clash : (x : Block) → ◌≡◌ {A = Answer Block} (Ok (x, b.1)) (Err (length b.1)) → ⊥
            clash x e = cc

    pub stopped : stops_in_block rest ≡ true → first (drop (length all - left) all) ≡ class.Alloca → IsInFirstBlock (take (length all - left) all)
    stopped e alloca = go (stop_of rest e)
      where
        same : (m : ℕ) → read_all modules all ≡ Err m → left ≡ m
        same m e = cc

        go : Stop rest → IsInFirstBlock (take (length all - left) all)
        go s =
            inside s.behind (subst (Splits openings rest) s.opened (openings_law.splits rest)) s.left
            (subst (Splits (blocks true) s.behind.1) s.bad ((blocks_law true).splits s.behind.1))
            (same s.left (module_bad all s.left (walk_bad entities entities_law refl refl n s.left all rest walk
            (within_is (class.Define ∷ []) entity_firsts (first rest) refl (opening_begins rest s.behind s.opened)) (entity_bad rest s.behind s.left s.opened s.bad))))
            alloca

  -- tokens that end in a first block lead there
  module _ (ends : (p : Option Entity × List Lexeme) → entities.read rest ≡ Ok p → ⊥) (before bad : List Lexeme) (b : Lexeme) (is : all ≡ before ++ b ∷ bad)
      (never : Begins modules (before ++ b ∷ []) → ⊥) (i : IsInFirstBlock before) where
    abbrev behind : List Lexeme
    behind = i.block ++ b ∷ bad

    opened : openings.read (i.header ++ behind) ≡ Ok (i.opened.0, behind)
    opened = openings_law.complete i.header behind i.opened.0 i.opened.1 (none (not (number class.End == number (first behind))))
      where
        none : (b : Bool) → (b && false) ≡ false
        none true = refl
        none false = refl

    not_begun : Begins (blocks true) (i.block ++ b ∷ []) → ⊥
    not_begun w = never (subst (Begins modules) apart (module_begun i.items i.header (i.block ++ b ∷ []) i.whole.0 i.opened.0 i.whole.1 i.opened.1 w))
      where
        apart : i.items ++ (i.header ++ (i.block ++ b ∷ [])) ≡ before ++ b ∷ []
        apart =
            ap (λ l. i.items ++ l) (sym (append_assoc i.header i.block (b ∷ [])))
            ∙ sym (append_assoc i.items (i.header ++ i.block) (b ∷ []))
            ∙ ap (λ l. l ++ b ∷ []) (sym i.parts)

    bad_block : (m : ℕ) × ((blocks true).read behind ≡ Err m)
    bad_block = unended_stops (blocks true) (blocks_law true) i.block b bad i.begun i.unended not_begun

    parted : all ≡ i.items ++ (i.header ++ behind)
    parted =
        is
        ∙ ap (λ l. l ++ b ∷ bad) i.parts
        ∙ append_assoc i.items (i.header ++ i.block) (b ∷ bad)
        ∙ ap (λ l. i.items ++ l) (append_assoc i.header i.block (b ∷ bad))

    firsts : begins entity_firsts (i.header ++ behind) ≡ true
    firsts = within_is (class.Define ∷ []) entity_firsts (first (i.header ++ behind)) refl (opening_begins (i.header ++ behind) (i.opened.0, behind) opened)

    found : rest ≡ i.header ++ behind
    found =
        walk_same entities entities_law refl refl n i.whole.0 bad_block.0 all i.items (i.header ++ behind) rest walk ends parted i.whole.1 firsts
        (entity_bad (i.header ++ behind) (i.opened.0, behind) bad_block.0 opened bad_block.1)

    begins_there : begins entity_firsts rest ≡ true
    begins_there = ap (begins entity_firsts) found ∙ firsts

    stops_there : stops_in_block rest ≡ true
    stops_there = ap stops_in_block found ∙ ap stops_behind opened ∙ ap is_bad bad_block.1

  -- so other tokens end in none
  module _ (ends : (p : Option Entity × List Lexeme) → entities.read rest ≡ Ok p → ⊥) (left : ℕ) (read : read_all modules all ≡ Err left) where
    never : (bad : List Lexeme) (b : Lexeme) → drop (length all - left) all ≡ b ∷ bad → Begins modules (take (length all - left) all ++ b ∷ []) → ⊥
    never bad b is w = go (subst (Reads modules all) read (read_all_reads modules modules_law all))
      where
        at : ℕ
        at = length all - left

        before : List Lexeme
        before = take at all

        parts : all ≡ before ++ b ∷ bad
        parts = sym (take-append-drop at all) ∙ ap (λ l. before ++ l) is

        is_at : length before ≡ at
        is_at = omega (arith, ap length parts, length-append before (b ∷ bad), ap length is, length-drop at all)

        is_below : at < length all
        is_below = omega (arith, ap length is, length-drop at all)

        more : take (suc at) all ≡ before ++ b ∷ []
        more =
            ap (take (suc at)) (parts ∙ sym (append_assoc before (b ∷ []) bad))
            ∙ take_at (before ++ b ∷ []) bad (suc at) (omega (arith, is_at, length-append before (b ∷ [])))

        go : Reads modules all (Err left) → ⊥
        go r = r.1.bad is_below (subst (Begins modules) (sym more) w)

    module _ (alloca : first (drop (length all - left) all) ≡ class.Alloca) (i : IsInFirstBlock (take (length all - left) all)) where
      pub stops : (begins entity_firsts rest ≡ true) × (stops_in_block rest ≡ true)
      stops = go (drop (length all - left) all) refl alloca
        where
          go : (bad : List Lexeme) → drop (length all - left) all ≡ bad → first bad ≡ class.Alloca → (begins entity_firsts rest ≡ true) × (stops_in_block rest ≡ true)
          go [] is f = absurd (cc)
          go (b ∷ bad) is f = (
            begins_there ends (take (length all - left) all) bad b parts (never bad b is) i,
            stops_there ends (take (length all - left) all) bad b parts (never bad b is) i,
          )
            where
              parts : all ≡ take (length all - left) all ++ b ∷ bad
              parts = sym (take-append-drop (length all - left) all) ∙ ap (λ l. take (length all - left) all ++ l) is

  -- where no item begins, it is none
  pub placed_outside : begins entity_firsts rest ≡ false → TellsFirstBlock all false
  placed_outside e left read alloca i = both (begins entity_firsts rest) (stops ends left read alloca i).0 e
    where
      ends : (p : Option Entity × List Lexeme) → entities.read rest ≡ Ok p → ⊥
      ends p r = both (begins entity_firsts rest)
          (read_starts {S = Unit {0}} entities.firsts entities.flast (λ s. entities) (λ s x. s) (λ s. entities_law) (λ s. refl) (λ s c h. h) (λ s c h. h) refl tt rest p r) e

  -- where an item stops, its first block tells
  pub placed : (left : ℕ) → entities.read rest ≡ Err left → (b : Bool) → b ≡ stops_in_block rest → TellsFirstBlock all b
  placed bad r true e left read alloca = stopped left read (sym e) alloca
  placed bad r false e left read alloca = λ i. both (stops_in_block rest) (stops ends left read alloca i).1 (sym e)
    where
      ends : (p : Option Entity × List Lexeme) → entities.read rest ≡ Ok p → ⊥
      ends p q = absurd (cc)

  -- the same, of an answer
  pub placed_by : {E : Type 0} (left : ℕ) → entities.read rest ≡ Err left → (stops : Result Bool E) → IfOk stops (λ b. b ≡ stops_in_block rest)
      → IfOk stops (TellsFirstBlock all)
  placed_by left r (Ok b) e = placed left r b e
  placed_by left r (Err end) e = tt
