-- Items by their marks, one more item at a time.
use Rattle.std.proofs.Common.{◌≡◌, ◌∙◌, ℕ, ◌+◌, ◌<◌, Bool, true, false, List, [], ◌∷◌, ◌++◌, length, drop, get_or, if◌then◌else◌, refl, sym, ap}
use Rattle.std.proofs.lemmas.List.{append_assoc, at_drop_more}
use Rattle.ir_cfg.specs.Reached.{marked}
use Rattle.ir_prune.specs.Pruned.{unmarked}

marked_none : {A : Type 0} (marks : List Bool) → marked {A = A} marks [] ≡ []
marked_none [] = refl
marked_none (true ∷ marks) = refl
marked_none (false ∷ marks) = refl

unmarked_none : {A : Type 0} (marks : List Bool) → unmarked {A = A} marks [] ≡ []
unmarked_none [] = refl
unmarked_none (true ∷ marks) = refl
unmarked_none (false ∷ marks) = refl

marked_first : {A : Type 0} (mark : Bool) (marks : List Bool) (x : A) (xs : List A) →
    marked (mark ∷ marks) (x ∷ xs) ≡ (if mark then x ∷ [] else []) ++ marked marks xs
marked_first true marks x xs = refl
marked_first false marks x xs = refl

unmarked_first : {A : Type 0} (mark : Bool) (marks : List Bool) (x : A) (xs : List A) →
    unmarked (mark ∷ marks) (x ∷ xs) ≡ (if mark then [] else x ∷ []) ++ unmarked marks xs
unmarked_first true marks x xs = refl
unmarked_first false marks x xs = refl

-- what is taken of items, before one more and after it
more : {A : Type 0} (taken : List Bool → List A → List A) (one : Bool → A → List A) →
    ((mark : Bool) (marks : List Bool) (x : A) (xs : List A) → taken (mark ∷ marks) (x ∷ xs) ≡ one mark x ++ taken marks xs) →
    (marks : List Bool) (i : ℕ) (x : A) (rest xs before new all : List A) → i < length marks → rest ≡ x ∷ xs →
    before ++ taken (drop i marks) rest ≡ all → new ≡ before ++ one (get_or marks i false) x → new ++ taken (drop (i + 1) marks) xs ≡ all
more taken one first marks i x rest xs before new all inside split so now =
    let mark = get_or marks i false in
    ap (λ items. items ++ taken (drop (i + 1) marks) xs) now
    ∙ append_assoc before (one mark x) (taken (drop (i + 1) marks) xs)
    ∙ ap (λ items. before ++ items) (sym (first mark (drop (i + 1) marks) x xs))
    ∙ ap (λ items. before ++ items) (sym (at_drop_more (λ ms. taken ms (x ∷ xs)) marks i false inside))
    ∙ ap (λ items. before ++ taken (drop i marks) items) (sym split)
    ∙ so

pub marked_more : {A : Type 0} (marks : List Bool) (i : ℕ) (x : A) (rest xs before new all : List A) → i < length marks → rest ≡ x ∷ xs →
    before ++ marked (drop i marks) rest ≡ all → new ≡ before ++ (if get_or marks i false then x ∷ [] else []) →
    new ++ marked (drop (i + 1) marks) xs ≡ all
marked_more = more marked (λ mark x. if mark then x ∷ [] else []) marked_first

pub unmarked_more : {A : Type 0} (marks : List Bool) (i : ℕ) (x : A) (rest xs before new all : List A) → i < length marks → rest ≡ x ∷ xs →
    before ++ unmarked (drop i marks) rest ≡ all → new ≡ before ++ (if get_or marks i false then [] else x ∷ []) →
    new ++ unmarked (drop (i + 1) marks) xs ≡ all
unmarked_more = more unmarked (λ mark x. if mark then [] else x ∷ []) unmarked_first

-- where no items are left, the marks do not matter
pub marked_end : {A : Type 0} (marks others : List Bool) (rest xs before all : List A) → rest ≡ [] → xs ≡ [] →
    before ++ marked marks rest ≡ all → before ++ marked others xs ≡ all
marked_end marks others rest xs before all none end so =
    ap (λ items. before ++ marked others items) end
    ∙ ap (λ items. before ++ items) (marked_none others ∙ sym (marked_none marks))
    ∙ ap (λ items. before ++ marked marks items) (sym none)
    ∙ so

pub unmarked_end : {A : Type 0} (marks others : List Bool) (rest xs before all : List A) → rest ≡ [] → xs ≡ [] →
    before ++ unmarked marks rest ≡ all → before ++ unmarked others xs ≡ all
unmarked_end marks others rest xs before all none end so =
    ap (λ items. before ++ unmarked others items) end
    ∙ ap (λ items. before ++ items) (unmarked_none others ∙ sym (unmarked_none marks))
    ∙ ap (λ items. before ++ unmarked marks items) (sym none)
    ∙ so
