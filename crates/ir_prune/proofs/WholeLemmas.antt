-- Where some path reaches each block, nothing is dropped.
use Rattle.std.proofs.Common.{◌≡◌, ◌∙◌, Bool, true, false, not, List, [], ◌∷◌, filter, length, map, arith, refl, sym, ap}
use Rattle.std.proofs.lemmas.Bool.{false≢true}
use Rattle.std.proofs.lemmas.List.FromFn.{length-map-range_with_len}
use Rattle.std.specs.List.{list_all}
use Rattle.ir_cfg.specs.Reached.{is_reached, marked, reachable_marks}
use Rattle.ir_prune.specs.Pruned.{block_without, is_label, pruned_blocks, unmarked, without_labels}
use Rattle.ir_syntax.specs.declared.block.Block.{Block}
use Rattle.ir_syntax.specs.declared.phi.Phi.{Phi}
use Rattle.ir_syntax.specs.declared.phi.PhiEntry.{PhiEntry}

all_marked : {A : Type 0} (marks : List Bool) (xs : List A) → length marks ≡ length xs → list_all (λ mark. mark) marks ≡ true → marked marks xs ≡ xs
all_marked [] [] sized all = refl
all_marked [] (x ∷ xs) sized all = absurd (omega (arith, sized))
all_marked (mark ∷ marks) [] sized all = absurd (omega (arith, sized))
all_marked (true ∷ marks) (x ∷ xs) sized all = ap (λ rest. x ∷ rest) (all_marked marks xs (omega (arith, sized)) all)
all_marked (false ∷ marks) (x ∷ xs) sized all = absurd (false≢true all)

none_unmarked : {A : Type 0} (marks : List Bool) (xs : List A) → list_all (λ mark. mark) marks ≡ true → unmarked marks xs ≡ []
none_unmarked [] xs all = refl
none_unmarked (true ∷ marks) [] all = refl
none_unmarked (false ∷ marks) [] all = refl
none_unmarked (true ∷ marks) (x ∷ xs) all = none_unmarked marks xs all
none_unmarked (false ∷ marks) (x ∷ xs) all = absurd (false≢true all)

same_entries : (entries : List PhiEntry) → filter (λ e. not (is_label [] e.block.name)) entries ≡ entries
same_entries [] = refl
same_entries (e ∷ entries) = ap (λ rest. e ∷ rest) (same_entries entries)

same_phis : (phis : List Phi) → map (without_labels (is_label [])) phis ≡ phis
same_phis [] = refl
same_phis (p ∷ phis) = λ k. record p { entries = same_entries p.entries k } ∷ same_phis phis k

same_blocks : (blocks : List Block) → map (block_without (is_label [])) blocks ≡ blocks
same_blocks [] = refl
same_blocks (b ∷ blocks) = λ k. record b { phis = same_phis b.phis k } ∷ same_blocks blocks k

pub same_if_all_reached : (blocks : List Block) → list_all (λ mark. mark) (reachable_marks blocks) ≡ true → blocks ≡ pruned_blocks blocks
same_if_all_reached blocks all =
    let marks = reachable_marks blocks in
    let sized : length marks ≡ length blocks = length-map-range_with_len (is_reached blocks) 0 (length blocks) in
    sym ((λ k. map (block_without (is_label (none_unmarked marks blocks all k))) (all_marked marks blocks sized all k)) ∙ same_blocks blocks)
