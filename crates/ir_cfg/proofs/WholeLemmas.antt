-- The blocks that some path reaches are no more than all.
use Rattle.std.proofs.Common.{ℕ, ◌≤◌, Bool, true, false, Option, None, Some, List, [], ◌∷◌, arith}
use Rattle.std.specs.List.{sum_by}
use Rattle.std.proofs.lemmas.List.Sums.{sum_by-cons}
use Rattle.ir_cfg.specs.Reached.{marked, reachable_marks}
use Rattle.ir_cfg.specs.Sizes.{block_size, function_size, whole_size}
use Rattle.ir_syntax.specs.declared.block.Block.{Block}
use Rattle.ir_syntax.specs.declared.function.Function.{Function}

-- the sum of the marked items
marked-sum : {A : Type 0} (f : A → ℕ) (marks : List Bool) (xs : List A) → sum_by f (marked marks xs) ≤ sum_by f xs
marked-sum f [] xs = omega arith
marked-sum f (true ∷ marks) [] = omega arith
marked-sum f (false ∷ marks) [] = omega arith
marked-sum f (true ∷ marks) (x ∷ xs) =
    omega (arith, marked-sum f marks xs, sum_by-cons f x (marked marks xs), sum_by-cons f x xs)
marked-sum f (false ∷ marks) (x ∷ xs) = omega (arith, marked-sum f marks xs, sum_by-cons f x xs)

-- the size of a function is within that of all its blocks
pub size-within : (f : Function) → function_size f ≤ whole_size f
size-within f = go f.blocks
  where
    go : (blocks : Option (List Block)) → function_size (record f { blocks = blocks }) ≤ whole_size (record f { blocks = blocks })
    go None = omega arith
    go (Some blocks) = marked-sum block_size (reachable_marks blocks) blocks
