use Rattle.std.proofs.Common.{◌≡◌, length, map}
use Rattle.ir_words.specs.Intrinsics.{is_sized}
use Rattle.ir_words.proofs.global.is_sized.Given as goal

abbrev pub invariant-loop-prefixes : goal.invariant-loop-prefixes
invariant-loop-prefixes l = is_sized (map (λ f. f.now) l.prefixes) l.name ≡ is_sized (map (λ f. f.now) l.initial.prefixes) l.name

abbrev pub decreases-loop-prefixes : goal.decreases-loop-prefixes
decreases-loop-prefixes l = length l.prefixes
