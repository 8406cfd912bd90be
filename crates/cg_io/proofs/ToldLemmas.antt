-- How facts on what sources gave and sinks got go on from one call to the next.
use Rattle.std.proofs.Common.{◌≡◌, ℕ, ◌+◌, ◌-◌, ◌<◌, ◌≤◌, List, [], ◌++◌, length, take, drop, None, Some, refl, sym, ap, ◌∙◌, subst, length-append, length-drop, append_assoc, append-nil, take-append-drop, arith}
use Rattle.std.proofs.Math.Seq.{take-add, take-length}
use Rattle.std.proofs.KnownBytes.{Appends-nil, Appends-trans, Consumes-nil, Consumes-trans}
use Rattle.std.specs.declared.option.Option.{Option}
use Rattle.std.specs.Io.KnownBytes.{Appends, Consumes}
use Rattle.cg_io.specs.Told.{GivesAll, TakesAtMost, AppendsProperPrefix}

-- `&xs[n..]` is all that follows the first n
rest_from : (n : ℕ) (xs : List ℕ) → take (length xs - n) (drop n xs) ≡ drop n xs
rest_from n xs = ap (λ k. take k (drop n xs)) (sym (length-drop n xs)) ∙ take-length (drop n xs)

-- the first n bytes were appended, and then the first m of `&xs[n..]`
pub Appends-take-add : (a b c : Option (List ℕ)) (n m : ℕ) (xs : List ℕ) → Appends a b (take n xs)
    → Appends b c (take m (take (length xs - n) (drop n xs))) → Appends a c (take (n + m) xs)
Appends-take-add a b c n m xs first second =
    let whole = subst (λ (l : List ℕ). Appends b c (take m l)) (rest_from n xs) second in
    subst (Appends a c) (sym (take-add n m xs)) (Appends-trans a b c _ _ first whole)

-- ---- a proper prefix of what was due

-- the first n bytes of more than n are one
pub AppendsProperPrefix-take : (a b : Option (List ℕ)) (n : ℕ) (due : List ℕ) → n < length due → Appends a b (take n due) → AppendsProperPrefix a b due
AppendsProperPrefix-take a b n due more part =
    record {
      prefix = take n due;
      rest = drop n due;
      split = sym (take-append-drop n due);
      proper = omega (arith, length-drop n due, more);
      appended = part;
    }

-- one of a text is one of a longer text
pub AppendsProperPrefix-longer : (a b : Option (List ℕ)) (due more : List ℕ) → AppendsProperPrefix a b due → AppendsProperPrefix a b (due ++ more)
AppendsProperPrefix-longer a b due more p =
    record {
      prefix = p.prefix;
      rest = p.rest ++ more;
      split = ap (λ l. l ++ more) p.split ∙ append_assoc p.prefix p.rest more;
      proper = omega (arith, length-append p.rest more, p.proper);
      appended = p.appended;
    }

-- a text and then one of another is one of both
pub AppendsProperPrefix-after : (a b c : Option (List ℕ)) (written due : List ℕ) → Appends a b written → AppendsProperPrefix b c due →
    AppendsProperPrefix a c (written ++ due)
AppendsProperPrefix-after a b c written due first p =
    record {
      prefix = written ++ p.prefix;
      rest = p.rest;
      split = ap (λ l. written ++ l) p.split ∙ sym (append_assoc written p.prefix p.rest);
      proper = p.proper;
      appended = Appends-trans a b c _ _ first p.appended;
    }

-- where the sink tells its bytes, some bytes more would make all that was due
pub AppendsProperPrefix-told : (old new due : List ℕ) → AppendsProperPrefix (Some old) (Some new) due → (rest : List ℕ) × (0 < length rest) × (new ++ rest ≡ old ++ due)
AppendsProperPrefix-told old new due p =
    (p.rest, p.proper, ap (λ l. l ++ p.rest) p.appended ∙ append_assoc old p.prefix p.rest ∙ ap (λ l. old ++ l) (sym p.split))

-- ---- what a source gave

-- a source that tells its bytes gave just these
pub GivesAll-told : (told : List ℕ) (new : Option (List ℕ)) (bytes : List ℕ) → GivesAll (Some told) new bytes → bytes ≡ told
GivesAll-told told None bytes all = absurd all.given
GivesAll-told told (Some left) bytes all = sym (all.given ∙ ap (λ l. bytes ++ l) all.ended ∙ append-nil bytes)

-- bytes and then all others are all
pub GivesAll-after : (a b c : Option (List ℕ)) (bytes rest : List ℕ) → Consumes a b bytes → GivesAll b c rest → GivesAll a c (bytes ++ rest)
GivesAll-after a b c bytes rest first all = record { given = Consumes-trans a b c _ _ first all.given; ended = all.ended }

-- nothing is at most any number of bytes
pub TakesAtMost-none : (n : ℕ) (a : Option (List ℕ)) → TakesAtMost n a a
TakesAtMost-none n a = record { bytes = []; taken = Consumes-nil a; count = omega arith }

-- a higher bound holds too
pub TakesAtMost-weaker : (n m : ℕ) (a b : Option (List ℕ)) → n ≤ m → TakesAtMost n a b → TakesAtMost m a b
TakesAtMost-weaker n m a b higher p = record { bytes = p.bytes; taken = p.taken; count = omega (arith, p.count) }
