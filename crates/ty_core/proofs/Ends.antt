-- Where fields end.
use Rattle.std.proofs.Common.{◌≡◌, ℕ, ◌+◌, ◌<◌, ◌≤◌, Bool, true, false, arith, ap}
use Rattle.std.proofs.lemmas.Grind.{div_ceil_times}
use Rattle.ty_core.specs.Size.{align_of, rounded, begin_at, size_of, end_of, size_limit, greatest_size, layout_of}
use Rattle.ty_core.specs.declared.extent.Layout.{Layout}
use Rattle.ty_core.specs.Tree.{Tree, struct, Trees, end, more}
use Rattle.ty_core.proofs.Alignments.{positive_align}

begins_behind : (packed : Bool) (at : ℕ) (field : Tree) → at ≤ begin_at packed at (align_of field)
begins_behind true at field = omega arith
begins_behind false at field = (div_ceil_times at (align_of field) (positive_align field)).0

pub ends_behind : (packed : Bool) (at : ℕ) (fields : Trees) → at ≤ end_of packed at fields
ends_behind packed at end = omega arith
ends_behind packed at (more head tail) =
    let next : ℕ = begin_at packed at (align_of head) + rounded (size_of head) (align_of head) in
    omega (arith, begins_behind packed at head, ends_behind packed next tail)

-- a struct is too big as soon as its fields up to one are
pub is_too_big : (packed : Bool) (fields : Trees) (head : Tree) (tail : Trees) (at : ℕ) (field : Layout) →
    field ≡ layout_of head → size_limit < begin_at packed at field.align + rounded field.size field.align →
    end_of packed at (more head tail) ≡ end_of packed 0 fields → size_limit < greatest_size (struct packed fields)
is_too_big packed fields head tail at field is big same =
    let begin : ℕ → ℕ → ℕ = λ size align. begin_at packed at align + rounded size align in
    let here : begin field.size field.align ≡ begin (size_of head) (align_of head) = ap (λ l. begin l.size l.align) is in
    omega (
      arith,
      here,
      ends_behind packed (begin (size_of head) (align_of head)) tail,
      (div_ceil_times (end_of packed 0 fields) (align_of (struct packed fields)) (positive_align (struct packed fields))).0,
    )
