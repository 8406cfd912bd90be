-- The addresses of symbols are near the image, and two instructions load them.
use Rattle.std.proofs.Common.{◌≡◌, ◌+◌, ◌-◌, ◌*◌, ◌≤◌, ◌<◌, ◌^◌, ℕ, ℤ, pos, negsuc, List, arith, subst, sym}
use Rattle.std.specs.Prelude.{◌+ℤ◌, ◌≤ℤ◌}
use Rattle.std.proofs.lemmas.Int.{ints}
use Rattle.std.proofs.lemmas.Bool.Decides.{nat_tests}
use Rattle.rv_isa.specs.Format.{sign_extended}
use Rattle.asm_read.specs.declared.object.Object.{Object}
use Rattle.asm_read.specs.declared.object.ObjectSymbol.{ObjectSymbol}
use Rattle.asm_read.specs.declared.object.Section.{Section}
use Rattle.asm_read.specs.declared.object.Section.TheVariants.{Text}
use Rattle.obj_link.specs.Layout.{begin_in, sections_of, image_size, low_64, symbol_address}
use Rattle.obj_link.specs.Reach.{IsInReach, LiesNear, signed_64}
use Rattle.obj_link.specs.Words.{high_part, low_part}

near : (begin place : ℕ) (distance : ℤ) → 0x10000 ≤ begin → begin + place ≤ 0x10000 + 67108864 → negsuc (2 ^ 29 - 1) ≤ℤ distance → distance ≤ℤ pos (2 ^ 29)
    → IsInReach (low_64 (pos begin +ℤ (pos place +ℤ distance)))
near begin place distance above below low high = grind (arith, ints, nat_tests)

by_section : (section : Section) (objects before : List Object) (object : Object) (s : ObjectSymbol) → image_size objects ≤ 67108864 → LiesNear objects before s
    → IsInReach (symbol_address (begin_in (sections_of objects before object) section) s)
by_section Text objects before object s small lies =
    let inside = lies.inside in
    subst (λ o. IsInReach (low_64 (pos (0x10000 + image_size before) +ℤ o))) (sym lies.offset)
    (near (0x10000 + image_size before) lies.place lies.distance (omega arith) (omega arith) lies.low lies.high)

pub in_reach : (objects before : List Object) (object : Object) (s : ObjectSymbol) → image_size objects ≤ 67108864 → LiesNear objects before s
    → IsInReach (symbol_address (begin_in (sections_of objects before object) s.section) s)
in_reach objects before object s small lies = by_section s.section objects before object s small lies

-- the upper part, extended by its sign from 32 bits, and the lower part make the address as a signed number
pub signed_parts : (address : ℕ) → address < 2 ^ 64 → IsInReach address
    → sign_extended 32 (0x1000 * high_part address) +ℤ low_part address ≡ signed_64 address
signed_parts address fits reach = grind (arith, ints, nat_tests)
