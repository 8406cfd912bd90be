-- How far from an image its symbols lie.
use Rattle.std.specs.Prelude.{◌≡◌, ◌+◌, ◌-◌, ◌^◌, ◌≤◌, ◌+ℤ◌, ◌≤ℤ◌, ℕ, ℤ, pos, negsuc, List}
use Rattle.rv_isa.specs.Format.{sign_extended}
use Rattle.asm_read.specs.declared.object.Object.{Object}
use Rattle.asm_read.specs.declared.object.ObjectSymbol.{ObjectSymbol}
use Rattle.obj_link.specs.Layout.{image_size}

-- an address as a signed number
abbrev pub signed_64 : ℕ → ℤ
signed_64 address = sign_extended 64 address

-- A symbol lies at a place of the image, or up to 2^29 bytes from one. `before` are the objects before its own. A
-- label is at a place, and an alias may lie off one.
pub record LiesNear (objects before : List Object) (symbol : ObjectSymbol) : Type 0 where
  pub place : ℕ
  pub distance : ℤ
  pub offset : symbol.offset ≡ pos place +ℤ distance
  pub inside : image_size before + place ≤ image_size objects
  pub low : negsuc (2 ^ 29 - 1) ≤ℤ distance
  pub high : distance ≤ℤ pos (2 ^ 29)

-- an address, read as signed, is from -2^29 to 2^29 + 2^27
abbrev pub IsInReach : ℕ → Type 0
IsInReach address =
    (negsuc (2 ^ 29 - 1) ≤ℤ signed_64 address) × (signed_64 address ≤ℤ pos (2 ^ 29 + 2 ^ 27))
