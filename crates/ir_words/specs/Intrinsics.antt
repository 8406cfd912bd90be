-- The names after `@` that begin with `llvm.` (LangRef, "Intrinsic Functions").
use Rattle.std.specs.Prelude.{ℕ, ◌-◌, Bool, ◌&&◌, ◌==◌, List, [], ◌∷◌, codes, drop, length, slice_index, take, if◌then◌else◌}
use Rattle.std.specs.List.{list_any}
use Rattle.std.specs.Str.{bytes_eq}
use Rattle.ir_lex.specs.Escapes.{unescaped}
use Rattle.ir_words.specs.Words.{Entry, is_width, looked_up}
use Rattle.ir_words.specs.declared.class.Class.{Class}
use Rattle.ir_words.specs.declared.class.Class.TheVariants.{Global, MetadataIntrinsic, DroppedIntrinsic, Intrinsic, UnknownIntrinsic}

-- intrinsics that are known by their whole name
abbrev pub named : List Entry
named =
    (codes "llvm.trap", Intrinsic) ∷
    (codes "llvm.memcpy.p0.p0.i64", Intrinsic) ∷
    (codes "llvm.memmove.p0.p0.i64", Intrinsic) ∷
    (codes "llvm.memset.p0.i64", Intrinsic) ∷
    (codes "llvm.assume", DroppedIntrinsic) ∷
    (codes "llvm.donothing", DroppedIntrinsic) ∷
    (codes "llvm.experimental.noalias.scope.decl", MetadataIntrinsic) ∷
    []

-- intrinsics of integers of each width, without the width
abbrev pub sized : List (List ℕ)
sized =
    codes "llvm.ctpop.i" ∷ codes "llvm.ctlz.i" ∷ codes "llvm.cttz.i" ∷ codes "llvm.bswap.i" ∷
    codes "llvm.fshl.i" ∷ codes "llvm.fshr.i" ∷ codes "llvm.smax.i" ∷ codes "llvm.smin.i" ∷
    codes "llvm.umax.i" ∷ codes "llvm.umin.i" ∷ codes "llvm.abs.i" ∷ []

unfoldable pub begins_with : List ℕ → List ℕ → Bool
begins_with prefix name = bytes_eq (take (length prefix) name) prefix

-- one of these and a width
unfoldable pub is_sized : List (List ℕ) → List ℕ → Bool
is_sized prefixes name = list_any (λ prefix. begins_with prefix name && is_width (drop (length prefix) name)) prefixes

unfoldable pub intrinsic_class : List ℕ → Class
intrinsic_class name =
    if begins_with (codes "llvm.dbg.") name then MetadataIntrinsic
    else if begins_with (codes "llvm.lifetime.") name then DroppedIntrinsic
    else if is_sized sized name then Intrinsic
    else looked_up named name UnknownIntrinsic

-- the name of a global: what stands after `@`, without its quotes and with its escapes read
unfoldable pub global_name : List ℕ → List ℕ
global_name text = if slice_index text 1 == 34 then unescaped (take (length text - 3) (drop 2 text)) else drop 1 text

unfoldable pub name_class : List ℕ → Class
name_class name = if begins_with (codes "llvm.") name then intrinsic_class name else Global

unfoldable pub global_class : List ℕ → Class
global_class text = name_class (global_name text)
