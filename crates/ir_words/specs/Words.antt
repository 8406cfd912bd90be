-- The words of LLVM IR that have a class of their own, and the ones that are not compiled.
use Rattle.std.specs.Prelude.{ℕ, Bool, not, ◌&&◌, ◌==◌, nat_le, List, [], ◌∷◌, ◌++◌, codes, drop, filter, length, map, slice_index, if◌then◌else◌}
use Rattle.std.specs.List.{list_all}
use Rattle.std.specs.Str.{bytes_eq}
use Rattle.ir_lex.specs.Characters.{is_digit}
use Rattle.ir_lex.specs.Literals.{decimal_after}
use Rattle.ir_words.specs.declared.class.Class.{Class}
use Rattle.ir_words.specs.declared.class.Class.TheVariants.{SourceFilename, Target, Triple, Datalayout, Attributes, TypeWord, GlobalWord, Constant, External, Alias, Declare, Define, Metadata, Distinct, Private, Internal, DsoLocal, DsoPreemptable, Default, Hidden, Protected, UnnamedAddr, LocalUnnamedAddr, ExternallyInitialized, Ccc, Fastcc, Coldcc, Align, Void, Ptr, Times, Zeroinitializer, True, False, Null, Undef, Poison, Getelementptr, Inbounds, Phi, Add, Sub, Mul, Shl, Nuw, Nsw, Udiv, Sdiv, Lshr, Ashr, Exact, Urem, Srem, And, Or, Xor, Icmp, Eq, Ne, Ugt, Uge, Ult, Ule, Sgt, Sge, Slt, Sle, Select, Trunc, Zext, Sext, Ptrtoint, Inttoptr, Bitcast, To, Freeze, Load, Store, Alloca, Tail, Notail, Call, Ret, Br, LabelWord, Switch, Unreachable, IntType, Unsupported, Attribute}

-- a word and its class
abbrev pub Entry : Type 0
Entry = List ℕ × Class

-- what stands at the top of a module (LangRef, "Module Structure")
abbrev pub entities : List Entry
entities =
    (codes "source_filename", SourceFilename) ∷
    (codes "target", Target) ∷
    (codes "triple", Triple) ∷
    (codes "datalayout", Datalayout) ∷
    (codes "attributes", Attributes) ∷
    (codes "type", TypeWord) ∷
    (codes "global", GlobalWord) ∷
    (codes "constant", Constant) ∷
    (codes "external", External) ∷
    (codes "alias", Alias) ∷
    (codes "declare", Declare) ∷
    (codes "define", Define) ∷
    (codes "metadata", Metadata) ∷
    (codes "distinct", Distinct) ∷
    []

-- linkage, visibility, calling conventions, and the like (LangRef, "High Level Structure")
abbrev pub linkages : List Entry
linkages =
    (codes "private", Private) ∷
    (codes "internal", Internal) ∷
    (codes "dso_local", DsoLocal) ∷
    (codes "dso_preemptable", DsoPreemptable) ∷
    (codes "default", Default) ∷
    (codes "hidden", Hidden) ∷
    (codes "protected", Protected) ∷
    (codes "unnamed_addr", UnnamedAddr) ∷
    (codes "local_unnamed_addr", LocalUnnamedAddr) ∷
    (codes "externally_initialized", ExternallyInitialized) ∷
    (codes "ccc", Ccc) ∷
    (codes "fastcc", Fastcc) ∷
    (codes "coldcc", Coldcc) ∷
    (codes "align", Align) ∷
    []

-- types and constants (LangRef, "Type System" and "Constants")
abbrev pub types_and_values : List Entry
types_and_values =
    (codes "void", Void) ∷
    (codes "ptr", Ptr) ∷
    (codes "x", Times) ∷
    (codes "zeroinitializer", Zeroinitializer) ∷
    (codes "true", True) ∷
    (codes "false", False) ∷
    (codes "null", Null) ∷
    (codes "undef", Undef) ∷
    (codes "poison", Poison) ∷
    []

-- operations, and their flags and conditions (LangRef, "Instruction Reference")
abbrev pub operations : List Entry
operations =
    (codes "getelementptr", Getelementptr) ∷
    (codes "inbounds", Inbounds) ∷
    (codes "phi", Phi) ∷
    (codes "add", Add) ∷
    (codes "sub", Sub) ∷
    (codes "mul", Mul) ∷
    (codes "shl", Shl) ∷
    (codes "nuw", Nuw) ∷
    (codes "nsw", Nsw) ∷
    (codes "udiv", Udiv) ∷
    (codes "sdiv", Sdiv) ∷
    (codes "lshr", Lshr) ∷
    (codes "ashr", Ashr) ∷
    (codes "exact", Exact) ∷
    (codes "urem", Urem) ∷
    (codes "srem", Srem) ∷
    (codes "and", And) ∷
    (codes "or", Or) ∷
    (codes "xor", Xor) ∷
    (codes "icmp", Icmp) ∷
    (codes "eq", Eq) ∷
    (codes "ne", Ne) ∷
    (codes "ugt", Ugt) ∷
    (codes "uge", Uge) ∷
    (codes "ult", Ult) ∷
    (codes "ule", Ule) ∷
    (codes "sgt", Sgt) ∷
    (codes "sge", Sge) ∷
    (codes "slt", Slt) ∷
    (codes "sle", Sle) ∷
    (codes "select", Select) ∷
    (codes "trunc", Trunc) ∷
    (codes "zext", Zext) ∷
    (codes "sext", Sext) ∷
    (codes "ptrtoint", Ptrtoint) ∷
    (codes "inttoptr", Inttoptr) ∷
    (codes "bitcast", Bitcast) ∷
    (codes "to", To) ∷
    (codes "freeze", Freeze) ∷
    (codes "load", Load) ∷
    (codes "store", Store) ∷
    (codes "alloca", Alloca) ∷
    (codes "tail", Tail) ∷
    (codes "notail", Notail) ∷
    (codes "call", Call) ∷
    (codes "ret", Ret) ∷
    (codes "br", Br) ∷
    (codes "label", LabelWord) ∷
    (codes "switch", Switch) ∷
    (codes "unreachable", Unreachable) ∷
    []

-- the words of LLVM IR that are not compiled
abbrev pub unsupported_words : List (List ℕ)
unsupported_words =
    codes "half" ∷ codes "bfloat" ∷ codes "float" ∷ codes "double" ∷ codes "fp128" ∷ codes "x86_fp80" ∷
    codes "ppc_fp128" ∷ codes "x86_mmx" ∷ codes "x86_amx" ∷ codes "vscale" ∷ codes "opaque" ∷ codes "token" ∷
    codes "volatile" ∷ codes "atomic" ∷ codes "addrspace" ∷ codes "thread_local" ∷ codes "section" ∷
    codes "partition" ∷ codes "comdat" ∷ codes "weak" ∷ codes "weak_odr" ∷ codes "linkonce" ∷
    codes "linkonce_odr" ∷ codes "common" ∷ codes "available_externally" ∷ codes "appending" ∷
    codes "extern_weak" ∷ codes "ifunc" ∷ codes "module" ∷ codes "asm" ∷ codes "sideeffect" ∷ codes "invoke" ∷
    codes "callbr" ∷ codes "resume" ∷ codes "landingpad" ∷ codes "cleanupret" ∷ codes "catchret" ∷
    codes "catchswitch" ∷ codes "catchpad" ∷ codes "cleanuppad" ∷ codes "personality" ∷ codes "gc" ∷
    codes "prefix" ∷ codes "prologue" ∷ codes "byval" ∷ codes "inalloca" ∷ codes "preallocated" ∷
    codes "nest" ∷ codes "swiftself" ∷ codes "swiftasync" ∷ codes "swifterror" ∷ codes "musttail" ∷
    codes "naked" ∷ codes "fneg" ∷ codes "fadd" ∷ codes "fsub" ∷ codes "fmul" ∷ codes "fdiv" ∷ codes "frem" ∷
    codes "fcmp" ∷ codes "fptrunc" ∷ codes "fpext" ∷ codes "fptoui" ∷ codes "fptosi" ∷ codes "uitofp" ∷
    codes "sitofp" ∷ codes "addrspacecast" ∷ codes "extractvalue" ∷ codes "insertvalue" ∷
    codes "extractelement" ∷ codes "insertelement" ∷ codes "shufflevector" ∷ codes "cmpxchg" ∷
    codes "atomicrmw" ∷ codes "fence" ∷ codes "va_arg" ∷ codes "indirectbr" ∷ codes "blockaddress" ∷
    codes "dso_local_equivalent" ∷ codes "no_cfi" ∷ []

-- every word with its class
abbrev pub words : List Entry
words = entities ++ linkages ++ types_and_values ++ operations ++ map (λ word. (word, Unsupported)) unsupported_words

-- the entries of a table whose words begin with a byte
abbrev pub beginning : ℕ → List Entry → List Entry
beginning byte = filter (λ entry. slice_index entry.0 0 == byte)

-- the class of a word in a table, or another where the table doesn't have it
abbrev pub looked_up : List Entry → List ℕ → Class → Class
looked_up [] word other = other
looked_up (entry ∷ entries) word other = if bytes_eq entry.0 word then entry.1 else looked_up entries word other

-- one or more digits
unfoldable pub is_digits : List ℕ → Bool
is_digits text = not (length text == 0) && list_all is_digit text

-- the digits of a number from 1 to 64, without a leading zero
unfoldable pub is_width : List ℕ → Bool
is_width text = is_digits text && nat_le (length text) 2 && not (slice_index text 0 == 48) && nat_le (decimal_after 0 text) 64

-- `i` and one or more digits
unfoldable pub is_int_type : List ℕ → Bool
is_int_type text = slice_index text 0 == 105 && is_digits (drop 1 text)

unfoldable pub word_class : List ℕ → Class
word_class text =
    if is_int_type text then (if is_width (drop 1 text) then IntType else Unsupported)
    else if slice_index text 0 == 36 then Unsupported
    else looked_up words text Attribute
