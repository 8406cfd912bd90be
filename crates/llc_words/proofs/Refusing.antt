-- Where `clap` reads the words, and where it refuses them.
use Rattle.std.proofs.Common.{◌≡◌, ◌∙◌, ℕ, true, List, [], ◌∷◌, Option, Some, None, refl, sym, ap, inl, inr, ◌≢◌, Ok, Err}
use Rattle.clap.specs.Walk.{Row}
use Rattle.std.specs.Prelude.{IfOk, IsErrOf, Result}
use Rattle.std.specs.Result.{result_ok}
use Rattle.clap.specs.Kinds.{HasKind, IsAmong, Kinds}
use Rattle.clap.specs.Words.{fault_of, is_simple, is_simple_and_free, kind_of, matches_of}
use Rattle.clap.specs.declared.error.Error.{Error}
use Rattle.clap.specs.declared.error.kind.ErrorKind.{ErrorKind}
use Rattle.clap.specs.declared.error.kind.ErrorKind.TheVariants.{OutOfMemory}
use Rattle.clap.proofs.OnLiterals.{clap_on_literals}
use Rattle.llc_words.specs.Commands.{Command, command_in, command_unless, command_of}
use Rattle.llc_words.specs.Syntax.{llc_app}
use Rattle.llc_words.specs.declared.types.WordsEnd.{WordsEnd}

pub simple : is_simple llc_app ≡ true
unfolding clap_on_literals
simple = refl

pub free : is_simple_and_free llc_app ≡ true
unfolding clap_on_literals
free = refl

nothing_is_refused : (rows : List Row) → command_unless (fault_of llc_app []) rows ≡ None
unfolding clap_on_literals
nothing_is_refused rows = refl

command_is : (words : List (List ℕ)) → command_of words ≡ command_unless (fault_of llc_app words) (matches_of llc_app words)
unfolding command_of
command_is [] = sym (nothing_is_refused (matches_of llc_app []))
command_is (program ∷ words) = refl

-- words that are not refused ask for what their values say
pub read_asks : (words : List (List ℕ)) (rows : List Row) → fault_of llc_app words ≡ [] → rows ≡ matches_of llc_app words
    → command_of words ≡ command_in rows
read_asks words rows read are =
    command_is words ∙ ap (λ kinds. command_unless kinds (matches_of llc_app words)) read ∙ ap command_in (sym are)

refused : (kinds : Kinds) (kind : ErrorKind) (rows : List Row) → IsAmong kind kinds → command_unless kinds rows ≡ None
refused [] kind rows never = absurd never
refused (k ∷ kinds) kind rows among = refl

-- words that are refused ask for nothing
pub refused_asks : (words : List (List ℕ)) (kind : ErrorKind) → IsAmong kind (fault_of llc_app words) → command_of words ≡ None
refused_asks words kind among = command_is words ∙ refused (fault_of llc_app words) kind (matches_of llc_app words) among

-- ---- the answer, by what was read

module _ (words : List (List ℕ)) (o : Option Command) (is : command_of words ≡ o) where
  pub asked_as : (r : Result Command WordsEnd) → o ≡ result_ok r → IfOk r (λ asked. command_of words ≡ Some asked)
  asked_as (Ok asked) gives = is ∙ gives
  asked_as (Err end) gives = tt

  pub refused_as : (r : Result Command WordsEnd) (end : WordsEnd) → o ≡ result_ok r → IsErrOf r end → command_of words ≡ None
  refused_as (Ok asked) end gives never = absurd cc
  refused_as (Err other) end gives ends = is ∙ gives

-- an error other than that memory ran out refuses the words
pub other_refuses : (words : List (List ℕ)) (e : Error) → HasKind (fault_of llc_app words) e → kind_of e ≢ OutOfMemory → command_of words ≡ None
other_refuses words e (inl memory) other = absurd (other memory)
other_refuses words e (inr among) other = refused_asks words (kind_of e) among
