-- No text is both accepted and refused, and what is written is what the module allows.
use Rattle.std.proofs.Common.{◌≡◌, ◌+◌, ◌≤◌, ℕ, Bool, true, false, Option, Some, None, List, [], ◌∷◌, length, inl, inr, refl, sym, ap, ◌∙◌, subst, arith}
use Rattle.std.specs.Prelude.{is_some}
use Rattle.std.specs.Option.{option_map_or}
use Rattle.std.specs.Io.KnownBytes.{Consumes}
use Rattle.std.proofs.lemmas.List.{length-append}
use Rattle.cg_io.specs.Told.{GivesAll, TakesExactly}
use Rattle.cg_io.proofs.ToldLemmas.{GivesAll-told}
use Rattle.cg_built.proofs.Programs.{IsProgram}
use Rattle.cg_built.specs.Unbuilt.{IsBuilt, first_unbuilt}
use Rattle.ir_check.proofs.OneAnswer.{keeping_excludes}
use Rattle.ir_check.specs.Checks.{IsCheckedFrom}
use Rattle.cg_built.proofs.UnbuiltLemmas.{is_program}
use Rattle.cg_part.specs.Text.{part_text}
use Rattle.cg_part.proofs.AllowedLemmas.{image_allowed, program_allowed}
use Rattle.cg_part.proofs.LinkingImage.{image_excludes}
use Rattle.cg_part.proofs.AssemblingLemmas.{part_resolves}
use Rattle.ir_read.proofs.OneAnswer.{reads_excludes, reads_unique}
use Rattle.ir_syntax.specs.declared.function.Function.{Function}
use Rattle.ir_syntax.specs.declared.module.Module.{Module}
use Rattle.ir_syntax.specs.declared.refusal.Refusal.{Refusal}
use Rattle.obj_link.specs.declared.image.Image.{Image}
use Rattle.llc_top.specs.Exact.{IsExact, Serves, Compiled, Ran}
use Rattle.llc_top.specs.Headline.{Does, Headline}
use Rattle.cg_built.specs.Main.{defines_main, has_main, fits_main, the_main}
use Rattle.llc_top.specs.Outcome.{Outcome, words_refused, read_failed, refuses, compiles, runs, status_of, out_due, err_due, HasReason, Answers, TakesModule, TakesProgram, TakesRefused}
use Rattle.llc_top.specs.Refusals.{IsAccepted, IsCheckedRefusal, IsFirstRefusal, IsModuleRefusal, IsRunRefusal, text_limit}
use Rattle.llc_top.specs.Streams.{SourceChange, SinkChange, TellsAll}
use Rattle.llc_words.specs.Commands.{Command, command_of}
use Rattle.llc_words.specs.declared.types.Mode.{Mode}
use Rattle.llc_words.specs.declared.types.Mode.TheVariants as modes
use Rattle.llc_top.specs.declared.status.Status.{Status}
use Rattle.llc_top.specs.declared.status.Status.TheVariants as statuses
use Rattle.llc_top.proofs.Programs.{main_is}

-- what was taken of a source that tells its bytes is no more than these
taken-length : (bytes taken : List ℕ) (left' : Option (List ℕ)) → Consumes (Some bytes) left' taken → length taken ≤ length bytes
taken-length bytes taken None never = absurd never
taken-length bytes taken (Some rest) split = omega (arith, ap length split ∙ length-append taken rest)

too_long : (left left' : Option (List ℕ)) (bytes : List ℕ) (n : ℕ) → left ≡ Some bytes → TakesExactly n left left' → n ≤ length bytes
too_long left left' bytes n told takes =
    let some : Consumes (Some bytes) left' takes.bytes = subst (λ l. Consumes l left' takes.bytes) told takes.taken in
    omega (arith, taken-length bytes takes.bytes left' some, takes.count)

given : (left left' : Option (List ℕ)) (bytes all : List ℕ) → left ≡ Some bytes → GivesAll left left' all → all ≡ bytes
given left left' bytes all told gave = GivesAll-told bytes left' all (subst (λ l. GivesAll l left' all) told gave)

-- a module that has a main defines one
main_defined : (found : Option Function) → option_map_or fits_main found false ≡ true → is_some found ≡ true
main_defined None has = absurd (cc)
main_defined (Some f) has = refl

-- to run a module it has a main, and its text links
serves_run : (mode : Mode) (m : Module) → mode ≡ modes.Run → Serves mode m → Serves modes.Run m
serves_run mode m is serves = subst (λ a. Serves a m) is serves

same_value : (a b c : Bool) → a ≡ b → a ≡ c → b ≡ c
same_value a b c first second = sym first ∙ second

true_false : true ≡ false → ⊥
true_false e = cc

-- a module that can be run is not refused to be
run_apart : (m : Module) (e : Refusal) → Serves modes.Run m → IsRunRefusal m e → ⊥
run_apart m e (has, image, linked) (inl (inl (none, is))) = true_false (same_value (defines_main m) true false (main_defined (the_main m) has) none)
run_apart m e (has, image, linked) (inl (inr (defined, none, is))) = true_false (same_value (has_main m) true false has none)
run_apart m e (has, image, linked) (inr (also, (why, unlinked, some, is))) = some (image_excludes (part_text m ∷ []) image why linked unlinked)

none_some : (found : Option ℕ) (line : ℕ) → found ≡ None → found ≡ Some line → ⊥
none_some found line none some = absurd (cc)

checked_apart : (mode : Mode) (m : Module) (e : Refusal) → IsBuilt m → Serves mode m → IsCheckedRefusal mode m e → ⊥
checked_apart mode m e is serves (inl (line, unbuilt, same)) = none_some (first_unbuilt m) line is.built unbuilt
checked_apart mode m e is serves (inr (also, running, refused)) = run_apart m e (serves_run mode m running serves) refused

module_apart : (mode : Mode) (read m : Module) (e : Refusal) → IsCheckedFrom read m → IsBuilt m → Serves mode m → IsModuleRefusal mode read e → ⊥
module_apart mode read m e from is serves (inl refused) = keeping_excludes read e from.keeps refused
module_apart mode read m e from is serves (inr (other, also, refused)) =
    checked_apart mode m e is serves (subst (λ k. IsCheckedRefusal mode k e) (also.is ∙ sym from.is) refused)

-- an accepted text that serves a mode has no first refusal in it
accepted_apart : (mode : Mode) (bytes : List ℕ) (m : Module) (refusal : Refusal) → IsAccepted bytes m → Serves mode m →
    IsFirstRefusal mode bytes refusal → ⊥
accepted_apart mode bytes m refusal accepted serves (inl (long, is)) = absurd (omega (arith, accepted.short, long))
accepted_apart mode bytes m refusal accepted serves (inr (short, inl unread)) = reads_excludes bytes accepted.read refusal accepted.reads unread
accepted_apart mode bytes m refusal accepted serves (inr (short, inr (other, read, refused))) =
    module_apart mode accepted.read m refusal accepted.checks accepted.built serves
    (subst (λ k. IsModuleRefusal mode k refusal) (reads_unique bytes other accepted.read read accepted.reads) refused)

-- what was refused of a source that tells its bytes is their first refusal
refused_first : (mode : Mode) (left left' : Option (List ℕ)) (bytes : List ℕ) (refusal : Refusal) → left ≡ Some bytes →
    TakesRefused mode left left' refusal → IsFirstRefusal mode bytes refusal
refused_first mode left left' bytes refusal told (inl (is, takes)) =
    inl (omega (arith, too_long left left' bytes (text_limit + 1) told takes), is)
refused_first mode left left' bytes refusal told (inr (all, gave, short, refused)) =
    subst (λ b. IsFirstRefusal mode b refusal) (given left left' bytes all told gave) (inr (short, refused))

taken_accepted : (left left' : Option (List ℕ)) (bytes : List ℕ) (m : Module) → left ≡ Some bytes → TakesModule left left' m → IsAccepted bytes m
taken_accepted left left' bytes m told takes = subst (λ b. IsAccepted b m) (given left left' bytes takes.bytes told takes.gave) takes.accepted

one_command : (a b : Command) (read : Option Command) → read ≡ Some a → read ≡ Some b → a ≡ b
one_command a b read first second = cc

-- the modes of one reading
one_mode : (a b : Command) (read : Option Command) → read ≡ Some a → read ≡ Some b → a.mode ≡ b.mode
one_mode a b read first second = ap (λ (c : Command). c.mode) (one_command a b read first second)

module _ (words : List (List ℕ)) (src : SourceChange) (out err : SinkChange) where
  never_refused : (command : Command) (bytes : List ℕ) (m : Module) (outcome : Outcome) → command_of words ≡ Some command → src.old_left ≡ Some bytes →
      IsAccepted bytes m → Serves command.mode m → HasReason words src outcome → status_of outcome ≡ statuses.Refused → ⊥
  never_refused command bytes m words_refused asked told accepted serves reason is = cc
  never_refused command bytes m read_failed asked told accepted serves reason is = cc
  never_refused command bytes m (refuses refusal) asked told accepted serves (calm, other, is_other, takes) is =
      accepted_apart command.mode bytes m refusal accepted serves
      (subst (λ a. IsFirstRefusal a bytes refusal) (one_mode other command (command_of words) is_other asked)
      (refused_first other.mode src.old_left src.left bytes refusal told takes))
  never_refused command bytes m (compiles other) asked told accepted serves reason is = cc
  never_refused command bytes m (runs other image) asked told accepted serves reason is = cc

  never_done : (command : Command) (bytes : List ℕ) (refusal : Refusal) (outcome : Outcome) → command_of words ≡ Some command → src.old_left ≡ Some bytes →
      IsFirstRefusal command.mode bytes refusal → HasReason words src outcome → status_of outcome ≡ statuses.Done → ⊥
  never_done command bytes refusal words_refused asked told refused reason is = cc
  never_done command bytes refusal read_failed asked told refused reason is = cc
  never_done command bytes refusal (refuses other) asked told refused reason is = cc
  never_done command bytes refusal (compiles m) asked told refused (calm, other, is_other, compiling, takes) is =
      accepted_apart command.mode bytes m refusal (taken_accepted src.old_left src.left bytes m told takes)
      (subst (λ a. Serves a m) (sym compiling ∙ one_mode other command (command_of words) is_other asked) tt) refused
  never_done command bytes refusal (runs other image) asked told refused (calm, is_other, running, takes) is =
      accepted_apart command.mode bytes takes.m refusal (taken_accepted src.old_left src.left bytes takes.m told takes.takes)
      (subst (λ a. Serves a takes.m) (sym running ∙ one_mode other command (command_of words) is_other asked)
      (takes.has_a_main, image, takes.linked)) refused

  -- an answer is exact
  answer_exact : (status : Status) → Answers (HasReason words src) status out err → IsExact words src.old_left status
  answer_exact status answer = record {
    accepted = λ command bytes m asked told accepted serves is.
        let at = subst (λ s. Answers (HasReason words src) s out err) is answer in
        never_refused command bytes m at.0 asked told accepted serves at.1 at.2;
    refusable = λ command bytes refusal asked told refused is.
        let at = subst (λ s. Answers (HasReason words src) s out err) is answer in
        never_done command bytes refusal at.0 asked told refused at.1 at.2;
  }

  module _ (command : Command) (asked : command_of words ≡ Some command) where
    compiled_by : (outcome : Outcome) → command.mode ≡ modes.Compile → HasReason words src outcome →
        status_of outcome ≡ statuses.Done → TellsAll (out_due outcome) out → Compiled src.old_left src.left out.old_written out.written
    compiled_by words_refused compiling reason is results = absurd (cc)
    compiled_by read_failed compiling reason is results = absurd (cc)
    compiled_by (refuses refusal) compiling reason is results = absurd (cc)
    compiled_by (compiles m) compiling (calm, other, is_other, asks, takes) is results =
        let program : IsProgram m = is_program m takes.accepted.built in
        record {
          compiled = m;
          takes = takes;
          wrote = results.appended;
          resolves = part_resolves m program;
          allowed = program_allowed m program;
        }
    compiled_by (runs other image) compiling (calm, is_other, running, takes) is results =
        let same : modes.Run ≡ modes.Compile = sym running ∙ one_mode other command (command_of words) is_other asked ∙ compiling in
        absurd (cc)

    -- what was shown with the command that was read is what the module allows
    shown_by : (image : Image) → TakesProgram src.old_left src.left image → TellsAll (out_due (runs command image)) out →
        TellsAll (err_due (runs command image)) err → Ran command src.old_left src.left out.old_written out.written err.old_written err.written
    shown_by image takes results errors =
        let main = main_is takes.m takes.has_a_main in
        let program : IsProgram takes.m = is_program takes.m takes.takes.accepted.built in
        record {
          compiled = takes.m;
          image = image;
          takes = takes.takes;
          linked = takes.linked;
          wrote = results.appended;
          told = errors.appended;
          allowed = image_allowed takes.m main.0 image program main.1 takes.linked command.input command.steps;
        }

    ran_by : (outcome : Outcome) → command.mode ≡ modes.Run → HasReason words src outcome →
        status_of outcome ≡ statuses.Done → TellsAll (out_due outcome) out → TellsAll (err_due outcome) err →
        Ran command src.old_left src.left out.old_written out.written err.old_written err.written
    ran_by words_refused running reason is results errors = absurd (cc)
    ran_by read_failed running reason is results errors = absurd (cc)
    ran_by (refuses refusal) running reason is results errors = absurd (cc)
    ran_by (compiles m) running (calm, other, is_other, compiling, takes) is results errors =
        let same : modes.Compile ≡ modes.Run = sym compiling ∙ one_mode other command (command_of words) is_other asked ∙ running in
        absurd (cc)
    ran_by (runs other image) running (calm, is_other, asks, takes) is results errors =
        let same : other ≡ command = one_command other command (command_of words) is_other asked in
        shown_by image takes (subst (λ c. TellsAll (out_due (runs c image)) out) same results)
        (subst (λ c. TellsAll (err_due (runs c image)) err) same errors)

  -- what was written resolves, and its image shows what the module allows
  answer_compiled : (status : Status) → Answers (HasReason words src) status out err → (command : Command) → Does words status modes.Compile command →
      Compiled src.old_left src.left out.old_written out.written
  answer_compiled status answer command (is, asked, compiling) =
      let at = subst (λ s. Answers (HasReason words src) s out err) is answer in
      compiled_by command asked at.0 compiling at.1 at.2 at.3.results

  -- what was shown is what the module allows
  answer_ran : (status : Status) → Answers (HasReason words src) status out err → (command : Command) → Does words status modes.Run command →
      Ran command src.old_left src.left out.old_written out.written err.old_written err.written
  answer_ran status answer command (is, asked, running) =
      let at = subst (λ s. Answers (HasReason words src) s out err) is answer in
      ran_by command asked at.0 running at.1 at.2 at.3.results at.3.errors

  -- all that the headline says follows from the answer
  pub answer_headline : (status : Status) → Answers (HasReason words src) status out err → Headline words status src out err
  answer_headline status answer = record {
    answer = answer;
    exact = answer_exact status answer;
    compiled = answer_compiled status answer;
    ran = answer_ran status answer;
  }
