-- A call that the clause `source` holds of is a run as its user sees it, or the first part of one.
use Rattle.std.proofs.Common.{◌≡◌, ◌⊎◌, inl, inr, ℕ, Bool, true, false, List, [], ◌∷◌, ◌++◌}
use Rattle.std.proofs.Common.{Option, Some, None, Ok, refl, sym, ap, ◌∙◌, subst}
use Rattle.std.specs.Prelude.{flat_map, ⊤}
use Rattle.std.specs.List.{AllByRecursion}
use Rattle.std.specs.Io.KnownBytes.{Appends}
use Rattle.pmem.specs.Device.{Device}
use Rattle.pool_layout.specs.declared.wanted.ImageFault.TheVariants as image
use Rattle.cnvm_script.specs.declared.command.Command.{Command}
use Rattle.cnvm_script.specs.Commands.{script_meaning}
use Rattle.cnvm_session.specs.declared.answer.Answer.{Answer}
use Rattle.cnvm_session.specs.declared.program.Program.{Program}
use Rattle.cnvm_session.specs.AnswerText.{answer_text}
use Rattle.cnvm_session.specs.Pool.{sizes_of}
use Rattle.session_law.specs.Law.{IsWordCommand, super_words}
use Rattle.session_law.specs.Ran.{Ran, fresh_moment}
use Rattle.session_law.proofs.chains.Chains.{ran_append}
use Rattle.session_law.proofs.Scripts.{script_words}
use Rattle.user_law.specs.Run.{TextMeaning, IsUserRun}
use Rattle.text_law.specs.Law.{IsOfText}
use Rattle.text_law.proofs.Meaning.{seen_on, run_law}
use Rattle.session_run.specs.declared.status.Status.{Status}
use Rattle.session_run.specs.declared.status.Status.TheVariants as status
use Rattle.session_run.specs.Strict.{IsAnswered, strict_status}
use Rattle.cnvm_compile.specs.declared.asked.Asked.{Asked}
use Rattle.cnvm_compile.specs.declared.compiling.Compiled.{Compiled}
use Rattle.cnvm_compile.specs.Compilation.{IsCompiled}
use Rattle.cnvm_cli.specs.declared.refused.Refused.{Refused}
use Rattle.cnvm_cli.specs.declared.refused.Refused.TheVariants as refused
use Rattle.cnvm_cli.specs.Meant.{text_of, Fresh, RanAll, MeansAll, MeansPart, MeantAs, JobMeant}
use Rattle.cnvm_cli.specs.Meant.{RunMeant}
use Rattle.cnvm_cli.specs.RefusalText.{refusal_status, has_line}
use Rattle.cnvm_cli.specs.Run.{ToldAs, RefusedAs}
use Rattle.cnvm_cli.specs.Verdict.{OfBytes, asked_by, TextsGive, TextsRefuse}
use Rattle.cnvm_cli.specs.World.{Sources, Outside}
use Rattle.cnvm_cli.proofs.Statuses.{strict_or, strict_same}
use Rattle.call_law.specs.Call.{IsUserCall, IsUserPart}
use Rattle.call_law.specs.Law.{IsTextMeaning, ByMeaning, UserCallLaw, UserPartLaw}
use Rattle.call_law.proofs.Compiling.{of_text, pool_made}

-- the statuses with which all commands are answered
abbrev AnswersAll : Status → Type 0
AnswersAll status.Done = ⊤
AnswersAll status.Unmet = ⊤
AnswersAll _ = ⊥

answers_all : (s : Status) → IsAnswered s → AnswersAll s
answers_all s (inl done) = subst AnswersAll (sym done) tt
answers_all s (inr unmet) = subst AnswersAll (sym unmet) tt

-- a refusal has none of them
not_answered : (why : Refused) → AnswersAll (refusal_status why) → ⊥
not_answered refused.Usage all = all
not_answered refused.LongProgram all = all
not_answered (refused.Program line complaint) all = all
not_answered refused.LongScript all = all
not_answered (refused.Script number) all = all
not_answered (refused.Image (image.Short found needed)) all = all
not_answered (refused.Image (image.Magic found wanted)) all = all
not_answered (refused.Image (image.Version found wanted)) all = all
not_answered (refused.Image (image.Sizes found wanted)) all = all
not_answered (refused.Image (image.Digest found wanted)) all = all
not_answered (refused.Image (image.Content word value)) all = all
not_answered (refused.Image image.NoMemory) all = all
not_answered refused.Busy all = all
not_answered refused.ReadFault all = all
not_answered refused.NoMemory all = all

never_refused : (why : Refused) (s : Status) (w w' : Option (List ℕ)) → AnswersAll s
    → RefusedAs why s w w' → ⊥
never_refused why s w w' all told = by_line (has_line why) told
  where
    by_line : (b : Bool) → ToldAs b why s w w' → ⊥
    by_line true (inl due) = not_answered why (subst AnswersAll due.0 all)
    by_line true (inr (inl none)) = subst AnswersAll none.0 all
    by_line true (inr (inr part)) = subst AnswersAll part.0 all
    by_line false told = not_answered why (subst AnswersAll told.0 all)

-- all commands of the run itself are answered, whether it was strict or not
strict_all : (strict : Bool) (ran result : Status) → result ≡ strict_status strict ran
    → AnswersAll result → AnswersAll ran
strict_all strict ran result is all = by_case (strict_or strict ran)
  where
    by_case : (strict_status strict ran ≡ ran)
        ⊎ ((strict_status strict ran ≡ status.Done) × (ran ≡ status.Unmet)) → AnswersAll ran
    by_case (inl same) = subst AnswersAll (is ∙ same) all
    by_case (inr (done, unmet)) = subst AnswersAll (sym unmet) tt

write_undone : status.WriteFault ≡ status.Done → ⊥
write_undone e = cc

-- what such a status says of a run
means_all : (program : Program) (commands : List Command) (s : Status) (w w' : Option (List ℕ))
    (d d' : Device) (k k' : ℕ) → AnswersAll s → MeantAs program commands s w w' d d' k k'
    → (unmet : Bool) × MeansAll program commands unmet w w' d d' k k'
means_all program commands status.Done w w' d d' k k' all means = (false, means)
means_all program commands status.Unmet w w' d d' k k' all means = (true, means)
means_all program commands status.NoMemory w w' d d' k k' all means = absurd all
means_all program commands status.Usage w w' d d' k k' all means = absurd all
means_all program commands status.Program w w' d d' k k' all means = absurd all
means_all program commands status.Script w w' d d' k k' all means = absurd all
means_all program commands status.ReadFault w w' d d' k k' all means = absurd all
means_all program commands status.WriteFault w w' d d' k k' all means = absurd all
means_all program commands status.DeviceFault w w' d d' k k' all means = absurd all
means_all program commands status.Image w w' d d' k k' all means = absurd all
means_all program commands status.PoolBusy w w' d d' k k' all means = absurd all

-- what holds of a source's bytes, by what held
of_bytes : {P Q : List ℕ → Type 0} (o : Option (List ℕ)) → OfBytes o P
    → ((text : List ℕ) → P text → Q text) → OfBytes o Q
of_bytes None has more = (has.0, more has.0 has.1)
of_bytes (Some text) has more = more text has

texts_same : (answers : List Answer) → text_of answers ≡ flat_map answer_text answers
texts_same [] = refl
texts_same (a ∷ answers) = ap (λ (bs : List ℕ). answer_text a ++ bs) (texts_same answers)

parted : (cs : List Command) (c : Command) (ds : List Command) →
    (cs ++ c ∷ []) ++ ds ≡ cs ++ c ∷ ds
parted [] c ds = refl
parted (b ∷ cs) c ds = ap (λ (es : List Command). b ∷ es) (parted cs c ds)

first_words : (cs ds : List Command) → AllByRecursion IsWordCommand (cs ++ ds)
    → AllByRecursion IsWordCommand cs
first_words [] ds words = tt
first_words (c ∷ cs) ds words = (words.0, first_words cs ds words.1)

module _ (asked : Asked) (text script : List ℕ) (compiled : Compiled)
    (is : IsCompiled asked text compiled) (commands : List Command)
    (spelled : script_meaning script ≡ Ok commands) (meaning : TextMeaning text)
    (means : IsTextMeaning text meaning) (before after : Outside) where
  abbrev program : Program
  program = compiled.program

  of : IsOfText text program program
  of = of_text text asked asked compiled compiled is is

  whole : (unmet : Bool) → MeansAll program commands unmet before.out after.out before.dev after.dev
      before.steps after.steps → IsUserCall asked text script meaning before after
  whole unmet r =
      let b : Device = r.0 in
      let all : RanAll program (super_words program) commands (fresh_moment program b before.steps)
      before.out after.out after.dev after.steps = r.3.0 in
      record {
        sizes = sizes_of program;
        made = b;
        pool = pool_made asked text compiled is meaning means before.dev b r.1;
        written = flat_map answer_text all.answers;
        run = subst (λ (e : Device). IsUserRun text script meaning (sizes_of program) b e
            (flat_map answer_text all.answers)) all.device
            (run_law text script program program meaning commands all.answers b before.steps
            all.last (means asked compiled is) of is.agrees r.2 spelled all.ran);
        appended = subst (λ (bs : List ℕ). Appends before.out after.out bs)
            (texts_same all.answers) all.written;
      }

  some : MeansPart program commands before.out after.out before.dev after.dev before.steps
      after.steps → IsUserPart asked text script meaning before after
  some r =
      let b : Device = r.0 in
      let part = r.3 in
      let done : List Command = part.first ++ part.next ∷ [] in
      let all : commands ≡ done ++ part.others =
      part.are ∙ sym (parted part.first part.next part.others) in
      let words : AllByRecursion IsWordCommand done =
      first_words done part.others (subst (AllByRecursion IsWordCommand) all
      (script_words script commands spelled)) in
      let chain : Ran program (super_words program) done (part.answers ++ part.answer ∷ [])
      (fresh_moment program b before.steps) part.last =
      ran_append program (super_words program) part.first (part.next ∷ []) part.answers
      (part.answer ∷ []) (fresh_moment program b before.steps) part.before part.last part.ran
      (part.last, part.step, refl) in
      let seen = seen_on (means asked compiled is) of is.agrees done
      (part.answers ++ part.answer ∷ []) b
      before.steps part.last words r.2 chain in
      record {
        sizes = sizes_of program;
        made = b;
        pool = pool_made asked text compiled is meaning means before.dev b r.1;
        holds = seen.0;
        first = done;
        later = part.others;
        spelled = spelled ∙ ap Ok all;
        answers = part.answers;
        answer = part.answer;
        last = seen.1;
        ran = seen.3;
        ends = seen.2 ∙ part.device;
        told = part.told;
        appended = subst (λ (bs : List ℕ). Appends before.out part.told bs)
            (texts_same part.answers) part.written;
        part = part.part;
      }

pub call_law : UserCallLaw
call_law p s slots records ticks strict told result before after answered (ended, is, inl refusal) =
    absurd (never_refused refusal.0 ended before.out after.out
    (strict_all strict ended result is (answers_all result answered)) refusal.2)
call_law p s slots records ticks strict told result before after answered (ended, is, inr ran) =
    let asked : Asked = asked_by slots records ticks in
    let gives : TextsGive asked told.program told.script ran.0 ran.1 = ran.2 in
    let job : JobMeant false Fresh ran.0.program ran.1 ended before after = ran.3 in
    let all = means_all ran.0.program ran.1 ended before.out after.out before.dev after.dev
    before.steps after.steps (strict_all strict ended result is (answers_all result answered))
    job.0 in
    of_bytes told.program gives.0 (λ text is. (
      (ran.0, is),
      of_bytes told.script gives.1 (λ script has meaning means.
          whole asked text script ran.0 is ran.1 has.1 meaning means before after all.0 all.1),
    ))

-- where the writing failed
part_of : (asked : Asked) (told : Sources) (before after : Outside)
    → RunMeant asked told false false status.WriteFault before after
    → ((why : Refused) × TextsRefuse asked told.program told.script why)
    ⊎ ByMeaning asked told.program told.script
    (λ text script meaning. IsUserPart asked text script meaning before after)
part_of asked told before after (inl refusal) = inl (refusal.0, refusal.1)
part_of asked told before after (inr ran) =
    let gives : TextsGive asked told.program told.script ran.0 ran.1 = ran.2 in
    let job : JobMeant false Fresh ran.0.program ran.1 status.WriteFault before after = ran.3 in
    inr (of_bytes told.program gives.0 (λ text is. (
      (ran.0, is),
      of_bytes told.script gives.1 (λ script has meaning means.
          some asked text script ran.0 is ran.1 has.1 meaning means before after job.0),
    )))

pub part_law : UserPartLaw
part_law p s slots records ticks strict told before after (ran, is, means) =
    part_of (asked_by slots records ticks) told before after
    (subst (λ (t : Status). RunMeant (asked_by slots records ticks) told false false t before after)
    (strict_same strict ran status.WriteFault is write_undone) means)
