-- A storm means what its program's source says.
use Rattle.std.proofs.Common.{◌≡◌, ℕ, zero, suc, ◌-◌, ◌^◌, ◌%◌, min, List, [], ◌∷◌, Bool, true}
use Rattle.std.proofs.Common.{false, Option, Some, None, IfSome, option_map, ◌⊎◌, inl, inr, length}
use Rattle.std.proofs.Common.{ℤ, pos, ◌++◌, refl, sym, ap, ◌∙◌, subst, arith}
use Rattle.std.specs.Prelude.{slice_get}
use Rattle.std.specs.List.{AllByRecursion}
use Rattle.std.specs.Io.KnownBytes.{Appends}
use Rattle.nvm_base.specs.Parts.{AppendsPart}
use Rattle.cache_model.specs.Cache.{Words}
use Rattle.std.proofs.lemmas.Int.{ints}
use Rattle.nvm_base.specs.Wrap.{IsWord}
use Rattle.pmem.specs.Device.{Device}
use Rattle.c_tree.specs.ItemTree.{FunctionTree}
use Rattle.c_types.specs.Shapes.{transactions_of}
use Rattle.cnvm_script.specs.declared.command.Command.{Command}
use Rattle.cnvm_script.specs.declared.command.Command.TheVariants as command
use Rattle.cnvm_script.specs.Storm.{next_draw, drawn, arguments, chosen, is_cut, round, storm_round}
use Rattle.cnvm_session.specs.declared.answer.Answer.{Answer}
use Rattle.cnvm_session.specs.Commands.{Commanded}
use Rattle.cnvm_session.specs.declared.mode.Mode.{Mode}
use Rattle.cnvm_session.specs.declared.mode.Mode.TheVariants.{Ready}
use Rattle.cnvm_session.specs.declared.program.Program.{Program}
use Rattle.session_law.specs.Agrees.{Agrees}
use Rattle.session_law.specs.State.{Pending, SourceState}
use Rattle.session_law.specs.Holds.{Holds}
use Rattle.session_law.specs.Words.{AreWords}
use Rattle.session_law.specs.History.{history_after}
use Rattle.session_law.specs.Ran.{found_by, Moment, SessionStep, Ran, fresh_moment}
use Rattle.session_law.specs.Law.{IsWordCommand, super_words}
use Rattle.session_law.proofs.chains.Chains.{steps_on, chain_kept, ran_append}
use Rattle.session_law.proofs.answers.Commands.{each_command}
use Rattle.session_law.proofs.answers.Creating.{created_rests}
use Rattle.cnvm_compile.specs.declared.asked.Asked.{Asked}
use Rattle.cnvm_compile.specs.declared.compiling.Compiled.{Compiled}
use Rattle.cnvm_compile.specs.Compilation.{IsCompiled}
use Rattle.session_run.specs.declared.status.Status.{Status}
use Rattle.session_run.specs.declared.storm.StormOrder.{StormOrder}
use Rattle.session_run.specs.declared.storm.Tally.{Tally}
use Rattle.session_run.specs.Stormed as stormed
use Rattle.session_run.specs.Made.{Created, Uncreated}
use Rattle.session_run.specs.Stormed.{no_tally, summary_text, any_broken}
use Rattle.session_run.specs.Storms as inside
use Rattle.session_run.specs.Storms.{Rounds, RoundsOf, StormStarves, StormedAll, StormedPart}
use Rattle.session_run.specs.Storms.{StormedAs}
use Rattle.cnvm_cli.specs.inside.Ends.{StormEnds}
use Rattle.cnvm_cli.specs.StormMeant.{Drawn, DrawnOf, tally_of, SummaryPart, CountsMeant}
use Rattle.cnvm_cli.specs.StormMeant.{CountsPart, CountsCut, StormMeantAs, StormMeant}
use Rattle.cnvm_cli.proofs.texts.Sources.{known_bytes}
use Rattle.cnvm_cli.proofs.Statuses.{status_map}

-- a generated argument is below 16, so it is a word
words_more : (x : ℤ) (xs : List ℤ) → IsWord x → AreWords xs → AreWords (x ∷ xs)
words_more x xs is are zero = is
words_more x xs is are (suc i) = are i

argument_word : (n : ℕ) → IsWord (pos (n % 16))
argument_word n = (omega (arith, ints), omega (arith, ints))

none_words : AreWords []
none_words i = (omega (arith, ints), omega (arith, ints))

argument_words : (x n : ℕ) → AreWords (arguments x n)
argument_words x zero = none_words
argument_words x (suc n) = words_more (pos (drawn x % 16)) (arguments (next_draw x) n)
    (argument_word (drawn x)) (argument_words (next_draw x) n)

round_words : (reach x : ℕ) (cut : Bool) (name : List ℕ) (n : ℕ)
    → AllByRecursion IsWordCommand (round reach x cut name n)
round_words reach x false name n = (argument_words x n, tt)
round_words reach x true name n = (tt, (argument_words x n, (tt, (tt, tt))))

drawn_words : (reach x : ℕ) (cut : Bool) (found : Option FunctionTree)
    → IfSome (option_map (λ (f : FunctionTree). round reach x cut f.name.text (length f.parameters))
    found)
    (AllByRecursion IsWordCommand)
drawn_words reach x cut None = tt
drawn_words reach x cut (Some f) = round_words reach x cut f.name.text (length f.parameters)

storm_words : (reach x : ℕ) (fs : List FunctionTree) (commands : List Command)
    → Some commands ≡ storm_round reach x fs → AllByRecursion IsWordCommand commands
storm_words reach x fs commands is =
    subst (λ (o : Option (List Command)). IfSome o (AllByRecursion IsWordCommand)) (sym is)
    (drawn_words reach (next_draw (next_draw x)) (is_cut x)
    (slice_get fs (chosen x (length fs) - 1)))

-- a chain has as many answers as commands, so chains are counted one after another
tally_append :
    (program : Program) (super : Words) (cs ds : List Command)
    (first second : List Answer) (x y : Moment) (t : Tally) →
    Ran program super cs first x y
    → tally_of (cs ++ ds) (first ++ second) t ≡ tally_of ds second (tally_of cs first t)
tally_append program super [] ds [] second x y t ran = refl
tally_append program super [] ds (a ∷ first) second x y t ran = absurd ran
tally_append program super (c ∷ cs) ds [] second x y t ran = absurd ran
tally_append program super (c ∷ cs) ds (a ∷ first) second x y t ran =
    tally_append program super cs ds first second ran.0 y (stormed.counted c a t) ran.2

-- a chain of steps over the commands, to this tally, mode, device and number of steps
record Tallied (program : Program) (cs : List Command) (t t' : Tally) (x : Moment)
    (m' : Mode) (d' : Device) (k' : ℕ) : Type 0 where
  answers : List Answer
  state : SourceState
  history : List Pending
  ran : Ran program (super_words program) cs answers x
      (record { mode = m'; device = d'; steps = k'; state = state; history = history })
  tally : t' ≡ tally_of cs answers t

none_tallied :
    (program : Program) (t t' : Tally) (x : Moment) (m' : Mode) (d' : Device)
    (k' : ℕ) →
    t' ≡ t → m' ≡ x.mode → d' ≡ x.device → k' ≡ x.steps → Tallied program [] t t' x m' d' k'
none_tallied program t t' x m' d' k' tallies modes devices steps = record {
  answers = [];
  state = x.state;
  history = x.history;
  ran =
      λ i. record {
        mode = modes i;
        device = devices i;
        steps = steps i;
        state = x.state;
        history = x.history;
      };
  tally = tallies;
}

module _ (program : Program) (agrees : Agrees program) where
  -- the device holds what the source knows
  abbrev Known : Moment → Type 0
  Known x = Holds program (super_words program) x.mode x.device x.state

  abbrev moment : Mode → Device → ℕ → SourceState → List Pending → Moment
  moment m d k s h = record { mode = m; device = d; steps = k; state = s; history = h }

  one_round : (cs : List Command) → AllByRecursion IsWordCommand cs →
      (t t' : Tally) (x : Moment) (m' : Mode) (d' : Device) (k' : ℕ) → Known x →
      inside.CountsAnswers program cs t x.mode x.device x.steps t' m' d' k' →
      Tallied program cs t t' x m' d' k'
  one_round [] words t t' x m' d' k' holds r =
      none_tallied program t t' x m' d' k' r.0 r.1 r.2 r.3
  one_round (c ∷ cs) words t t' x m' d' k' holds r =
      let one = steps_on each_command program (super_words program) agrees c x r.0 r.1 r.2
      r.3 words.0 holds r.4 in
      let y : Moment = moment r.1 r.2 r.3 one.0
      (history_after program x.state (found_by c x.device) c r.0 x.history) in
      let rest = one_round cs words.1 (stormed.counted c r.0 t) t' y m' d' k' one.1.holds r.5 in
      record {
        answers = r.0 ∷ rest.answers;
        state = rest.state;
        history = rest.history;
        ran = (y, one.1, rest.ran);
        tally = rest.tally;
      }

  all_rounds : (reach count g : ℕ) (t t' : Tally) (x : Moment) (m' : Mode) (d' : Device) (k' : ℕ) →
      Known x → Rounds program reach g count t x.mode x.device x.steps t' m' d' k' →
      (commands : List Command) × Drawn (transactions_of program.typed) reach g count commands
      × Tallied program commands t t' x m' d' k'
  all_rounds reach zero g t t' x m' d' k' holds r =
      ([], refl, none_tallied program t t' x m' d' k' r.0 r.1 r.2 r.3)
  all_rounds reach (suc count) g t t' x m' d' k' holds r =
      let one = one_round r.0 (storm_words reach g (transactions_of program.typed) r.0 r.2) t r.4 x
      r.5 r.6 r.7 holds r.8 in
      let y : Moment = moment r.5 r.6 r.7 one.state one.history in
      let kept : Known y = chain_kept program (super_words program) r.0 one.answers x y holds
      one.ran in
      let rest = all_rounds reach count r.1 r.4 t' y m' d' k' kept r.9 in
      let others = rest.2 in
      let z : Moment = moment m' d' k' others.state others.history in (
        r.0 ++ rest.0,
        (r.0, rest.0, r.1, r.2, r.3, refl, rest.1),
        record {
          answers = one.answers ++ others.answers;
          state = others.state;
          history = others.history;
          ran =
              ran_append program (super_words program) r.0 rest.0 one.answers others.answers
              x y z one.ran others.ran;
          tally =
              others.tally ∙ ap (tally_of rest.0 others.answers) one.tally
              ∙ sym (tally_append program (super_words program) r.0 rest.0 one.answers
              others.answers x y t one.ran);
        },
      )

  rounds_of :
      (fs : List FunctionTree) (reach count g : ℕ) (t t' : Tally) (x : Moment) (m' : Mode)
      (d' : Device) (k' : ℕ) →
      Known x → RoundsOf fs program reach g count t x.mode x.device x.steps t' m' d' k' →
      (commands : List Command) × DrawnOf fs program reach g count commands
      × Tallied program commands t t' x m' d' k'
  rounds_of [] reach count g t t' x m' d' k' holds r =
      ([], refl, none_tallied program t t' x m' d' k' r.0 r.1 r.2 r.3)
  rounds_of (f ∷ fs) reach count g t t' x m' d' k' holds r =
      all_rounds reach count g t t' x m' d' k' holds r

  -- the answer of `last` after a moment
  last_step : (x : Moment) (a : Answer) (n : Mode) (d' : Device) (k' : ℕ) → Known x →
      Commanded program command.Last x.mode x.device a n d' x.steps k' →
      (y : Moment) × SessionStep program (super_words program) command.Last x a y
      × (y.device ≡ d') × (y.steps ≡ k')
  last_step x a n d' k' holds did =
      let one = steps_on each_command program (super_words program) agrees command.Last x a n
      d' k' tt holds did in (
        moment n d' k' one.0 (history_after program x.state (found_by command.Last x.device)
            command.Last a x.history),
        one.1,
        refl,
        refl,
      )

  storm_all : (order : StormOrder) (d d' : Device) (w w' : Option (List ℕ)) (k k' : ℕ)
      (unmet : Bool) → StormedAll program order unmet w w' d d' k k' →
      CountsMeant program order unmet w w' d d' k k'
  storm_all order d d' w w' k k' unmet made =
      let b : Device = made.0 in
      let holds = created_rests program d b made.1 in
      let r = made.2 in
      let all = rounds_of (transactions_of program.typed) order.reach order.count
      (min order.start (2 ^ 32 - 1)) no_tally r.0 (fresh_moment program b k) r.1 r.2 r.3 holds
      r.4 in
      let tallied = all.2 in
      let x : Moment = moment r.1 r.2 r.3 tallied.state tallied.history in
      let kept = chain_kept program (super_words program) all.0 tallied.answers
      (fresh_moment program b k) x holds tallied.ran in
      let last = r.5 in
      let one = last_step x last.0 last.1 d' k' kept last.4 in (
        b,
        made.1,
        holds,
        (
          record {
            commands = all.0;
            drawn = all.1;
            answers = tallied.answers;
            last = x;
            ran = tallied.ran;
          },
          (
            last.0,
            one.0,
            last.2,
            subst (λ (t : Tally). Appends w last.2 (summary_text order.plain t))
                tallied.tally last.3,
            one.1,
            last.5,
            one.2,
            one.3,
          ),
          r.6 ∙ ap any_broken tallied.tally,
        ),
      )

  summary_part : (plain : Bool) (t t' : Tally) (x : Moment) (d' : Device) (w w' : Option (List ℕ))
      (k' : ℕ) → t ≡ t' → Known x
      → inside.TallyPart program plain t x.mode x.device w x.steps d' w' k'
      → SummaryPart program plain t' x w w' d' k'
  summary_part plain t t' x d' w w' k' same holds (inl summary) =
      inl (
        subst (λ (u : Tally). AppendsPart w w' (summary_text plain u)) same summary.0,
        sym summary.1,
        sym summary.2,
      )
  summary_part plain t t' x d' w w' k' same holds (inr last) =
      let one = last_step x last.0 last.1 d' k' holds last.4 in
      inr (
        last.0,
        one.0,
        last.2,
        subst (λ (u : Tally). Appends w last.2 (summary_text plain u)) same
            last.3,
        one.1,
        last.5,
        one.2,
        one.3,
      )

  storm_part : (order : StormOrder) (d d' : Device) (w w' : Option (List ℕ)) (k k' : ℕ) →
      StormedPart program order w w' d d' k k' →
      CountsPart program order w w' d d' k k'
  storm_part order d d' w w' k k' made =
      let b : Device = made.0 in
      let holds = created_rests program d b made.1 in
      let r = made.2 in
      let all = rounds_of (transactions_of program.typed) order.reach order.count
      (min order.start (2 ^ 32 - 1)) no_tally r.0 (fresh_moment program b k) r.1 r.2 r.3 holds
      r.4 in
      let tallied = all.2 in
      let x : Moment = moment r.1 r.2 r.3 tallied.state tallied.history in
      let kept = chain_kept program (super_words program) all.0 tallied.answers
      (fresh_moment program b k) x holds tallied.ran in (
        b,
        made.1,
        holds,
        (
          record {
            commands = all.0;
            drawn = all.1;
            answers = tallied.answers;
            last = x;
            ran = tallied.ran;
          },
          summary_part order.plain r.0 (tally_of all.0 tallied.answers no_tally) x d' w w' k'
              tallied.tally kept r.5,
        ),
      )

  -- there was no memory for all rounds, or not for all of the summary
  storm_starved : (order : StormOrder) (d d' : Device) (w w' : Option (List ℕ)) (k k' : ℕ)
      (b : Device) → Created program d b → StormStarves program order Ready b w k d' w' k' →
      CountsCut program order w w' d d' k k'
      ⊎ CountsPart program order w w' d d' k k'
  storm_starved order d d' w w' k k' b made (inl cut) =
      let holds = created_rests program d b made in
      let r = cut.1 in
      let all = rounds_of (transactions_of program.typed) order.reach r.0
      (min order.start (2 ^ 32 - 1)) no_tally r.2 (fresh_moment program b k) r.3 d' k' holds r.4 in
      let tallied = all.2 in
      inl (
        b,
        made,
        holds,
        r.0,
        r.1,
        (
          record {
            commands = all.0;
            drawn = all.1;
            answers = tallied.answers;
            last = moment r.3 d' k' tallied.state tallied.history;
            ran = tallied.ran;
          },
          refl,
          refl,
          cut.0,
        ),
      )
  storm_starved order d d' w w' k k' b made (inr part) =
      inr (storm_part order d d' w w' k k' (b, made, part))

  storm_meant_as :
      (order : StormOrder) (result : Status) (w w' : Option (List ℕ)) (d d' : Device) (k k' : ℕ) →
      StormedAs program order result w w' d d' k k' →
      StormMeantAs program order result w w' d d' k k'
  storm_meant_as order result w w' d d' k k' r =
      status_map (λ why. Uncreated program why w w' d d' k k')
      (λ starved. storm_starved order d d' w w' k k' starved.0 starved.1 starved.2)
      (storm_all order d d' w w' k k') (storm_part order d d' w w' k k') result r

pub storm_meant :
    (asked : Asked) (order : StormOrder) (told : Option (List ℕ)) (result : Status)
    (w w' : Option (List ℕ)) (d d' : Device) (k k' : ℕ) →
    StormEnds asked order told result w w' d d' k k' →
    StormMeant asked order told result w w' d d' k k'
storm_meant asked order told result w w' d d' k k' (inl refused) =
    inl (refused.0, refused.1, refused.2, refused.3, refused.4)
storm_meant asked order told result w w' d d' k k' (inr ran) =
    let compiled : Compiled = ran.0 in
    let from = known_bytes told (λ text. IsCompiled asked text compiled) ran.1 in
    inr (
      compiled,
      ran.1,
      storm_meant_as compiled.program from.1.agrees order result w w' d d' k k' ran.2,
    )
