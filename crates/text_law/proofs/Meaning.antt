-- A compiled text has one meaning. By it each session on a new pool is a run as its user sees it.
use Rattle.std.proofs.Common.{◌≡◌, ℕ, List, length, refl, ap, ◌∙◌, subst}
use Rattle.std.specs.Prelude.{slice_get}
use Rattle.std.specs.Option.{option_map_or}
use Rattle.std.specs.List.{AllByRecursion}
use Rattle.std.proofs.lemmas.List.{length-map}
use Rattle.pmem.specs.Device.{Device}
use Rattle.c_lexer.specs.declared.token.Placed.{Placed}
use Rattle.c_lexer.specs.TokenList.{Tokens}
use Rattle.c_tree.specs.ItemTree.{ItemTree}
use Rattle.c_tree.specs.Program.{tree_of, source_line}
use Rattle.rules_law.proofs.typed.Laws.{accepted}
use Rattle.pm_machine.specs.declared.image.ImageParts.{ImageParts}
use Rattle.cnvm_script.specs.declared.command.Command.{Command}
use Rattle.cnvm_session.specs.declared.answer.Answer.{Answer}
use Rattle.cnvm_session.specs.declared.mode.Mode.TheVariants.{Ready}
use Rattle.cnvm_session.specs.declared.program.Program.{Program}
use Rattle.cnvm_session.specs.Pool.{sizes_of}
use Rattle.session_law.specs.Agrees.{Agrees}
use Rattle.session_law.specs.Holds.{Holds}
use Rattle.session_law.specs.Law.{IsWordCommand, super_words}
use Rattle.session_law.specs.Ran.{Moment, Ran, fresh_moment}
use Rattle.session_law.specs.State.{created}
use Rattle.session_law.proofs.Scripts.{script_words}
use Rattle.compiled_law.specs.Law.{IsCompiledFrom}
use Rattle.user_law.specs.Source.{Source, Logs}
use Rattle.user_law.specs.State.{first_state}
use Rattle.user_law.specs.Keeps.{UserKeeps}
use Rattle.user_law.specs.Ran.{UserMoment, UserRan}
use Rattle.user_law.specs.Run.{source_of, first_moment, TextMeaning, source_with}
use Rattle.user_law.specs.Seen.{source_in, IsSeenAs}
use Rattle.user_law.proofs.Keeping.{keeps_law}
use Rattle.user_law.proofs.Stepping.{ran_law}
use Rattle.text_law.specs.Law.{IsOfText, IsMeaningOf, TextLaw, UserRunLaw}
use Rattle.text_law.proofs.Counting.{tree_logs, tree_counts}
use Rattle.text_law.proofs.Lowering.{lowered_same}

module _ (text : List ℕ) (list : Tokens) (first : Program)
    (compiled : IsCompiledFrom text list first) where
  abbrev meaning : TextMeaning text
  meaning = record {
    items = tree_of first.typed;
    has = record {
      list = list;
      left = compiled.left;
      spelled = compiled.spelled;
      typed = accepted first.typed compiled.checked;
    };
    logs = tree_logs compiled.marks first.typed compiled.exact;
  }

  tokens_are : length first.typed.lines ≡ length list.tokens
  tokens_are = ap (λ (ls : List ℕ). length ls) compiled.lines
      ∙ length-map list.tokens (λ (placed : Placed). placed.line)

  source_is : (program : Program) → IsOfText text first program →
      source_in program (meaning.logs (sizes_of program)) ≡ source_with meaning (sizes_of program)
  source_is program is =
      ap (λ (xs : List ItemTree). source_of xs (length program.typed.lines) (sizes_of program)
      (meaning.logs (sizes_of program))) is.items
      ∙ ap (λ (n : ℕ). source_of (tree_of first.typed) n (sizes_of program)
      (meaning.logs (sizes_of program)))
      (ap (λ (ls : List ℕ). length ls) is.lines ∙ tokens_are)

  lines_are : (program : Program) → IsOfText text first program → (place : ℕ)
      → source_line program.typed place ≡ source_line first.typed place
  lines_are program is place =
      ap (λ (ls : List ℕ). option_map_or (λ (line : ℕ). line) (slice_get ls place)
      program.typed.last) is.lines
      ∙ ap (λ (n : ℕ). option_map_or (λ (line : ℕ). line) (slice_get first.typed.lines place) n)
      is.last

  pub text_means : (m : TextMeaning text) × IsMeaningOf text first m
  text_means = (
    meaning,
    record {
      items = refl;
      source = source_is;
      counts = λ program is. record {
        logged = tree_counts compiled.marks first.typed compiled.exact program is.items
            (lowered_same program.typed first.typed is.items (lines_are program is));
        most = ap (λ (x : ImageParts). x.most) is.compiled.made;
      };
    },
  )

pub text_law : TextLaw
text_law text list first compiled = text_means text list first compiled

module _ {text : List ℕ} {first program : Program} {meaning : TextMeaning text}
    (means : IsMeaningOf text first meaning) (of : IsOfText text first program)
    (agrees : Agrees program) where
  abbrev logs : Logs
  logs = meaning.logs (sizes_of program)

  abbrev p : Source
  p = source_with meaning (sizes_of program)

  -- a session on a new pool, as its user sees it
  abbrev pub SeenOn : List Command → List Answer → (d b : Device) → Type 0
  SeenOn commands answers d b =
      UserKeeps p d (first_state p)
      × (last : UserMoment) × (last.device ≡ b)
      × UserRan p commands answers (first_moment p d) last

  pub seen_on : (commands : List Command) (answers : List Answer) (d : Device) (k : ℕ) (y : Moment)
      → AllByRecursion IsWordCommand commands
      → Holds program (super_words program) Ready d (created program)
      → Ran program (super_words program) commands answers (fresh_moment program d k) y
      → SeenOn commands answers d y.device
  seen_on commands answers d k y words holds ran =
      let q : Source = source_in program logs in
      let same : q ≡ p = means.source program of in
      let keeps : UserKeeps q d (first_state q) =
      keeps_law program logs (super_words program) Ready d (first_state q) holds tt in
      let seen : IsSeenAs (fresh_moment program d k) (first_moment q d) =
      record { device = refl; state = refl; history = refl } in
      let last = ran_law program (super_words program) logs commands answers
      (fresh_moment program d k) y (first_moment q d) agrees (means.counts program of)
      words holds seen keeps ran in (
        subst (λ (x : Source). UserKeeps x d (first_state x)) same keeps,
        last.0,
        last.1.device,
        subst (λ (x : Source). UserRan x commands answers (first_moment x d) last.0) same last.2,
      )

pub run_law : UserRunLaw
run_law text script first program m commands answers d k y means of agrees holds spelled ran =
    let seen = seen_on means of agrees commands answers d k y
    (script_words script commands spelled) holds ran in
    record {
      holds = seen.0;
      commands = commands;
      spelled = spelled;
      answers = answers;
      last = seen.1;
      ran = seen.3;
      ends = seen.2;
      written_is = refl;
    }
