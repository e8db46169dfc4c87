-- Emitted code keeps the meaning of the code.
use Rattle.std.proofs.Common.{◌≡◌, ℕ, zero, suc, ◌+◌, ◌-◌, ◌*◌, ◌≤◌, List, [], sym, ap}
use Rattle.std.proofs.Common.{◌∙◌, subst, arith}
use Rattle.cache_model.specs.Cache.{Words}
use Rattle.ir.specs.declared.function.Ir.{Ir}
use Rattle.code_meaning.specs.Code as code
use Rattle.code_meaning.specs.Deeds.{Deed, deeds}
use Rattle.pm_machine.specs.declared.effect.Effect.{Effect}
use Rattle.pm_machine.specs.declared.effect.End.{End}
use Rattle.pm_machine.specs.declared.image.Image.{Image}
use Rattle.pm_machine.specs.Machine.{State, run}
use Rattle.machine_law.specs.emitted.Moments.{RunMoment, Over, go, onto}
use Rattle.machine_law.proofs.emitted.Moments.{go_over}
use Rattle.machine_law.specs.pieces.Law.{PieceLaw}
use Rattle.machine_law.specs.pieces.Pools.{FitsLaw}
use Rattle.machine_law.specs.pieces.Shows.{ShowsDeeds, ShowsLaw}
use Rattle.machine_law.specs.pieces.Stands.{Stands}
use Rattle.code_meaning.specs.Constants.{HasWordConstants}
use Rattle.machine_law.specs.pieces.Words.{IsWordState, IsWordMove, IsWordEnd, WordsLaw}
use Rattle.machine_law.specs.matching.Accesses.{accesses}
use Rattle.machine_law.specs.matching.Compiled.{is_logged_in_code}
use Rattle.machine_law.specs.matching.Law.{RunMatches, KeepLaw}
use Rattle.machine_law.specs.matching.Match.{EndsToo, most}
use Rattle.machine_law.proofs.matching.Effects.{accesses_onto, onto_same}
use Rattle.machine_law.proofs.matching.Entries.{first_moment, begins, begins_within}
use Rattle.machine_law.proofs.matching.Runs.{Ran, ran_within}
use Rattle.machine_law.proofs.matching.Whole.{whole}
use Rattle.machine_law.proofs.matching.Within.{IsNotStuck, never_stuck}

-- a run of code whose values are words ends with words
word_on : (program : Ir) (k : ℕ) (v : code.Move) → IsWordMove v
    → ((d : code.CodeState) → IsWordState d → IsWordEnd (code.exec program k d))
    → IsWordEnd (code.go_on (code.exec program k) v)
word_on program k (code.Goes d) words rest = rest d words
word_on program k (code.Ends e) words rest = words

word_run : WordsLaw → (program : Ir) (k : ℕ) (d : code.CodeState)
    → HasWordConstants program.functions → IsWordState d → IsWordEnd (code.exec program k d)
word_run law program zero d constants words = tt
word_run law program (suc k) d constants words =
    word_on program k (code.instruction_step program d) (law program d constants words)
    (λ e h. word_run law program k e constants h)

module _ (image : Image) (program : Ir) (s : State) (heap : Words) (n k : ℕ) (few : n ≤ k) where
  abbrev first : RunMoment
  first = record { state = s; heap = heap; seen = [] }

  -- a run that ends within n steps
  over : (end : End) (b : RunMoment) → go image n first ≡ Over end b → Ran image end b k s heap []
  over end b is =
      let all : n + (k - n) ≡ k = omega (arith, few) in
      ran_within image end b k first (ap (λ (j : ℕ). go image j first) (sym all)
      ∙ go_over image n (k - n) first b end is)

  same_effects : (end : End) (b : RunMoment) (es : List Effect)
      → (r : Ran image end b k s heap []) → accesses b.seen ≡ onto es [] → es ≡ accesses r.effects
  same_effects end b es r seen =
      onto_same es (accesses r.effects) (sym seen ∙ ap accesses r.seen_is
      ∙ accesses_onto r.effects [])

  kept : (ds : List Deed) (e : code.CodeEnd) → IsWordEnd e → IsNotStuck e
      → EndsToo image program ds e first (go image n first)
      → RunMatches image program heap ds e (run image k s heap)
  kept ds (code.Ended w v t) words free h =
      let r = over _ h.last h.is in
      record {
        effects = r.effects;
        is = r.is;
        stands = subst (λ (g : Words). Stands image.parts.sizes g w) r.heap_is h.stands;
        fits = h.fits;
        words = words.0;
        shows = subst (ShowsDeeds image.parts.sizes (is_logged_in_code program) ds)
            (same_effects _ h.last h.shown.effects r h.shown.seen) h.shown.shows;
      }
  kept ds (code.Trapped j) words free h =
      let r = over _ h.last h.is in
      record {
        effects = r.effects;
        is = r.is;
        shows = subst (ShowsDeeds image.parts.sizes (is_logged_in_code program) ds)
            (same_effects _ h.last h.shown.effects r h.shown.seen) h.shown.shows;
      }
  kept ds code.Unfinished words free h = tt
  kept ds code.Stuck words free h = free

pub kept_all : PieceLaw → FitsLaw → ShowsLaw → WordsLaw → KeepLaw
kept_all piece_law fits_law shows_law words_law image program k tx entry args heap w c
    found arguments pool stands fits =
    let words : IsWordState (code.code_start entry.function args w image.parts.sizes.ticks) =
    (arguments, tt, pool) in
    let all = whole image program piece_law fits_law shows_law words_law c k
    (code.code_start entry.function args w image.parts.sizes.ticks)
    (first_moment image program c tx entry found args heap w) words
    (begins image program c tx entry found args heap w stands fits) in
    kept image program (first_moment image program c tx entry found args heap w).state heap all.0
    (k * most image.parts.sizes) (omega (arith, all.1))
    (deeds program k (code.code_start entry.function args w image.parts.sizes.ticks))
    (code.exec program k (code.code_start entry.function args w image.parts.sizes.ticks))
    (word_run words_law program k (code.code_start entry.function args w image.parts.sizes.ticks)
    c.constants words)
    (never_stuck program c.well k (code.code_start entry.function args w image.parts.sizes.ticks)
    (begins_within image program c tx entry found args heap w, tt)) all.2
