-- The whole run, step by step.
use Rattle.std.proofs.Common.{◌≡◌, ℕ, zero, suc, ◌+◌, ◌*◌, ◌≤◌, List, [], ◌∷◌, ◌++◌}
use Rattle.std.proofs.Common.{length, refl, sym, ap, ◌∙◌, subst, arith, suc-mul}
use Rattle.ir.specs.declared.function.Ir.{Ir}
use Rattle.code_meaning.specs.Code.{CodeState, Here, Move, go_on, instruction_step, exec}
use Rattle.code_meaning.specs.Code as code
use Rattle.code_meaning.specs.Deeds.{Deed, deeds, deeds_of, deeds_on}
use Rattle.pm_machine.specs.declared.effect.Effect.{Effect}
use Rattle.pm_machine.specs.declared.image.Image.{Image}
use Rattle.machine_law.specs.emitted.Moments.{RunMoment, RunStage, go, onto}
use Rattle.machine_law.proofs.emitted.Dirty.{grow_all}
use Rattle.machine_law.proofs.emitted.Moments as moments
use Rattle.machine_law.specs.pieces.Law.{PieceLaw}
use Rattle.machine_law.specs.pieces.Pools.{FitsLaw}
use Rattle.machine_law.specs.pieces.Shows.{ShowsLaw}
use Rattle.machine_law.specs.pieces.Words.{IsWordState, IsWordMove, WordsLaw}
use Rattle.machine_law.proofs.pieces.Shown.{onto_append}
use Rattle.machine_law.specs.matching.Accesses.{accesses}
use Rattle.machine_law.specs.matching.Compiled.{IsCodeOf, is_logged_in_code}
use Rattle.machine_law.specs.matching.Match.{Match, HasShown, EndsToo, MovesToo}
use Rattle.machine_law.specs.matching.Match.{own_steps, flushes, most, MatchLaw}
use Rattle.machine_law.proofs.matching.Steps.{step_meets}

pub matched : PieceLaw → FitsLaw → MatchLaw
matched piece_law fits_law image program (Here f p regs callers w t) m c words same =
    step_meets piece_law fits_law image program c f p regs callers w t m words.0 same

nothing_more : (ds : List Deed) → ds ++ [] ≡ ds
nothing_more [] = refl
nothing_more (d ∷ ds) = ap (λ (cs : List Deed). d ∷ cs) (nothing_more ds)

module _ (image : Image) (program : Ir) where
  module _ (shows_law : ShowsLaw) (ds cs : List Deed) (m b : RunMoment)
      (g : RunStage) (first : HasShown image program ds m b) where
    seen_on : (last : RunMoment) (es : List Effect) → accesses last.seen ≡ onto es (accesses b.seen)
        → accesses last.seen ≡ onto (first.effects ++ es) (accesses m.seen)
    seen_on last es e = e ∙ ap (onto es) first.seen
        ∙ sym (onto_append first.effects es (accesses m.seen))

    shown_on : (last : RunMoment) → HasShown image program cs b last
        → HasShown image program (ds ++ cs) m last
    shown_on last h = record {
      effects = first.effects ++ h.effects;
      seen = seen_on last h.effects h.seen;
      shows = shows_law image.parts.sizes (is_logged_in_code program) ds cs first.effects h.effects
          first.shows h.shows;
    }

    ends_on : (e : code.CodeEnd) → EndsToo image program cs e b g
        → EndsToo image program (ds ++ cs) e m g
    ends_on (code.Ended w v t) h = record {
      last = h.last;
      is = h.is;
      stands = h.stands;
      fits = h.fits;
      shown = shown_on h.last h.shown;
    }
    ends_on (code.Trapped k) h =
        record { last = h.last; is = h.is; shown = shown_on h.last h.shown }
    ends_on code.Unfinished h = tt
    ends_on code.Stuck h = tt

  module _ (piece_law : PieceLaw) (fits_law : FitsLaw) (shows_law : ShowsLaw)
      (words_law : WordsLaw) (c : IsCodeOf image program) where
    abbrev Whole : ℕ → List Deed → code.CodeEnd → RunMoment → Type 0
    Whole k ds e m =
        (n : ℕ) × (n ≤ k * most image.parts.sizes + length m.state.dirty)
        × EndsToo image program ds e m (go image n m)

    next : (k : ℕ) (ds : List Deed) (m : RunMoment) (n : ℕ) (mv : Move)
        → n ≤ own_steps image.parts.sizes + flushes mv m →
        IsWordMove mv → MovesToo image program ds mv m (go image n m) →
        ((d : CodeState) (b : RunMoment) → IsWordState d → Match image program d b
        → Whole k (deeds program k d) (exec program k d) b)
        → Whole (suc k) (ds ++ deeds_on (deeds program k) mv) (go_on (exec program k) mv) m
    next k ds m n (code.Goes d) few words h rest =
        let each : ℕ = most image.parts.sizes in
        let total : suc k * each ≡ k * each + each = suc-mul k each in
        let r = rest d h.to words h.match in
        let dirty : length h.to.state.dirty ≤ length m.state.dirty + n =
        grow_all image n m h.to h.is in (
          n + r.0,
          omega (arith, r.1, few),
          subst (λ (g : RunStage).
              EndsToo image program (ds ++ deeds program k d) (exec program k d) m g)
              (sym (moments.go_on image n r.0 m h.to (go image r.0 h.to) h.is refl))
              (ends_on shows_law ds (deeds program k d) m h.to (go image r.0 h.to) h.shown
              (exec program k d) r.2),
        )
    next k ds m n (code.Ends e) few words h rest =
        let each : ℕ = most image.parts.sizes in
        let total : suc k * each ≡ k * each + each = suc-mul k each in (
          n,
          omega (arith, few),
          subst (λ (cs : List Deed).
              EndsToo image program cs e m (go image n m)) (sym (nothing_more ds)) h,
        )

    pub whole : (k : ℕ) (d : CodeState) (m : RunMoment) → IsWordState d → Match image program d m
        → Whole k (deeds program k d) (exec program k d) m
    whole zero d m words same = (0, omega arith, tt)
    whole (suc k) d m words same =
        let first = matched piece_law fits_law image program d m c words same in
        next k (deeds_of program d) m first.0 (instruction_step program d) first.1
        (words_law program d c.constants words) first.2 (λ e b v h. whole k e b v h)
