-- The effect of a piece, and the machine's steps for it.
use Rattle.std.proofs.Common.{◌≡◌, ℕ, suc, ◌+◌, Bool, List, ◌∷◌, ℤ, refl, sym, ap, ◌∙◌}
use Rattle.std.proofs.Common.{subst, ◌≤◌, Option}
use Rattle.pool_map.specs.declared.trap.TrapKind.{TrapKind}
use Rattle.pool_map.specs.Trap.{trap_number}
use Rattle.pool_map.specs.PoolMap.{PoolMap}
use Rattle.pool_layout.specs.declared.limits.Sizes.{Sizes}
use Rattle.pool_layout.specs.Sizes.{slot_words}
use Rattle.ir.specs.declared.site.Site.{Site}
use Rattle.ir.specs.declared.function.Ir.{Ir}
use Rattle.code_meaning.specs.Code.{Here, Move}
use Rattle.code_meaning.specs.Code as code
use Rattle.code_meaning.specs.Deeds.{Deed, deeds_at}
use Rattle.ir.specs.declared.instruction.Instruction.{Instruction}
use Rattle.pm_machine.specs.declared.effect.Effect.{Effect}
use Rattle.pm_machine.specs.declared.effect.Effect.TheVariants.{Loads, Scans, Stores, Logs}
use Rattle.pm_machine.specs.declared.effect.End.{End}
use Rattle.pm_machine.specs.declared.effect.End.TheVariants.{Trapped}
use Rattle.pm_machine.specs.declared.image.Image.{Image}
use Rattle.pm_alloc.specs.Runs as alone
use Rattle.pm_alloc.specs.LocalRun.{World, Loc}
use Rattle.machine_law.specs.emitted.Moments.{RunMoment, RunStage, On, Over, onto, go}
use Rattle.machine_law.specs.emitted.Placed.{heard, Setting, Same, Follows}
use Rattle.machine_law.specs.pieces.Law.{onward, PieceEnds, Does, goes, traps}
use Rattle.machine_law.specs.pieces.Stands.{heap_word, header_word}
use Rattle.machine_law.specs.pieces.Shows.{ShowsDeeds, done, looks, scans, reads, plain, logs}
use Rattle.machine_law.specs.pieces.Shows.{heads}
use Rattle.machine_law.specs.matching.Accesses.{accesses}
use Rattle.machine_law.specs.matching.Compiled.{is_logged_in_code}
use Rattle.machine_law.specs.matching.Match.{AreMatched, MovesToo, own_steps}
use Rattle.machine_law.specs.matching.Match.{flushes}
use Rattle.machine_law.proofs.matching.Effects.{accesses_heard, accesses_onto}
use Rattle.machine_law.proofs.matching.Leads.{LeadsOn, trap_known}

pub shown_accesses : (s : Sizes) (logged : Site → Bool) (ds : List Deed) (es : List Effect)
    → ShowsDeeds s logged ds es → accesses es ≡ es
shown_accesses s logged ds es done = refl
shown_accesses s logged ds es (looks {ds = cs} {es = fs} q there h) =
    ap (λ (gs : List Effect). Loads (header_word s q) ∷ gs) (shown_accesses s logged cs fs h)
shown_accesses s logged ds es (scans {ds = cs} {es = fs} n few h) =
    ap (λ (gs : List Effect). Scans (header_word s 1) (slot_words s) n ∷ gs)
    (shown_accesses s logged cs fs h)
shown_accesses s logged ds es (reads {ds = cs} {es = fs} x there h) =
    ap (λ (gs : List Effect). Loads (heap_word s x) ∷ gs) (shown_accesses s logged cs fs h)
shown_accesses s logged ds es (plain {ds = cs} {es = fs} site x v there is h) =
    ap (λ (gs : List Effect). Stores (heap_word s x) v ∷ gs) (shown_accesses s logged cs fs h)
shown_accesses s logged ds es (logs {ds = cs} {es = fs} site x v there is h) =
    ap (λ (gs : List Effect). Logs (heap_word s x) ∷ Stores (heap_word s x) v ∷ gs)
    (shown_accesses s logged cs fs h)
shown_accesses s logged ds es (heads {ds = cs} {es = fs} site q v there h) =
    ap (λ (gs : List Effect). Logs (header_word s q) ∷ Stores (header_word s q) v ∷ gs)
    (shown_accesses s logged cs fs h)

seen_is : (es seen before : List Effect) → heard seen ≡ onto es (heard before) → accesses es ≡ es
    → accesses seen ≡ onto es (accesses before)
seen_is es seen before hear only =
    sym (accesses_heard seen)
    ∙ ap accesses hear
    ∙ accesses_onto es (heard before)
    ∙ ap (λ (fs : List Effect). onto fs (accesses (heard before))) only
    ∙ ap (onto es) (accesses_heard before)

-- the machine's steps for an instruction
abbrev pub Steps : Image → Ir → (f p : ℕ) → List ℤ → List code.Frame → PoolMap → (t : ℕ) → RunMoment
    → Option Instruction → Type 0
Steps image ir f p regs callers w t m o =
    (n : ℕ) × (n ≤ own_steps image.parts.sizes + flushes (code.act ir o f p regs callers w t) m)
    × MovesToo image ir (deeds_at ir.shapes f p regs w o) (code.act ir o f p regs callers w t) m
    (go image n m)

module _ (image : Image) (ir : Ir) where
  module _ (x : Setting) (f p n : ℕ) (callers : List code.Frame) (m : RunMoment) (v : World)
      (heard_is : v.seen ≡ heard m.seen) (ds : List Deed) where
    goes_on : (regs : List ℤ) (w : PoolMap) (t : ℕ) (l : Loc) (es : List Effect)
        → ShowsDeeds image.parts.sizes (is_logged_in_code ir) ds es
        → PieceEnds image.parts.sizes n v es regs w t l
        → (g : RunStage) → Follows x (alone.Goes l) g →
        ((b : RunMoment) → Same x l b → g ≡ On b → AreMatched image ir f (suc p) regs callers w t b)
        → MovesToo image ir ds (code.Goes (Here f (suc p) regs callers w t)) m g
    goes_on regs w t l es shows afterwards (Over end b) follows match = absurd follows
    goes_on regs w t l es shows afterwards (On b) same match =
        let hear : heard b.seen ≡ onto es (heard m.seen) =
        ap (λ (k : RunMoment). heard k.seen) same.is ∙ same.heard_is
        ∙ ap (λ (u : World). u.seen) afterwards.world ∙ ap (onto es) heard_is in
        record {
          to = b;
          is = refl;
          match = match b same refl;
          shown = record {
            effects = es;
            seen = seen_is es b.seen m.seen hear
                (shown_accesses image.parts.sizes (is_logged_in_code ir) ds es shows);
            shows = shows;
          };
        }

    traps_on : (k : TrapKind) (es : List Effect)
        → ShowsDeeds image.parts.sizes (is_logged_in_code ir) ds es → (g : RunStage)
        → Follows x (alone.Traps (trap_number k) (onward v es v.ticks)) g
        → MovesToo image ir ds (code.Ends (code.Trapped k)) m g
    traps_on k es shows (On b) follows = absurd follows
    traps_on k es shows (Over end b) follows =
        let hear : heard b.seen ≡ onto es (heard m.seen) =
        follows.1.heard_is ∙ ap (onto es) heard_is in
        record {
          last = b;
          is = ap (λ (e : End). Over e b) (follows.0 ∙ ap Trapped (trap_known k));
          shown = record {
            effects = es;
            seen = seen_is es b.seen m.seen hear
                (shown_accesses image.parts.sizes (is_logged_in_code ir) ds es shows);
            shows = shows;
          };
        }

    at_next : (g q : ℕ) (regs : List ℤ) (cs : List code.Frame) (w : PoolMap) (t : ℕ) (s : RunStage)
        → g ≡ f → q ≡ suc p → cs ≡ callers
        → MovesToo image ir ds (code.Goes (Here f (suc p) regs callers w t)) m s
        → MovesToo image ir ds (code.Goes (Here g q regs cs w t)) m s
    at_next g q regs cs w t s a b c h =
        subst (λ (i : ℕ). MovesToo image ir ds (code.Goes (Here i q regs cs w t)) m s) (sym a)
        (subst (λ (i : ℕ). MovesToo image ir ds (code.Goes (Here f i regs cs w t)) m s) (sym b)
        (subst (λ (ks : List code.Frame).
        MovesToo image ir ds (code.Goes (Here f (suc p) regs ks w t)) m s) (sym c) h))

    -- the code's move, the run of the piece alone, and the machine's steps
    pub combined : (mv : Move) (r : alone.Next World Loc) (g : RunStage)
        → Does image.parts.sizes (is_logged_in_code ir) n v ds mv r → LeadsOn f p callers mv
        → Follows x r g →
        ((regs : List ℤ) (w : PoolMap) (t : ℕ) (l : Loc) (es : List Effect) (b : RunMoment)
        → PieceEnds image.parts.sizes n v es regs w t l → Same x l b → g ≡ On b
        → mv ≡ code.Goes (Here f (suc p) regs callers w t)
        → AreMatched image ir f (suc p) regs callers w t b) →
        MovesToo image ir ds mv m g
    combined mv r g (goes {f = h} {p = q} {regs = regs} {below = cs} {w = w} {t = t} {l = l} es
        shows afterwards) leads follows match =
        at_next h q regs cs w t g leads.0 leads.1 leads.2
        (goes_on regs w t l es shows afterwards g follows
        (λ b same is. match regs w t l es b afterwards same is
        (ap (λ (i : ℕ). code.Goes (Here i q regs cs w t)) leads.0
        ∙ ap (λ (i : ℕ). code.Goes (Here f i regs cs w t)) leads.1
        ∙ ap (λ (ks : List code.Frame). code.Goes (Here f (suc p) regs ks w t)) leads.2)))
    combined mv r g (traps k es shows) leads follows match = traps_on k es shows g follows
