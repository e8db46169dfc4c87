-- Turns and recoveries in order, from scene to scene.
use Rattle.std.proofs.Common.{◌≡◌, ◌∙◌, ℕ, zero, suc, ◌+◌, ◌-◌, ◌<◌, ◌≤◌, Bool, true, false, List}
use Rattle.std.proofs.Common.{[], ◌∷◌, ◌++◌, length, drop, slice_index, drop-cons, add-one, refl}
use Rattle.std.proofs.Common.{sym, ap, append_assoc, append-nil, arith}
use Rattle.recovery.specs.declared.answer.RecoverAnswer.{RecoverAnswer}
use Rattle.cnvm_session.specs.declared.program.Program.{Program}
use Rattle.workers_session.specs.declared.line.WorkersLine.{WorkersLine}
use Rattle.workers_session.specs.WorkersCommands.{Scene, Unchanged, TurnsOnce, TurnList, round_from}
use Rattle.workers_session.specs.WorkersCommands.{rounds_of, ends_power, RecoversOne, RecoversFrom}
use Rattle.workers_session.specs.WorkersCommands.{recovered_line}

clash : {A : Type 0} (b : Bool) → b ≡ true → b ≡ false → A
clash b is not = let e : true ≡ false = sym is ∙ not in absurd cc

pub no_more : (lines : List WorkersLine) → lines ≡ lines ++ []
no_more lines = simp append-nil

-- one more turn, and the turns after it
pub turn_onward : (program : Program) (worker : ℕ) (workers : List ℕ) (x z y : Scene)
    (first rest : List WorkersLine) →
    TurnsOnce program worker x first z → z.workers.down ≡ false → TurnList program workers z rest y
    →
    TurnList program (worker ∷ workers) x (first ++ rest) y
turn_onward program worker workers x z y first rest once up others = (
  first,
  rest,
  z,
  once,
  refl,
  (λ down. clash z.workers.down down up, λ goes. others),
)

-- one more turn, which is interrupted
pub turn_over : (program : Program) (worker : ℕ) (workers : List ℕ) (x z : Scene)
    (first : List WorkersLine) →
    TurnsOnce program worker x first z → z.workers.down ≡ true →
    TurnList program (worker ∷ workers) x first z
turn_over program worker workers x z first once down = (
  first,
  [],
  z,
  once,
  no_more first,
  (λ is. (refl, refl), λ up. clash z.workers.down down up),
)

-- what is left of the turns leads where all of them lead
abbrev pub LeadsOn : Program → (left all : List ℕ) → (x z : Scene) → List WorkersLine → Type 0
LeadsOn program left all x z lines =
    (rest : List WorkersLine) (y : Scene) → TurnList program left z rest y →
    TurnList program all x (lines ++ rest) y

pub leads_next : (program : Program) (worker : ℕ) (left all : List ℕ) (x z m : Scene)
    (lines first : List WorkersLine) →
    LeadsOn program (worker ∷ left) all x z lines → TurnsOnce program worker z first m →
    m.workers.down ≡ false → LeadsOn program left all x m (lines ++ first)
leads_next program worker left all x z m lines first leads once up =
    λ rest y turns.
    rw (append_assoc lines first rest)
    (leads (first ++ rest) y (turn_onward program worker left z m y first rest once up turns))

pub leads_over : (program : Program) (worker : ℕ) (left all : List ℕ) (x z m : Scene)
    (lines first : List WorkersLine) →
    LeadsOn program (worker ∷ left) all x z lines → TurnsOnce program worker z first m →
    m.workers.down ≡ true → TurnList program all x (lines ++ first) m
leads_over program worker left all x z m lines first leads once down =
    leads first m (turn_over program worker left z m first once down)

pub leads_end : (program : Program) (all : List ℕ) (x z : Scene) (lines : List WorkersLine) →
    LeadsOn program [] all x z lines → TurnList program all x (lines ++ []) z
leads_end program all x z lines leads = leads [] z (refl, refl)

append_step : (program : Program) (w : ℕ) (ws vs : List ℕ) (x m z y : Scene)
    (first rest ls ms : List WorkersLine) (down : Bool) → m.workers.down ≡ down →
    TurnsOnce program w x first m → ls ≡ first ++ rest →
    (m.workers.down ≡ true → Unchanged [] m rest z) →
    (m.workers.down ≡ false → TurnList program (ws ++ vs) m (rest ++ ms) y) →
    z.workers.down ≡ false →
    TurnList program (w ∷ (ws ++ vs)) x (ls ++ ms) y
append_step program w ws vs x m z y first rest ls ms true is once lines over goes up =
    let same : z ≡ m = (over is).1 in
    clash z.workers.down (ap (λ (s : Scene). s.workers.down) same ∙ is) up
append_step program w ws vs x m z y first rest ls ms false is once lines over goes up =
    rw (lines, append_assoc first rest ms)
    (turn_onward program w (ws ++ vs) x m y first (rest ++ ms) once is (goes is))

-- turns of a list, and then those of another
pub turns_append : (program : Program) (ws vs : List ℕ) (x z y : Scene) (ls ms : List WorkersLine) →
    TurnList program ws x ls z → z.workers.down ≡ false → TurnList program vs z ms y →
    TurnList program (ws ++ vs) x (ls ++ ms) y
turns_append program [] vs x z y ls ms first up others =
    rw (first.0, ← first.1) others
turns_append program (w ∷ ws) vs x z y ls ms first up others =
    append_step program w ws vs x first.2 z y first.0 first.1 ls ms first.2.workers.down refl
    first.3 first.4 first.5.0
    (λ is. turns_append program ws vs first.2 z y first.1 ms (first.5.1 is) up others) up

pub worker_at : (ws : List ℕ) (i : ℕ) → i < length ws →
    drop i ws ≡ slice_index ws i ∷ drop (i + 1) ws
worker_at ws i less = drop-cons ws i 0 less ∙ (rw add-one refl)

pub rounds_end : (n count : ℕ) →
    rounds_of n count ++ round_from 0 count ≡ rounds_of (suc n) count
rounds_end zero count = simp append-nil
rounds_end (suc n) count =
    append_assoc (round_from 0 count) (rounds_of n count) (round_from 0 count)
    ∙ ap (λ (ws : List ℕ). round_from 0 count ++ ws) (rounds_end n count)

pub round_next : (i n : ℕ) → i < n →
    round_from i (n - i) ≡ i ∷ round_from (i + 1) (n - (i + 1))
round_next i n less = let e : n - i ≡ suc (n - (i + 1)) = omega arith in
    let next : i + 1 ≡ suc i = omega arith in rw (e, next) refl

-- the same for recoveries
abbrev pub LeadsBack : Program → (i n all : ℕ) → (x z : Scene) → List WorkersLine → Type 0
LeadsBack program i n all x z lines =
    (rest : List WorkersLine) (y : Scene) → RecoversFrom program i n z rest y →
    RecoversFrom program 0 all x (lines ++ rest) y

pub back_next : (program : Program) (i n all : ℕ) (x z m : Scene) (lines : List WorkersLine)
    (a : RecoverAnswer) → i < all →
    LeadsBack program i (all - i) all x z lines → RecoversOne program i a z m →
    ends_power a ≡ false →
    LeadsBack program (i + 1) (all - (i + 1)) all x m (lines ++ recovered_line program i a z ∷ [])
back_next program i n all x z m lines a less leads one goes =
    λ rest y recovers.
    let e : all - i ≡ suc (all - (i + 1)) = omega arith in
    let next : i + 1 ≡ suc i = omega arith in
    rw (append_assoc lines (recovered_line program i a z ∷ []) rest)
    (leads (recovered_line program i a z ∷ rest) y
    (rw e (
      a,
      rest,
      m,
      one,
      refl,
      (λ ends. clash (ends_power a) ends goes, λ is. rw (← next) recovers),
    )))

pub back_over : (program : Program) (i n all : ℕ) (x z m : Scene) (lines : List WorkersLine)
    (a : RecoverAnswer) → i < all →
    LeadsBack program i (all - i) all x z lines → RecoversOne program i a z m →
    ends_power a ≡ true →
    RecoversFrom program 0 all x (lines ++ recovered_line program i a z ∷ []) m
back_over program i n all x z m lines a less leads one ends =
    let e : all - i ≡ suc (all - (i + 1)) = omega arith in
    leads (recovered_line program i a z ∷ []) m
    (rw e (a, [], m, one, refl, (λ is. (refl, refl), λ goes. clash (ends_power a) ends goes)))

pub back_end : (program : Program) (i n all : ℕ) (x z : Scene) (lines : List WorkersLine) →
    n ≡ 0 → LeadsBack program i n all x z lines → RecoversFrom program 0 all x (lines ++ []) z
back_end program i n all x z lines none leads = leads [] z (rw none (refl, refl))

pub round_none : (i n : ℕ) → n ≤ i → round_from i (n - i) ≡ []
round_none i n none = let e : n - i ≡ zero = omega arith in rw e refl
