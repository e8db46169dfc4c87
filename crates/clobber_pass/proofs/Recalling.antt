-- A function whose callees' exits stayed need not be swept again.
use Rattle.std.proofs.Common.{◌≡◌, ◌<◌, ◌+◌, ℕ, zero, suc, Bool, true, false, List, [], ◌∷◌, ◌++◌}
use Rattle.std.proofs.Common.{Some}
use Rattle.std.proofs.Common.{length, replicate, refl, sym, ◌∙◌, ap, subst, arith, inl, inr}
use Rattle.std.proofs.Common.{⊎_elim}
use Rattle.std.specs.Prelude.{◌==◌, slice_get, slice_set, if◌then◌else◌, option_and_then}
use Rattle.std.proofs.lemmas.Bool.{false≢true, eqb-true, eq-eqb}
use Rattle.std.proofs.lemmas.List.{length-set, length-replicate}
use mathlib.Core.Logic.{◌⊎◌}
use Rattle.ir.specs.declared.instruction.Instruction.{Instruction}
use Rattle.ir.specs.declared.instruction.Instruction.TheVariants.{Const, Copy, Bin, Jump, Branch}
use Rattle.ir.specs.declared.instruction.Instruction.TheVariants.{Load, Store, New, Free, Call}
use Rattle.ir.specs.declared.instruction.Instruction.TheVariants.{Return, Tick, Trap, Log}
use Rattle.ir.specs.declared.function.IrFunction.{IrFunction}
use Rattle.ir.specs.Places.{instruction_at, CallsAt}
use Rattle.clobber_pass.specs.declared.topic.Topic.{Topic}
use Rattle.clobber_pass.specs.declared.calling.Edge.{Edge}
use Rattle.clobber_pass.specs.Row.{tells}
use Rattle.clobber_pass.specs.Sweep.{row_in}
use Rattle.clobber_pass.specs.inside.Sweep.{exits_of, call_from, next_row, row_or, jump_target}
use Rattle.clobber_pass.specs.inside.Sweep.{meet_in, here_in, rows_led, join_in, swept}
use Rattle.clobber_pass.specs.inside.Closed.{Closed, Stage, Reached, Made, EndedIn, AllColumns}
use Rattle.clobber_pass.specs.inside.Closed.{ShapedExits, Ended, Within, entry_row, joined_exits}
use Rattle.clobber_pass.specs.inside.Told.{parameters_at}
use Rattle.clobber_pass.specs.inside.Closed.Stage.{Table, RowAt}
use Rattle.clobber_pass.specs.inside.Closed.Reached.{none, again, raised, taken, picked, dropped}
use Rattle.clobber_pass.specs.inside.Closed.Reached.{leads, goes}
use Rattle.clobber_pass.specs.inside.Sound.{SoundExits}
use Rattle.clobber_pass.specs.inside.Flow.{waits}
use Rattle.clobber_pass.specs.inside.Calling.{IsCalled, edges_at, edges_in, edges_from, woken}
use Rattle.clobber_pass.specs.inside.Calling.{all_called, Apart, CallsOthers, EndedAlone}
use Rattle.clobber_pass.specs.inside.Calling.{ColumnsAlone, Passing}
use Rattle.clobber_pass.proofs.bits.Joins.{exits_of_other}
use Rattle.clobber_pass.proofs.derived.Columns.{exits_of_set}
use Rattle.clobber_pass.proofs.derived.Flowing.{grows_join}
use Rattle.clobber_pass.proofs.Waking.{waits_kept, waits_set, waits_other}

-- the functions that a code calls have the same exits
abbrev SameCalls : List (List (List ℕ)) → List (List (List ℕ)) → List Instruction → Type 0
SameCalls exits new code = (k to g : ℕ) (args : List ℕ) → slice_get code k ≡ Some (Call to g args)
    → exits_of new g ≡ exits_of exits g

rest_same : (exits new : List (List (List ℕ))) (i : Instruction) (is : List Instruction)
    → SameCalls exits new (i ∷ is) → SameCalls exits new is
rest_same exits new i is same k to g args there = same (suc k) to g args there

next_same : (topic : Topic) (exits new : List (List (List ℕ))) (i : Instruction) (row : List ℕ)
    → ((to g : ℕ) (args : List ℕ) → i ≡ Call to g args → exits_of new g ≡ exits_of exits g)
    → next_row topic new i row ≡ next_row topic exits i row
next_same topic exits new (Call to g args) row same =
    ap (λ e. call_from e to args row 0 row) (same to g args refl)
next_same topic exits new (Const to v) row same = refl
next_same topic exits new (Copy to from) row same = refl
next_same topic exits new (Bin op to left right) row same = refl
next_same topic exits new (Jump place) row same = refl
next_same topic exits new (Branch reg place) row same = refl
next_same topic exits new (Load to t) row same = refl
next_same topic exits new (Store t from line) row same = refl
next_same topic exits new (New to kind log_fill line) row same = refl
next_same topic exits new (Free from kind line) row same = refl
next_same topic exits new (Return from) row same = refl
next_same topic exits new Tick row same = refl
next_same topic exits new (Trap kind) row same = refl
next_same topic exits new (Log t) row same = refl

head_same : (topic : Topic) (exits new : List (List (List ℕ))) (i : Instruction)
    (is : List Instruction) (row : List ℕ) → SameCalls exits new (i ∷ is)
    → next_row topic new i row ≡ next_row topic exits i row
head_same topic exits new i is row same =
    next_same topic exits new i row (λ to g args here.
    same 0 to g args (ap (λ (j : Instruction). Some j) here))

swept_same : (topic : Topic) (exits new : List (List (List ℕ))) (end : ℕ) (rest : List Instruction)
    (rows : List (List ℕ)) (row : List ℕ) (p : ℕ) → SameCalls exits new rest
    → swept topic new end rows row p rest ≡ swept topic exits end rows row p rest
swept_same topic exits new end [] rows row p same = refl
swept_same topic exits new end (i ∷ is) rows row p same =
    let table = rows_led (meet_in rows p row) (jump_target end i) (here_in rows p row) in
    ap (λ r. swept topic new end table r (p + 1) is)
    (head_same topic exits new i is (here_in rows p row) same)
    ∙ swept_same topic exits new end is table (next_row topic exits i (here_in rows p row)) (p + 1)
    (rest_same exits new i is same)

closed_same : (topic : Topic) (exits new : List (List (List ℕ))) (end : ℕ) (rest : List Instruction)
    (rows : List (List ℕ)) (row : List ℕ) (p : ℕ) → SameCalls exits new rest
    → Closed topic exits end rows row p rest → Closed topic new end rows row p rest
closed_same topic exits new end [] rows row p same closed = tt
closed_same topic exits new end (i ∷ is) rows row p same closed =
    let here = row_or (row_in rows p) row in (
      closed.0,
      closed.1,
      subst (λ r. Closed topic new end rows r (p + 1) is)
          (sym (head_same topic exits new i is here same))
          (closed_same topic exits new end is rows (next_row topic exits i here) (p + 1)
          (rest_same exits new i is same) closed.2),
    )

reached_same : (topic : Topic) (exits new : List (List (List ℕ))) (entry : List ℕ)
    (code : List Instruction) {stage : Stage} → SameCalls exits new code
    → Reached topic exits entry code stage → Reached topic new entry code stage
reached_same topic exits new entry code same none = none
reached_same topic exits new entry code same (again rows made) =
    subst (λ t. Reached topic new entry code (Table t))
    (swept_same topic exits new (length code) code rows entry 0 same)
    (again rows (reached_same topic exits new entry code same made))
reached_same topic exits new entry code same (raised rows p s w made at) =
    raised rows p s w (reached_same topic exits new entry code same made)
    (reached_same topic exits new entry code same at)
reached_same topic exits new entry code same (taken rows p s made) =
    taken rows p s (reached_same topic exits new entry code same made)
reached_same topic exits new entry code same (picked p row s at) =
    picked p row s (reached_same topic exits new entry code same at)
reached_same topic exits new entry code same (dropped p row s at) =
    dropped p row s (reached_same topic exits new entry code same at)
reached_same topic exits new entry code same (leads p q i row is to at) =
    leads p q i row is to (reached_same topic exits new entry code same at)
reached_same topic exits new entry code same (goes p i row is inside at) =
    subst (λ r. Reached topic new entry code (RowAt (suc p) r))
    (next_same topic exits new i row (λ to g args here.
    same p to g args (is ∙ ap (λ (j : Instruction). Some j) here)))
    (goes p i row is inside (reached_same topic exits new entry code same at))

made_same : (topic : Topic) (exits new : List (List (List ℕ))) (entry : List ℕ)
    (code : List Instruction) {rows : List (List ℕ)} → SameCalls exits new code
    → Made topic exits entry code rows → Made topic new entry code rows
made_same topic exits new entry code same made = reached_same topic exits new entry code same made

-- a function that was swept, if its exits and those of its callees stayed
ended_same : (functions : List IrFunction) (topic : Topic) (exits new : List (List (List ℕ)))
    (g : ℕ) → exits_of new g ≡ exits_of exits g
    → ((p to h : ℕ) (args : List ℕ) → CallsAt functions g p to h args
    → exits_of new h ≡ exits_of exits h) → AllColumns functions topic exits g
    → AllColumns functions topic new g
ended_same functions topic exits new g own calls all c few = record { ends = ends }
  where
    ends : (u : IrFunction) → slice_get functions g ≡ Some u → EndedIn topic new g c u
    ends u there =
        let old = (all c few).ends u there in
        let same : SameCalls exits new u.code =
        λ k to h args at. calls k to h args
        (ap (option_and_then (λ (v : IrFunction). slice_get v.code k)) there ∙ at) in
        record {
          rows = old.rows;
          closed = closed_same topic exits new (length u.code) u.code old.rows
              (entry_row topic u.parameters u.registers c) 0 same old.closed;
          made = made_same topic exits new (entry_row topic u.parameters u.registers c) u.code
              same old.made;
          told = λ x s h. subst (λ e. tells (row_in e c) x s ≡ true) (sym own) (old.told x s h);
        }

-- where only a function's own exits changed, and it calls others alone
apart_calls : (functions : List IrFunction) (exits new : List (List (List ℕ))) (f : ℕ)
    (u : IrFunction) → slice_get functions f ≡ Some u → Apart f exits new
    → CallsOthers functions f → SameCalls exits new u.code
apart_calls functions exits new f u there apart others k to g args at =
    apart.same g (λ same. others k to args
    (subst (λ h. CallsAt functions f k to h args) same
    (ap (option_and_then (λ (v : IrFunction). slice_get v.code k)) there ∙ at)))

ended_apart : (functions : List IrFunction) (topic : Topic) (exits new : List (List (List ℕ)))
    (f c : ℕ) → Apart f exits new → CallsOthers functions f → Ended functions topic exits f c
    → Ended functions topic new f c
ended_apart functions topic exits new f c apart others before = record { ends = ends }
  where
    ends : (u : IrFunction) → slice_get functions f ≡ Some u → EndedIn topic new f c u
    ends u there =
        let old = before.ends u there in
        let same = apart_calls functions exits new f u there apart others in
        record {
          rows = old.rows;
          closed = closed_same topic exits new (length u.code) u.code old.rows
              (entry_row topic u.parameters u.registers c) 0 same old.closed;
          made = made_same topic exits new (entry_row topic u.parameters u.registers c) u.code
              same old.made;
          told = λ x s h. apart.keeps c x s (old.told x s h);
        }

-- the edges contain the call of one function by the other
abbrev IsEdge : ℕ → ℕ → List Edge → Type 0
IsEdge f g [] = ⊥
IsEdge f g (e ∷ es) = ((e.caller ≡ f) × (e.called ≡ g)) ⊎ IsEdge f g es

edge_left : (f g : ℕ) (one other : List Edge) → IsEdge f g one → IsEdge f g (one ++ other)
edge_left f g [] other h = absurd h
edge_left f g (e ∷ es) other (inl h) = inl h
edge_left f g (e ∷ es) other (inr h) = inr (edge_left f g es other h)

edge_right : (f g : ℕ) (one other : List Edge) → IsEdge f g other → IsEdge f g (one ++ other)
edge_right f g [] other h = h
edge_right f g (e ∷ es) other h = inr (edge_right f g es other h)

in_code : (f : ℕ) (code : List Instruction) (p to g : ℕ) (args : List ℕ)
    → slice_get code p ≡ Some (Call to g args) → IsEdge f g (edges_in f code)
in_code f [] p to g args at = absurd cc
in_code f (i ∷ is) zero to g args at =
    let same : i ≡ Call to g args = cc in
    edge_left f g (edges_at f i) (edges_in f is)
    (subst (λ j. IsEdge f g (edges_at f j)) (sym same) (inl (refl, refl)))
in_code f (i ∷ is) (suc p) to g args at =
    edge_right f g (edges_at f i) (edges_in f is) (in_code f is p to g args at)

in_functions : (us : List IrFunction) (k f p to g : ℕ) (args : List ℕ)
    → instruction_at us f p ≡ Some (Call to g args) → IsEdge (k + f) g (edges_from k us)
in_functions [] k f p to g args at = absurd cc
in_functions (u ∷ us) k zero p to g args at =
    let here : k ≡ k + 0 = omega arith in
    edge_left (k + 0) g (edges_in k u.code) (edges_from (k + 1) us)
    (subst (λ n. IsEdge n g (edges_in k u.code)) here (in_code k u.code p to g args at))
in_functions (u ∷ us) k (suc f) p to g args at =
    let there : (k + 1) + f ≡ k + suc f = omega arith in
    edge_right (k + suc f) g (edges_in k u.code) (edges_from (k + 1) us)
    (subst (λ n. IsEdge n g (edges_from (k + 1) us)) there
    (in_functions us (k + 1) f p to g args at))

is_edge : (functions : List IrFunction) (f p to g : ℕ) (args : List ℕ)
    → CallsAt functions f p to g args → IsEdge f g (edges_from 0 functions)
is_edge functions f p to g args at = let here : 0 + f ≡ f = omega arith in
    subst (λ n. IsEdge n g (edges_from 0 functions)) here
    (in_functions functions 0 f p to g args at)

-- callers that were woken
one_kept : (waiting : List Bool) (c f : ℕ) (b : Bool)
    → waits (if b then slice_set waiting c true else waiting) f ≡ false → waits waiting f ≡ false
one_kept waiting c f true h = waits_kept waiting c f h
one_kept waiting c f false h = h

woken_kept : (es : List Edge) (g : ℕ) (waiting : List Bool) (f : ℕ)
    → waits (woken es g waiting) f ≡ false → waits waiting f ≡ false
woken_kept [] g waiting f h = h
woken_kept (e ∷ es) g waiting f h =
    one_kept waiting e.caller f (e.called == g)
    (woken_kept es g (if e.called == g then slice_set waiting e.caller true else waiting) f h)

length_woken : (es : List Edge) (g : ℕ) (waiting : List Bool)
    → length (woken es g waiting) ≡ length waiting
length_woken [] g waiting = refl
length_woken (e ∷ es) g waiting =
    length_woken es g (if e.called == g then slice_set waiting e.caller true else waiting)
    ∙ by_kind (e.called == g)
  where
    by_kind : (b : Bool) → length (if b then slice_set waiting e.caller true else waiting)
        ≡ length waiting
    by_kind true = length-set waiting e.caller true
    by_kind false = refl

woken_all : (es : List Edge) (g : ℕ) (waiting : List Bool) (f : ℕ)
    → waits (woken es g waiting) f ≡ false → IsEdge f g es → ⊥
woken_all [] g waiting f quiet edge = edge
woken_all (e ∷ es) g waiting f quiet (inl (caller, called)) =
    let before = woken_kept es g (if e.called == g then slice_set waiting e.caller true
    else waiting) f quiet in
    let woke : waits (slice_set waiting e.caller true) f ≡ false =
    subst (λ b. waits (if b then slice_set waiting e.caller true else waiting) f ≡ false)
    (eq-eqb e.called g called) before in
    false≢true (sym woke ∙ ap (waits (slice_set waiting e.caller true)) (sym caller)
    ∙ waits_set waiting e.caller)
woken_all (e ∷ es) g waiting f quiet (inr edge) =
    woken_all es g (if e.called == g then slice_set waiting e.caller true else waiting) f quiet edge

-- at first the called functions wait
called_kept : (es : List Edge) (waiting : List Bool) (f : ℕ)
    → waits (all_called es waiting) f ≡ false → waits waiting f ≡ false
called_kept [] waiting f h = h
called_kept (e ∷ es) waiting f h =
    waits_kept waiting e.called f (called_kept es (slice_set waiting e.called true) f h)

length_called : (es : List Edge) (waiting : List Bool)
    → length (all_called es waiting) ≡ length waiting
length_called [] waiting = refl
length_called (e ∷ es) waiting = length_called es (slice_set waiting e.called true)
    ∙ length-set waiting e.called true

called_all : (es : List Edge) (waiting : List Bool) (f g : ℕ)
    → waits (all_called es waiting) g ≡ false → IsEdge f g es → ⊥
called_all [] waiting f g quiet edge = edge
called_all (e ∷ es) waiting f g quiet (inl (caller, called)) =
    false≢true (sym (called_kept es (slice_set waiting e.called true) g quiet)
    ∙ ap (waits (slice_set waiting e.called true)) (sym called) ∙ waits_set waiting e.called)
called_all (e ∷ es) waiting f g quiet (inr edge) =
    called_all es (slice_set waiting e.called true) f g quiet edge

pub passing_first : (functions : List IrFunction) (topic : Topic) (exits : List (List (List ℕ)))
    (waiting : List Bool) → ShapedExits functions topic exits → SoundExits functions topic exits
    → waiting ≡ all_called (edges_from 0 functions) (replicate (length functions) false)
    → Passing functions topic exits waiting
passing_first functions topic exits waiting shaped sound is = record {
  shaped = shaped;
  sound = sound;
  size = ap (λ (w : List Bool). length w) is ∙ length_called (edges_from 0 functions)
      (replicate (length functions) false) ∙ length-replicate (length functions) false;
  settled = λ g quiet (f, p, to, args, call).
      absurd (called_all (edges_from 0 functions) (replicate (length functions) false) f g
      (subst (λ w. waits w g ≡ false) is quiet) (is_edge functions f p to g args call));
}

-- the exits of one function grew, and its callers wait
pub passing_grown : (functions : List IrFunction) (topic : Topic) (exits new : List (List (List ℕ)))
    (waiting swept later : List Bool) (f : ℕ) → Passing functions topic exits waiting
    → ColumnsAlone functions topic new f
    → ShapedExits functions topic new → SoundExits functions topic new → Apart f exits new
    → swept ≡ slice_set waiting f false → later ≡ woken (edges_from 0 functions) f swept
    → Passing functions topic new later
passing_grown functions topic exits new waiting swept later f old alone shaped sound apart done is =
    record {
      shaped = shaped;
      sound = sound;
      size = ap (λ (w : List Bool). length w) is ∙ length_woken (edges_from 0 functions) f swept
          ∙ ap (λ (w : List Bool). length w) done ∙ length-set waiting f false ∙ old.size;
      settled = settled;
    }
  where
    settled : (g : ℕ) → waits later g ≡ false → IsCalled functions g
        → AllColumns functions topic new g
    settled g quiet called =
        let woke : waits (woken (edges_from 0 functions) f swept) g ≡ false =
        subst (λ w. waits w g ≡ false) is quiet in
        let kept : waits swept g ≡ false =
        woken_kept (edges_from 0 functions) f swept g woke in
        let before : waits (slice_set waiting f false) g ≡ false =
        subst (λ w. waits w g ≡ false) done kept in
        let others : (p to h : ℕ) (args : List ℕ) → CallsAt functions g p to h args
        → (h ≡ f → ⊥) = λ p to h args call same.
        woken_all (edges_from 0 functions) f swept g woke
        (subst (λ k. IsEdge g k (edges_from 0 functions)) same
        (is_edge functions g p to h args call)) in
        by_place g called others before (g == f) refl
      where
        by_place : (g : ℕ) → IsCalled functions g
            → ((p to h : ℕ) (args : List ℕ) → CallsAt functions g p to h args → (h ≡ f → ⊥))
            → waits (slice_set waiting f false) g ≡ false
            → (b : Bool) → (g == f) ≡ b → AllColumns functions topic new g
        by_place g called others before true at =
            let same : g ≡ f = eqb-true g f at in
            λ c few. subst (λ k. Ended functions topic new k c) (sym same)
            ((alone c (subst (λ k. c < parameters_at functions k + 2) same few)).ends
            (λ p to args call. others p to f args
            (subst (λ k. CallsAt functions k p to f args) (sym same) call) refl))
        by_place g called others before false at =
            let unlike : (g ≡ f → ⊥) = λ equal. false≢true (sym at ∙ eq-eqb g f equal) in
            ended_same functions topic exits new g (apart.same g unlike)
            (λ p to h args call. apart.same h (others p to h args call))
            (old.settled g (sym (waits_other waiting f g false unlike) ∙ before) called)

-- a function whose exits stayed
pub passing_quiet : (functions : List IrFunction) (topic : Topic) (exits new : List (List (List ℕ)))
    (waiting later : List Bool) (f : ℕ) → Passing functions topic exits waiting
    → AllColumns functions topic exits f
    → new ≡ exits → later ≡ slice_set waiting f false → Passing functions topic new later
passing_quiet functions topic exits new waiting later f old here same is =
    subst (λ e. Passing functions topic e later) (sym same) (record {
      shaped = old.shaped;
      sound = old.sound;
      size = ap (λ (w : List Bool). length w) is ∙ length-set waiting f false ∙ old.size;
      settled = settled;
    })
  where
    settled : (g : ℕ) → waits later g ≡ false → IsCalled functions g
        → AllColumns functions topic exits g
    settled g quiet called = by_place (g == f) refl
      where
        by_place : (b : Bool) → (g == f) ≡ b → AllColumns functions topic exits g
        by_place true at = subst (AllColumns functions topic exits) (sym (eqb-true g f at)) here
        by_place false at =
            let unlike : (g ≡ f → ⊥) = λ equal. false≢true (sym at ∙ eq-eqb g f equal) in
            old.settled g (sym (waits_other waiting f g false unlike)
            ∙ subst (λ w. waits w g ≡ false) is quiet) called

-- exits of which one function's were joined
pub apart_joined : (exits : List (List (List ℕ))) (f c : ℕ) (row : List ℕ)
    → Apart f exits (joined_exits exits f c row)
apart_joined exits f c row = record {
  same = λ h unlike.
      exits_of_other exits f h (join_in (exits_of exits f) c row) unlike;
  keeps = keeps;
}
  where
    keeps : (d : ℕ) → Within (row_in (exits_of exits f) d)
        (row_in (exits_of (joined_exits exits f c row) f) d)
    keeps d x s h =
        ⊎_elim (λ (same : exits_of (joined_exits exits f c row) f ≡ exits_of exits f).
        subst (λ t. tells (row_in t d) x s ≡ true) (sym same) h)
        (λ (e : (f ≡ f) × (exits_of (joined_exits exits f c row) f
        ≡ join_in (exits_of exits f) c row)).
        subst (λ t. tells (row_in t d) x s ≡ true) (sym e.1)
        (grows_join (exits_of exits f) c row d x s h))
        (exits_of_set exits f (join_in (exits_of exits f) c row) f)

pub apart_none : (f : ℕ) (exits : List (List (List ℕ))) → Apart f exits exits
apart_none f exits = record { same = λ h unlike. refl; keeps = λ c x s h. h }

pub apart_both : (f : ℕ) (exits middle new : List (List (List ℕ))) → Apart f exits middle
    → Apart f middle new → Apart f exits new
apart_both f exits middle new one two =
    record {
      same = λ h unlike. two.same h unlike ∙ one.same h unlike;
      keeps = λ c x s h. two.keeps c x s (one.keeps c x s h);
    }

-- a column stays closed where only the function's own exits grew
pub alone_keeps : (functions : List IrFunction) (topic : Topic) (exits new : List (List (List ℕ)))
    (f c : ℕ) → Apart f exits new → EndedAlone functions topic exits f c
    → EndedAlone functions topic new f c
alone_keeps functions topic exits new f c apart before =
    record {
      ends = λ others. ended_apart functions topic exits new f c apart others
          (before.ends others);
    }

-- the column that was swept
pub alone_ended : (functions : List IrFunction) (topic : Topic) (exits new : List (List (List ℕ)))
    (f c : ℕ) (u : IrFunction) → slice_get functions f ≡ Some u → Apart f exits new
    → (rows : List (List ℕ)) → Closed topic exits (length u.code) rows
    (entry_row topic u.parameters u.registers c) 0 u.code
    → Made topic exits (entry_row topic u.parameters u.registers c) u.code rows
    → Within (row_in rows (length u.code)) (row_in (exits_of new f) c)
    → EndedAlone functions topic new f c
alone_ended functions topic exits new f c u there apart rows closed made told =
    record { ends = λ others. record { ends = each others } }
  where
    here : CallsOthers functions f → EndedIn topic new f c u
    here others =
        let same = apart_calls functions exits new f u there apart others in
        record {
          rows = rows;
          closed = closed_same topic exits new (length u.code) u.code rows
              (entry_row topic u.parameters u.registers c) 0 same closed;
          made = made_same topic exits new (entry_row topic u.parameters u.registers c) u.code
              same made;
          told = told;
        }

    each : CallsOthers functions f → (v : IrFunction) → slice_get functions f ≡ Some v
        → EndedIn topic new f c v
    each others v is =
        let both : Some u ≡ Some v = sym there ∙ is in
        let body_is : u ≡ v = cc in
        subst (EndedIn topic new f c) body_is (here others)

pub ruleset apart = (apart_joined, apart_none, apart_both)

pub ruleset passing = (passing_grown)
