-- Whole runs.
use Rattle.std.proofs.Common.{◌≡◌, ℕ, zero, suc, ◌+◌, ◌-◌, ◌≤◌, refl, sym, ◌∙◌, ap, subst, arith}
use Rattle.std.proofs.Common.{true, Some, List, [], ◌∷◌, ◌++◌, length, map, ℤ}
use Rattle.std.proofs.Common.{replicate}
use Rattle.std.specs.Prelude.{FitsSigned, slice_get, ◌==◌}
use Rattle.std.specs.Int.{w64}
use Rattle.std.specs.List.{AllByRecursion, flat_map}
use Rattle.std.proofs.lemmas.Bool.{eq-eqb}
use Rattle.std.proofs.lemmas.Grind.{flat_map-append}
use Rattle.std.proofs.lemmas.List.{length-map, length-append, length-replicate}
use Rattle.cache_model.specs.Cache.{Words}
use Rattle.nvm_base.specs.Operations.{unsigned}
use Rattle.nvm_base.specs.Wrap.{IsWord}
use Rattle.nvm_base.proofs.LawLemmas.{word_fits}
use Rattle.pm_machine.specs.declared.op.Function.{Function}
use Rattle.pm_machine.specs.declared.effect.Effect.{Effect}
use Rattle.pm_machine.specs.declared.effect.End.TheVariants as end
use Rattle.pm_machine.specs.declared.image.Image.{Image}
use Rattle.pm_machine.specs.declared.records.Policy.{Policy}
use Rattle.pool_map.specs.Trap.{trap_number}
use Rattle.pm_machine.specs.Effects.{heap_end}
use Rattle.pm_machine.specs.Machine.{State, Run, Unfinished, Finished, start}
use Rattle.pm_machine.specs.Logging.{Logging, Turn, Plays, Stops, turn_of, begun, follows}
use Rattle.pm_machine.specs.Logging.{logged_run}
use Rattle.c_fragment.specs.Statement.{CFunction}
use Rattle.c_fragment.specs.State.{CState, variables_of}
use Rattle.c_fragment.specs.Meaning.{CStep, Goes, Returns, Traps, Undefined, c_step}
use Rattle.c_fragment.specs.Runs.{CRun, steps_before, c_follow, c_run, c_start, called_in}
use Rattle.c_fragment.specs.Translation.{c_function}
use Rattle.native_law.specs.Printed.{played_by, run_shown, IsPrintable, tx_function, CanBegin}
use Rattle.native_law.specs.Printed.{PrintedRunLaw}
use Rattle.native_law.specs.inside.Standing.{HoldsBits, MirrorsState, TurnsAgree}
use Rattle.native_law.proofs.Registers.{begin_holds}
use Rattle.native_law.proofs.Checks.{parameters_fit, some_code, most_at}
use Rattle.native_law.proofs.Steps.{mapped}
use Rattle.native_law.proofs.Fetched.{steps_agree}

begun_shown : (es : List Effect) (r : Run) → steps_before (flat_map played_by es) (run_shown r)
    ≡ run_shown (begun es r)
begun_shown es Unfinished = refl
begun_shown es (Finished (end.Halted v) fs) =
    ap (λ qs. Rattle.c_fragment.specs.Runs.Returned (unsigned v) qs)
    (sym (flat_map-append played_by es fs))
begun_shown es (Finished (end.Trapped kind) fs) =
    ap (λ qs. Rattle.c_fragment.specs.Runs.Trapped (trap_number kind) qs)
    (sym (flat_map-append played_by es fs))

-- a turn and a step, and what is left of each run
followed : (image : Image) (heap : Words) (rest : List Effect → Logging → State → Run)
    (c_rest : CState → CRun) → ((es : List Effect) (t : State) (d : CState)
    → MirrorsState image (heap_end heap es) t d → c_rest d ≡ run_shown (rest es d.logging t))
    → (o : Turn) (x : CStep) → TurnsAgree image heap o x
    → c_follow c_rest x ≡ run_shown (follows rest o)
followed image heap rest c_rest same (Plays es g t) (Goes ps d) agree =
    ap (λ qs. steps_before qs (c_rest d)) agree.0
    ∙ ap (steps_before (flat_map played_by es)) (same es t d agree.2)
    ∙ begun_shown es (rest es d.logging t)
    ∙ ap (λ (h : Logging). run_shown (begun es (rest es h t))) agree.1
followed image heap rest c_rest same (Stops (end.Halted v)) (Returns x) agree =
    ap (λ (y : ℕ). Rattle.c_fragment.specs.Runs.Returned y []) agree
followed image heap rest c_rest same (Stops (end.Trapped kind)) (Traps k) agree =
    ap (λ (y : ℕ). Rattle.c_fragment.specs.Runs.Trapped y []) agree
followed image heap rest c_rest same (Plays es g t) (Returns x) agree = absurd agree
followed image heap rest c_rest same (Plays es g t) (Traps k) agree = absurd agree
followed image heap rest c_rest same (Plays es g t) Undefined agree = absurd agree
followed image heap rest c_rest same (Stops (end.Halted v)) (Goes ps d) agree = absurd agree
followed image heap rest c_rest same (Stops (end.Halted v)) (Traps k) agree = absurd agree
followed image heap rest c_rest same (Stops (end.Halted v)) Undefined agree = absurd agree
followed image heap rest c_rest same (Stops (end.Trapped kind)) (Goes ps d) agree = absurd agree
followed image heap rest c_rest same (Stops (end.Trapped kind)) (Returns x) agree = absurd agree
followed image heap rest c_rest same (Stops (end.Trapped kind)) Undefined agree = absurd agree

module _ (image : Image) (code : IsPrintable image.parts.functions) where
  abbrev file : List CFunction
  file = map c_function image.parts.functions

  run_same : (k : ℕ) (heap : Words) (s : State) (c : CState) → MirrorsState image heap s c
      → c_run image.parts.sizes file k c ≡ run_shown (logged_run image k c.logging s heap)
  run_same zero heap s c stands = refl
  run_same (suc k) heap s c stands =
      followed image heap (λ es h t. logged_run image k h t (heap_end heap es))
      (λ d. c_run image.parts.sizes file k d)
      (λ es t d after. run_same k (heap_end heap es) t d after)
      (turn_of image c.logging s heap) (c_step image.parts.sizes file c)
      (steps_agree image heap s c code stands)

words_fit : (vs : List ℤ) → AllByRecursion IsWord vs → AllByRecursion (λ v. FitsSigned w64 v) vs
words_fit [] all = tt
words_fit (v ∷ vs) all = (word_fits v all.0, words_fit vs all.1)

module _ (p : Policy) (image : Image) (heap : Words) (tx : ℕ) (args : List ℤ)
    (can : CanBegin image heap tx args) where
  abbrev u : Function
  u = can.function

  abbrev f : ℕ
  f = tx_function image tx

  abbrev rest : ℕ
  rest = u.registers - u.parameters

  abbrev us : List Function
  us = image.parts.functions

  declares : length (variables_of (c_function u) (map unsigned args)) ≡ u.registers
  declares =
      let none : List ℕ = replicate rest 0 in
      let fits = parameters_fit us f u image.good can.found in
      let long : length none ≡ rest = length-replicate rest 0 in
      let all : length (map unsigned args ++ none) ≡ length (map unsigned args) + length none =
      length-append (map unsigned args) none in
      let few : length (map unsigned args) ≡ length args = length-map args unsigned in
      let same = can.parameters in
      omega (arith, fits, long, all, few, same)

  begins : HoldsBits (variables_of (c_function u) (map unsigned args))
      (start image tx args).top.registers
  begins =
      let fits = parameters_fit us f u image.good can.found in
      let most : u.registers ≤ image.largest =
      subst (λ (n : ℕ). u.registers ≤ n) (sym image.most) (most_at 0 us f u can.found) in
      let same = can.parameters in
      let room : length args + rest ≤ image.largest = omega (arith, fits, most, same) in
      begin_holds args rest image.largest room (words_fit args can.arguments)

  abbrev pub first : CState
  first = c_start p image.parts.sizes f (map unsigned args) (λ w. unsigned (heap w))
      (c_function u)

  pub start_stands : MirrorsState image heap (start image tx args) first
  start_stands = record {
    top = record {
      u = u;
      found = can.found;
      function = refl;
      place = refl;
      inside = some_code us f u image.good can.found;
      declared = declares;
      holds = begins;
    };
    waiting = refl;
    few = omega arith;
    size = refl;
    ticks = refl;
    dirty = refl;
    heap = λ w. refl;
    words = λ w low. word_fits (heap w) (can.words w low);
  }

  pub call_is : (k : ℕ) → called_in p image.parts.sizes (map c_function us) k f
      (map unsigned args) (λ w. unsigned (heap w)) (slice_get (map c_function us) f)
      ≡ c_run image.parts.sizes (map c_function us) k first
  call_is k =
      let there : slice_get (map c_function us) f ≡ Some (c_function u) = mapped us f u can.found in
      let many : (u.parameters == length (map unsigned args)) ≡ true =
      eq-eqb u.parameters (length (map unsigned args))
      (can.parameters ∙ sym (length-map args unsigned))
      in rw there (rw many refl)

pub run_law : PrintedRunLaw
run_law p image k heap tx args can =
    call_is p image heap tx args can k
    ∙ run_same image can.code k heap (start image tx args) (first p image heap tx args can)
    (start_stands p image heap tx args can)
