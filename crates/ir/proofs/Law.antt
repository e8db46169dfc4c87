-- A fact is derived at a place exactly if some walk reaches the place with it.
use Rattle.std.proofs.Common.{◌≡◌, ℕ, suc, true, List, [], ◌∷◌, Some, refl, sym, ◌∙◌, subst}
use Rattle.std.specs.Prelude.{◌↔◌}
use Rattle.ir.specs.declared.function.IrFunction.{IrFunction}
use Rattle.ir.specs.declared.instruction.Instruction.{Instruction}
use Rattle.ir.specs.declared.fact.Fact.{Fact}
use Rattle.ir.specs.declared.fact.Fact.TheVariants.{Here}
use Rattle.ir.specs.declared.fact.Back.{Back}
use Rattle.ir.specs.declared.fact.Back.TheVariants.{FromReturn, Stays}
use Rattle.ir.specs.Places.{instruction_at, IsTransaction, Leads, CallsAt, ReturnsAt}
use Rattle.ir.specs.Walk.{Kept, at_start, facts_after, facts_at_entry, given_back, Open, WalkSpot}
use Rattle.ir.specs.Walk.{at, WalkStep, Walk}
use Rattle.ir.specs.Walk.WalkStep.{goes, enters, returns}
use Rattle.ir.specs.Walk.Walk.{none, more}
use Rattle.ir.specs.Table.{holds, AmongOrigins, origins, at_call, back}
use Rattle.ir.specs.Derived.{Passes, Flows}
use Rattle.ir.specs.Derived.Passes.{starts, along, through, past}
use Rattle.ir.specs.Derived.Flows.{first, called, on, across, beside}
use Rattle.ir.specs.Clobber.{SomeWalk}
use Rattle.ir.proofs.Tables.{holds-after, holds_any-origin, origin_of, holds-entered, held}
use Rattle.ir.proofs.Tables.{holds-given_back}

module _ (functions : List IrFunction) where
  joined : {a b c : WalkSpot} → Walk functions a b → Walk functions b c → Walk functions a c
  joined v none = v
  joined v (more w s) = more (joined v w) s

  -- From derived facts to walks. From every spot at p where a holds, some walk reaches q with b,
  -- with the same call stack.
  abbrev pub StepsTo : ℕ → ℕ → Fact → ℕ → Fact → Type 0
  StepsTo f p a q b = (k : Kept) (calls : List Open) → holds k a ≡ true
      → (k' : Kept) × Walk functions (at f p k calls) (at f q k' calls) × (holds k' b ≡ true)

  then_to : (f p q r : ℕ) (a b c : Fact) → StepsTo f p a q b → StepsTo f q b r c → StepsTo f p a r c
  then_to f p q r a b c s t k calls h =
      let v = s k calls h in
      let w = t v.0 calls v.2 in
      (w.0, joined v.1 w.1, w.2)

  by_instruction : (f p q : ℕ) (a b : Fact) (i : Instruction)
      → instruction_at functions f p ≡ Some i → Leads i p q → AmongOrigins a (origins i b)
      → StepsTo f p a q b
  by_instruction f p q a b i is to m k calls h = (
    facts_after i k,
    more none (goes i is to),
    holds-after i k b
        ∙ holds_any-origin k (origins i b) a m h,
  )

  -- through a call: the fact after it comes from the return, or from the call
  by_call : (f p g q to : ℕ) (args : List ℕ) (a x y b : Fact) → CallsAt functions f p to g args
      → StepsTo g 0 x q y → ReturnsAt functions g q
      → ((k : Kept) → holds k a ≡ true → holds (facts_at_entry args k) x ≡ true)
      → ((before k : Kept) → holds before a ≡ true → holds k y ≡ true
      → held before k b (back to args b) ≡ true) → StepsTo f p a (suc p) b
  by_call f p g q to args a x y b call inside ret goes_in comes_out k calls h =
      let v = inside (facts_at_entry args k)
      (record { function = f; place = p; to = to; args = args; kept = k } ∷ calls)
      (goes_in k h) in (
        given_back to args k v.0,
        more (joined (more none (enters call)) v.1) (returns ret),
        holds-given_back to args k v.0 b ∙ comes_out k v.0 h v.2,
      )

  by_return : (f p g q to : ℕ) (args : List ℕ) (x y b : Fact) → CallsAt functions f p to g args
      → StepsTo g 0 x q y → ReturnsAt functions g q → back to args b ≡ FromReturn y
      → StepsTo f p (at_call args x) (suc p) b
  by_return f p g q to args x y b call inside ret e =
      by_call f p g q to args (at_call args x) x y b call inside ret (λ k h. holds-entered args k x
      ∙ h) (λ before k h j. rw e j)

  by_staying : (f p g q to : ℕ) (args : List ℕ) (b : Fact) → CallsAt functions f p to g args
      → StepsTo g 0 Here q Here → ReturnsAt functions g q → back to args b ≡ Stays
      → StepsTo f p b (suc p) b
  by_staying f p g q to args b call inside ret e =
      by_call f p g q to args b Here Here b call inside ret (λ k h. refl) (λ before k h j. rw e h)

  pub walks : {f o p : ℕ} {e b : Fact} → Passes functions f o e p b → StepsTo f o e p b
  walks starts = λ k calls h. (k, none, h)
  walks (along {f = f} {o = o} {p = p} {q = q} {e = e} {a = a} {b = b} i d is to m) =
      then_to f o p q e a b (walks d) (by_instruction f p q a b i is to m)
  walks (through {f = f} {o = o} {p = p} {g = g} {q = q} {to = to} {args = args} {e = e} {x = x}
      {y = y} {b = b} d call r ret same) =
      then_to f o p (suc p) e (at_call args x) b (walks d)
      (by_return f p g q to args x y b call (walks r) ret same)
  walks (past {f = f} {o = o} {p = p} {g = g} {q = q} {to = to} {args = args} {e = e} {b = b} d call
      r ret same) =
      then_to f o p (suc p) e b b (walks d) (by_staying f p g q to args b call (walks r) ret same)

  then_walks : (f p q : ℕ) (a b : Fact) → SomeWalk functions f p a → StepsTo f p a q b
      → SomeWalk functions f q b
  then_walks f p q a b w s =
      let v = s w.0 w.1 w.3 in
      (v.0, w.1, (w.2.0, w.2.1, joined w.2.2 v.1), v.2)

  pub sound : {f p : ℕ} {b : Fact} → Flows functions f p b → SomeWalk functions f p b
  sound (first {f = f} t h) = (at_start, [], (f, t, none), h)
  sound (called {f = f} {p = p} {to = to} {args = args} {x = x} d call) =
      let w = sound d in (
        facts_at_entry args w.0,
        record { function = f; place = p; to = to; args = args; kept = w.0 }
            ∷ w.1,
        (w.2.0, w.2.1, more w.2.2 (enters call)),
        holds-entered args w.0 x ∙ w.3,
      )
  sound (on {f = f} {p = p} {q = q} {a = a} {b = b} i d is to m) =
      then_walks f p q a b (sound d) (by_instruction f p q a b i is to m)
  sound (across {f = f} {p = p} {g = g} {q = q} {to = to} {args = args} {x = x} {y = y} {b = b} d
      call r ret same) =
      then_walks f p (suc p) (at_call args x) b (sound d)
      (by_return f p g q to args x y b call (walks r) ret same)
  sound (beside {f = f} {p = p} {g = g} {q = q} {to = to} {args = args} {b = b} d call r ret same) =
      then_walks f p (suc p) b b (sound d) (by_staying f p g q to args b call (walks r) ret same)

  -- Here comes only from Here
  here_only : {f o p : ℕ} {e b : Fact} → Passes functions f o e p b → b ≡ Here → e ≡ Here
  here_only starts h = h
  here_only (along {a = a} {b = b} i d is to m) h =
      let n = subst (λ c. AmongOrigins a (origins i c)) h m in
      here_only d n
  here_only (through {to = to} {args = args} {x = x} {y = y} d call r ret e) h =
      let same : back to args Here ≡ FromReturn y = rw h at e in
      let x_here : x ≡ Here = here_only r cc in
      here_only d (rw x_here refl)
  here_only (past d call r ret e) h = here_only d h

  -- From walks to derived facts, for walks that begin with given facts at a function's entry.
  module _ (Begins : ℕ → Fact → Type 0) where
    -- the derivation of a fact through the call stack
    abbrev Traced : ℕ → ℕ → List Open → Fact → Type 0
    Traced f p [] b = (e : Fact) × Begins f e × Passes functions f 0 e p b
    Traced f p (c ∷ cs) b = (x : Fact) × CallsAt functions c.function c.place c.to f c.args
        × Traced c.function c.place cs (at_call c.args x) × Passes functions f 0 x p b

    extend : (calls : List Open) (f p q : ℕ) (a b : Fact) → Traced f p calls a
        → ((e : Fact) → Passes functions f 0 e p a → Passes functions f 0 e q b)
        → Traced f q calls b
    extend [] f p q a b t more_of = (t.0, t.1, more_of t.0 t.2)
    extend (c ∷ cs) f p q a b t more_of = (t.0, t.1, t.2, more_of t.0 t.3)

    -- each fact that a walk keeps, in the innermost call and in each open one, has such a
    -- derivation
    abbrev AllTraced : ℕ → ℕ → Kept → List Open → Type 0
    AllTraced f p k [] = (b : Fact) → holds k b ≡ true → Traced f p [] b
    AllTraced f p k (c ∷ cs) = ((b : Fact) → holds k b ≡ true → Traced f p (c ∷ cs) b)
        × AllTraced c.function c.place c.kept cs

    abbrev TracedSpot : WalkSpot → Type 0
    TracedSpot (at f p k calls) = AllTraced f p k calls

    top : (f p : ℕ) (k : Kept) (calls : List Open) → AllTraced f p k calls → (b : Fact)
        → holds k b ≡ true → Traced f p calls b
    top f p k [] t = t
    top f p k (c ∷ cs) t = t.0

    with_top : (f p q : ℕ) (k k' : Kept) (calls : List Open) → AllTraced f p k calls
        → ((b : Fact) → holds k' b ≡ true → Traced f q calls b) → AllTraced f q k' calls
    with_top f p q k k' [] t new = new
    with_top f p q k k' (c ∷ cs) t new = (new, t.1)

    step_traced : {a b : WalkSpot} → WalkStep functions a b → TracedSpot a → TracedSpot b
    step_traced (goes {f = f} {p = p} {q = q} {k = k} {calls = calls} i is to) t =
        with_top f p q k (facts_after i k) calls t (λ b h.
        let o = origin_of k (origins i b) (sym (holds-after i k b) ∙ h) in
        extend calls f p q o.0 b (top f p k calls t o.0 o.2) (λ e d. along i d is to o.1))
    step_traced (enters {f = f} {p = p} {args = args} {k = k} {calls = calls} call) t = (
      (λ x h. (
        x,
        call,
        top f p k calls t (at_call args x) (sym (holds-entered args k x) ∙ h),
        starts,
      )),
      t,
    )
    step_traced (returns {f = g} {p = q} {k = k} {call = c} {calls = cs} ret) t =
        with_top c.function c.place (suc c.place) c.kept (given_back c.to c.args c.kept k) cs t.1
        (λ b h. afterwards b (back c.to c.args b) refl
        (sym (holds-given_back c.to c.args c.kept k b) ∙ h))
      where
        afterwards : (b : Fact) (o : Back) → back c.to c.args b ≡ o → held c.kept k b o ≡ true
            → Traced c.function (suc c.place) cs b
        afterwards b (FromReturn y) same h =
            let r = t.0 y h in
            extend cs c.function c.place (suc c.place) (at_call c.args r.0) b r.2
            (λ e d. through d r.1 r.3 ret same)
        afterwards b Stays same h =
            let r = t.0 Here refl in
            extend cs c.function c.place (suc c.place) b b
            (top c.function c.place c.kept cs t.1 b h)
            (λ e d. past d r.1 (subst (λ x. Passes functions g 0 x q Here) (here_only r.3 refl)
            r.3) ret same)

    walk_traced : {a b : WalkSpot} → Walk functions a b → TracedSpot a → TracedSpot b
    walk_traced none t = t
    walk_traced (more w s) t = step_traced s (walk_traced w t)

  -- if e flows to o and gives b at p, then b flows to p
  pub flows_on : {f o p : ℕ} {e b : Fact} → Passes functions f o e p b → Flows functions f o e
      → Flows functions f p b
  flows_on starts n = n
  flows_on (along i d is to m) n = on i (flows_on d n) is to m
  flows_on (through d call r ret same) n = across (flows_on d n) call r ret same
  flows_on (past d call r ret same) n = beside (flows_on d n) call r ret same

  abbrev FromStart : ℕ → Fact → Type 0
  FromStart f e = IsTransaction functions f × (holds at_start e ≡ true)

  flows_from : (calls : List Open) (f p : ℕ) (b : Fact) → Traced FromStart f p calls b
      → Flows functions f p b
  flows_from [] f p b t = flows_on t.2 (first t.1.0 t.1.1)
  flows_from (c ∷ cs) f p b t = flows_on t.3
      (called (flows_from cs c.function c.place (at_call c.args t.0) t.2) t.1)

  pub complete : (f p : ℕ) (b : Fact) → SomeWalk functions f p b → Flows functions f p b
  complete f p b s =
      let begin : (b : Fact) → holds at_start b ≡ true → Traced FromStart s.2.0 0 [] b =
      λ e h. (e, (s.2.1, h), starts) in
      flows_from s.1 f p b (top FromStart f p s.0 s.1 (walk_traced FromStart s.2.2 begin) b s.3)

  -- the flows: a fact flows to a place exactly if some walk reaches the place with it
  pub exact : (f p : ℕ) (b : Fact) → SomeWalk functions f p b ↔ Flows functions f p b
  exact f p b = (complete f p b, sound)

  -- the summaries: each fact at the end of a matched walk through a function comes from one that
  -- held at its entry
  pub matched : (f p : ℕ) (k k' : Kept) → Walk functions (at f 0 k []) (at f p k' []) → (b : Fact)
      → holds k' b ≡ true → (e : Fact) × (holds k e ≡ true) × Passes functions f 0 e p b
  matched f p k k' w b h = walk_traced (λ g e. holds k e ≡ true) w (λ e j. (e, j, starts)) b h
