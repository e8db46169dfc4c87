-- What a search adds before an entry is linked as it says.
use Rattle.std.proofs.Common.{◌≡◌, ◌+◌, ◌++◌, ◌&&◌, ℕ, suc, Bool, true, false, List, []}
use Rattle.std.proofs.Common.{◌∷◌, Option, Some, None, length, refl, ◌∙◌, ap, subst, arith}
use Rattle.std.specs.Prelude.{◌==◌, slice_get, option_and_then, if◌then◌else◌}
use Rattle.std.proofs.lemmas.Bool.{and_parts, eqb-true}
use Rattle.std.proofs.lemmas.Option.{slice_get_within}
use Rattle.ir.specs.declared.instruction.Instruction.{Instruction}
use Rattle.ir.specs.declared.instruction.Instruction.TheVariants.{Call, Return}
use Rattle.ir.specs.declared.function.IrFunction.{IrFunction}
use Rattle.ir.specs.declared.function.Ir.{Ir}
use Rattle.ir.specs.declared.fact.Fact.{Fact as WalkFact}
use Rattle.ir.specs.declared.fact.Origins.{Origins}
use Rattle.ir.specs.declared.fact.Origins.TheVariants.{Nowhere, One, Two}
use Rattle.ir.specs.Places.{instruction_at}
use Rattle.ir.specs.Table.{origins, at_call}
use Rattle.walk_check.specs.declared.certificate.Piece.{Piece}
use Rattle.walk_check.specs.Facts.{same}
use Rattle.walk_check.specs.Follow.{leads, binds}
use Rattle.walk_check.specs.Keeps.{fact_is_there, first_fact, last_fact, follows}
use Rattle.walk_maker.specs.declared.table.Aim.TheVariants.{ToSite}
use Rattle.walk_maker.specs.declared.table.Entry.{Entry}
use Rattle.walk_maker.specs.declared.expand.Later.{Later}
use Rattle.walk_maker.specs.declared.expand.Passed.{Passed}
use Rattle.walk_maker.specs.inside.Table.{has, added, step_of}
use Rattle.walk_maker.specs.inside.Calls.{back_in, exit_of, before_call}
use Rattle.walk_maker.specs.inside.Reading.{entry_fact}
use Rattle.walk_maker.specs.inside.Expand as expand
use Rattle.walk_maker.proofs.Grown.{Holds, Adds, adds_on, adds_get}
use Rattle.walk_maker.proofs.Grown.Adds.{no_more, one}

-- the rest of a code from place p on
abbrev pub Rest : {X : Type 0} → List X → (p : ℕ) → List X → Type 0
Rest {X = X} code p is = (k : ℕ) (i : X) → slice_get is k ≡ Some i → slice_get code (p + k) ≡ Some i

pub rest_whole : {X : Type 0} (code : List X) → Rest code 0 code
rest_whole code k i is = let same : 0 + k ≡ k = omega arith in rw same is

pub rest_first : {X : Type 0} (code : List X) (p : ℕ) (i : X) (is : List X) → Rest code p (i ∷ is)
    → slice_get code p ≡ Some i
rest_first {X = X} code p i is all =
    let same : p + 0 ≡ p = omega arith in
    let h : slice_get code (p + 0) ≡ Some i = all 0 i refl in
    subst (λ q. slice_get code q ≡ Some i) same h

pub rest_more : {X : Type 0} (code : List X) (p : ℕ) (i : X) (is : List X) → Rest code p (i ∷ is)
    → Rest code (p + 1) is
rest_more {X = X} code p i is all k j h =
    let same : p + suc k ≡ (p + 1) + k = omega arith in
    let g : slice_get code (p + suc k) ≡ Some j = all (suc k) j h in
    subst (λ q. slice_get code q ≡ Some j) same g

pub at_place : (ir : Ir) (f p : ℕ) (u : IrFunction) (i : Instruction)
    → slice_get ir.functions f ≡ Some u → slice_get u.code p ≡ Some i
    → instruction_at ir.functions f p ≡ Some i
at_place ir f p u i there is =
    ap (λ (o : Option IrFunction). option_and_then (λ (v : IrFunction). slice_get v.code p) o) there
    ∙ is

module _ (ir : Ir) (goal : Entry) (ps : List Piece) where
  pub adds_added : (e : Entry) (t : List Entry) → Holds ir goal ps t (length t) e
      → Adds ir goal ps t (added e t)
  adds_added e t h = by_test (has t e)
    where
      by_test : (b : Bool) → Adds ir goal ps t (if b then t else t ++ e ∷ [])
      by_test true = no_more
      by_test false = one e no_more h

  module _ (later : Later) where
    -- the later entry is in the table
    abbrev pub Known : List Entry → Type 0
    Known t = slice_get t later.number ≡ Some later.entry

    known_on : {s t : List Entry} → Adds ir goal ps s t → Known s → Known t
    known_on a is = adds_get ir goal later.number later.entry a is

    module _ (u : IrFunction) (there : slice_get ir.functions later.entry.function ≡ Some u) where
      pub adds_tried : (p : ℕ) (a : WalkFact) (through : Option ℕ) (t : List Entry) → Known t
          → Adds ir goal ps t
          (expand.step_tried ir ps u later.entry (expand.next_to later p a through) t)
      adds_tried p a through t known =
          by_test (fact_is_there ir.shapes u a && follows ps u
          (step_of (expand.next_to later p a through)) (step_of later.entry) through) refl
        where
          by_test : (b : Bool) → (fact_is_there ir.shapes u a && follows ps u
              (step_of (expand.next_to later p a through)) (step_of later.entry) through) ≡ b
              → Adds ir goal ps t
              (if b then added (expand.next_to later p a through) t else t)
          by_test false is = no_more
          by_test true is =
              let parts = and_parts _ _ is in
              adds_added (expand.next_to later p a through) t (record {
                body = u;
                there = there;
                fits = parts.0;
                link =
                    record {
                      later = later.entry;
                      less = slice_get_within t later.number later.entry known;
                      there = known;
                      aim = refl;
                      function = refl;
                      follow = parts.1;
                    };
              })

      pub adds_origins : (p : ℕ) (o : Origins) (t : List Entry) → Known t
          → Adds ir goal ps t (expand.tried_origins ir ps u later p o t)
      adds_origins p Nowhere t known = no_more
      adds_origins p (One a) t known = adds_tried p a None t known
      adds_origins p (Two a b) t known =
          let first = adds_tried p a None t known in
          adds_on ir goal first (adds_tried p b None
          (expand.step_tried ir ps u later.entry (expand.next_to later p a None) t)
          (known_on first known))

      pub adds_through : (call : Passed) (args : List ℕ) (n : ℕ) (piece : Piece)
          (t : List Entry) → Known t
          → Adds ir goal ps t (expand.through_tried ir ps u later call args n piece t)
      adds_through call args n piece t known =
          by_test ((piece.function == call.function)
          && same (last_fact piece) (exit_of call.origin))
        where
          by_test : (b : Bool) → Adds ir goal ps t (if b
              then expand.step_tried ir ps u later.entry (expand.next_to later call.place
              (before_call call.origin args (first_fact piece) later.entry.fact) (Some n)) t else t)
          by_test true =
              adds_tried call.place (before_call call.origin args (first_fact piece)
              later.entry.fact) (Some n) t known
          by_test false = no_more

      pub adds_throughs : (call : Passed) (args : List ℕ) (n : ℕ) (rest : List Piece)
          (t : List Entry) → Known t
          → Adds ir goal ps t (expand.throughs_tried ir ps u later call args n rest t)
      adds_throughs call args n [] t known = no_more
      adds_throughs call args n (piece ∷ rest) t known =
          let first = adds_through call args n piece t known in
          adds_on ir goal first (adds_throughs call args (n + 1) rest
          (expand.through_tried ir ps u later call args n piece t) (known_on first known))

      adds_return : (g : ℕ) (v : IrFunction) (y : WalkFact) (q : ℕ) (i : Instruction)
          (t : List Entry) → slice_get ir.functions g ≡ Some v
          → fact_is_there ir.shapes v y ≡ true → slice_get v.code q ≡ Some i
          → Adds ir goal ps t (expand.return_added g y q i t)
      adds_return g v y q (Return from) t callee fits is =
          adds_added (expand.return_at g q y) t (record {
            body = v;
            there = callee;
            fits = fits;
            link = ((from, at_place ir g q v (Return from) callee is), refl);
          })
      adds_return g v y q _ t callee fits is = no_more

      pub adds_returns : (g : ℕ) (v : IrFunction) (y : WalkFact) (q : ℕ)
          (is : List Instruction) (t : List Entry) → slice_get ir.functions g ≡ Some v
          → fact_is_there ir.shapes v y ≡ true → Rest v.code q is
          → Adds ir goal ps t (expand.returns_added g y q is t)
      adds_returns g v y q [] t callee fits all = no_more
      adds_returns g v y q (i ∷ is) t callee fits all =
          adds_on ir goal
          (adds_return g v y q i t callee fits (rest_first v.code q i is all))
          (adds_returns g v y (q + 1) is (expand.return_added g y q i t) callee fits
          (rest_more v.code q i is all))

      pub adds_exits : (g : ℕ) (v : IrFunction) (y : WalkFact) (t : List Entry)
          → slice_get ir.functions g ≡ Some v
          → Adds ir goal ps t (expand.exits_added ir v g y t)
      adds_exits g v y t callee = by_test (fact_is_there ir.shapes v y) refl
        where
          by_test : (b : Bool) → fact_is_there ir.shapes v y ≡ b → Adds ir goal ps t
              (if b then expand.returns_added g y 0 v.code t else t)
          by_test true is = adds_returns g v y 0 v.code t callee is (rest_whole v.code)
          by_test false is = no_more

      pub adds_call : (p to g : ℕ) (args : List ℕ) (v : Option IrFunction) (t : List Entry)
          → slice_get ir.functions g ≡ v → Known t
          → Adds ir goal ps t (expand.call_tried ir ps u later p to g args v t)
      adds_call p to g args None t callee known = no_more
      adds_call p to g args (Some v) t callee known =
          let y = exit_of (back_in v.parameters to args later.entry.fact) in
          let first = adds_exits g v y t callee in
          adds_on ir goal first (adds_throughs
          (expand.passed_call v p to g args later.entry.fact) args 0 ps
          (expand.exits_added ir v g y t) (known_on first known))

      pub adds_past : (p : ℕ) (i : Instruction) (t : List Entry) → Known t
          → Adds ir goal ps t (expand.past_tried ir ps u later p i t)
      adds_past p (Call to g args) t known =
          adds_call p to g args (slice_get ir.functions g) t refl known
      adds_past p _ t known = no_more

      pub adds_next : (p : ℕ) (i : Instruction) (t : List Entry) → Known t
          → Adds ir goal ps t (expand.next_tried ir ps u later p i t)
      adds_next p i t known = by_test (later.entry.place == p + 1)
        where
          by_test : (b : Bool) → Adds ir goal ps t
              (if b then expand.past_tried ir ps u later p i t else t)
          by_test true = adds_past p i t known
          by_test false = no_more

      pub adds_along : (p : ℕ) (i : Instruction) (t : List Entry) → Known t
          → Adds ir goal ps t (expand.along_tried ir ps u later p i t)
      adds_along p i t known = by_test (leads i p later.entry.place)
        where
          by_test : (b : Bool) → Adds ir goal ps t (if b
              then expand.tried_origins ir ps u later p (origins i later.entry.fact) t else t)
          by_test true = adds_origins p (origins i later.entry.fact) t known
          by_test false = no_more

      pub adds_before : (p : ℕ) (i : Instruction) (t : List Entry) → Known t
          → Adds ir goal ps t (expand.before_tried ir ps u later p i t)
      adds_before p i t known =
          let first = adds_next p i t known in
          adds_on ir goal first (adds_along p i (expand.next_tried ir ps u later p i t)
          (known_on first known))

      pub adds_all_before : (p : ℕ) (is : List Instruction) (t : List Entry) → Known t
          → Adds ir goal ps t (expand.all_before_tried ir ps u later p is t)
      adds_all_before p [] t known = no_more
      adds_all_before p (i ∷ is) t known =
          let first = adds_before p i t known in
          adds_on ir goal first (adds_all_before (p + 1) is
          (expand.before_tried ir ps u later p i t) (known_on first known))

    -- the callers
    module _ (v : IrFunction) (callee : slice_get ir.functions later.entry.function ≡ Some v)
        (aim : later.entry.aim ≡ ToSite) (entry : later.entry.place ≡ 0) where
      abbrev Bound : WalkFact
      Bound = entry_fact false v later.entry.fact

      pub adds_caller : (f : ℕ) (u : IrFunction) (p : ℕ) (i : Instruction) (t : List Entry)
          → slice_get ir.functions f ≡ Some u → slice_get u.code p ≡ Some i → Known t
          → Adds ir goal ps t (expand.caller_tried ir u f later Bound p i t)
      adds_caller f u p (Call to g args) t there is known =
          by_test ((g == later.entry.function) && (fact_is_there ir.shapes u
          (at_call args later.entry.fact) && binds args (at_call args later.entry.fact) Bound))
          refl
        where
          by_test : (b : Bool) → ((g == later.entry.function) && (fact_is_there ir.shapes u
              (at_call args later.entry.fact) && binds args (at_call args later.entry.fact)
              Bound)) ≡ b → Adds ir goal ps t
              (if b then added (expand.caller_at f p later args) t else t)
          by_test false is = no_more
          by_test true holds =
              let parts = and_parts _ _ holds in
              let tests = and_parts _ _ parts.1 in
              let called : g ≡ later.entry.function = eqb-true g later.entry.function parts.0 in
              adds_added (expand.caller_at f p later args) t (record {
                body = u;
                there = there;
                fits = tests.0;
                link =
                    record {
                      later = later.entry;
                      callee = v;
                      less = slice_get_within t later.number later.entry known;
                      there = known;
                      aim = refl;
                      aim_later = aim;
                      entry = entry;
                      callee_is = callee;
                      to = to;
                      args = args;
                      call = subst (λ h. slice_get u.code p ≡ Some (Call to h args)) called is;
                      binding = tests.1;
                    };
              })
      adds_caller f u p _ t there is known = no_more

      pub adds_callers_in : (f : ℕ) (u : IrFunction) (p : ℕ) (is : List Instruction)
          (t : List Entry) → slice_get ir.functions f ≡ Some u → Rest u.code p is → Known t
          → Adds ir goal ps t (expand.callers_in_tried ir u f later Bound p is t)
      adds_callers_in f u p [] t there all known = no_more
      adds_callers_in f u p (i ∷ is) t there all known =
          let first = adds_caller f u p i t there (rest_first u.code p i is all) known in
          adds_on ir goal first (adds_callers_in f u (p + 1) is
          (expand.caller_tried ir u f later Bound p i t) there (rest_more u.code p i is all)
          (known_on first known))

      pub adds_callers : (f : ℕ) (us : List IrFunction) (t : List Entry)
          → Rest ir.functions f us → Known t
          → Adds ir goal ps t (expand.callers_tried ir later Bound f us t)
      adds_callers f [] t all known = no_more
      adds_callers f (u ∷ us) t all known =
          let first =
          adds_callers_in f u 0 u.code t (rest_first ir.functions f u us all)
          (rest_whole u.code) known in
          adds_on ir goal first (adds_callers (f + 1) us
          (expand.callers_in_tried ir u f later Bound 0 u.code t)
          (rest_more ir.functions f u us all) (known_on first known))
