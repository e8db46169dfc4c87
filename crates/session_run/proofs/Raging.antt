-- The rounds of a storm, one after another.
use Rattle.std.proofs.Common.{◌≡◌, ℕ, suc, ◌-◌, ◌^◌, ◌<◌, min, List, [], ◌∷◌, Some}
use Rattle.std.proofs.Common.{length, Result, Ok, Err, OnErr, IfOk, Bool, Option, inl, inr, sym}
use Rattle.std.proofs.Common.{subst, arith}
use Rattle.pmem.specs.Device.{Device}
use Rattle.c_tree.specs.ItemTree.{FunctionTree}
use Rattle.c_types.specs.Shapes.{transactions_of}
use Rattle.cnvm_script.specs.declared.command.Command.{Command}
use Rattle.cnvm_script.specs.Storm.{storm_round, storm_after}
use Rattle.cnvm_session.specs.declared.mode.Mode.{Mode}
use Rattle.cnvm_session.specs.declared.program.Program.{Program}
use Rattle.session_run.specs.declared.storm.StormOrder.{StormOrder}
use Rattle.session_run.specs.declared.storm.Tally.{Tally}
use Rattle.session_run.specs.declared.writing.Unwritten.{Unwritten}
use Rattle.session_run.specs.declared.writing.Unwritten.TheVariants.{WriteFault}
use Rattle.session_run.specs.Stormed.{no_tally, any_broken}
use Rattle.session_run.specs.Storms.{CountsAnswers, Rounds, RoundsPart, RoundsOf, Rages, RagesPart}
use Rattle.session_run.specs.Storms.{TallyAll, TallyPart, StormsAll, StormsPart, StormStarves}
use Rattle.session_run.proofs.Running.{keeps_same}

-- one round, followed by the rest
pub rounds_more : (p : Program) (reach x y n less : ℕ) (cs : List Command) (t t1 t' : Tally)
    (m m1 m' : Mode) (d d1 d' : Device) (k k1 k' : ℕ)
    → n ≡ suc less → Some cs ≡ storm_round reach x (transactions_of p.typed)
    → Some y ≡ storm_after x (transactions_of p.typed)
    → CountsAnswers p cs t m d k t1 m1 d1 k1 → Rounds p reach y less t1 m1 d1 k1 t' m' d' k'
    → Rounds p reach x n t m d k t' m' d' k'
rounds_more p reach x y n less cs t t1 t' m m1 m' d d1 d' k k1 k' is commands next one rest =
    subst (λ (i : ℕ). Rounds p reach x i t m d k t' m' d' k') (sym is) (
      cs,
      y,
      commands,
      next,
      t1,
      m1,
      d1,
      k1,
      one,
      rest,
    )

-- one round, followed by fewer than the rest
pub rounds_part_more : (p : Program) (reach x y n less : ℕ) (cs : List Command) (t t1 : Tally)
    (m m1 : Mode) (d d1 d' : Device) (k k1 k' : ℕ)
    → n ≡ suc less → Some cs ≡ storm_round reach x (transactions_of p.typed)
    → Some y ≡ storm_after x (transactions_of p.typed)
    → CountsAnswers p cs t m d k t1 m1 d1 k1 → RoundsPart p reach y less t1 m1 d1 k1 d' k'
    → RoundsPart p reach x n t m d k d' k'
rounds_part_more p reach x y n less cs t t1 m m1 d d1 d' k k1 k' is commands next one rest =
    subst (λ (i : ℕ). RoundsPart p reach x i t m d k d' k') (sym is) (
      suc rest.0,
      omega (arith, rest.1),
      rest.2,
      rest.3,
      (cs, y, commands, next, t1, m1, d1, k1, one, rest.4),
    )

pub some_rounds : (fs : List FunctionTree) (p : Program) (reach x n : ℕ) (t t' : Tally)
    (m m' : Mode) (d d' : Device) (k k' : ℕ)
    → 0 < length fs → Rounds p reach x n t m d k t' m' d' k'
    → RoundsOf fs p reach x n t m d k t' m' d' k'
some_rounds [] p reach x n t t' m m' d d' k k' some rounds =
    let no : ⊥ = omega (arith, some) in absurd no
some_rounds (f ∷ fs) p reach x n t t' m m' d d' k k' some rounds = rounds

pub some_rages : (p : Program) (order : StormOrder) (t : Tally) (m : Mode) (d d' : Device)
    (k k' : ℕ) → 0 < length (transactions_of p.typed)
    → RoundsPart p order.reach (min order.start (2 ^ 32 - 1)) order.count t m d k d' k'
    → RagesPart p order t m d k d' k'
some_rages p order t m d d' k k' some part = (
  part.0,
  part.1,
  part.2,
  part.3,
  some_rounds (transactions_of p.typed) p order.reach (min order.start (2 ^ 32 - 1)) part.0 t
      part.2 m part.3 d d' k k'
      some part.4,
)

-- a storm whose rounds end early, by its answer
pub rages_part : {A E : Type 0} (r : Result A E) (p : Program) (order : StormOrder) (x : ℕ)
    (t : Tally) (m : Mode) (d d' : Device) (k k' : ℕ) → x ≡ min order.start (2 ^ 32 - 1)
    → 0 < length (transactions_of p.typed)
    → OnErr r (RoundsPart p order.reach x order.count t m d k d' k')
    → OnErr r (RagesPart p order t m d k d' k')
rages_part (Ok v) p order x t m d d' k k' same some part = tt
rages_part (Err e) p order x t m d d' k k' same some part =
    some_rages p order t m d d' k k' some
    (subst (λ (y : ℕ). RoundsPart p order.reach y order.count t m d k d' k') same part)

-- there was no memory for all rounds
pub starved : (p : Program) (order : StormOrder) (t : Tally) (m : Mode) (d d' : Device)
    (w : Option (List ℕ)) (k k' : ℕ) → t ≡ no_tally → RagesPart p order t m d k d' k'
    → StormStarves p order m d w k d' w k'
starved p order t m d d' w k k' none part =
    inl (keeps_same w, subst (λ (s : Tally). RagesPart p order s m d k d' k') none part)

-- all rounds are run, and then the summary is written, or a part of it
module _ (p : Program) (order : StormOrder) (s t : Tally) (m m1 : Mode) (d d1 d' : Device)
    (w w' : Option (List ℕ)) (k k1 k' : ℕ) (none : s ≡ no_tally)
    (rages : Rages p order s m d k t m1 d1 k1) where
  from_none : Rages p order no_tally m d k t m1 d1 k1
  from_none = subst (λ (u : Tally). Rages p order u m d k t m1 d1 k1) none rages

  pub storms_all : (r : Result Bool Unwritten)
      → IfOk r (λ unmet. TallyAll p order.plain t m1 d1 w k1 d' w' k' × (unmet ≡ any_broken t))
      → IfOk r (λ unmet. StormsAll p order unmet m d w k d' w' k')
  storms_all (Ok unmet) all = (t, m1, d1, k1, from_none, all.0, all.1)
  storms_all (Err why) all = tt

  pub storms_part : (r : Result Bool Unwritten)
      → OnErr r (TallyPart p order.plain t m1 d1 w k1 d' w' k')
      → OnErr r (StormStarves p order m d w k d' w' k')
  storms_part (Ok unmet) part = tt
  storms_part (Err why) part = inr (t, m1, d1, k1, from_none, part)

  pub storms_fault : (r : Result Bool Unwritten) → r ≡ Err WriteFault
      → OnErr r (TallyPart p order.plain t m1 d1 w k1 d' w' k')
      → StormsPart p order m d w k d' w' k'
  storms_fault r is part =
      let fault = subst (λ (x : Result Bool Unwritten).
      OnErr x (TallyPart p order.plain t m1 d1 w k1 d' w' k')) is part in
      (t, m1, d1, k1, from_none, fault)
