-- If the next step follows, its fact reaches its place.
use Rattle.std.proofs.Common.{◌≡◌, ℕ, suc, true, List, Option, Some, None, refl, ◌∙◌, ap, subst}
use Rattle.std.proofs.Common.{inl, inr, ⊎_elim}
use Rattle.std.specs.Prelude.{slice_get}
use Rattle.std.proofs.lemmas.Bool.{false≢true, and_parts, or_cases, eqb-true, eq-eqb}
use Rattle.ir.specs.declared.instruction.Target.TheVariants.{Root}
use Rattle.ir.specs.declared.instruction.Instruction.{Instruction}
use Rattle.ir.specs.declared.instruction.Instruction.TheVariants.{Load, Call}
use Rattle.ir.specs.declared.function.IrFunction.{IrFunction}
use Rattle.ir.specs.declared.function.Ir.{Ir}
use Rattle.ir.specs.declared.fact.Fact.{Fact}
use Rattle.ir.specs.declared.fact.Fact.TheVariants.{Here, Unwritten, RootUnwritten, ReadRoot}
use Rattle.ir.specs.declared.fact.Fact.TheVariants.{ReadField, Freed}
use Rattle.ir.specs.declared.fact.Back.{Back}
use Rattle.ir.specs.declared.fact.Back.TheVariants.{FromReturn, Stays}
use Rattle.ir.specs.Places.{instruction_at, Leads, CallsAt, ReturnsAt}
use Rattle.ir.specs.Table.{AmongOrigins, origins, argument_fact, at_call, back}
use Rattle.ir.specs.Derived.{Passes}
use Rattle.ir.specs.WellFormed.{IsWellFormed}
use Rattle.walk_check.specs.declared.certificate.Step.{Step}
use Rattle.walk_check.specs.declared.certificate.Piece.{Piece}
use Rattle.walk_check.specs.Facts.{fact_of}
use Rattle.walk_check.specs.Follow.{leads, array_read, bound_argument, binds, passes}
use Rattle.walk_check.specs.Keeps.{goes_along, past_call, goes_past, follows, first_fact, last_fact}
use Rattle.walk_check.proofs.Tests.{same-true, among-true, leads-true, next}
use Rattle.walk_check.proofs.Standing.{no_argument, array_never_loaded}
use Rattle.walk_check.proofs.Reach.{Reach, Enters, Inner, NeverRoot, here_too}

-- a piece that passes calls is sound: what its first fact brings to the entry passes to a return
-- with its last fact
abbrev pub PassSound : Ir → Piece → Type 0
PassSound ir piece =
    (e : Fact) × (q : ℕ) × Enters ir piece.function (first_fact piece) e
    × Passes ir.functions piece.function 0 e q (last_fact piece)
    × ReturnsAt ir.functions piece.function q

abbrev pub AllSound : Ir → List Piece → Type 0
AllSound ir passed = (n : ℕ) (piece : Piece) → slice_get passed n ≡ Some piece → PassSound ir piece

module _ (ir : Ir) (well : IsWellFormed ir) (f : ℕ) (At : ℕ → Fact → Type 0)
    (reach : Reach ir f At) where
  -- a bound fact comes from the call
  bound_there : (p : ℕ) (args : List ℕ) (a x : Fact) → At p a → binds args a x ≡ true
      → At p (at_call args x)
  bound_there p args a Here d h = reach.is_here p a d
  bound_there p args a (Unwritten j s x) d h = from (slice_get args j) h
    where
      from : (o : Option ℕ) → bound_argument o s x a ≡ true → At p (argument_fact o s x)
      from None h = absurd (false≢true h)
      from (Some r) h = subst (At p) (same-true a (Unwritten r s x) h) d
  bound_there p args a (RootUnwritten x) d h = subst (At p) (same-true a (RootUnwritten x) h) d
  bound_there p args a (ReadRoot x) d h = subst (At p) (same-true a (ReadRoot x) h) d
  bound_there p args a (ReadField s x) d h = subst (At p) (same-true a (ReadField s x) h) d
  bound_there p args a Freed d h = subst (At p) (same-true a Freed h) d

  inner_there : (p g to : ℕ) (args : List ℕ) (a e : Fact) → CallsAt ir.functions f p to g args
      → At p a → Inner ir g e → At p (at_call args e)
  inner_there p g to args a (Unwritten r s x) call d h =
      rw (no_argument ir f p g to args h.0 r well call h.1 h.2) (reach.is_here p a d)
  inner_there p g to args a Here call d h = absurd h
  inner_there p g to args a (RootUnwritten x) call d h = absurd h
  inner_there p g to args a (ReadRoot x) call d h = absurd h
  inner_there p g to args a (ReadField s x) call d h = absurd h
  inner_there p g to args a Freed call d h = absurd h

  never_there : (p : ℕ) (args : List ℕ) (a e : Fact) → At p a → NeverRoot ir e
      → At p (at_call args e)
  never_there p args a (RootUnwritten x) d h = reach.is_root p x a h d
  never_there p args a Here d h = absurd h
  never_there p args a (Unwritten r s x) d h = absurd h
  never_there p args a (ReadRoot x) d h = absurd h
  never_there p args a (ReadField s x) d h = absurd h
  never_there p args a Freed d h = absurd h

  pub bound : (p g to : ℕ) (args : List ℕ) (a x e : Fact) → CallsAt ir.functions f p to g args
      → At p a → binds args a x ≡ true → Enters ir g x e → At p (at_call args e)
  bound p g to args a x e call d h (inl is) = rw is (bound_there p args a x d h)
  bound p g to args a x e call d h (inr (inl is)) = rw is (reach.is_here p a d)
  bound p g to args a x e call d h (inr (inr (inl inner))) =
      inner_there p g to args a e call d inner
  bound p g to args a x e call d h (inr (inr (inr never))) = never_there p args a e d never

  -- along an instruction
  array_along : (p q : ℕ) (i : Instruction) (a b : Fact)
      → instruction_at ir.functions f p ≡ Some i → Leads i p q → array_read i a b ≡ true → At p a
      → At q b
  array_along p q (Load to (Root y (Some i))) Here (ReadRoot x) is leads h d =
      let x_is : x ≡ y = eqb-true x y h in
      let before : At p (RootUnwritten y) =
      reach.is_root p y Here (array_never_loaded ir f p y i to well is) d in
      let origin : AmongOrigins (RootUnwritten y)
      (origins (Load to (Root y (Some i))) (ReadRoot x)) =
      rw (x_is) (read_again y) in
      reach.goes_on p q (Load to (Root y (Some i))) (RootUnwritten y) (ReadRoot x) is leads origin
      before
    where
      read_again : (y : ℕ)
          → AmongOrigins (RootUnwritten y) (origins (Load to (Root y (Some i))) (ReadRoot y))
      read_again y = rw (eq-eqb y y refl) (inr refl)
  array_along p q _ a b is leads h d = absurd (false≢true h)

  pub goes_there : (o : Option Instruction) (a b : Step)
      → instruction_at ir.functions f a.place ≡ o → goes_along o a b ≡ true
      → At a.place (fact_of a.fact) → At b.place (fact_of b.fact)
  goes_there None a b is h d = absurd (false≢true h)
  goes_there (Some i) a b is h d =
      let parts = and_parts _ _ h in
      let to : Leads i a.place b.place = leads-true i a.place b.place parts.0 in
      ⊎_elim
      (λ m. reach.goes_on a.place b.place i (fact_of a.fact) (fact_of b.fact) is to
      (among-true (fact_of a.fact) (origins i (fact_of b.fact)) m) d)
      (λ m. array_along a.place b.place i (fact_of a.fact) (fact_of b.fact) is to m d)
      (or_cases _ _ parts.1)

  -- past a call
  passes_there : (p g to : ℕ) (args : List ℕ) (a b : Fact) (piece : Piece) (o : Back)
      → CallsAt ir.functions f p to g args → piece.function ≡ g → PassSound ir piece
      → back to args b ≡ o → passes args a (first_fact piece) (last_fact piece) b o ≡ true
      → At p a → At (suc p) b
  passes_there p g to args a b piece (FromReturn z) call named sound is h d =
      let parts = and_parts _ _ h in
      let last : z ≡ last_fact piece = same-true z (last_fact piece) parts.0 in
      let call' : CallsAt ir.functions f p to piece.function args = rw named call in
      reach.goes_through p piece.function sound.1 to args sound.0 (last_fact piece) b call'
      (bound p piece.function to args a (first_fact piece) sound.0 call' d parts.1 sound.2)
      sound.3 sound.4 (is ∙ ap FromReturn last)
  passes_there p g to args a b piece Stays call named sound is h d =
      let parts = and_parts _ _ h in
      let a_is : a ≡ b = same-true a b parts.0 in
      let call' : CallsAt ir.functions f p to piece.function args = rw named call in
      reach.goes_past p piece.function sound.1 to args b call' (subst (At p) a_is d)
      (here_too ir.functions sound.3) sound.4 is

  past_there : (i : Instruction) (piece : Piece) (a b : Step)
      → instruction_at ir.functions f a.place ≡ Some i → PassSound ir piece
      → past_call i piece a b ≡ true → At a.place (fact_of a.fact) → At b.place (fact_of b.fact)
  past_there (Call to g args) piece a b is sound h d =
      let parts = and_parts _ _ h in
      let rest = and_parts _ _ parts.1 in
      let named : piece.function ≡ g = eqb-true piece.function g parts.0 in
      let next_is : b.place ≡ suc a.place = next a.place b.place rest.0 in
      rw next_is (passes_there a.place g to args (fact_of a.fact) (fact_of b.fact) piece
      (back to args (fact_of b.fact)) is named sound refl rest.1 d)
  past_there _ piece a b is sound h d = absurd (false≢true h)

  goes_past_there : (passed : List Piece) (o : Option Instruction) (piece : Option Piece) (n : ℕ)
      (a b : Step) → AllSound ir passed → instruction_at ir.functions f a.place ≡ o
      → slice_get passed n ≡ piece → goes_past o piece a b ≡ true → At a.place (fact_of a.fact)
      → At b.place (fact_of b.fact)
  goes_past_there passed None piece n a b sound is there h d = absurd (false≢true h)
  goes_past_there passed (Some i) None n a b sound is there h d = absurd (false≢true h)
  goes_past_there passed (Some i) (Some piece) n a b sound is there h d =
      past_there i piece a b is (sound n piece there) h d

  pub follows_there : (passed : List Piece) (u : IrFunction) (a b : Step) (through : Option ℕ)
      → slice_get ir.functions f ≡ Some u → AllSound ir passed
      → follows passed u a b through ≡ true → At a.place (fact_of a.fact)
      → At b.place (fact_of b.fact)
  follows_there passed u a b None there sound h d =
      goes_there (slice_get u.code a.place) a b (rw there refl) h d
  follows_there passed u a b (Some n) there sound h d =
      goes_past_there passed (slice_get u.code a.place) (slice_get passed n) n a b sound
      (rw there refl) refl h d
