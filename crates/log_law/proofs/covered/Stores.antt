-- A store: the first one to the word comes from a clobber site, if the word was read; and no other
-- store changes what is known.
use Rattle.std.proofs.Common.{◌≡◌, ◌≢◌, ℕ, suc, ℤ, Bool, true, false, ◌&&◌, ◌==◌, if◌then◌else◌}
use Rattle.std.proofs.Common.{List, [], ◌∷◌, ◌++◌, None, Some, Result, Ok, Err, refl, ap, sym, ◌∙◌}
use Rattle.std.proofs.Common.{subst, inl, inr, ⊎_elim}
use mathlib.Core.Logic.{◌⊎◌}
use Rattle.std.proofs.lemmas.Bool.{and_parts, eqb-true, not_from_false, false_from_ne_true}
use Rattle.pool_map.specs.declared.trap.TrapKind.{TrapKind}
use Rattle.pool_map.specs.PoolMap.{PoolMap}
use Rattle.ir.specs.declared.instruction.Target.{Target}
use Rattle.ir.specs.declared.instruction.Target.TheVariants.{Root, Field}
use Rattle.ir.specs.declared.instruction.Instruction.TheVariants.{Store}
use Rattle.ir.specs.declared.function.Ir.{Ir}
use Rattle.ir.specs.declared.site.Site.{Site}
use Rattle.ir.specs.Places.{instruction_at}
use Rattle.ir.specs.WellFormed.{IsWellFormed, IsTarget}
use Rattle.ir.specs.Walk as walk
use Rattle.ir.specs.Walk.{Kept, Open, Comes, facts_after, writes}
use Rattle.ir.specs.Clobber.{IsLogged, IsClobber, SomeWalk, unwritten, read_fact}
use Rattle.code_meaning.specs.Code.{CodeState, Here, Frame, Goes, Spot, register_at, store_spot}
use Rattle.code_meaning.specs.Code.{spot_of, base_in, index_in, with_ok}
use Rattle.code_meaning.specs.Deeds.{Deed, Writes, if_ok, site, deeds_on}
use Rattle.code_meaning.specs.Parameters.{KeepsParameters}
use Rattle.log_law.proofs.covered.Spots.{Names, Lies, LiesRoot, Sure, SureRoot, Known, More, Stays}
use Rattle.log_law.proofs.covered.Spots.{sure_stays}
use Rattle.log_law.proofs.covered.Knowing.{root_read, field_read}
use Rattle.log_law.proofs.covered.Pools.{store_stays, store_leaves}
use Rattle.log_law.proofs.covered.Frames.{well_at, opens_stay}
use Rattle.log_law.proofs.covered.Targets.{width_root, width_field, root_target, field_target}
use Rattle.log_law.proofs.covered.Targets.{root_first, field_first}
use Rattle.log_law.proofs.covered.Moments.{Agrees, Covers, Later, next}

store_more : (x : Target) (k : Kept) → More k (writes x k)
store_more (Root y None) k = record { root = λ x h. h; field = λ s x h. h; freed = λ h. h }
store_more (Root y (Some i)) k = record { root = λ x h. h; field = λ s x h. h; freed = λ h. h }
store_more (Field b t y None) k = record { root = λ x h. h; field = λ s x h. h; freed = λ h. h }
store_more (Field b t y (Some i)) k = record { root = λ x h. h; field = λ s x h. h; freed = λ h. h }

now_root : (x y : ℕ) (t old : Bool) → (x == y) ≡ t → (if t then true else old) ≡ true
    → (x ≡ y) ⊎ (old ≡ true)
now_root x y true old e h = inl (eqb-true x y e)
now_root x y false old e h = inr h

now_field : (r b s t x y : ℕ) (c old : Bool) → ((r == b) && ((s == t) && (x == y))) ≡ c
    → (if c then true else old) ≡ true → ((r ≡ b) × (s ≡ t) × (x ≡ y)) ⊎ (old ≡ true)
now_field r b s t x y true old e h =
    let p = and_parts (r == b) ((s == t) && (x == y)) e in
    let q = and_parts (s == t) (x == y) p.1 in
    inl (eqb-true r b p.0, eqb-true s t q.0, eqb-true x y q.1)
now_field r b s t x y false old e h = inr h

store_root : (ir : Ir) (u : Spot) (w : PoolMap) (regs : List ℤ) (r : ℕ) (x : Target) (k : Kept)
    (s : Spot) → IsTarget ir.shapes r x
    → spot_of ir.shapes w x (base_in regs x) (index_in regs x) ≡ Ok s → u ≢ s
    → SureRoot ir.shapes u k.root → SureRoot ir.shapes u (writes x k).root
store_root ir u w regs r (Root y None) k s fits is other sure = λ x h l.
    elim (now_root x y (x == y) (k.root x) refl h) [
      | inl e ↦ other (root_first ir.shapes w y None (base_in regs (Root y None)) s u
          (width_root ir.shapes r y None regs fits refl) is
          (subst (λ z. LiesRoot ir.shapes u z) e l))
      | inr old ↦ sure x old l
    ]
store_root ir u w regs r (Root y (Some i)) k s fits is other sure = sure
store_root ir u w regs r (Field b t y None) k s fits is other sure = sure
store_root ir u w regs r (Field b t y (Some i)) k s fits is other sure = sure

store_sure : (ir : Ir) (u : Spot) (w : PoolMap) (regs : List ℤ) (r : ℕ) (x : Target) (k : Kept)
    (s : Spot) → IsTarget ir.shapes r x
    → spot_of ir.shapes w x (base_in regs x) (index_in regs x) ≡ Ok s → u ≢ s
    → Sure ir.shapes u w regs k.written → Sure ir.shapes u w regs (writes x k).written
store_sure ir u w regs r (Root y None) k s fits is other sure = sure
store_sure ir u w regs r (Root y (Some i)) k s fits is other sure = sure
store_sure ir u w regs r (Field b t y (Some i)) k s fits is other sure = sure
store_sure ir u w regs r (Field b t y None) k s fits is other sure = λ q v x h n l.
    elim (now_field q b v t x y ((q == b) && ((v == t) && (x == y))) (k.written q v x) refl h) [
      | inl e ↦ other (field_first ir.shapes w w b t y None (register_at regs b) s u
          (width_field ir.shapes r b t y None regs fits refl) is
          (subst (λ z. Names u (register_at regs z)) e.0 n)
          (subst (λ z. Lies ir.shapes u w t z) e.2 (subst (λ z. Lies ir.shapes u w z x) e.1 l)))
      | inr old ↦ sure q v x old n l
    ]

module _ (ir : Ir) (well : IsWellFormed ir) (keeps : KeepsParameters ir.functions) (u : Spot)
    (a : Site) (d : CodeState → List Deed) (later : Later ir u a d)
    (f p : ℕ) (regs : List ℤ) (below : List Frame) (w : PoolMap) (t : ℕ) (k : Kept)
    (calls : List Open)
    (comes : Comes ir.functions (walk.at f p k calls)) (agrees : Agrees ir u f regs below w k calls)
  where
    comes_with : (x : Target) (r : ℕ) → IsTarget ir.shapes r x
        → spot_of ir.shapes w x (base_in regs x) (index_in regs x) ≡ Ok u → Known ir.shapes u w k
        → SomeWalk ir.functions f p (unwritten x) × SomeWalk ir.functions f p (read_fact x)
    comes_with (Root y i) r fits is known =
        let l : LiesRoot ir.shapes u y =
        root_target ir.shapes w y i (base_in regs (Root y i)) (index_in regs (Root y i)) u
        (width_root ir.shapes r y i regs fits) is in
        let un : k.root y ≡ false = false_from_ne_true (k.root y) (λ h. agrees.1 y h l) in (
          (k, calls, comes, not_from_false (k.root y) un),
          (k, calls, comes, root_read ir.shapes u w k y known l),
        )
    comes_with (Field b s y i) r fits is known =
        let l = field_target ir.shapes w b s y i (base_in regs (Field b s y i))
        (index_in regs (Field b s y i)) u (width_field ir.shapes r b s y i regs fits) is in
        let un : k.written b s y ≡ false =
        false_from_ne_true (k.written b s y) (λ h. agrees.0 b s y h l.0 l.1) in (
          (k, calls, comes, not_from_false (k.written b s y) un),
          (k, calls, comes, field_read ir.shapes u w k s y known l.1),
        )

    module _ (x : Target) (from line : ℕ)
        (is : instruction_at ir.functions f p ≡ Some (Store x from line)) where
      clobbers : spot_of ir.shapes w x (base_in regs x) (index_in regs x) ≡ Ok u
          → Known ir.shapes u w k → IsClobber ir.functions f p
      clobbers h known =
          let fits = well_at ir f p (Store x from line) well is in
          let c = comes_with x fits.0 fits.2.1 h known in
          (x, from, line, is, c.0, c.1)

      goes_past : (s : Spot) (v : ℤ)
          → spot_of ir.shapes w x (base_in regs x) (index_in regs x) ≡ Ok s
          → u ≢ s → Covers ir u a (d (Here f (suc p) regs below (store_spot w s v) t)) w k
      goes_past s v h other =
          let fits = well_at ir f p (Store x from line) well is in
          let stays : Stays ir.shapes u w (store_spot w s v) = store_stays ir.shapes u w s v in
          next ir well keeps u a d later f p regs below w t k calls comes agrees (Store x from line)
          (suc p) regs (store_spot w s v) t is refl
          (store_more x k) stays (store_leaves ir.shapes u w s v (writes x k).freed) (
            sure_stays ir.shapes u w (store_spot w s v) regs (writes x k).written stays
                (store_sure ir u w regs fits.0 x k s fits.2.1 h other agrees.0),
            store_root ir u w regs fits.0 x k s fits.2.1 h other agrees.1,
            opens_stay ir u w (store_spot w s v) f regs below calls stays agrees.2,
          )

      pub store_covers : (r : Result Spot TrapKind)
          → spot_of ir.shapes w x (base_in regs x) (index_in regs x) ≡ r
          → Covers ir u a (if_ok r (λ s. Writes (site f p false) s (register_at regs from) ∷ [])
          ++ deeds_on d (with_ok r (λ s.
          Goes (Here f (suc p) regs below (store_spot w s (register_at regs from)) t)))) w k
      store_covers (Err e) h = λ known first. absurd first
      store_covers (Ok s) h = λ known first.
          elim first [
            | inl now ↦ elim known [
              | inl had ↦ subst (λ b. IsLogged ir.functions b) now.1
                  (inl (clobbers (h ∙ ap Ok (sym now.0)) had))
              | inr input ↦ absurd (input.0 now.0)
            ]
            | inr rest ↦ goes_past s (register_at regs from) h rest.0
                (⊎_elim (λ had. inl had) (λ input. inr input.1) known) rest.1
          ]
