-- A load: its class counts as read, unless the word was stored before.
use Rattle.std.proofs.Common.{◌≡◌, ℕ, suc, ℤ, Bool, true, false, not, ◌||◌, ◌&&◌, ◌==◌}
use Rattle.std.proofs.Common.{if◌then◌else◌, List, [], ◌∷◌, ◌++◌, Some, Result, Ok, Err, refl, ap}
use Rattle.std.proofs.Common.{sym, ◌∙◌, inl, inr}
use Rattle.std.proofs.lemmas.Bool.{false≢true, cond-true, and_from, or_left, or_right}
use Rattle.std.proofs.lemmas.Bool.{not_from_false, false_from_ne_true, eq-eqb}
use Rattle.pool_map.specs.declared.trap.TrapKind.{TrapKind}
use Rattle.pool_map.specs.PoolMap.{PoolMap}
use Rattle.ir.specs.declared.instruction.Target.{Target}
use Rattle.ir.specs.declared.instruction.Target.TheVariants.{Root, Field}
use Rattle.ir.specs.declared.instruction.Instruction.TheVariants.{Load}
use Rattle.ir.specs.declared.function.Ir.{Ir}
use Rattle.ir.specs.declared.site.Site.{Site}
use Rattle.ir.specs.Places.{instruction_at}
use Rattle.ir.specs.WellFormed.{IsWellFormed, IsTarget}
use Rattle.ir.specs.Walk as walk
use Rattle.ir.specs.Walk.{Kept, Open, Comes, facts_after, reads}
use Rattle.ir.specs.Walk.WalkStep.{goes}
use Rattle.code_meaning.specs.Code.{CodeState, Here, Frame, Goes, Spot, put_register, load_spot}
use Rattle.code_meaning.specs.Code.{spot_of, base_in, index_in, with_ok}
use Rattle.code_meaning.specs.Deeds.{Deed, Reads, if_ok, deeds_on}
use Rattle.code_meaning.specs.Parameters.{KeepsParameters}
use Rattle.log_law.proofs.covered.Spots.{LiesRoot, Sure, SureRoot, Known, More}
use Rattle.log_law.proofs.covered.Knowing.{known_on, known_root, known_field}
use Rattle.log_law.proofs.covered.Pools.{same_leaves}
use Rattle.log_law.proofs.covered.Frames.{well_at, sure_put, opens_put}
use Rattle.log_law.proofs.covered.Targets.{width_root, width_field, root_target, field_target}
use Rattle.log_law.proofs.covered.Moments.{Agrees, Covers, Later, comes_on}

read_more : (t old new : Bool) → old ≡ true → (if t then old || new else old) ≡ true
read_more true old new h = or_left old new h
read_more false old new h = h

read_now : (t had written : Bool) → t ≡ true → (written ≡ true → ⊥)
    → (if t then had || not written else had) ≡ true
read_now t had written e un = cond-true t (had || not written) had e
    ∙ or_right had (not written) (not_from_false written (false_from_ne_true written un))

load_more : (x : Target) (to : ℕ) (k : Kept) → More k (facts_after (Load to x) k)
load_more (Root y i) to k = record {
  root = λ x h.
      read_more (x == y) (k.root_read x) (not (k.root x)) h;
  field = λ s x h. h;
  freed = λ h. h;
}
load_more (Field b t y i) to k =
    record {
      root = λ x h. h;
      field = λ s x h. read_more ((s == t) && (x == y)) (k.field_read s x)
          (not (k.written b s x)) h;
      freed = λ h. h;
    }

reads_sure : (ir : Ir) (u : Spot) (w : PoolMap) (regs : List ℤ) (x : Target) (k : Kept)
    → Sure ir.shapes u w regs k.written → Sure ir.shapes u w regs (reads x k).written
reads_sure ir u w regs (Root y i) k sure = sure
reads_sure ir u w regs (Field b t y i) k sure = sure

load_root : (ir : Ir) (u : Spot) (x : Target) (to : ℕ) (k : Kept) → SureRoot ir.shapes u k.root
    → SureRoot ir.shapes u (facts_after (Load to x) k).root
load_root ir u (Root y i) to k sure = sure
load_root ir u (Field b t y i) to k sure = sure

newly_read : (ir : Ir) (u : Spot) (w : PoolMap) (regs : List ℤ) (r : ℕ) (x : Target) (to : ℕ)
    (k : Kept) → IsTarget ir.shapes r x
    → Sure ir.shapes u w regs k.written → SureRoot ir.shapes u k.root
    → spot_of ir.shapes w x (base_in regs x) (index_in regs x) ≡ Ok u
    → Known ir.shapes u w (facts_after (Load to x) k)
newly_read ir u w regs r (Root y i) to k fits sure root is =
    let l : LiesRoot ir.shapes u y =
    root_target ir.shapes w y i (base_in regs (Root y i)) (index_in regs (Root y i)) u
    (width_root ir.shapes r y i regs fits) is in
    known_root ir.shapes u w (facts_after (Load to (Root y i)) k) y l
    (read_now (y == y) (k.root_read y) (k.root y) (eq-eqb y y refl) (λ h. root y h l))
newly_read ir u w regs r (Field b s y i) to k fits sure root is =
    let l = field_target ir.shapes w b s y i (base_in regs (Field b s y i))
    (index_in regs (Field b s y i)) u (width_field ir.shapes r b s y i regs fits) is in
    known_field ir.shapes u w (facts_after (Load to (Field b s y i)) k) s y l.1
    (read_now ((s == s) && (y == y)) (k.field_read s y) (k.written b s y)
    (and_from (s == s) (y == y) (eq-eqb s s refl) (eq-eqb y y refl)) (λ h. sure b s y h l.0 l.1))

module _ (ir : Ir) (well : IsWellFormed ir) (keeps : KeepsParameters ir.functions) (u : Spot)
    (a : Site) (d : CodeState → List Deed) (later : Later ir u a d)
    (f p : ℕ) (regs : List ℤ) (below : List Frame) (w : PoolMap) (t : ℕ) (k : Kept)
    (calls : List Open)
    (comes : Comes ir.functions (walk.at f p k calls)) (agrees : Agrees ir u f regs below w k calls)
    (to : ℕ) (x : Target) (is : instruction_at ir.functions f p ≡ Some (Load to x)) where
  loaded : (v : ℤ) → Covers ir u a (d (Here f (suc p) (put_register regs to v) below w t)) w
      (facts_after (Load to x) k)
  loaded v =
      later f (suc p) (put_register regs to v) below w t (facts_after (Load to x) k) calls
      (comes_on ir.functions (walk.at f p k calls)
      (walk.at f (suc p) (facts_after (Load to x) k) calls) comes (goes (Load to x) is refl)) (
        sure_put ir.shapes u w regs to v (λ s y. false) (reads x k) (λ s y h n l. false≢true h)
            (reads_sure ir u w regs x k agrees.0),
        load_root ir u x to k agrees.1,
        opens_put ir well keeps u w f p (Load to x) to regs v below calls is refl agrees.2,
      )

  pub load_covers : (r : Result Spot TrapKind)
      → spot_of ir.shapes w x (base_in regs x) (index_in regs x) ≡ r
      → Covers ir u a (if_ok r (λ s. Reads s ∷ [])
      ++ deeds_on d (with_ok r (λ s.
      Goes (Here f (suc p) (put_register regs to (load_spot w s)) below w t)))) w k
  load_covers (Err e) h = λ known first. absurd first
  load_covers (Ok s) h = λ known first.
      let fits = well_at ir f p (Load to x) well is in
      elim known [
        | inl had ↦ loaded (load_spot w s)
            (inl (known_on ir.shapes u w w k (facts_after (Load to x) k) (load_more x to k)
            (λ r g. g)
            (same_leaves ir.shapes u w (facts_after (Load to x) k).freed) had)) first
        | inr input ↦ elim input [
          | inl e ↦ loaded (load_spot w s)
              (inl (newly_read ir u w regs fits.0 x to k fits.2.1 agrees.0 agrees.1
              (h ∙ ap Ok (sym e)))) first
          | inr rest ↦ loaded (load_spot w s) (inr rest) first
        ]
      ]
