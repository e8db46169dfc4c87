-- An instruction leaves a pool that fits, and values that are words.
use Rattle.std.proofs.Common.{◌≡◌, ℕ, zero, suc, ◌-◌, ◌<◌, Bool, true, false, List, [], ◌∷◌, length}
use Rattle.std.proofs.Common.{map, Option, None, Some, IfSome, IsSomeAnd, Result, Ok, Err}
use Rattle.std.proofs.Common.{option_map, ℤ, pos, refl, sym, ◌∙◌, subst, arith, ⊎_elim}
use Rattle.std.specs.Prelude.{slice_get, nat_lt, if◌then◌else◌}
use Rattle.std.specs.Option.{option_map_or}
use Rattle.std.proofs.lemmas.List.{length-set, length-replicate}
use Rattle.std.proofs.lemmas.Option.{slice_get_cases}
use Rattle.pool_map.specs.declared.object.Object.{Object}
use Rattle.pool_map.specs.declared.trap.TrapKind.{TrapKind}
use Rattle.pool_map.specs.declared.trap.TrapKind.TheVariants as trap
use Rattle.pool_map.specs.declared.shapes.StructShape.{StructShape}
use Rattle.pool_map.specs.declared.shapes.Shapes.{Shapes}
use Rattle.pool_map.specs.PoolFits.{PoolFits, ObjectFits, words_of, struct_at}
use Rattle.pool_map.specs.PoolMap.{PoolMap, object_at, with_object, blank_object, with_field}
use Rattle.pool_map.specs.PoolMap.{least_free, write, free}
use Rattle.ir.specs.declared.function.IrFunction.{IrFunction}
use Rattle.ir.specs.declared.instruction.Instruction.TheVariants as ir
use Rattle.ir.specs.WellFormed.{IsKind}
use Rattle.code_meaning.specs.Code.{Frame, frame, Here, Move, Goes, Ends, Trapped, Spot, InRoot}
use Rattle.code_meaning.specs.Code.{InSlot, register_at, put_register, load_spot, store_spot}
use Rattle.pool_map.specs.Checks.{has_word, then_on, new_at, is_zero}
use Rattle.pool_map.proofs.Fitting.{slot_put}
use Rattle.code_meaning.specs.Code.{spot_of, slot_of, base_in, index_in, with_ok}
use Rattle.code_meaning.specs.Code.{with_word, word_of, takes_tick, fields_of}
use Rattle.code_meaning.specs.Code.{gives, opens}
use Rattle.machine_law.specs.pieces.Pools.{FitsMove, FitsLaw}
use Rattle.machine_law.proofs.pieces.Changes.{object_fits}

module _ (shapes : Shapes) where
  fits_at : (w : PoolMap) (q : ℕ) (o : Option Object) → PoolFits shapes w
      → IfSome o (ObjectFits shapes.structs) → PoolFits shapes (with_object w q o)
  fits_at w q o fits one = (
    fits.0,
    slot_put (ObjectFits shapes.structs) w.slots (q - 1) o
        fits.1 one,
  )

  field_fits : (o : Option Object) (i : ℕ) (v : ℤ) → IfSome o (ObjectFits shapes.structs)
      → IfSome (option_map (with_field i v) o) (ObjectFits shapes.structs)
  field_fits None i v fits = tt
  field_fits (Some object) i v fits =
      subst (λ (n : ℕ). IsSomeAnd (struct_at shapes.structs object.kind)
      (λ shape. n ≡ words_of shape.fields)) (sym (length-set object.fields i v)) fits

  write_fits : (w : PoolMap) (q i : ℕ) (v : ℤ) (b : Bool) → PoolFits shapes w
      → PoolFits shapes (if b then write w q i v else w)
  write_fits w q i v true fits =
      fits_at w q (option_map (with_field i v) (object_at w q)) fits
      (field_fits (object_at w q) i v (object_fits shapes w q fits))
  write_fits w q i v false fits = fits

  store_fits : (w : PoolMap) (x : Spot) (v : ℤ) → PoolFits shapes w
      → PoolFits shapes (store_spot w x v)
  store_fits w (InRoot i) v fits = (length-set w.root i v ∙ fits.0, fits.1)
  store_fits w (InSlot q i) v fits = write_fits w q i v (has_word (object_at w q) i) fits

  struct_there : (k : ℕ) (o : Option StructShape) → slice_get shapes.structs k ≡ o
      → k < length shapes.structs → IsSomeAnd o
      (λ shape. words_of (option_map_or (λ (u : StructShape). u.fields) o [])
      ≡ words_of shape.fields)
  struct_there k None e less = ⊎_elim (λ g. absurd (cc)) (λ g. absurd (omega (arith, g.0)))
      (slice_get_cases shapes.structs k).1
  struct_there k (Some u) e less = refl

  blank_fits : (kind : ℕ) → IsKind shapes kind
      → ObjectFits shapes.structs (blank_object kind (words_of (fields_of shapes kind)))
  blank_fits zero is = absurd (omega (arith, is.0))
  blank_fits (suc k) is = subst (λ (n : ℕ).
      IsSomeAnd (slice_get shapes.structs k) (λ shape. n ≡ words_of shape.fields))
      (sym (length-replicate (words_of (fields_of shapes (suc k))) (pos 0)))
      (struct_there k (slice_get shapes.structs k) refl (omega (arith, is.1)))

  new_fits : (w : PoolMap) (kind : ℕ) (o : Option ℕ) → IsKind shapes kind → PoolFits shapes w
      → PoolFits shapes (new_at w kind (words_of (fields_of shapes kind)) o).1
  new_fits w kind None is fits = fits
  new_fits w kind (Some q) is fits =
      fits_at w q (Some (blank_object kind (words_of (fields_of shapes kind)))) fits
      (blank_fits kind is)

  ok_fits : {A : Type 0} (r : Result A TrapKind) (go : A → Move)
      → ((a : A) → FitsMove shapes (go a)) → FitsMove shapes (with_ok r go)
  ok_fits (Ok a) go each = each a
  ok_fits (Err k) go each = tt

  word_fits : (o : Option ℤ) (go : ℤ → Move) → ((v : ℤ) → FitsMove shapes (go v))
      → FitsMove shapes (with_word o go)
  word_fits None go each = tt
  word_fits (Some v) go each = each v

  free_fits : (w : PoolMap) (r : Result ℕ TrapKind) (go : PoolMap → Move) → PoolFits shapes w
      → ((u : PoolMap) → PoolFits shapes u → FitsMove shapes (go u))
      → FitsMove shapes (with_ok (then_on r (λ q. Ok (free w q))) go)
  free_fits w (Ok q) go fits each = each (free w q) (fits_at w q None fits tt)
  free_fits w (Err k) go fits each = tt

  tick_fits : (t : ℕ) (go : ℕ → Move) → ((u : ℕ) → FitsMove shapes (go u))
      → FitsMove shapes (takes_tick t go)
  tick_fits zero go each = tt
  tick_fits (suc t) go each = each t

  gives_fits : (below : List Frame) (v : ℤ) (w : PoolMap) (t : ℕ) → PoolFits shapes w
      → FitsMove shapes (gives below v w t)
  gives_fits [] v w t fits = fits
  gives_fits (frame f p regs to ∷ below) v w t fits = fits

  opens_fits : (o : Option IrFunction) (g : ℕ) (args : List ℤ) (below : List Frame) (w : PoolMap)
      (t : ℕ) → PoolFits shapes w → FitsMove shapes (opens o g args below w t)
  opens_fits None g args below w t fits = tt
  opens_fits (Some u) g args below w t fits = by (nat_lt (length below) 256)
    where
      by : (b : Bool) → FitsMove shapes (if b then Goes (Here g 0 args below w t)
          else Ends (Trapped trap.Depth))
      by true = fits
      by false = tt

  branch_fits : (b : Bool) (c d : Move) → FitsMove shapes c → FitsMove shapes d
      → FitsMove shapes (if b then c else d)
  branch_fits true c d fits fits' = fits
  branch_fits false c d fits fits' = fits'

pub stays_fit : FitsLaw
stays_fit program r n f p t (ir.Const to v) regs below w is fits = fits
stays_fit program r n f p t (ir.Copy to from) regs below w is fits = fits
stays_fit program r n f p t (ir.Bin o to a b) regs below w is fits =
    word_fits program.shapes (word_of o (register_at regs a) (register_at regs b))
    (λ v. Goes (Here f (suc p) (put_register regs to v) below w t)) (λ v. fits)
stays_fit program r n f p t (ir.Jump q) regs below w is fits = fits
stays_fit program r n f p t (ir.Branch on q) regs below w is fits =
    branch_fits program.shapes (is_zero (register_at regs on)) (Goes (Here f q regs below w t))
    (Goes (Here f (suc p) regs below w t)) fits fits
stays_fit program r n f p t (ir.Load to x) regs below w is fits =
    ok_fits program.shapes (spot_of program.shapes w x (base_in regs x) (index_in regs x))
    (λ s. Goes (Here f (suc p) (put_register regs to (load_spot w s)) below w t)) (λ s. fits)
stays_fit program r n f p t (ir.Store x from line) regs below w is fits =
    ok_fits program.shapes (spot_of program.shapes w x (base_in regs x) (index_in regs x))
    (λ s. Goes (Here f (suc p) regs below (store_spot w s (register_at regs from)) t))
    (λ s. store_fits program.shapes w s (register_at regs from) fits)
stays_fit program r n f p t (ir.New to kind fill line) regs below w is fits =
    new_fits program.shapes w kind (least_free w) is.1 fits
stays_fit program r n f p t (ir.Free from kind line) regs below w is fits =
    free_fits program.shapes w (slot_of w kind (register_at regs from))
    (λ u. Goes (Here f (suc p) regs below u t)) fits (λ u kept. kept)
stays_fit program r n f p t (ir.Call to g args) regs below w is fits =
    opens_fits program.shapes (slice_get program.functions g) g (map (register_at regs) args)
    (frame f (suc p) regs to ∷ below) w t fits
stays_fit program r n f p t (ir.Return from) regs below w is fits =
    gives_fits program.shapes below (register_at regs from) w t fits
stays_fit program r n f p t ir.Tick regs below w is fits =
    tick_fits program.shapes t (λ u. Goes (Here f (suc p) regs below w u)) (λ u. fits)
stays_fit program r n f p t (ir.Trap k) regs below w is fits = tt
stays_fit program r n f p t (ir.Log x) regs below w is fits = fits
