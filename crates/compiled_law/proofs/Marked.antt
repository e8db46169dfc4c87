-- In a run of code with the logs of its marks the first store to each input is logged.
use Rattle.std.proofs.Common.{◌≡◌, ℕ, zero, suc, ◌+◌, ◌*◌, ℤ, Bool, true, false, List, [], ◌∷◌}
use Rattle.std.proofs.Common.{◌++◌, Option, Some, None, refl, sym, ap, ◌∙◌, subst, inl, inr, arith}
use Rattle.std.specs.Prelude.{slice_get, option_and_then, Result, Ok, Err}
use Rattle.pool_map.specs.declared.trap.TrapKind.{TrapKind}
use Rattle.pool_map.specs.PoolFits.{words_of}
use Rattle.pool_map.specs.PoolMap.{PoolMap, least_free}
use Rattle.ir.specs.declared.instruction.Target.{Target}
use Rattle.ir.specs.declared.instruction.Instruction.{Instruction}
use Rattle.ir.specs.declared.instruction.Instruction.TheVariants.{Const, Copy, Bin, Jump, Branch}
use Rattle.ir.specs.declared.instruction.Instruction.TheVariants.{Load, Store, New, Free, Call}
use Rattle.ir.specs.declared.instruction.Instruction.TheVariants.{Return, Tick, Trap, Log}
use Rattle.ir.specs.declared.function.IrFunction.{IrFunction}
use Rattle.ir.specs.declared.function.Ir.{Ir}
use Rattle.ir.specs.declared.site.Site.{Site}
use Rattle.ir.specs.Clobber.{IsLogged}
use Rattle.ir.specs.Places.{instruction_at, IsTransaction}
use Rattle.ir.specs.WellFormed.{IsWellFormed}
use Rattle.clobber_pass.specs.declared.marking.MarkTable.{MarkTable}
use Rattle.clobber_pass.specs.Logged as table
use Rattle.instrument.specs.Insert.{logged_program}
use Rattle.code_meaning.specs.Code.{CodeState, Here, Move, Goes, Ends, Spot, code_start, exec}
use Rattle.code_meaning.specs.Code.{instruction_step, spot_of, slot_of, fields_of, base_in}
use Rattle.code_meaning.specs.Code.{index_in, register_at}
use Rattle.code_meaning.specs.Deeds.{Deed, Reads, Writes, Heads, if_ok, zeros, site, deeds_new}
use Rattle.code_meaning.specs.Deeds.{deeds_at, deeds_of, deeds_on, deeds}
use Rattle.code_meaning.specs.Parameters.{KeepsParameters}
use Rattle.log_law.specs.inserted.Moved.{begins, stands, moved_site, moved_deeds}
use Rattle.log_law.specs.inserted.Law.{HasResult}
use Rattle.log_law.proofs.inserted.Follows.{same_deeds}
use Rattle.log_law.proofs.inserted.Standing.{store_stands, fill_stands}
use Rattle.log_law.specs.covered.Covered.{IsInput, FirstStore}
use Rattle.log_law.specs.covered.Law.{CoverLaw}
use Rattle.machine_law.specs.emitted.Standing.{logged_before}
use Rattle.ir.specs.Moving.{is_log}
use Rattle.machine_law.specs.matching.Compiled.{logs_fill, logs_at, is_logged_in_code}

module _ (marks : MarkTable) (us : List IrFunction) where
  input_moved : (ds : List Deed) (x : Spot) → IsInput (moved_deeds marks us ds) x → IsInput ds x
  input_moved [] x h = h
  input_moved (Reads y ∷ ds) x (inl e) = inl e
  input_moved (Reads y ∷ ds) x (inr h) = inr (input_moved ds x h)
  input_moved (Writes a y v ∷ ds) x h = (h.0, input_moved ds x h.1)
  input_moved (Heads a q v ∷ ds) x h = input_moved ds x h

  first_moved : (ds : List Deed) (x : Spot) (b : Site) → FirstStore (moved_deeds marks us ds) x b
      → (a : Site) × FirstStore ds x a × (b ≡ moved_site marks us a)
  first_moved [] x b h = absurd h
  first_moved (Reads y ∷ ds) x b h = first_moved ds x b h
  first_moved (Writes a y v ∷ ds) x b (inl h) = (a, inl (h.0, refl), sym h.1)
  first_moved (Writes a y v ∷ ds) x b (inr h) = let r = first_moved ds x b h.1 in
      (r.0, inr (h.0, r.1), r.2)
  first_moved (Heads a q v ∷ ds) x b h = first_moved ds x b h

-- the site is that of a store to a word, or of a new object's fill
abbrev pub IsStoreAt : List IrFunction → Bool → (f p : ℕ) → Type 0
IsStoreAt us false f p = (x : Target) × (from : ℕ) × (line : ℕ)
    × (instruction_at us f p ≡ Some (Store x from line))
IsStoreAt us true f p = (to : ℕ) × (kind : ℕ) × (flag : Bool) × (line : ℕ)
    × (instruction_at us f p ≡ Some (New to kind flag line))

abbrev pub IsStoreSite : List IrFunction → Site → Type 0
IsStoreSite us a = IsStoreAt us a.fill a.function a.place

module _ (ir : Ir) where
  -- each store to a word is at such a site, and each store to a header at a site that is logged
  abbrev pub AreStores : List Deed → Type 0
  AreStores [] = Unit {0}
  AreStores (Reads y ∷ ds) = AreStores ds
  AreStores (Writes a y v ∷ ds) = IsStoreSite ir.functions a × AreStores ds
  AreStores (Heads a q v ∷ ds) = IsLogged ir.functions a × AreStores ds

  first_site : (ds : List Deed) (x : Spot) (a : Site) → AreStores ds → FirstStore ds x a
      → IsStoreSite ir.functions a
  first_site [] x a are first = absurd first
  first_site (Reads y ∷ ds) x a are first = first_site ds x a are first
  first_site (Writes b y v ∷ ds) x a are (inl e) = subst (IsStoreSite ir.functions) e.1 are.0
  first_site (Writes b y v ∷ ds) x a are (inr e) = first_site ds x a are.1 e.1
  first_site (Heads b q v ∷ ds) x a are first = first_site ds x a are.1 first

  stores_append : (ds cs : List Deed) → AreStores ds → AreStores cs → AreStores (ds ++ cs)
  stores_append [] cs h g = g
  stores_append (Reads y ∷ ds) cs h g = stores_append ds cs h g
  stores_append (Writes b y v ∷ ds) cs h g = (h.0, stores_append ds cs h.1 g)
  stores_append (Heads b q v ∷ ds) cs h g = (h.0, stores_append ds cs h.1 g)

  zeros_stores : (b : Site) → IsStoreSite ir.functions b → (slot i n : ℕ)
      → AreStores (zeros b slot i n)
  zeros_stores b register_at slot i zero = tt
  zeros_stores b register_at slot i (suc n) =
      (register_at, zeros_stores b register_at slot (suc i) n)

  ok_stores : {A : Type 0} (r : Result A TrapKind) (go : A → List Deed)
      → ((v : A) → AreStores (go v)) → AreStores (if_ok r go)
  ok_stores (Ok v) go h = h v
  ok_stores (Err k) go h = tt

  new_stores : (f p to kind words line : ℕ) (flag : Bool)
      → instruction_at ir.functions f p ≡ Some (New to kind flag line) → (o : Option ℕ)
      → AreStores (deeds_new f p kind words o)
  new_stores f p to kind words line flag e None = tt
  new_stores f p to kind words line flag e (Some s) = (
    inr (inl (to, kind, flag, line, e)),
    zeros_stores (site f p true) (to, kind, flag, line, e) s 0 words,
  )

  at_stores : (f p : ℕ) (regs : List ℤ) (w : PoolMap) (o : Option Instruction)
      → instruction_at ir.functions f p ≡ o → AreStores (deeds_at ir.shapes f p regs w o)
  at_stores f p regs w None e = tt
  at_stores f p regs w (Some (Load to y)) e =
      ok_stores (spot_of ir.shapes w y (base_in regs y) (index_in regs y)) _ (λ s. tt)
  at_stores f p regs w (Some (Store y from line)) e =
      ok_stores (spot_of ir.shapes w y (base_in regs y) (index_in regs y)) _
      (λ s. ((y, from, line, e), tt))
  at_stores f p regs w (Some (New to kind flag line)) e =
      new_stores f p to kind (words_of (fields_of ir.shapes kind)) line flag e (least_free w)
  at_stores f p regs w (Some (Free from kind line)) e =
      ok_stores (slot_of w kind (register_at regs from)) _
      (λ s. (inr (inr (from, kind, line, e)), tt))
  at_stores f p regs w (Some (Const to v)) e = tt
  at_stores f p regs w (Some (Copy to from)) e = tt
  at_stores f p regs w (Some (Bin o to l r)) e = tt
  at_stores f p regs w (Some (Jump q)) e = tt
  at_stores f p regs w (Some (Branch on q)) e = tt
  at_stores f p regs w (Some (Call to g args)) e = tt
  at_stores f p regs w (Some (Return from)) e = tt
  at_stores f p regs w (Some Tick) e = tt
  at_stores f p regs w (Some (Trap k)) e = tt
  at_stores f p regs w (Some (Log y)) e = tt

  on_stores : (k : ℕ) (v : Move) → ((c : CodeState) → AreStores (deeds ir k c))
      → AreStores (deeds_on (deeds ir k) v)
  on_stores k (Goes c) h = h c
  on_stores k (Ends e) h = tt

  pub all_stores : (k : ℕ) (c : CodeState) → AreStores (deeds ir k c)
  all_stores zero c = tt
  all_stores (suc k) (Here f p regs below w t) =
      stores_append (deeds_of ir (Here f p regs below w t))
      (deeds_on (deeds ir k) (instruction_step ir (Here f p regs below w t)))
      (at_stores f p regs w (instruction_at ir.functions f p) refl)
      (on_stores k (instruction_step ir (Here f p regs below w t)) (λ c. all_stores k c))

-- an instruction is logged exactly if the one right before it is a log
pub logged_at : (b : Bool) (code : List Instruction) (q : ℕ) (i : Instruction)
    → slice_get code q ≡ Some i → logged_before b code (suc q) ≡ is_log i
logged_at b [] q i e = absurd (cc)
logged_at b (j ∷ code) zero i e = let same : j ≡ i = cc in ap is_log same
logged_at b (j ∷ code) (suc q) i e = logged_at (is_log j) code q i e

pub log_at : (o : Option IrFunction) (q : ℕ) (x : Target)
    → option_and_then (λ (u : IrFunction). slice_get u.code q) o ≡ Some (Log x)
    → logs_at o (suc q) false ≡ true
log_at None q x e = absurd (cc)
log_at (Some u) q x e = logged_at false u.code q (Log x) e

pub fill_at : (o : Option IrFunction) (q to kind line : ℕ) (flag : Bool)
    → option_and_then (λ (u : IrFunction). slice_get u.code q) o ≡ Some (New to kind flag line)
    → logs_at o q true ≡ flag
fill_at None q to kind line flag e = absurd (cc)
fill_at (Some u) q to kind line flag e = ap logs_fill e

module _ (marks : MarkTable) (ir : Ir) where
  -- a store that the marks log is still logged at the place it has moved to
  pub moved_logged_true : (f p : ℕ) → IsStoreAt ir.functions false f p
      → table.is_logged marks (site f p false) ≡ true
      → is_logged_in_code (logged_program marks ir) (moved_site marks ir.functions (site f p false))
      ≡ true
  moved_logged_true f p store marked =
      let s = store_stands marks ir f p store.0 store.1 store.2 store.3 marked in
      ap (λ (q : ℕ). logs_at (slice_get (logged_program marks ir).functions f) q false)
      (s.0 ∙ plus_one (begins marks ir.functions f p))
      ∙ log_at (slice_get (logged_program marks ir).functions f) (begins marks ir.functions f p)
      store.0 s.1
    where
      plus_one : (n : ℕ) → n + 1 ≡ suc n
      plus_one n = omega arith

  moved_logged : (fill : Bool) (f p : ℕ) → IsStoreAt ir.functions fill f p
      → table.is_logged marks (site f p fill) ≡ true
      → is_logged_in_code (logged_program marks ir) (moved_site marks ir.functions (site f p fill))
      ≡ true
  moved_logged false f p store marked = moved_logged_true f p store marked
  moved_logged true f p fill marked =
      fill_at (slice_get (logged_program marks ir).functions f) (stands marks ir.functions f p)
      fill.0 fill.1 fill.3 (table.is_logged marks (site f p true))
      (fill_stands marks ir f p fill.0 fill.1 fill.3 fill.2 fill.4)
      ∙ marked

module _ (cover : CoverLaw) (marks : MarkTable) (ir : Ir) (formed : IsWellFormed ir)
    (keeps : KeepsParameters ir.functions) (whole : (a : Site) → IsLogged ir.functions a
    → table.is_logged marks a ≡ true) where
  pub inputs_logged : (f : ℕ) → IsTransaction ir.functions f
      → (args : List ℤ) (w : PoolMap) (t k : ℕ) → HasResult (exec ir k (code_start f args w t)) →
      (x : Spot) (b : Site) → IsInput
      (deeds (logged_program marks ir) (2 * k) (code_start f args w t)) x
      → FirstStore (deeds (logged_program marks ir) (2 * k) (code_start f args w t)) x b
      → is_logged_in_code (logged_program marks ir) b ≡ true
  inputs_logged f tx args w t k over x b input first =
      let same = same_deeds marks ir f args w t k over in
      let ds : List Deed = deeds ir k (code_start f args w t) in
      let m = first_moved marks ir.functions ds x b
      (subst (λ (l : List Deed). FirstStore l x b) same first) in
      let a : Site = m.0 in
      let logged : IsLogged ir.functions a =
      cover ir formed keeps f tx args w t k x a
      (input_moved marks ir.functions ds x (subst (λ (l : List Deed). IsInput l x) same input))
      m.1 in
      ap (is_logged_in_code (logged_program marks ir)) m.2
      ∙ moved_logged marks ir a.fill a.function a.place
      (first_site ir (deeds ir k (code_start f args w t)) x a
      (all_stores ir k (code_start f args w t)) m.1) (whole a logged)
