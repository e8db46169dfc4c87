-- A store with or without its log, and the zeros of a new object.
use Rattle.std.proofs.Common.{◌≡◌, ℕ, zero, suc, ◌+◌, ◌<◌, ◌≤◌, Bool, true, false, List, [], ◌∷◌}
use Rattle.std.proofs.Common.{◌++◌, Some, ℤ, pos, refl, ap, ◌∙◌, subst, arith, ltb}
use Rattle.std.specs.Prelude.{◌+ℤ◌, slice_get}
use Rattle.std.specs.Int.{w64, int_wrap}
use Rattle.cache_model.specs.Cache.{Words}
use Rattle.pool_layout.specs.declared.limits.Sizes.{Sizes}
use Rattle.pool_layout.specs.declared.places.HeapPlace.TheVariants.{Header}
use Rattle.pool_layout.specs.Places.{IsHeapPlace}
use Rattle.pool_layout.specs.Sizes.{heap_words, slot_words}
use Rattle.ir.specs.declared.site.Site.{Site}
use Rattle.code_meaning.specs.Code.{Spot, InSlot}
use Rattle.code_meaning.specs.Deeds.{Deed, Writes, Heads, zeros}
use Rattle.pm_machine.specs.declared.effect.Effect.{Effect}
use Rattle.pm_machine.specs.declared.effect.Effect.TheVariants.{Stores, Logs}
use Rattle.pm_alloc.specs.declared.local.Reg.{Reg}
use Rattle.pm_alloc.specs.declared.local.Local.{Local}
use Rattle.pm_alloc.specs.declared.local.Local.TheVariants.{Store, Log}
use Rattle.pm_alloc.specs.Pieces.{store_code}
use Rattle.pm_alloc.specs.Runs.{Next, Goes, local_run}
use Rattle.pm_alloc.specs.LocalRun.{World, Loc, local_read, local_step}
use Rattle.pm_alloc.specs.New.{wrote, zeroed}
use Rattle.pm_alloc.proofs.Fills.{Here, store_end, store_steps}
use Rattle.pm_alloc.proofs.Runs.{run_on}
use Rattle.pm_alloc.proofs.Search.{header_within}
use Rattle.machine_law.specs.pieces.Stands.{heap_word, header_word}
use Rattle.machine_law.specs.pieces.Shows.{ShowsDeeds, done, plain, logs, heads, IsThere}
use Rattle.machine_law.specs.pieces.Law.{onward}
use Rattle.machine_law.proofs.pieces.Addresses.{within}
use Rattle.machine_law.proofs.pieces.Comes.{Comes, comes}
use Rattle.machine_law.proofs.pieces.Shown.{onward_append}

-- the effects of a store and of c zeros
abbrev pub store_effects : Bool → ℕ → ℤ → List Effect
store_effects false q x = Stores q x ∷ []
store_effects true q x = Logs q ∷ Stores q x ∷ []

abbrev pub zero_effects : Sizes → Bool → (q i c : ℕ) → List Effect
zero_effects s b q i zero = []
zero_effects s b q i (suc c) = store_effects b (heap_word s (InSlot q i)) (pos 0)
    ++ zero_effects s b q (suc i) c

module _ (s : Sizes) (logged : Site → Bool) (piece : List Local) (own : Words) (temp : List ℤ) where
  abbrev pub loc : ℕ → World → Loc
  loc p v = record { at = p; own = own; temp = temp; world = v }

  abbrev pub go : ℕ → Loc → Next World Loc
  go n l = local_run (local_step s piece) n l

  stored_run : (p q : ℕ) (v : World) (x a : Reg) (o : ℤ) → slice_get piece p ≡ Some (Store x o a)
      → int_wrap w64 (local_read own temp x +ℤ o) ≡ pos q → ltb q (heap_words s) ≡ true
      → go 1 (loc p v) ≡ Goes (loc (p + 1)
      (onward v (Stores q (local_read own temp a) ∷ []) v.ticks))
  stored_run p q v x a o here at inside = rw (here, at, inside) refl

  with_log : (p q : ℕ) (v : World) (x a : Reg) (o : ℤ) → slice_get piece p ≡ Some (Log x o)
      → slice_get piece (p + 1) ≡ Some (Store x o a) → int_wrap w64 (local_read own temp x +ℤ o)
      ≡ pos q → ltb q (heap_words s) ≡ true
      → go 2 (loc p v) ≡ Goes (loc (p + 1 + 1)
      (onward v (Logs q ∷ Stores q (local_read own temp a) ∷ []) v.ticks))
  with_log p q v x a o here next at inside =
      let noted : go 1 (loc p v) ≡ Goes (loc (p + 1) (onward v (Logs q ∷ []) v.ticks)) =
      rw (here, at, inside) refl in
      run_on (local_step s piece) 1 1 _ _ _ noted
      (stored_run (p + 1) q (onward v (Logs q ∷ []) v.ticks) x a o next at inside)

  pub head_comes : (p q : ℕ) (v : World) (x a : Reg) (o k : ℤ) (site : Site)
      → Here piece p (store_code true x o a) → int_wrap w64 (local_read own temp x +ℤ o)
      ≡ pos (header_word s q) → IsHeapPlace s (Header q) → local_read own temp a ≡ k →
      Comes s logged v (Heads site q k ∷ []) (store_effects true (header_word s q) k)
      (loc (p + 1 + 1)) (go 2 (loc p v))
  head_comes p q v x a o k site here at there is =
      subst (λ (z : ℤ). Comes s logged v (Heads site q z ∷ [])
      (store_effects true (header_word s q) z) (loc (p + 1 + 1)) (go 2 (loc p v))) is
      (comes (heads site q (local_read own temp a) there done)
      (with_log p (header_word s q) v x a o here.0 here.1.0 at (header_within s q there.0 there.1)))

  pub store_comes : (b : Bool) (p : ℕ) (y : Spot) (v : World) (x a : Reg) (o k : ℤ) (site : Site)
      → logged site ≡ b → Here piece p (store_code b x o a)
      → int_wrap w64 (local_read own temp x +ℤ o) ≡ pos (heap_word s y) → IsThere s y
      → local_read own temp a ≡ k →
      Comes s logged v (Writes site y k ∷ []) (store_effects b (heap_word s y) k)
      (loc (store_end b p)) (go (store_steps b) (loc p v))
  store_comes true p y v x a o k site marked here at there is =
      subst (λ (z : ℤ). Comes s logged v (Writes site y z ∷ [])
      (store_effects true (heap_word s y) z) (loc (p + 1 + 1)) (go 2 (loc p v))) is
      (comes (logs site y (local_read own temp a) there marked done)
      (with_log p (heap_word s y) v x a o here.0 here.1.0 at (within s y there)))
  store_comes false p y v x a o k site marked here at there is =
      subst (λ (z : ℤ). Comes s logged v (Writes site y z ∷ [])
      (store_effects false (heap_word s y) z) (loc (p + 1)) (go 1 (loc p v))) is
      (comes (plain site y (local_read own temp a) there marked done)
      (stored_run p (heap_word s y) v x a o here.0 at (within s y there)))

-- the zeros of a new object, from word i on
module _ (s : Sizes) (logged : Site → Bool) (b : Bool) (q : ℕ) (low : 1 ≤ q)
    (high : q ≤ s.slots) where
  one_shows : (c : Bool) (i : ℕ) (site : Site) (ds : List Deed) (es : List Effect)
      → logged site ≡ c → i + 1 < slot_words s → ShowsDeeds s logged ds es
      → ShowsDeeds s logged (Writes site (InSlot q i) (pos 0) ∷ ds)
      (store_effects c (heap_word s (InSlot q i)) (pos 0) ++ es)
  one_shows false i site ds es marked short rest =
      plain site (InSlot q i) (pos 0) (low, high, short) marked rest
  one_shows true i site ds es marked short rest =
      logs site (InSlot q i) (pos 0) (low, high, short) marked rest

  pub zeros_show : (c i : ℕ) (site : Site) → logged site ≡ b → i + c < slot_words s
      → ShowsDeeds s logged (zeros site q i c) (zero_effects s b q i c)
  zeros_show zero i site marked short = done
  zeros_show (suc c) i site marked short =
      one_shows b i site (zeros site q (suc i) c) (zero_effects s b q (suc i) c) marked
      (omega arith) (zeros_show c (suc i) site marked (omega arith))

  wrote_is : (c : Bool) (v : World) (k : ℕ) (z : ℤ)
      → wrote c v k z ≡ onward v (store_effects c k z) v.ticks
  wrote_is false v k z = refl
  wrote_is true v k z = refl

  -- the world after them
  pub zeroed_is : (c i k : ℕ) (v : World) → k ≡ heap_word s (InSlot q i)
      → zeroed b v k c ≡ onward v (zero_effects s b q i c) v.ticks
  zeroed_is zero i k v at = refl
  zeroed_is (suc c) i k v at =
      let word : ℕ = heap_word s (InSlot q i) in
      let one : List Effect = store_effects b word (pos 0) in
      ap (λ (n : ℕ). zeroed b (wrote b v n (pos 0)) (n + 1) c) at
      ∙ ap (λ (u : World). zeroed b u (word + 1) c) (wrote_is b v word (pos 0))
      ∙ zeroed_is c (suc i) (word + 1) (onward v one v.ticks) (omega arith)
      ∙ onward_append v one (zero_effects s b q (suc i) c) v.ticks v.ticks
