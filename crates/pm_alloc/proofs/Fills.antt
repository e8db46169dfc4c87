-- The stores of a new object's zeros, one by one or by a loop.
use Rattle.std.proofs.Common.{◌≡◌, ◌≢◌, ℕ, zero, suc, ◌+◌, ◌*◌, ◌^◌, ◌<◌, ◌≤◌, Bool, true, false}
use Rattle.std.proofs.Common.{List}
use Rattle.std.proofs.Common.{[], ◌∷◌, ◌++◌, length, Some, ℤ, pos, refl, sym, ap, ◌∙◌, subst, arith}
use Rattle.std.proofs.Common.{ltb, append_assoc, length-append, get_or}
use Rattle.std.specs.Prelude.{◌+ℤ◌, ◌==◌, slice_get}
use Rattle.std.specs.Int.{w64, int_wrap}
use Rattle.std.proofs.lemmas.Bool.{lt-ltb, eq-eqb, ne_eqb}
use Rattle.nvm_base.specs.declared.op.BinOp.TheVariants.{Add, Eq}
use Rattle.nvm_base.specs.Operations.{truth}
use Rattle.cache_model.specs.Cache.{Words}
use Rattle.pool_layout.specs.declared.limits.Sizes.{Sizes}
use Rattle.pool_layout.specs.Sizes.{heap_words, slot_words, slot_word}
use Rattle.pm_alloc.specs.declared.local.Reg.{Reg}
use Rattle.pm_alloc.specs.declared.local.Reg.TheVariants.{Temp}
use Rattle.pm_alloc.specs.declared.local.Local.{Local}
use Rattle.pm_alloc.specs.declared.local.Local.TheVariants.{Bin, Jz, Store, Log}
use Rattle.pm_alloc.specs.Pieces.{offset, store_code, fill_code, loop_code}
use Rattle.pm_alloc.specs.Runs.{Next, Goes, local_run}
use Rattle.pm_alloc.specs.LocalRun.{World, Loc, local_read, local_stored, logged, local_step}
use Rattle.pm_alloc.specs.Search.{IsPool}
use Rattle.pm_alloc.specs.New.{wrote, zeroed}
use Rattle.pm_alloc.proofs.Runs.{run_on}
use Rattle.pm_alloc.proofs.Search.{small, address_is, word_address}
use Rattle.pm_alloc.proofs.Slots.{slot_few, word_within}

-- the place after a store, and the number of its steps
abbrev pub store_end : Bool → ℕ → ℕ
store_end false p = p + 1
store_end true p = p + 1 + 1

abbrev pub store_steps : Bool → ℕ
store_steps false = 1
store_steps true = 2

store_few : (b : Bool) → store_steps b ≤ 2
store_few false = omega arith
store_few true = omega arith

-- these instructions come here, one after another
abbrev pub Here : List Local → ℕ → List Local → Type 0
Here frag p [] = Unit {0}
Here frag p (i ∷ is) = (slice_get frag p ≡ Some i) × Here frag (p + 1) is

get_seam : (pre is : List Local) (i : Local) → slice_get (pre ++ i ∷ is) (length pre) ≡ Some i
get_seam [] is i = refl
get_seam (j ∷ pre) is i = get_seam pre is i

pub here_all : (is pre : List Local) → Here (pre ++ is) (length pre) is
here_all [] pre = tt
here_all (i ∷ is) pre =
    let n : length (pre ++ i ∷ []) ≡ length pre + 1 = omega (arith, length-append pre (i ∷ [])) in
    let rest = subst (λ (l : List Local). Here l (length (pre ++ i ∷ [])) is)
    (append_assoc pre (i ∷ []) is) (here_all is (pre ++ i ∷ [])) in
    (get_seam pre is i, subst (λ (m : ℕ). Here (pre ++ i ∷ is) m is) n rest)

pub here_back : (frag : List Local) (p : ℕ) (a b : List Local) → Here frag p (a ++ b)
    → Here frag (p + length a) b
here_back frag p [] b h = let e : p ≡ p + 0 = omega arith in subst (λ (n : ℕ). Here frag n b) e h
here_back frag p (i ∷ a) b h =
    let e : p + 1 + length a ≡ p + length (i ∷ a) = omega arith in
    subst (λ (n : ℕ). Here frag n b) e (here_back frag (p + 1) a b h.1)

module _ (s : Sizes) (frag : List Local) (own : Words) (temp : List ℤ) where
  abbrev pub loc : ℕ → World → Loc
  loc p w = record { at = p; own = own; temp = temp; world = w }

  abbrev pub go : ℕ → Loc → Next World Loc
  go n l = local_run (local_step s frag) n l

  plain : (p q : ℕ) (w : World) (x a : Reg) (o : ℤ) → slice_get frag p ≡ Some (Store x o a)
      → int_wrap w64 (local_read own temp x +ℤ o) ≡ pos q → ltb q (heap_words s) ≡ true
      → go 1 (loc p w) ≡ Goes (loc (p + 1) (local_stored w q (local_read own temp a)))
  plain p q w x a o here at within = rw (here, at, within) refl

  note : (p q : ℕ) (w : World) (x : Reg) (o : ℤ) → slice_get frag p ≡ Some (Log x o)
      → int_wrap w64 (local_read own temp x +ℤ o) ≡ pos q → ltb q (heap_words s) ≡ true
      → go 1 (loc p w) ≡ Goes (loc (p + 1) (logged w q))
  note p q w x o here at within = rw (here, at, within) refl

  pub with_log : (p q : ℕ) (w : World) (x a : Reg) (o : ℤ) → slice_get frag p ≡ Some (Log x o)
      → slice_get frag (p + 1) ≡ Some (Store x o a) → int_wrap w64 (local_read own temp x +ℤ o)
      ≡ pos q → ltb q (heap_words s) ≡ true
      → go 2 (loc p w) ≡ Goes (loc (p + 1 + 1) (wrote true w q (local_read own temp a)))
  with_log p q w x a o here next at within =
      run_on (local_step s frag) 1 1 _ _ _ (note p q w x o here at within)
      (plain (p + 1) q (logged w q) x a o next at within)

  -- a store with or without its log, and what comes after it
  pub store_run : (b : Bool) (p q : ℕ) (w : World) (x a : Reg) (o : ℤ) (rest : List Local)
      → Here frag p (store_code b x o a ++ rest) → int_wrap w64 (local_read own temp x +ℤ o) ≡ pos q
      → ltb q (heap_words s) ≡ true →
      (go (store_steps b) (loc p w)
      ≡ Goes (loc (store_end b p) (wrote b w q (local_read own temp a))))
      × Here frag (store_end b p) rest
  store_run false p q w x a o rest here at within =
      (plain p q w x a o here.0 at within, here.1)
  store_run true p q w x a o rest here at within =
      (with_log p q w x a o here.0 here.1.0 at within, here.1.1)

  fill_end : (b : Bool) (j c p : ℕ) → store_end b p + length (fill_code s b (j + 1) c)
      ≡ p + length (fill_code s b j (suc c))
  fill_end false j c p = omega arith
  fill_end true j c p = omega arith

  -- the fill: temporary 1 is W times the slot, temporary 6 is 0
  pub fill_run : (b : Bool) (c j p q slot : ℕ) (w : World) (rest : List Local) → IsPool s
      → 1 ≤ slot → slot ≤ s.slots → Here frag p (fill_code s b j c ++ rest)
      → q ≡ slot_word s slot + j → j + c ≤ slot_words s
      → get_or temp 1 (pos 0) ≡ pos (slot_words s * slot)
      → get_or temp 6 (pos 0) ≡ pos 0 → (n : ℕ) × (n ≤ 2 * c)
      × (go n (loc p w) ≡ Goes (loc (p + length (fill_code s b j c)) (zeroed b w q c)))
  fill_run b zero j p q slot w rest pool low high here is short e1 e6 =
      (0, omega arith, ap (λ (n : ℕ). Goes (loc n w)) (omega arith))
  fill_run b (suc c) j p q slot w rest pool low high here is short e1 e6 =
      let at : int_wrap w64 (get_or temp 1 (pos 0) +ℤ offset s j) ≡ pos q =
      ap (λ (z : ℤ). int_wrap w64 (z +ℤ offset s j)) e1
      ∙ word_address s slot (slot_words s * slot) j pool refl low high (omega arith)
      ∙ ap pos (sym is) in
      let within : ltb q (heap_words s) ≡ true =
      lt-ltb q (heap_words s) (omega (arith, word_within s slot j low high (omega arith))) in
      let code : List Local = fill_code s b (j + 1) c in
      let one = store_run b p q w (Temp 1) (Temp 6) (offset s j) (code ++ rest)
      (subst (Here frag p) (append_assoc (store_code b (Temp 1) (offset s j) (Temp 6)) code rest)
      here) at within in
      let first : go (store_steps b) (loc p w) ≡ Goes (loc (store_end b p) (wrote b w q (pos 0))) =
      one.0 ∙ ap (λ (z : ℤ). Goes (loc (store_end b p) (wrote b w q z))) e6 in
      let next = fill_run b c (j + 1) (store_end b p) (q + 1) slot (wrote b w q (pos 0)) rest pool
      low high one.1 (omega arith) (omega arith) e1 e6 in (
        store_steps b + next.0,
        omega (arith, store_few b, next.1),
        run_on (local_step s frag) (store_steps b) next.0 _ _ _ first next.2
            ∙ ap (λ (n : ℕ). Goes (loc n (zeroed b w q (suc c)))) (fill_end b j c p),
      )

-- a loop at place p that fills the object in a slot
module _ (s : Sizes) (frag rest : List Local) (own : Words) (b : Bool) (p slot kind : ℕ) (last : ℤ)
    (pool : IsPool s) (low : 1 ≤ slot) (high : slot ≤ s.slots)
    (here : Here frag p (loop_code s b p ++ rest)) where
  -- temporary 1 is a, 2 is y, 3 is e
  abbrev turning : (a e : ℕ) → ℤ → List ℤ
  turning a e y = pos slot ∷ pos a ∷ y ∷ pos e ∷ pos 1 ∷ pos kind ∷ pos 0 ∷ last ∷ []

  abbrev at_turn : ℕ → (a e : ℕ) → ℤ → World → Loc
  at_turn k a e y w = record { at = k; own = own; temp = turning a e y; world = w }

  abbrev run_loop : ℕ → Loc → Next World Loc
  run_loop n l = local_run (local_step s frag) n l

  abbrev jump : List Local
  jump = Jz (Temp 2) p ∷ rest

  abbrev after_store : List Local
  after_store = Bin Add (Temp 1) (Temp 1) (Temp 4) ∷ Bin Eq (Temp 2) (Temp 1) (Temp 3) ∷ jump

  stored : (j a e q : ℕ) (y : ℤ) (w : World) → a ≡ slot_words s * slot + j
      → q ≡ slot_word s slot + 1 + j → 1 + j < slot_words s →
      (run_loop (store_steps b) (at_turn p a e y w)
      ≡ Goes (at_turn (store_end b p) a e y (wrote b w q (pos 0))))
      × Here frag (store_end b p) after_store
  stored j a e q y w at is short =
      let address : int_wrap w64 (pos a +ℤ offset s 1) ≡ pos q =
      ap (λ (n : ℕ). int_wrap w64 (pos n +ℤ offset s 1)) at
      ∙ address_is s slot (slot_words s * slot) j 1 pool refl low high (omega arith)
      ∙ ap pos (sym is) in
      let within : ltb q (heap_words s) ≡ true =
      lt-ltb q (heap_words s) (omega (arith, word_within s slot (1 + j) low high short)) in
      store_run s frag own (turning a e y) b p q w (Temp 1) (Temp 6) (offset s 1) after_store
      (subst (Here frag p) (append_assoc (store_code b (Temp 1) (offset s 1) (Temp 6))
      (Bin Add (Temp 1) (Temp 1) (Temp 4) ∷ Bin Eq (Temp 2) (Temp 1) (Temp 3) ∷ Jz (Temp 2) p ∷ [])
      rest) here) address within

  compared : (a e k : ℕ) (y : ℤ) (w : World) → a + 1 < 2 ^ 62 → Here frag k after_store
      → run_loop 2 (at_turn k a e y w)
      ≡ Goes (at_turn (k + 1 + 1) (a + 1) e (truth ((a + 1) == e)) w)
  compared a e k y w few there =
      rw (there.0, there.1.0, small (a + 1) few) refl

  -- one turn: the next word, unless it is the end
  turned : (j a e q : ℕ) (y : ℤ) (w : World) → a ≡ slot_words s * slot + j
      → q ≡ slot_word s slot + 1 + j → 1 + j < slot_words s →
      run_loop (store_steps b + 2) (at_turn p a e y w)
      ≡ Goes (at_turn (store_end b p + 1 + 1) (a + 1) e (truth ((a + 1) == e))
      (wrote b w q (pos 0)))
  turned j a e q y w at is short =
      let one = stored j a e q y w at is short in
      run_on (local_step s frag) (store_steps b) 2 _ _ _ one.0
      (compared a e (store_end b p) y (wrote b w q (pos 0))
      (omega (arith, at, slot_few s slot high)) one.1)

  jumps : (k : ℕ) (a e : ℕ) (w : World) → slice_get frag k ≡ Some (Jz (Temp 2) p)
      → run_loop 1 (at_turn k a e (pos 0) w) ≡ Goes (at_turn p a e (pos 0) w)
  jumps k a e w there = rw there refl

  leaves : (k : ℕ) (a e : ℕ) (w : World) → slice_get frag k ≡ Some (Jz (Temp 2) p)
      → run_loop 1 (at_turn k a e (pos 1) w) ≡ Goes (at_turn (k + 1) a e (pos 1) w)
  leaves k a e w there = rw there refl

  loop_end : (c : Bool) → store_end c p + 1 + 1 + 1 ≡ p + length (loop_code s c p)
  loop_end true = omega arith
  loop_end false = omega arith

  -- k + 1 words are left
  pub loop_run : (k j a e q : ℕ) (y : ℤ) (w : World) → a ≡ slot_words s * slot + j
      → q ≡ slot_word s slot + 1 + j → a + suc k ≡ e → 1 + j + k < slot_words s →
      (n : ℕ) × (n ≤ 5 * suc k)
      × (run_loop n (at_turn p a e y w)
      ≡ Goes (at_turn (p + length (loop_code s b p)) e e (pos 1) (zeroed b w q (suc k))))
  loop_run zero j a e q y w at is ends short =
      let one = turned j a e q y w at is (omega arith) in
      let there = (stored j a e q y w at is (omega arith)).1.1.1.0 in
      let next : a + 1 ≡ e = omega arith in
      let v : World = wrote b w q (pos 0) in
      let first : run_loop (store_steps b + 2) (at_turn p a e y w)
      ≡ Goes (at_turn (store_end b p + 1 + 1) e e (pos 1) v) =
      one
      ∙ ap (λ (c : Bool). Goes (at_turn (store_end b p + 1 + 1) (a + 1) e (truth c) v))
      (eq-eqb (a + 1) e next)
      ∙ ap (λ (n : ℕ). Goes (at_turn (store_end b p + 1 + 1) n e (pos 1) v)) next in (
        store_steps b + 2 + 1,
        omega (arith, store_few b),
        run_on (local_step s frag) (store_steps b + 2) 1 _ _ _ first
            (leaves (store_end b p + 1 + 1) e e v there)
            ∙ ap (λ (n : ℕ). Goes (at_turn n e e (pos 1) v)) (loop_end b),
      )
  loop_run (suc k) j a e q y w at is ends short =
      let one = turned j a e q y w at is (omega arith) in
      let there = (stored j a e q y w at is (omega arith)).1.1.1.0 in
      let v : World = wrote b w q (pos 0) in
      let more : a + 1 ≢ e = λ (same : a + 1 ≡ e). absurd (omega arith) in
      let first : run_loop (store_steps b + 2) (at_turn p a e y w)
      ≡ Goes (at_turn (store_end b p + 1 + 1) (a + 1) e (pos 0) v) =
      one
      ∙ ap (λ (c : Bool). Goes (at_turn (store_end b p + 1 + 1) (a + 1) e (truth c) v))
      (ne_eqb (a + 1) e more) in
      let next = loop_run k (j + 1) (a + 1) e (q + 1) (pos 0) v (omega arith) (omega arith)
      (omega arith) (omega arith) in (
        store_steps b + 2 + 1 + next.0,
        omega (arith, store_few b, next.1),
        run_on (local_step s frag) (store_steps b + 2 + 1) next.0 _ _ _
            (run_on (local_step s frag) (store_steps b + 2) 1 _ _ _ first
            (jumps (store_end b p + 1 + 1) (a + 1) e v there)) next.2,
      )
