-- The piece of each instruction except `new` does what the instruction does.
use Rattle.std.proofs.Common.{◌≡◌, ⊎_elim, ℕ, zero, suc, ◌+◌, ◌-◌, ◌^◌, ◌≤◌, Bool, false, List}
use Rattle.std.proofs.Common.{[], ◌∷◌, length, None, Some, ℤ, pos, negsuc, refl, sym, ap, ◌∙◌}
use Rattle.std.proofs.Common.{subst, arith, ne_eqb}
use Rattle.std.specs.Prelude.{◌==◌, if◌then◌else◌}
use Rattle.std.proofs.lemmas.Bool.{cases_eq}
use Rattle.std.proofs.lemmas.Int.{ints}
use Rattle.nvm_base.specs.declared.op.BinOp.{BinOp}
use Rattle.nvm_base.specs.declared.op.BinOp.TheVariants.{Add, Sub, Mul, Div, Rem, Shl, Shr, And, Or}
use Rattle.nvm_base.specs.declared.op.BinOp.TheVariants.{Xor, Lt, Le, Eq, Ne, Ult, Ule, Udiv}
use Rattle.nvm_base.specs.declared.op.BinOp.TheVariants.{Urem, Ushr}
use Rattle.nvm_base.specs.Operations.{unsigned}
use Rattle.nvm_base.specs.Operations as word
use Rattle.nvm_base.specs.Wrap.{IsWord}
use Rattle.nvm_base.specs.Applied.{applied}
use Rattle.cache_model.specs.Cache.{Words}
use Rattle.cache_model.specs.Cache as cache
use Rattle.cache_model.proofs.Versions.{put_same, put_other}
use Rattle.pool_layout.specs.declared.limits.Sizes.{Sizes}
use Rattle.pool_map.specs.declared.shapes.Shapes.{Shapes}
use Rattle.pool_map.specs.declared.trap.TrapKind.{TrapKind}
use Rattle.pool_map.specs.declared.trap.TrapKind.TheVariants as trap
use Rattle.pool_map.specs.Trap.{trap_number}
use Rattle.pool_map.specs.PoolFits.{PoolFits}
use Rattle.pool_map.specs.PoolMap.{PoolMap}
use Rattle.ir.specs.declared.site.Site.{Site}
use Rattle.code_meaning.specs.Code.{Frame, Move, Ends, Trapped, register_at, put_register}
use Rattle.code_meaning.specs.Code.{with_word, word_of, takes_tick}
use Rattle.pool_map.specs.Checks.{is_zero}
use Rattle.code_meaning.specs.Code as code
use Rattle.code_meaning.specs.Deeds.{Deed}
use Rattle.code_meaning.proofs.Registers.{at_put_same, at_put_other}
use Rattle.pm_alloc.specs.declared.local.Reg.TheVariants.{Own}
use Rattle.pm_alloc.specs.declared.local.Local.{Local}
use Rattle.pm_alloc.specs.declared.local.Local.TheVariants.{Const, Mov, Bin, Jmp, Jz, Tick, Trap}
use Rattle.pm_alloc.specs.Runs.{Next, Goes, Traps, then, local_run}
use Rattle.pm_alloc.specs.LocalRun.{World, Loc, local_tick, local_step}
use Rattle.pm_alloc.specs.Search.{temporaries}
use Rattle.pm_alloc.specs.Free.{local_start}
use Rattle.pm_alloc.proofs.Runs.{run_on}
use Rattle.codegen.specs.Emit.{bin_code}
use Rattle.machine_law.specs.emitted.Steps.{piece_steps}
use Rattle.machine_law.specs.pieces.Stands.{Stands}
use Rattle.machine_law.specs.pieces.Fits.{IsFit}
use Rattle.machine_law.specs.pieces.Shows.{done}
use Rattle.machine_law.specs.pieces.Law.{Does, goes}
use Rattle.machine_law.proofs.pieces.Comes.{comes, done_by, traps_by}

pub written_is : (regs : List ℤ) (n : ℕ) (v : ℤ) (r : ℕ) → cache.put (register_at regs) n v r
    ≡ register_at (put_register regs n v) r
written_is regs n v r = ⊎_elim
    (λ (e : r ≡ n). ap (cache.put (register_at regs) n v) e ∙ put_same (register_at regs) n v
    ∙ sym (ap (register_at (put_register regs n v)) e ∙ at_put_same regs n v))
    (λ (ne : r ≡ n → ⊥). put_other (register_at regs) n r v ne ∙ sym (at_put_other regs n r v ne))
    (cases_eq r n)

-- a divisor that is a word is 0 exactly if its unsigned number is
divisor : (z : ℤ) → IsWord z → (unsigned z == 0) ≡ is_zero z
divisor (pos zero) word = refl
divisor (pos (suc n)) word = ne_eqb (suc n) 0 (λ e. absurd (omega arith))
divisor (negsuc n) word = ne_eqb (2 ^ 64 - suc n) 0 (λ e. absurd (omega (arith, ints, word.0)))

module _ (s : Sizes) (logged : Site → Bool) (shapes : Shapes) (f p : ℕ) (regs : List ℤ)
    (below : List Frame) (x : ℕ → ℤ) (v : World) (w : PoolMap) (fit : IsFit s shapes)
    (fits : PoolFits shapes w) (stands : Stands s v.heap w) where
  abbrev first : Loc
  first = local_start (register_at regs) x v

  abbrev pub Done : List Local → List Deed → Move → Type 0
  Done piece ds move =
      (k : ℕ) × (k ≤ 1 + piece_steps s) × Does s logged (length piece) v ds move
      (local_run (local_step s piece) k first)

  abbrev on_to : List ℤ → PoolMap → Move
  on_to regs' w' = code.Goes (code.Here f (suc p) regs' below w' v.ticks)

  -- only registers have changed
  only : (piece : List Local) (k : ℕ) (own : Words) (regs' : List ℤ) → k ≤ 4
      → local_run (local_step s piece) k first
      ≡ Goes (record { at = length piece; own = own; temp = temporaries x; world = v })
      → ((r : ℕ) → own r ≡ register_at regs' r) → Done piece [] (on_to regs' w)
  only piece k own regs' small path same = (
    k,
    omega arith,
    done_by s logged piece k first v [] []
        (λ u. record { at = length piece; own = own; temp = temporaries x; world = u }) f (suc p)
        regs' below w v.ticks
        (comes done path)
        (record {
          place = refl;
          temp = refl;
          own = same;
          world = refl;
          stands = stands;
        }),
  )

  pub const_does : (to : ℕ) (c : ℤ)
      → Done (Const (Own to) c ∷ []) [] (on_to (put_register regs to c) w)
  const_does to c = only (Const (Own to) c ∷ []) 1 (cache.put (register_at regs) to c)
      (put_register regs to c) (omega arith) refl (written_is regs to c)

  pub copy_does : (to from : ℕ) →
      Done (Mov (Own to) (Own from) ∷ []) []
      (on_to (put_register regs to (register_at regs from)) w)
  copy_does to from = only (Mov (Own to) (Own from) ∷ []) 1
      (cache.put (register_at regs) to (register_at regs from))
      (put_register regs to (register_at regs from)) (omega arith) refl
      (written_is regs to (register_at regs from))

  pub log_does : Done [] [] (on_to regs w)
  log_does = only [] 0 (register_at regs) regs (omega arith) refl (λ r. refl)

  pub tick_does : (t : ℕ) → v.ticks ≡ t
      → Done (Tick ∷ []) [] (takes_tick t (λ u. code.Goes (code.Here f (suc p) regs below w u)))
  tick_does zero e =
      let path : local_run (local_step s (Tick ∷ [])) 1 first ≡ Traps 5 v =
      ap (λ (n : ℕ). (then) (local_tick first n) (local_run (local_step s (Tick ∷ [])) 0)) e in
      (1, omega arith, traps_by s logged (Tick ∷ []) 1 first v [] trap.Steps done path)
  tick_does (suc t) e =
      let less : World = record { heap = v.heap; seen = v.seen; ticks = t } in
      let path : local_run (local_step s (Tick ∷ [])) 1 first
      ≡ Goes (record { at = 1; own = register_at regs; temp = temporaries x; world = less }) =
      rw e refl in (
        1,
        omega arith,
        subst (λ (r : Next World Loc).
            Does s logged 1 v [] (code.Goes (code.Here f (suc p) regs below w t)) r) (sym path)
            (goes [] done (record {
              place = refl;
              temp = refl;
              own = λ r.
                  refl;
              world = refl;
              stands = stands;
            })),
      )

  pub trap_does : (k : TrapKind) → Done (Trap (trap_number k) ∷ []) [] (Ends (Trapped k))
  trap_does k = (
    1,
    omega arith,
    traps_by s logged (Trap (trap_number k) ∷ []) 1 first v [] k
        done refl,
  )

  -- a division
  module _ (o : BinOp) (to a b : ℕ) (q : ℤ) (quotient : (unsigned (register_at regs b) == 0) ≡ false
      → applied o (register_at regs a) (register_at regs b) ≡ q)
      (word : IsWord (register_at regs b))
    where
      abbrev division : List Local
      division = Jz (Own b) 2 ∷ Jmp 3 ∷ Trap 4 ∷ Bin o (Own to) (Own a) (Own b) ∷ []

      divided : local_run (local_step s division) 1 first
          ≡ Goes (record { at = 1; own = register_at regs; temp = temporaries x; world = v })
          → (unsigned (register_at regs b) == 0) ≡ false →
          Done division [] (with_word (if unsigned (register_at regs b) == 0 then None else Some q)
          (λ z. on_to (put_register regs to z) w))
      divided path test =
          subst (λ (c : Bool). Done division []
          (with_word (if c then None else Some q) (λ z. on_to (put_register regs to z) w)))
          (sym test)
          (only division 3 (cache.put (register_at regs) to
          (applied o (register_at regs a) (register_at regs b))) (put_register regs to q)
          (omega arith)
          (run_on (local_step s division) 1 2 first _ _ path refl)
          (λ r. ap (λ (z : ℤ). cache.put (register_at regs) to z r) (quotient test)
          ∙ written_is regs to q r))

      by_divisor : (z : ℤ) → register_at regs b ≡ z → (unsigned (register_at regs b) == 0)
          ≡ is_zero z → Done division []
          (with_word (if unsigned (register_at regs b) == 0 then None else Some q)
          (λ z. on_to (put_register regs to z) w))
      by_divisor (pos zero) e test =
          subst (λ (c : Bool). Done division []
          (with_word (if c then None else Some q) (λ z. on_to (put_register regs to z) w)))
          (sym test)
          (2, omega arith, traps_by s logged division 2 first v [] trap.Divide done (rw e refl))
      by_divisor (pos (suc n)) e test = divided (rw e refl) test
      by_divisor (negsuc n) e test = divided (rw e refl) test

      division_does : Done division []
          (with_word (if unsigned (register_at regs b) == 0 then None else Some q)
          (λ z. on_to (put_register regs to z) w))
      division_does = by_divisor (register_at regs b) refl (divisor (register_at regs b) word)

  one : (o : BinOp) (to a b : ℕ)
      → Done (Bin o (Own to) (Own a) (Own b) ∷ []) []
      (on_to (put_register regs to (applied o (register_at regs a) (register_at regs b))) w)
  one o to a b = only (Bin o (Own to) (Own a) (Own b) ∷ []) 1
      (cache.put (register_at regs) to (applied o (register_at regs a) (register_at regs b)))
      (put_register regs to (applied o (register_at regs a) (register_at regs b)))
      (omega arith) refl
      (written_is regs to (applied o (register_at regs a) (register_at regs b)))

  unless : (c : Bool) (z : ℤ) → c ≡ false → (if c then pos 0 else z) ≡ z
  unless c z e = ap (λ (d : Bool). if d then pos 0 else z) e

  pub bin_does : (o : BinOp) (to a b : ℕ) → IsWord (register_at regs b)
      → Done (bin_code o to a b) [] (with_word (word_of o (register_at regs a) (register_at regs b))
      (λ z. on_to (put_register regs to z) w))
  bin_does Div to a b fine = division_does Div to a b
      (word.div (register_at regs a) (register_at regs b))
      (unless (unsigned (register_at regs b) == 0)
      (word.div (register_at regs a) (register_at regs b))) fine
  bin_does Rem to a b fine = division_does Rem to a b
      (word.rem (register_at regs a) (register_at regs b))
      (unless (unsigned (register_at regs b) == 0)
      (word.rem (register_at regs a) (register_at regs b))) fine
  bin_does Udiv to a b fine = division_does Udiv to a b
      (word.udiv (register_at regs a) (register_at regs b))
      (unless (unsigned (register_at regs b) == 0)
      (word.udiv (register_at regs a) (register_at regs b))) fine
  bin_does Urem to a b fine = division_does Urem to a b
      (word.urem (register_at regs a) (register_at regs b))
      (unless (unsigned (register_at regs b) == 0)
      (word.urem (register_at regs a) (register_at regs b))) fine
  bin_does Add to a b word = one Add to a b
  bin_does Sub to a b word = one Sub to a b
  bin_does Mul to a b word = one Mul to a b
  bin_does Shl to a b word = one Shl to a b
  bin_does Shr to a b word = one Shr to a b
  bin_does And to a b word = one And to a b
  bin_does Or to a b word = one Or to a b
  bin_does Xor to a b word = one Xor to a b
  bin_does Lt to a b word = one Lt to a b
  bin_does Le to a b word = one Le to a b
  bin_does Eq to a b word = one Eq to a b
  bin_does Ne to a b word = one Ne to a b
  bin_does Ult to a b word = one Ult to a b
  bin_does Ule to a b word = one Ule to a b
  bin_does Ushr to a b word = one Ushr to a b
