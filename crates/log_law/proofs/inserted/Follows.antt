-- A run of code with its logs follows the run of the code: for each step of the code it takes one
-- too, after the log if there is one.
use mathlib.Core.Logic.{◌⊎◌}
use Rattle.std.proofs.Common.{◌≡◌, ℕ, zero, suc, ◌+◌, ◌*◌, ◌-◌, ◌≤◌, ℤ, pos, Bool, true, false}
use Rattle.std.proofs.Common.{List, [], ◌∷◌, ◌++◌, length, map, Option, Some, None, refl, sym, ap}
use Rattle.std.proofs.Common.{◌∙◌, subst, arith, inl, inr}
use Rattle.std.specs.Prelude.{slice_get, nat_lt, if◌then◌else◌, option_map, Result, Ok, Err}
use Rattle.std.proofs.lemmas.Bool.{false≢true}
use Rattle.pool_map.specs.declared.trap.TrapKind.{TrapKind}
use Rattle.pool_map.specs.declared.trap.TrapKind.TheVariants.{Depth}
use Rattle.pool_map.specs.PoolMap.{PoolMap, least_free}
use Rattle.ir.specs.declared.site.Site.{Site}
use Rattle.pool_map.specs.PoolFits.{words_of}
use Rattle.ir.specs.declared.instruction.Target.{Target}
use Rattle.ir.specs.declared.instruction.Instruction.{Instruction}
use Rattle.ir.specs.declared.instruction.Instruction.TheVariants.{Const, Copy, Bin, Jump, Branch}
use Rattle.ir.specs.declared.instruction.Instruction.TheVariants.{Load, Store, New, Free, Call}
use Rattle.ir.specs.declared.instruction.Instruction.TheVariants.{Return, Tick, Trap, Log}
use Rattle.ir.specs.declared.function.IrFunction.{IrFunction}
use Rattle.ir.specs.declared.function.Ir.{Ir}
use Rattle.ir.specs.Places.{instruction_at}
use Rattle.clobber_pass.specs.declared.marking.MarkTable.{MarkTable}
use Rattle.instrument.specs.Insert.{logs, places_from, led, flagged, flags_from}
use Rattle.ir.specs.Moving.{is_log, place_in}
use Rattle.instrument.specs.Insert.{logged_function, logged_program}
use Rattle.code_meaning.specs.Code.{Frame, frame, CodeState, Here, CodeEnd, Ended, Trapped}
use Rattle.code_meaning.specs.Code.{Unfinished, Stuck, Move, Goes, Ends, InSlot, register_at}
use Rattle.code_meaning.specs.Code.{put_register, base_in, index_in, spot_of, slot_of, fields_of}
use Rattle.pool_map.specs.Checks.{is_zero}
use Rattle.code_meaning.specs.Code.{with_word, with_ok, word_of, takes_tick, gives, opens}
use Rattle.code_meaning.specs.Code.{open_limit, act, instruction_step, go_on, exec, code_start}
use Rattle.code_meaning.specs.Code.{free_in, new_in, load_spot, store_spot, IsOver}
use Rattle.code_meaning.specs.Deeds.{Deed, Writes, Heads, if_ok, zeros, site, deeds_new, deeds_at}
use Rattle.code_meaning.specs.Deeds.{deeds_of, deeds_on, deeds}
use Rattle.code_meaning.proofs.More.{end, done}
use Rattle.log_law.specs.inserted.Moved.{code_of_function, places_of, begins, stands, moved_site}
use Rattle.log_law.specs.inserted.Moved.{moved_deed, moved_deeds}
use Rattle.log_law.specs.inside.Moved.{moved_frames, moved_state, move_moved}
use Rattle.log_law.specs.inserted.Law.{HasResult, LoggedEndLaw, MovedDeedsLaw}
use Rattle.log_law.proofs.inserted.Standing.{function_at, standing}

-- an instruction has one log, or none
pub one_log : (flag : Bool) (i : Instruction) → (logs flag i ≡ [])
    ⊎ ((x : Instruction) × (logs flag i ≡ x ∷ []))
one_log false i = inl refl
one_log true (Store target from line) = inr (Log target, refl)
one_log true (Const to value) = inl refl
one_log true (Copy to from) = inl refl
one_log true (Bin op to left right) = inl refl
one_log true (Jump place) = inl refl
one_log true (Branch on place) = inl refl
one_log true (Load to target) = inl refl
one_log true (New to kind log_fill line) = inl refl
one_log true (Free from kind line) = inl refl
one_log true (Call to function args) = inl refl
one_log true (Return from) = inl refl
one_log true Tick = inl refl
one_log true (Trap kind) = inl refl
one_log true (Log target) = inl refl

-- it is a log
pub log_is : (flag : Bool) (i x : Instruction) → logs flag i ≡ x ∷ [] → (t : Target) × (x ≡ Log t)
log_is false i x e = absurd (cc)
log_is true (Store target from line) x e = (target, cc)
log_is true (Const to value) x e = absurd (cc)
log_is true (Copy to from) x e = absurd (cc)
log_is true (Bin op to left right) x e = absurd (cc)
log_is true (Jump place) x e = absurd (cc)
log_is true (Branch on place) x e = absurd (cc)
log_is true (Load to target) x e = absurd (cc)
log_is true (New to kind log_fill line) x e = absurd (cc)
log_is true (Free from kind line) x e = absurd (cc)
log_is true (Call to function args) x e = absurd (cc)
log_is true (Return from) x e = absurd (cc)
log_is true Tick x e = absurd (cc)
log_is true (Trap kind) x e = absurd (cc)
log_is true (Log target) x e = absurd (cc)

frames_length : (marks : MarkTable) (us : List IrFunction) (below : List Frame)
    → length (moved_frames marks us below) ≡ length below
frames_length marks us [] = refl
frames_length marks us (c ∷ below) = ap suc (frames_length marks us below)

module _ (marks : MarkTable) (ir : Ir) where
  abbrev us : List IrFunction
  us = ir.functions

  abbrev M : Ir
  M = logged_program marks ir

  moves_ok : {A : Type 0} (r : Result A TrapKind) (go go' : A → Move)
      → ((a : A) → go' a ≡ move_moved marks us (go a))
      → with_ok r go' ≡ move_moved marks us (with_ok r go)
  moves_ok (Ok a) go go' same = same a
  moves_ok (Err k) go go' same = refl

  moves_word : (o : Option ℤ) (go go' : ℤ → Move) → ((v : ℤ) → go' v ≡ move_moved marks us (go v))
      → with_word o go' ≡ move_moved marks us (with_word o go)
  moves_word None go go' same = refl
  moves_word (Some v) go go' same = same v

  moves_tick : (t : ℕ) (go go' : ℕ → Move) → ((n : ℕ) → go' n ≡ move_moved marks us (go n))
      → takes_tick t go' ≡ move_moved marks us (takes_tick t go)
  moves_tick zero go go' same = refl
  moves_tick (suc t) go go' same = same t

  moves_if : (b : Bool) (x y x' y' : Move) → x' ≡ move_moved marks us x → y' ≡ move_moved marks us y
      → (if b then x' else y') ≡ move_moved marks us (if b then x else y)
  moves_if true x y x' y' e g = e
  moves_if false x y x' y' e g = g

  moves_gives : (below : List Frame) (v : ℤ) (w : PoolMap) (t : ℕ)
      → gives (moved_frames marks us below) v w t ≡ move_moved marks us (gives below v w t)
  moves_gives [] v w t = refl
  moves_gives (frame f p regs to ∷ below) v w t = refl

  first_place : (g : ℕ) → begins marks us g 0 ≡ 0
  first_place g = first (flags_from marks g 0 (code_of_function us g)) (code_of_function us g)
    where
      first : (flags : List Bool) (code : List Instruction)
          → place_in (places_from flags 0 0 code) 0 ≡ 0
      first flags [] = refl
      first flags (i ∷ code) = refl

  moves_opens : (o : Option IrFunction) (g : ℕ) (args : List ℤ) (below : List Frame)
      (w : PoolMap) (t : ℕ) →
      opens (option_map (logged_function marks g) o) g args (moved_frames marks us below) w t
      ≡ move_moved marks us (opens o g args below w t)
  moves_opens None g args below w t = refl
  moves_opens (Some u) g args below w t =
      ap (λ (n : ℕ). if nat_lt n open_limit
      then Goes (Here g 0 args (moved_frames marks us below) w t) else Ends (Trapped Depth))
      (frames_length marks us below)
      ∙ moves_if (nat_lt (length below) open_limit) (Goes (Here g 0 args below w t))
      (Ends (Trapped Depth)) (Goes (Here g 0 args (moved_frames marks us below) w t))
      (Ends (Trapped Depth))
      (ap (λ (p : ℕ). Goes (Here g p args (moved_frames marks us below) w t)) (sym (first_place g)))
      refl

  -- q: the new place of the instruction; the next instruction begins right after it
  acts : (i : Instruction) (f p q : ℕ) (regs : List ℤ) (below : List Frame) (w : PoolMap) (t : ℕ)
      → begins marks us f (suc p) ≡ suc q →
      act M (Some (led (places_of marks us f) (flagged marks f p i) i)) f q regs
      (moved_frames marks us below) w t ≡ move_moved marks us (act ir (Some i) f p regs below w t)
  acts (Const to v) f p q regs below w t e =
      ap (λ (n : ℕ). Goes (Here f n (put_register regs to v) (moved_frames marks us below) w t))
      (sym e)
  acts (Copy to from) f p q regs below w t e =
      ap (λ (n : ℕ). Goes (Here f n (put_register regs to (register_at regs from))
      (moved_frames marks us below) w t)) (sym e)
  acts (Bin o to a b) f p q regs below w t e =
      moves_word (word_of o (register_at regs a) (register_at regs b)) _ _
      (λ v. ap (λ (n : ℕ). Goes (Here f n (put_register regs to v)
      (moved_frames marks us below) w t))
      (sym e))
  acts (Jump place) f p q regs below w t e = refl
  acts (Branch on place) f p q regs below w t e =
      moves_if (is_zero (register_at regs on)) _ _ _ _ refl
      (ap (λ (n : ℕ). Goes (Here f n regs (moved_frames marks us below) w t)) (sym e))
  acts (Load to x) f p q regs below w t e =
      moves_ok (spot_of ir.shapes w x (base_in regs x) (index_in regs x)) _ _
      (λ s. ap (λ (n : ℕ). Goes (Here f n (put_register regs to (load_spot w s))
      (moved_frames marks us below) w t)) (sym e))
  acts (Store x from line) f p q regs below w t e =
      moves_ok (spot_of ir.shapes w x (base_in regs x) (index_in regs x)) _ _
      (λ s. ap (λ (n : ℕ). Goes (Here f n regs (moved_frames marks us below)
      (store_spot w s (register_at regs from)) t)) (sym e))
  acts (New to kind log_fill line) f p q regs below w t e =
      ap (λ (n : ℕ). Goes (Here f n (put_register regs to (new_in ir.shapes w kind).0)
      (moved_frames marks us below) (new_in ir.shapes w kind).1 t)) (sym e)
  acts (Free from kind line) f p q regs below w t e =
      moves_ok (free_in w kind (register_at regs from)) _ _
      (λ v. ap (λ (n : ℕ). Goes (Here f n regs (moved_frames marks us below) v t)) (sym e))
  acts (Call to g args) f p q regs below w t e =
      ap (λ (o : Option IrFunction).
      opens o g (map (register_at regs) args)
      (frame f (suc q) regs to ∷ moved_frames marks us below) w t) (function_at marks 0 us g
      ∙ ap (λ (n : ℕ). option_map (logged_function marks n) (slice_get us g)) (zero_add g))
      ∙ ap (λ (n : ℕ). opens (option_map (logged_function marks g) (slice_get us g)) g
      (map (register_at regs) args) (frame f n regs to ∷ moved_frames marks us below) w t) (sym e)
      ∙ moves_opens (slice_get us g) g (map (register_at regs) args)
      (frame f (suc p) regs to ∷ below) w t
    where
      zero_add : (n : ℕ) → 0 + n ≡ n
      zero_add n = omega arith
  acts (Return from) f p q regs below w t e = moves_gives below (register_at regs from) w t
  acts Tick f p q regs below w t e =
      moves_tick t _ _ (λ n. ap (λ (m : ℕ). Goes (Here f m regs (moved_frames marks us below) w n))
      (sym e))
  acts (Trap k) f p q regs below w t e = refl
  acts (Log x) f p q regs below w t e =
      ap (λ (n : ℕ). Goes (Here f n regs (moved_frames marks us below) w t)) (sym e)

  ok_deeds : {A : Type 0} (r : Result A TrapKind) (go go' : A → List Deed)
      → ((a : A) → go' a ≡ moved_deeds marks us (go a))
      → if_ok r go' ≡ moved_deeds marks us (if_ok r go)
  ok_deeds (Ok a) go go' same = same a
  ok_deeds (Err k) go go' same = refl

  zeros_deeds : (s s' : Site) (slot i n : ℕ) → s' ≡ moved_site marks us s
      → zeros s' slot i n ≡ moved_deeds marks us (zeros s slot i n)
  zeros_deeds s s' slot i zero e = refl
  zeros_deeds s s' slot i (suc n) e =
      ap (λ (x : Site). Writes x (InSlot slot i) (pos 0) ∷ zeros s' slot (suc i) n) e
      ∙ ap (λ (ds : List Deed). Writes (moved_site marks us s) (InSlot slot i) (pos 0) ∷ ds)
      (zeros_deeds s s' slot (suc i) n e)

  site_is : (f p q : ℕ) (b : Bool) → q ≡ stands marks us f p
      → site f q b ≡ moved_site marks us (site f p b)
  site_is f p q b e = ap (λ (n : ℕ). site f n b) e

  new_deeds : (f p q kind words : ℕ) (o : Option ℕ) → q ≡ stands marks us f p
      → deeds_new f q kind words o ≡ moved_deeds marks us (deeds_new f p kind words o)
  new_deeds f p q kind words None e = refl
  new_deeds f p q kind words (Some s) e =
      ap (λ (x : Site). Heads x s (pos kind) ∷ zeros (site f q true) s 0 words)
      (site_is f p q false e)
      ∙ ap (λ (ds : List Deed). Heads (moved_site marks us (site f p false)) s (pos kind) ∷ ds)
      (zeros_deeds (site f p true) (site f q true) s 0 words (site_is f p q true e))

  does : (i : Instruction) (table : List ℕ) (flag : Bool) (f p q : ℕ) (regs : List ℤ) (w : PoolMap)
      → q ≡ stands marks us f p →
      deeds_at M.shapes f q regs w (Some (led table flag i)) ≡ moved_deeds marks us
      (deeds_at ir.shapes f p regs w (Some i))
  does (Load to x) table flag f p q regs w e =
      ok_deeds (spot_of ir.shapes w x (base_in regs x) (index_in regs x)) _ _ (λ s. refl)
  does (Store x from line) table flag f p q regs w e =
      ok_deeds (spot_of ir.shapes w x (base_in regs x) (index_in regs x)) _ _
      (λ s. ap (λ (n : Site). Writes n s (register_at regs from) ∷ []) (site_is f p q false e))
  does (New to kind log_fill line) table flag f p q regs w e =
      new_deeds f p q kind (words_of (fields_of ir.shapes kind)) (least_free w) e
  does (Free from kind line) table flag f p q regs w e =
      ok_deeds (slot_of w kind (register_at regs from)) _ _
      (λ s. ap (λ (n : Site). Heads n s (pos 0) ∷ []) (site_is f p q false e))
  does (Const to v) table flag f p q regs w e = refl
  does (Copy to from) table flag f p q regs w e = refl
  does (Bin o to a b) table flag f p q regs w e = refl
  does (Jump place) table flag f p q regs w e = refl
  does (Branch on place) table flag f p q regs w e = refl
  does (Call to g args) table flag f p q regs w e = refl
  does (Return from) table flag f p q regs w e = refl
  does Tick table flag f p q regs w e = refl
  does (Trap k) table flag f p q regs w e = refl
  does (Log x) table flag f p q regs w e = refl

  -- what a step leads to, with the number of steps of the code with its logs: one, one more after a
  -- log, and none for a log that is left out
  pub record Step (c : CodeState) (n : ℕ) : Type 0 where
    pub few : n ≤ 2
    pub end_is : (k : ℕ) → exec M (n + k) (moved_state marks us c) ≡ go_on (exec M k)
        (move_moved marks us (instruction_step ir c))
    pub deeds_are : (k : ℕ) → deeds M (n + k) (moved_state marks us c) ≡ moved_deeds marks us
        (deeds_of ir c) ++ deeds_on (deeds M k) (move_moved marks us (instruction_step ir c))

  -- a log that is left out
  skips : (f p : ℕ) (regs : List ℤ) (below : List Frame) (w : PoolMap) (t : ℕ) (i : Instruction)
      → instruction_at us f p ≡ Some i → is_log i ≡ true → Step (Here f p regs below w t) 0
  skips f p regs below w t (Log x) e log =
      let s = standing marks ir f p (Log x) e in
      let c : CodeState = Here f p regs below w t in
      let next : instruction_step ir c ≡ Goes (Here f (suc p) regs below w t) =
      ap (λ (o : Option Instruction). act ir o f p regs below w t) e in
      let quiet : deeds_of ir c ≡ [] = ap (deeds_at ir.shapes f p regs w) e in
      let there : moved_state marks us c ≡ moved_state marks us (Here f (suc p) regs below w t) =
      ap (λ (n : ℕ). Here f n regs (moved_frames marks us below) w t) (sym (s.skipped refl)) in
      record {
        few = omega arith;
        end_is = λ k. ap (λ (n : ℕ). exec M n (moved_state marks us c)) (none_add k)
            ∙ ap (exec M k) there ∙ ap (λ (v : Move). go_on (exec M k) (move_moved marks us v))
            (sym next);
        deeds_are = λ k.
            ap (λ (n : ℕ). deeds M n (moved_state marks us c)) (none_add k) ∙ ap (deeds M k) there
            ∙ ap (λ (v : Move). deeds_on (deeds M k) (move_moved marks us v)) (sym next)
            ∙ ap (λ (ds : List Deed). moved_deeds marks us ds ++ deeds_on (deeds M k)
            (move_moved marks us (instruction_step ir c))) (sym quiet);
      }
    where
      none_add : (k : ℕ) → 0 + k ≡ k
      none_add k = omega arith
  skips f p regs below w t (Const to v) e log = absurd (false≢true log)
  skips f p regs below w t (Copy to from) e log = absurd (false≢true log)
  skips f p regs below w t (Bin o to a b) e log = absurd (false≢true log)
  skips f p regs below w t (Jump place) e log = absurd (false≢true log)
  skips f p regs below w t (Branch on place) e log = absurd (false≢true log)
  skips f p regs below w t (Load to x) e log = absurd (false≢true log)
  skips f p regs below w t (Store x from line) e log = absurd (false≢true log)
  skips f p regs below w t (New to kind log_fill line) e log = absurd (false≢true log)
  skips f p regs below w t (Free from kind line) e log = absurd (false≢true log)
  skips f p regs below w t (Call to g args) e log = absurd (false≢true log)
  skips f p regs below w t (Return from) e log = absurd (false≢true log)
  skips f p regs below w t Tick e log = absurd (false≢true log)
  skips f p regs below w t (Trap k) e log = absurd (false≢true log)

  follows_own : (f p : ℕ) (regs : List ℤ) (below : List Frame) (w : PoolMap) (t : ℕ)
      (i : Instruction) → instruction_at us f p ≡ Some i → is_log i ≡ false
      → (n : ℕ) × Step (Here f p regs below w t) n
  follows_own f p regs below w t i e no_log =
      let s = standing marks ir f p i e in
      let q : ℕ = stands marks us f p in
      let table : List ℕ = places_of marks us f in
      let act_is : instruction_step ir (Here f p regs below w t) ≡ act ir (Some i) f p regs below w
      t = ap (λ (o : Option Instruction). act ir o f p regs below w t) e in
      let self_is : instruction_step M (Here f q regs (moved_frames marks us below) w t)
      ≡ move_moved marks us (instruction_step ir (Here f p regs below w t)) =
      ap (λ (o : Option Instruction). act M o f q regs (moved_frames marks us below) w t)
      (s.self no_log) ∙ acts i f p q regs below w t (s.next no_log)
      ∙ ap (move_moved marks us) (sym act_is) in
      let deeds_is : deeds_of M (Here f q regs (moved_frames marks us below) w t)
      ≡ moved_deeds marks us (deeds_of ir (Here f p regs below w t)) =
      ap (deeds_at M.shapes f q regs w) (s.self no_log) ∙ does i table (flagged marks f p i) f p q
      regs w refl ∙ ap (λ (o : Option Instruction).
      moved_deeds marks us (deeds_at ir.shapes f p regs w o)) (sym e) in
      let one_end : (k : ℕ) → exec M (1 + k) (Here f q regs (moved_frames marks us below) w t)
      ≡ go_on (exec M k) (move_moved marks us (instruction_step ir (Here f p regs below w t))) =
      λ k.
      ap (λ (n : ℕ). exec M n (Here f q regs (moved_frames marks us below) w t)) (one_add k)
      ∙ ap (go_on (exec M k)) self_is in
      let one_deeds : (k : ℕ) → deeds M (1 + k) (Here f q regs (moved_frames marks us below) w t)
      ≡ moved_deeds marks us (deeds_of ir (Here f p regs below w t)) ++ deeds_on (deeds M k)
      (move_moved marks us (instruction_step ir (Here f p regs below w t))) = λ k.
      ap (λ (n : ℕ). deeds M n (Here f q regs (moved_frames marks us below) w t)) (one_add k)
      ∙ ap (λ (ds : List Deed). ds ++ deeds_on (deeds M k)
      (instruction_step M (Here f q regs (moved_frames marks us below) w t))) deeds_is
      ∙ ap (λ (v : Move). moved_deeds marks us (deeds_of ir (Here f p regs below w t))
      ++ deeds_on (deeds M k) v) self_is in
      elim (one_log (flagged marks f p i) i) [
        | inl none ↦
            let here : begins marks us f p ≡ q = sym (s.none none) in (
              1,
              record {
                few = omega arith;
                end_is = λ k. ap (λ (n : ℕ). exec M (1 + k)
                    (Here f n regs (moved_frames marks us below) w t)) here ∙ one_end k;
                deeds_are = λ k. ap (λ (n : ℕ).
                    deeds M (1 + k) (Here f n regs (moved_frames marks us below) w t)) here
                    ∙ one_deeds k;
              },
            )
        | inr some ↦
            let log = s.log some.0 some.1 in
            let x = log_is (flagged marks f p i) i some.0 some.1 in
            let b : ℕ = begins marks us f p in
            let there : instruction_at M.functions f b ≡ Some (Log x.0) =
            log.0 ∙ ap (λ (j : Instruction). Some j) x.1 in
            let first : instruction_step M (Here f b regs (moved_frames marks us below) w t)
            ≡ Goes (Here f q regs (moved_frames marks us below) w t) =
            ap (λ (o : Option Instruction). act M o f b regs (moved_frames marks us below) w t)
            there ∙ ap (λ (n : ℕ). Goes (Here f n regs (moved_frames marks us below) w t))
            (sym log.1) in
            let quiet : deeds_of M (Here f b regs (moved_frames marks us below) w t) ≡ [] =
            ap (deeds_at M.shapes f b regs w) there in (
              2,
              record {
                few = omega arith;
                end_is = λ k. ap (λ (n : ℕ). exec M n
                    (Here f b regs (moved_frames marks us below) w t)) (two_add k)
                    ∙ ap (go_on (exec M (1 + k))) first ∙ one_end k;
                deeds_are = λ k.
                    ap (λ (n : ℕ). deeds M n (Here f b regs (moved_frames marks us below) w t))
                    (two_add k)
                    ∙ ap (λ (ds : List Deed). ds ++ deeds_on (deeds M (1 + k))
                    (instruction_step M (Here f b regs (moved_frames marks us below) w t))) quiet
                    ∙ ap (deeds_on (deeds M (1 + k))) first
                    ∙ one_deeds k;
              },
            )
      ]
    where
      one_add : (k : ℕ) → 1 + k ≡ suc k
      one_add k = omega arith

      two_add : (k : ℕ) → 2 + k ≡ suc (1 + k)
      two_add k = omega arith

  follows : (f p : ℕ) (regs : List ℤ) (below : List Frame) (w : PoolMap) (t : ℕ) (i : Instruction)
      → instruction_at us f p ≡ Some i → (n : ℕ) × Step (Here f p regs below w t) n
  follows f p regs below w t i e = by_kind (is_log i) refl
    where
      by_kind : (b : Bool) → is_log i ≡ b → (n : ℕ) × Step (Here f p regs below w t) n
      by_kind true log = (0, skips f p regs below w t i e log)
      by_kind false no_log = follows_own f p regs below w t i e no_log

  moved_append : (ds es : List Deed) → moved_deeds marks us (ds ++ es) ≡ moved_deeds marks us ds
      ++ moved_deeds marks us es
  moved_append [] es = refl
  moved_append (d ∷ ds) es = ap (λ (l : List Deed). moved_deed marks us d ∷ l) (moved_append ds es)

  abbrev Alike : ℕ → CodeState → Type 0
  Alike k c = (exec M (2 * k) (moved_state marks us c) ≡ exec ir k c)
      × (deeds M (2 * k) (moved_state marks us c) ≡ moved_deeds marks us (deeds ir k c))

  done_over : (e : CodeEnd) → HasResult e → IsOver e
  done_over (Ended w v t) h = tt
  done_over (Trapped k) h = tt
  done_over Unfinished h = absurd h
  done_over Stuck h = absurd h

  -- m: the number of steps left to the code with its logs, which is enough
  moves_on : (k m : ℕ) (v : Move) → ((c : CodeState) → HasResult (exec ir k c) → Alike k c)
      → 2 * k ≤ m → HasResult (go_on (exec ir k) v) →
      (go_on (exec M m) (move_moved marks us v) ≡ go_on (exec ir k) v)
      × (deeds_on (deeds M m) (move_moved marks us v) ≡ moved_deeds marks us
      (deeds_on (deeds ir k) v))
  moves_on k m (Ends e) next le h = (refl, refl)
  moves_on k m (Goes c) next le h =
      let n = next c h in
      let over : IsOver (exec M (2 * k) (moved_state marks us c)) =
      subst IsOver (sym n.0) (done_over (exec ir k c) h) in (
        end M (2 * k) m (moved_state marks us c) le over ∙ n.0,
        done M (2 * k) m (moved_state marks us c) le over ∙ n.1,
      )

  at_all : (o : Option Instruction) → (o ≡ None) ⊎ ((i : Instruction) × (o ≡ Some i))
  at_all None = inl refl
  at_all (Some i) = inr (i, refl)

  alike : (k : ℕ) (c : CodeState) → HasResult (exec ir k c) → Alike k c
  alike zero c h = absurd h
  alike (suc k) (Here f p regs below w t) h =
      let c : CodeState = Here f p regs below w t in
      elim (at_all (instruction_at us f p)) [
        | inl none ↦
            let stuck : instruction_step ir c ≡ Ends Stuck =
            ap (λ (o : Option Instruction). act ir o f p regs below w t) none in
            let end_is : exec ir (suc k) c ≡ Stuck = ap (go_on (exec ir k)) stuck in
            absurd (subst HasResult end_is h)
        | inr some ↦
            let s = follows f p regs below w t some.0 some.1 in
            let m : ℕ = 2 * suc k - s.0 in
            let split : 2 * suc k ≡ s.0 + m = omega (arith, s.1.few) in
            let rest = moves_on k m (instruction_step ir c) (λ d. alike k d)
            (omega (arith, s.1.few)) h in (
              ap (λ (n : ℕ). exec M n (moved_state marks us c)) split ∙ s.1.end_is m ∙ rest.0,
              ap (λ (n : ℕ). deeds M n (moved_state marks us c)) split ∙ s.1.deeds_are m
                  ∙ ap (λ (ds : List Deed). moved_deeds marks us (deeds_of ir c) ++ ds) rest.1
                  ∙ sym (moved_append (deeds_of ir c)
                  (deeds_on (deeds ir k) (instruction_step ir c))),
            )
      ]

  start_is : (f : ℕ) (args : List ℤ) (w : PoolMap) (t : ℕ)
      → moved_state marks us (code_start f args w t) ≡ code_start f args w t
  start_is f args w t = ap (λ (p : ℕ). Here f p args [] w t) (first_place f)

pub same_end : LoggedEndLaw
same_end marks ir f args w t k h =
    ap (exec (logged_program marks ir) (2 * k)) (sym (start_is marks ir f args w t))
    ∙ (alike marks ir k (code_start f args w t) h).0

pub same_deeds : MovedDeedsLaw
same_deeds marks ir f args w t k h =
    ap (deeds (logged_program marks ir) (2 * k)) (sym (start_is marks ir f args w t))
    ∙ (alike marks ir k (code_start f args w t) h).1
