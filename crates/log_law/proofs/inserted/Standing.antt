-- The places of each instruction and its log in code with its logs.
use Rattle.std.proofs.Common.{◌≡◌, ℕ, zero, suc, ◌+◌, ◌^◌, ◌-◌, Bool, true, false, List, [], ◌∷◌}
use Rattle.std.proofs.Common.{◌++◌, length, Option, Some, None, refl, sym, ap, ◌∙◌, subst, arith}
use Rattle.std.proofs.Common.{length-append, append_assoc}
use Rattle.std.specs.Option.{option_map_or}
use Rattle.std.specs.Prelude.{slice_get, slice_index_or, if◌then◌else◌, option_map}
use Rattle.std.specs.Prelude.{option_and_then}
use Rattle.std.proofs.lemmas.Bool.{false≢true}
use Rattle.ir.specs.declared.instruction.Target.{Target}
use Rattle.ir.specs.declared.instruction.Instruction.{Instruction}
use Rattle.ir.specs.declared.instruction.Instruction.TheVariants.{Const, Copy, Bin, Jump, Branch}
use Rattle.ir.specs.declared.instruction.Instruction.TheVariants.{Load, Store, New, Free, Call}
use Rattle.ir.specs.declared.instruction.Instruction.TheVariants.{Return, Tick, Trap, Log}
use Rattle.ir.specs.declared.function.IrFunction.{IrFunction}
use Rattle.ir.specs.declared.function.Ir.{Ir}
use Rattle.ir.specs.Places.{instruction_at}
use Rattle.clobber_pass.specs.declared.marking.MarkTable.{MarkTable}
use Rattle.clobber_pass.specs.Logged.{is_logged}
use Rattle.instrument.specs.Insert.{logs, own, logged_width, flag_at, places_from, led}
use Rattle.ir.specs.Moving.{is_log}
use Rattle.instrument.specs.Insert.{logged_from, flagged, flags_from, with_flags, logged_function}
use Rattle.instrument.specs.Insert.{logged_functions, logged_program}
use Rattle.code_meaning.specs.Deeds.{site}
use Rattle.instrument.proofs.LoggedCode.{own_length}
use Rattle.log_law.specs.inserted.Moved.{code_of_function, places_of, begins, logs_before, stands}
use Rattle.log_law.specs.inserted.Law.{LoggedStoreLaw, FillLaw}

get_after : {A : Type 0} (pre rest : List A) (k : ℕ) → slice_get (pre ++ rest) (length pre + k)
    ≡ slice_get rest k
get_after [] rest k = let e : 0 + k ≡ k = omega arith in ap (slice_get rest) e
get_after (x ∷ pre) rest k = let e : suc (length pre) + k ≡ suc (length pre + k) = omega arith in
    ap (slice_get (x ∷ (pre ++ rest))) e ∙ get_after pre rest k

-- the flag of an instruction
pub flag_is : (marks : MarkTable) (f q : ℕ) (code : List Instruction) (p : ℕ) (i : Instruction)
    → slice_get code p ≡ Some i → flag_at (flags_from marks f q code) p ≡ flagged marks f (q + p) i
flag_is marks f q [] p i e = absurd (cc)
flag_is marks f q (j ∷ code) zero i e =
    let same : j ≡ i = cc in
    let at : q ≡ q + 0 = omega arith in
    ap (λ (k : Instruction). flagged marks f q k) same ∙ ap (λ (n : ℕ). flagged marks f n i) at
flag_is marks f q (j ∷ code) (suc p) i e =
    let at : suc q + p ≡ q + suc p = omega arith in
    flag_is marks f (suc q) code p i e ∙ ap (λ (n : ℕ). flagged marks f n i) at

module _ (table : List ℕ) (flags : List Bool) where
  -- an instruction with its log, after other code
  pub record IsAt (all : List Instruction) (p q : ℕ) (flag : Bool) (i : Instruction) : Type 0 where
    pub front : List Instruction
    pub rest : List Instruction
    pub is : all ≡ front ++ (logs flag i ++ (own table flag i ++ rest))
    pub long : length front ≡ p
    pub next : q ≡ p + logged_width flag i

  at_is : (k at : ℕ) (pre code : List Instruction) (p d : ℕ) (i : Instruction) → length pre ≡ at →
      slice_get code p ≡ Some i →
      IsAt (pre ++ logged_from table flags k code)
      (slice_index_or (places_from flags k at code) p d)
      (slice_index_or (places_from flags k at code) (suc p) d) (flag_at flags (k + p)) i
  at_is k at pre [] p d i long e = absurd (cc)
  at_is k at pre (j ∷ code) zero d i long e =
      let same : j ≡ i = cc in
      let here : k ≡ k + 0 = omega arith in
      subst (λ (n : ℕ). IsAt (pre ++ logged_from table flags k (j ∷ code))
      at (slice_index_or (places_from flags (suc k) (at + logged_width (flag_at flags k) j) code)
      0 d) (flag_at flags n) i) here
      (subst (λ (x : Instruction). IsAt (pre ++ logged_from table flags k (j ∷ code))
      at (slice_index_or (places_from flags (suc k) (at + logged_width (flag_at flags k) j) code)
      0 d) (flag_at flags k) x) same
      (record {
        front = pre;
        rest = logged_from table flags (suc k) code;
        is = refl;
        long = long;
        next = first_place (suc k) (at + logged_width (flag_at flags k) j) code d;
      }))
    where
      first_place : (k at : ℕ) (code : List Instruction) (d : ℕ)
          → slice_index_or (places_from flags k at code) 0 d ≡ at
      first_place k at [] d = refl
      first_place k at (i ∷ code) d = refl
  at_is k at pre (j ∷ code) (suc p) d i long e =
      let flag : Bool = flag_at flags k in
      let pre' : List Instruction = pre ++ (logs flag j ++ own table flag j) in
      let cut : pre' ++ logged_from table flags (suc k) code ≡ pre ++ logged_from table flags k
      (j ∷ code) =
      append_assoc pre (logs flag j ++ own table flag j) (logged_from table flags (suc k) code)
      ∙ ap (λ (is : List Instruction). pre ++ is)
      (append_assoc (logs flag j) (own table flag j) (logged_from table flags (suc k) code)) in
      let one : length (logs flag j ++ own table flag j) ≡ logged_width flag j =
      length-append (logs flag j) (own table flag j) ∙ ap (λ (n : ℕ). length (logs flag j) + n)
      (own_length table flag j) in
      let longer : length pre' ≡ at + logged_width flag j =
      length-append pre (logs flag j ++ own table flag j) ∙ omega arith in
      let next : suc k + p ≡ k + suc p = omega arith in
      subst (λ (n : ℕ). IsAt (pre ++ logged_from table flags k (j ∷ code))
      (slice_index_or (places_from flags (suc k) (at + logged_width flag j) code) p d)
      (slice_index_or (places_from flags (suc k) (at + logged_width flag j) code) (suc p) d)
      (flag_at flags n) i) next
      (subst (λ (is : List Instruction).
      IsAt is (slice_index_or (places_from flags (suc k) (at + logged_width flag j) code) p d)
      (slice_index_or (places_from flags (suc k) (at + logged_width flag j) code) (suc p) d)
      (flag_at flags (suc k + p)) i) cut
      (at_is (suc k) (at + logged_width flag j) pre' code p d i longer e))

-- the functions of a program with its logs
pub function_at : (marks : MarkTable) (k : ℕ) (us : List IrFunction) (f : ℕ)
    → slice_get (logged_functions marks k us) f ≡ option_map (logged_function marks (k + f))
    (slice_get us f)
function_at marks k [] f = refl
function_at marks k (u ∷ us) zero = let e : k ≡ k + 0 = omega arith in
    ap (λ (n : ℕ). Some (logged_function marks n u)) e
function_at marks k (u ∷ us) (suc f) =
    let e : suc k + f ≡ k + suc f = omega arith in
    function_at marks (suc k) us f
    ∙ ap (λ (n : ℕ). option_map (logged_function marks n) (slice_get us f)) e

-- a log that was in the code before gets no log
log_alone : (flag : Bool) (i : Instruction) → is_log i ≡ true → logs flag i ≡ []
log_alone false i log = refl
log_alone true (Log target) log = refl
log_alone true (Store target from line) log = absurd (false≢true log)
log_alone true (Const to value) log = refl
log_alone true (Copy to from) log = refl
log_alone true (Bin op to left right) log = refl
log_alone true (Jump place) log = refl
log_alone true (Branch on place) log = refl
log_alone true (Load to target) log = refl
log_alone true (New to kind log_fill line) log = refl
log_alone true (Free from kind line) log = refl
log_alone true (Call to function args) log = refl
log_alone true (Return from) log = refl
log_alone true Tick log = refl
log_alone true (Trap kind) log = refl

module _ (marks : MarkTable) (ir : Ir) where
  abbrev pub L : Ir
  L = logged_program marks ir

  -- function f of the code with its logs, at an instruction
  pub record Stands (f p : ℕ) (i : Instruction) : Type 0 where
    pub self : is_log i ≡ false → instruction_at L.functions f (stands marks ir.functions f p)
        ≡ Some (led (places_of marks ir.functions f) (flagged marks f p i) i)
    pub next : is_log i ≡ false → begins marks ir.functions f (suc p)
        ≡ suc (stands marks ir.functions f p)
    pub skipped : is_log i ≡ true → begins marks ir.functions f (suc p)
        ≡ begins marks ir.functions f p
    pub log : (x : Instruction) → logs (flagged marks f p i) i ≡ x ∷ []
        → (instruction_at L.functions f (begins marks ir.functions f p) ≡ Some x)
        × (stands marks ir.functions f p ≡ suc (begins marks ir.functions f p))
    pub none : logs (flagged marks f p i) i ≡ []
        → stands marks ir.functions f p ≡ begins marks ir.functions f p

  pub code_is : (f : ℕ) (u : IrFunction) → slice_get ir.functions f ≡ Some u → (q : ℕ)
      → instruction_at L.functions f q ≡ slice_get (with_flags (flags_from marks f 0 u.code) u.code)
      q
  code_is f u found q =
      let there : slice_get L.functions f ≡ Some (logged_function marks f u) =
      function_at marks 0 ir.functions f ∙ ap (option_map (logged_function marks (0 + f))) found
      ∙ ap (λ (n : ℕ). Some (logged_function marks n u)) (zero_add f) in
      ap (option_and_then (λ (v : IrFunction). slice_get v.code q)) there
    where
      zero_add : (n : ℕ) → 0 + n ≡ n
      zero_add n = omega arith

  found_in : (f p : ℕ) (o : Option IrFunction) (i : Instruction)
      → option_and_then (λ (u : IrFunction). slice_get u.code p) o ≡ Some i → (u : IrFunction)
      × (o ≡ Some u) × (slice_get u.code p ≡ Some i)
  found_in f p None i e = absurd (cc)
  found_in f p (Some u) i e = (u, refl, e)

  pub standing : (f p : ℕ) (i : Instruction) → instruction_at ir.functions f p ≡ Some i
      → Stands f p i
  standing f p i e =
      let o = found_in f p (slice_get ir.functions f) i e in
      let u : IrFunction = o.0 in
      let found : slice_get ir.functions f ≡ Some u = o.1 in
      let code : code_of_function ir.functions f ≡ u.code =
      ap (λ (v : Option IrFunction). option_map_or (λ (x : IrFunction). x.code) v []) found in
      let flags : List Bool = flags_from marks f 0 (code_of_function ir.functions f) in
      let table : List ℕ = places_of marks ir.functions f in
      let flag : Bool = flagged marks f p i in
      let zero_p : 0 + p ≡ p = omega arith in
      let inside : slice_get (code_of_function ir.functions f) p ≡ Some i =
      ap (λ (is : List Instruction). slice_get is p) code ∙ o.2 in
      let flag_at_p : flag_at flags (0 + p) ≡ flag =
      ap (flag_at flags) zero_p ∙ flag_is marks f 0 (code_of_function ir.functions f) p i inside
      ∙ ap (λ (n : ℕ). flagged marks f n i) zero_p in
      let at : IsAt table flags (logged_from table flags 0 (code_of_function ir.functions f))
      (begins marks ir.functions f p) (begins marks ir.functions f (suc p)) flag i =
      subst (λ (b : Bool). IsAt table flags
      (logged_from table flags 0 (code_of_function ir.functions f))
      (begins marks ir.functions f p) (begins marks ir.functions f (suc p)) b i) flag_at_p
      (at_is table flags 0 0 [] (code_of_function ir.functions f) p (2 ^ 32 - 1) i refl inside) in
      let before : logs_before marks f p (instruction_at ir.functions f p) ≡ logs flag i =
      ap (logs_before marks f p) e in
      let place : stands marks ir.functions f p ≡ begins marks ir.functions f p
      + length (logs flag i) = ap (λ (is : List Instruction). begins marks ir.functions f p
      + length is) before in
      let there : (q : ℕ) → instruction_at L.functions f q
      ≡ slice_get (at.front ++ (logs flag i ++ (own table flag i ++ at.rest))) q = λ q.
      code_is f u found q ∙ ap (λ (is : List Instruction).
      slice_get (with_flags (flags_from marks f 0 is) is) q) (sym code)
      ∙ ap (λ (is : List Instruction). slice_get is q) at.is in
      record {
        self = λ no_log.
            there (stands marks ir.functions f p)
            ∙ ap (slice_get (at.front ++ (logs flag i ++ (own table flag i ++ at.rest))))
            (place ∙ ap (λ (n : ℕ). n + length (logs flag i)) (sym at.long))
            ∙ get_after at.front (logs flag i ++ (own table flag i ++ at.rest))
            (length (logs flag i))
            ∙ ap (slice_get (logs flag i ++ (own table flag i ++ at.rest)))
            (plus_zero (length (logs flag i)))
            ∙ get_after (logs flag i) (own table flag i ++ at.rest) 0
            ∙ ap (λ (b : Bool). slice_get ((if b then [] else led table flag i ∷ []) ++ at.rest) 0)
            no_log;
        next = λ no_log.
            at.next ∙ ap (λ (b : Bool). begins marks ir.functions f p
            + (length (logs flag i) + (if b then 0 else 1))) no_log
            ∙ wider (begins marks ir.functions f p) (length (logs flag i)) ∙ ap suc (sym place);
        skipped = λ log.
            at.next ∙ ap (λ (b : Bool). begins marks ir.functions f p
            + (length (logs flag i) + (if b then 0 else 1))) log
            ∙ ap (λ (is : List Instruction). begins marks ir.functions f p + (length is + 0))
            (log_alone flag i log) ∙ no_wider (begins marks ir.functions f p);
        log = λ x one. (
          there (begins marks ir.functions f p)
              ∙ ap (slice_get (at.front ++ (logs flag i ++ (own table flag i ++ at.rest))))
              (sym at.long ∙ plus_zero (length at.front))
              ∙ get_after at.front (logs flag i ++ (own table flag i ++ at.rest)) 0
              ∙ ap (λ (is : List Instruction). slice_get (is ++ (own table flag i ++ at.rest)) 0)
              one,
          place ∙ ap (λ (is : List Instruction). begins marks ir.functions f p + length is) one
              ∙ plus_one (begins marks ir.functions f p),
        );
        none = λ e. place ∙ ap (λ (is : List Instruction). begins marks ir.functions f p
            + length is) e ∙ sym (plus_zero (begins marks ir.functions f p));
      }
    where
      plus_zero : (n : ℕ) → n ≡ n + 0
      plus_zero n = omega arith

      plus_one : (n : ℕ) → n + 1 ≡ suc n
      plus_one n = omega arith

      wider : (n m : ℕ) → n + (m + 1) ≡ suc (n + m)
      wider n m = omega arith

      no_wider : (n : ℕ) → n + (0 + 0) ≡ n
      no_wider n = omega arith

logs_store : (flag : Bool) (x : Target) (from line : ℕ) → flag ≡ true
    → logs flag (Store x from line) ≡ Log x ∷ []
logs_store flag x from line e = ap (λ (b : Bool). logs b (Store x from line)) e

pub store_stands : LoggedStoreLaw
store_stands marks ir f p x from line e marked =
    let s = standing marks ir f p (Store x from line) e in
    let log = s.log (Log x) (logs_store (is_logged marks (site f p false)) x from line marked) in
    (log.1 ∙ plus_one (begins marks ir.functions f p), log.0, s.self refl)
  where
    plus_one : (n : ℕ) → suc n ≡ n + 1
    plus_one n = omega arith

pub fill_stands : FillLaw
fill_stands marks ir f p to kind line flag e =
    (standing marks ir f p (New to kind flag line) e).self refl
