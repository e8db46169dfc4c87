-- Parts of a run with their accesses, and lists read as maps.
use Rattle.std.proofs.Common.{◌≡◌, ◌≢◌, ℕ, zero, suc, ◌+◌, ◌*◌, ◌≤◌, ℤ, List, [], ◌∷◌, ◌++◌, map}
use Rattle.std.proofs.Common.{refl, sym, ap, subst, ◌∙◌, arith, add_assoc, zero-add, append_assoc}
use Rattle.std.proofs.Common.{append-nil}
use Rattle.std.proofs.Math.Numerals.{one-add}
use Rattle.std.proofs.lemmas.List.{map-append}
use Rattle.std.specs.Prelude.{Option}
use Rattle.pool_map.specs.PoolMap.{PoolMap}
use Rattle.c_meaning.specs.Accesses.{Access}
use Rattle.ir.specs.declared.instruction.Instruction.{Instruction}
use Rattle.ir.specs.declared.function.Ir.{Ir}
use Rattle.code_meaning.specs.Code.{Frame, CodeState, Move, Goes, act, instruction_step, go_on}
use Rattle.code_meaning.specs.Code.{exec, register_at, put_register}
use Rattle.code_meaning.specs.Deeds.{deeds, deeds_at, deeds_of, deeds_on}
use Rattle.lower_law.specs.Accesses.{access_of}

-- an instruction, or a step, with its accesses
abbrev pub acted : Ir → Option Instruction → (f p : ℕ) → List ℤ → List Frame → PoolMap
    → (ticks : ℕ) → Move × List Access
acted ir i f p regs below w t =
    (act ir i f p regs below w t, map access_of (deeds_at ir.shapes f p regs w i))

abbrev pub stepped : Ir → CodeState → Move × List Access
stepped ir c = (instruction_step ir c, map access_of (deeds_of ir c))

abbrev pub doing : Move → List Access → Move × List Access
doing d done = (d, done)

abbrev pub silent : Move → Move × List Access
silent d = doing d []

-- the accesses of at most k steps, and those after a move
abbrev pub seen_in : Ir → (k : ℕ) → CodeState → List Access
seen_in ir k c = map access_of (deeds ir k c)

abbrev pub seen_on : Ir → (k : ℕ) → Move → List Access
seen_on ir k d = map access_of (deeds_on (deeds ir k) d)

-- c leads to d in n steps, with these accesses. If each tick pays for m steps, n is at most the way
-- from p to q.
pub record Path (ir : Ir) (m : ℕ) (c : CodeState) (d : Move) (p t q t' : ℕ)
    (done : List Access) : Type 0 where
  pub n : ℕ
  pub comes : (k : ℕ) → exec ir (n + k) c ≡ go_on (exec ir k) d
  pub sees : (k : ℕ) → seen_in ir (n + k) c ≡ done ++ seen_on ir k d
  pub falls : t' ≤ t
  pub cost : n + p + m * t' ≤ m * t + q

suc_add : (n k : ℕ) → suc n + k ≡ suc (n + k)
suc_add n k = omega arith

-- the end and the accesses of one step more
step_comes : (ir : Ir) (k : ℕ) (c : CodeState) (d : Move) (done : List Access)
    → stepped ir c ≡ (d, done) → exec ir (suc k) c ≡ go_on (exec ir k) d
step_comes ir k c d done h = ap (λ (x : Move × List Access). go_on (exec ir k) x.0) h

step_sees : (ir : Ir) (k : ℕ) (c : CodeState) (d : Move) (done : List Access)
    → stepped ir c ≡ (d, done) → seen_in ir (suc k) c ≡ done ++ seen_on ir k d
step_sees ir k c d done h =
    map-append access_of (deeds_of ir c) (deeds_on (deeds ir k) (instruction_step ir c))
    ∙ ap (λ (x : Move × List Access). x.1 ++ seen_on ir k x.0) h

module _ {ir : Ir} {m : ℕ} where
  pub path_then : {c d : CodeState} {e : Move} {p t q t' r t'' : ℕ} (done later : List Access)
      → Path ir m c (Goes d) p t q t' done → Path ir m d e q t' r t'' later
      → Path ir m c e p t r t'' (done ++ later)
  path_then {c} {d} {e} done later a b = record {
    n = a.n + b.n;
    comes = λ k. ap (λ j. exec ir j c) (add_assoc a.n b.n k) ∙ a.comes (b.n + k) ∙ b.comes k;
    sees = λ k. ap (λ j. seen_in ir j c) (add_assoc a.n b.n k) ∙ a.sees (b.n + k)
        ∙ ap (λ l. done ++ l) (b.sees k) ∙ sym (append_assoc done later (seen_on ir k e));
    falls = omega (arith, a.falls, b.falls);
    cost = omega (arith, a.cost, b.cost);
  }

  pub path_more : {c : CodeState} {e : Move} {p t q t' q' : ℕ} {done : List Access} → q ≤ q'
      → Path ir m c e p t q t' done → Path ir m c e p t q' t' done
  path_more le a = record {
    n = a.n;
    comes = a.comes;
    sees = a.sees;
    falls = a.falls;
    cost = omega (arith, a.cost);
  }

  -- no accesses follow
  pub path_nil : {c : CodeState} {e : Move} {p t q t' : ℕ} (done : List Access)
      → Path ir m c e p t q t' done → Path ir m c e p t q t' (done ++ [])
  path_nil {c} {e} {p} {t} {q} {t'} done a =
      subst (λ l. Path ir m c e p t q t' l) (sym (append-nil done)) a

  -- and then steps without an access
  pub path_on : {c d : CodeState} {e : Move} {p t q t' r t'' : ℕ} (done : List Access)
      → Path ir m c (Goes d) p t q t' done → Path ir m d e q t' r t'' []
      → Path ir m c e p t r t'' done
  path_on {c} {d} {e} {p} {t} {q} {t'} {r} {t''} done a b =
      subst (λ l. Path ir m c e p t r t'' l) (append-nil done) (path_then done [] a b)

  -- no step
  pub path_none : (c : CodeState) (p t : ℕ) → Path ir m c (Goes c) p t p t []
  path_none c p t = record {
    n = 0;
    comes = λ k. ap (λ j. exec ir j c) (zero-add k);
    sees = λ k. ap (λ j. seen_in ir j c) (zero-add k);
    falls = omega arith;
    cost = omega arith;
  }

  pub path_step : {c : CodeState} {e : Move} {done : List Access} (p t : ℕ)
      → stepped ir c ≡ (e, done) → Path ir m c e p t (suc p) t done
  path_step {c} {e} {done} p t h = record {
    n = 1;
    comes = λ k. ap (λ j. exec ir j c) (one-add k) ∙ step_comes ir k c e done h;
    sees = λ k. ap (λ j. seen_in ir j c) (one-add k) ∙ step_sees ir k c e done h;
    falls = omega arith;
    cost = omega arith;
  }

  -- a step that ends the run
  pub path_ends : {c : CodeState} {e : Move} {done : List Access} (p t : ℕ)
      → stepped ir c ≡ (e, done) → Path ir m c e p t (suc p) 0 done
  path_ends {c} {e} {done} p t h = record {
    n = 1;
    comes = λ k. ap (λ j. exec ir j c) (one-add k) ∙ step_comes ir k c e done h;
    sees = λ k. ap (λ j. seen_in ir j c) (one-add k) ∙ step_sees ir k c e done h;
    falls = omega arith;
    cost = omega arith;
  }

  -- a tick pays for m steps
  pub path_tick : {c d : CodeState} {e : Move} {p0 t q t' : ℕ} {done : List Access} (p q' : ℕ)
      → p + suc q ≤ m + q' + p0 → stepped ir c ≡ silent (Goes d) → Path ir m d e p0 t q t' done
      → Path ir m c e p (suc t) q' t' done
  path_tick {c} {d} p q' le h a = record {
    n = suc a.n;
    comes = λ k. ap (λ j. exec ir j c) (suc_add a.n k)
        ∙ step_comes ir (a.n + k) c (Goes d) [] h ∙ a.comes k;
    sees = λ k. ap (λ j. seen_in ir j c) (suc_add a.n k)
        ∙ step_sees ir (a.n + k) c (Goes d) [] h ∙ a.sees k;
    falls = omega (arith, a.falls);
    cost = omega (arith, a.cost);
  }

  -- a first step, with other marks
  pub path_first : {c d : CodeState} {e : Move} {p0 t q t' : ℕ} {done : List Access} (p q' : ℕ)
      → p + suc q ≤ q' + p0 → stepped ir c ≡ silent (Goes d) → Path ir m d e p0 t q t' done
      → Path ir m c e p t q' t' done
  path_first {c} {d} p q' le h a = record {
    n = suc a.n;
    comes = λ k. ap (λ j. exec ir j c) (suc_add a.n k)
        ∙ step_comes ir (a.n + k) c (Goes d) [] h ∙ a.comes k;
    sees = λ k. ap (λ j. seen_in ir j c) (suc_add a.n k)
        ∙ step_sees ir (a.n + k) c (Goes d) [] h ∙ a.sees k;
    falls = a.falls;
    cost = omega (arith, a.cost);
  }

pub at-put_other : (l : List ℤ) (x y : ℕ) (v : ℤ) → x ≢ y → register_at (put_register l x v) y
    ≡ register_at l y
at-put_other [] zero zero v ne = absurd (ne refl)
at-put_other [] zero (suc y) v ne = refl
at-put_other [] (suc x) zero v ne = refl
at-put_other [] (suc x) (suc y) v ne = at-put_other [] x y v (λ e. ne (ap suc e))
at-put_other (a ∷ l) zero zero v ne = absurd (ne refl)
at-put_other (a ∷ l) zero (suc y) v ne = refl
at-put_other (a ∷ l) (suc x) zero v ne = refl
at-put_other (a ∷ l) (suc x) (suc y) v ne = at-put_other l x y v (λ e. ne (ap suc e))
