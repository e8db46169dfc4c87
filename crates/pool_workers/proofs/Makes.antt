-- The events that create one compartment, followed by those of the rest.
use Rattle.std.proofs.Common.{◌≡◌, ℕ, suc, ◌+◌, ◌*◌, ◌-◌, ◌<◌, ◌≤◌, ℤ, List, [], ◌∷◌, ◌++◌, refl}
use Rattle.std.proofs.Common.{sym, ap, ap₂, ◌∙◌, subst, arith}
use Rattle.std.proofs.Math.Nat.{mul-le-mul_left}
use Rattle.cache_model.specs.Event.{CacheEvent}
use Rattle.pmem.specs.Device.{Device, less_one}
use Rattle.pmem.specs.Played.{PlaysAll, PlaysPart}
use Rattle.pmem.specs.declared.answer.Refusal.{Refusal}
use Rattle.pmem.proofs.Glue.{all_append, part_left, part_right}
use Rattle.pool_layout.specs.declared.limits.Sizes.{Sizes}
use Rattle.pool_layout.specs.Sizes.{pool_lines}
use Rattle.args_log.specs.Created.{sizes_events, digest_events, head_events, creation_events}
use Rattle.pool_workers.specs.Compartment.{lifted, first_line}
use Rattle.pool_workers.specs.Making.{lifted_all, creations}
use Rattle.pool_workers.specs.inside.Making.{parts_at}

lifted_append : (f : ℕ) (es fs : List CacheEvent) →
    lifted_all f (es ++ fs) ≡ lifted_all f es ++ lifted_all f fs
lifted_append f [] fs = refl
lifted_append f (e ∷ es) fs = ap (λ (gs : List CacheEvent). lifted f e ∷ gs) (lifted_append f es fs)

parts : (f : ℕ) (s : Sizes) (digest : List ℤ) →
    lifted_all f (creation_events s digest) ≡ parts_at f s digest
parts f s digest =
    lifted_append f (sizes_events s) (digest_events digest ++ head_events)
    ∙ ap (λ (es : List CacheEvent). lifted_all f (sizes_events s) ++ es)
    (lifted_append f (digest_events digest) head_events)

creations_at : (s : Sizes) (digest : List ℤ) (worker n : ℕ) → worker < n →
    creations s digest worker (n - worker) ≡ parts_at (first_line s worker) s digest
    ++ creations s digest (worker + 1) (n - (worker + 1))
creations_at s digest worker n less_one =
    let left : n - worker ≡ suc (n - (worker + 1)) = omega arith in
    ap (creations s digest worker) left
    ∙ ap₂ (λ (es : List CacheEvent) (w : ℕ). es ++ creations s digest w (n - (worker + 1)))
    (parts (first_line s worker) s digest) (add_one worker)
  where
    add_one : (w : ℕ) → suc w ≡ w + 1
    add_one w = omega arith

module _ (s : Sizes) (digest : List ℤ) (worker n first : ℕ) (less_one : worker < n)
    (is : first ≡ first_line s worker) (d : Device) where
  pub all_next : (a b : Device) → PlaysAll d (parts_at first s digest) a →
      PlaysAll a (creations s digest (worker + 1) (n - (worker + 1))) b →
      PlaysAll d (creations s digest worker (n - worker)) b
  all_next a b one rest =
      subst (λ (es : List CacheEvent). PlaysAll d es b)
      (sym (creations_at s digest worker n less_one))
      (all_append (parts_at (first_line s worker) s digest)
      (creations s digest (worker + 1) (n - (worker + 1))) d a b
      (subst (λ (f : ℕ). PlaysAll d (parts_at f s digest) a) is one) rest)

  pub part_next : (why : Refusal) (a b : Device) → PlaysAll d (parts_at first s digest) a →
      PlaysPart why a (creations s digest (worker + 1) (n - (worker + 1))) b →
      PlaysPart why d (creations s digest worker (n - worker)) b
  part_next why a b one rest =
      subst (λ (es : List CacheEvent). PlaysPart why d es b)
      (sym (creations_at s digest worker n less_one))
      (part_right (parts_at (first_line s worker) s digest)
      (creations s digest (worker + 1) (n - (worker + 1))) why d a b
      (subst (λ (f : ℕ). PlaysAll d (parts_at f s digest) a) is one) rest)

  pub part_first : (why : Refusal) (b : Device) → PlaysPart why d (parts_at first s digest) b →
      PlaysPart why d (creations s digest worker (n - worker)) b
  part_first why b one =
      subst (λ (es : List CacheEvent). PlaysPart why d es b)
      (sym (creations_at s digest worker n less_one))
      (part_left (parts_at (first_line s worker) s digest)
      (creations s digest (worker + 1) (n - (worker + 1))) why d b
      (subst (λ (f : ℕ). PlaysPart why d (parts_at f s digest) b) is one))

  pub room : d.lines ≡ pool_lines s * n → first + 6 ≤ d.lines
  room lines =
      let some : worker + 1 ≤ n = omega arith in
      let more : pool_lines s * (worker + 1) ≤ pool_lines s * n =
      mul-le-mul_left (pool_lines s) some in
      omega arith
