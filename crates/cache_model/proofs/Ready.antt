-- A line is ready if a fence leaves it only its newest version.
use Rattle.std.proofs.Common.{◌≡◌, ◌≢◌, inl, inr, ℕ, ◌==◌, cond, Bool, true, false, List, [], ◌∷◌}
use Rattle.std.proofs.Common.{length, Some, None, Option, refl, subst, arith}
use Rattle.std.proofs.lemmas.Bool.{eqb-false}
use Rattle.std.proofs.lemmas.List.{drop_all}
use Rattle.cache_model.specs.Event.{Flush, Fence}
use Rattle.cache_model.specs.Cache.{Words, Line, Cache}
use Rattle.cache_model.specs.Play.{flush_line, fence_at, apply, IsReady}
use Rattle.cache_model.specs.Image.{Among, IsVersion}

ready_flush : (older : List Words) (newest : Words) (m : Option ℕ)
    → IsReady (flush_line (record { older = older; newest = newest; mark = m }))
ready_flush [] n None = refl
ready_flush [] n (Some k) = drop_all k [] (omega arith)
ready_flush (v ∷ vs) n m = drop_all (length (v ∷ vs)) (v ∷ vs) (omega arith)

flush_ready_of : (b : Bool) (l : Line) → (b ≡ false → IsReady l) → IsReady (cond b (flush_line l) l)
flush_ready_of true l h = ready_flush l.older l.newest l.mark
flush_ready_of false l h = h refl

pub flush_ready : (c : Cache) (k l : ℕ) → (l ≢ k → IsReady (c l)) → IsReady (apply c (Flush k) l)
unfolding apply
flush_ready c k l h = flush_ready_of (l == k) (c l) (λ off. h (eqb-false l k off))

single_of : (m : Option ℕ) (l : Line) (v : Words) → (fence_at m l).older ≡ []
    → IsVersion (fence_at m l) v → v ≡ l.newest
single_of m l v e (inr h) = absurd (subst (λ (us : List Words). Among us v) e h)
single_of None l v e (inl s) = s
single_of (Some k) l v e (inl s) = s

-- after the fence, the only version of a ready line is its newest one
pub fence_single : (c : Cache) (l : ℕ) (v : Words) → IsReady (c l) → IsVersion (apply c Fence l) v
    → v ≡ (c l).newest
unfolding apply
fence_single c l v ready h = single_of (c l).mark (c l) v ready h
