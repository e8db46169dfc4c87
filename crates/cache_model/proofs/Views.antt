-- The effect of a store, a flush and a fence on the view.
use Rattle.std.proofs.Common.{◌≡◌, ◌≢◌, ℕ, ◌/◌, ◌==◌, cond, Bool, true, false, Some, None}
use Rattle.std.proofs.Common.{Option, ℤ, refl, sym, ap, ◌∙◌}
use Rattle.std.proofs.lemmas.Bool.{eqb-false}
use Rattle.cache_model.specs.Event.{Store, Flush, Fence}
use Rattle.cache_model.specs.Cache.{put, Line, Cache, view}
use Rattle.cache_model.specs.Play.{store_line, flush_line, fence_at, apply}
use Rattle.cache_model.proofs.Versions.{put_same, put_other}

view_store_of : (b : Bool) (l : Line) (p q : ℕ) (x : ℤ) → (b ≡ false → q ≢ p)
    → (cond b (store_line l p x) l).newest q ≡ put l.newest p x q
view_store_of true l p q x ne = refl
view_store_of false l p q x ne = sym (put_other l.newest p q x (ne refl))

pub view_store : (c : Cache) (p q : ℕ) (x : ℤ) → view (apply c (Store p x)) q ≡ put (view c) p x q
unfolding view apply put
view_store c p q x = view_store_of (q / 8 == p / 8) (c (q / 8)) p q x
    (λ off e. eqb-false (q / 8) (p / 8) off (ap (λ (n : ℕ). n / 8) e))

pub view_same : (c : Cache) (p : ℕ) (x : ℤ) → view (apply c (Store p x)) p ≡ x
view_same c p x = view_store c p p x ∙ put_same (view c) p x

pub view_other : (c : Cache) (p q : ℕ) (x : ℤ) → q ≢ p → view (apply c (Store p x)) q ≡ view c q
view_other c p q x ne = view_store c p q x ∙ put_other (view c) p q x ne

view_flush_of : (b : Bool) (l : Line) (q : ℕ) → (cond b (flush_line l) l).newest q ≡ l.newest q
view_flush_of true l q = refl
view_flush_of false l q = refl

pub view_flush : (c : Cache) (k q : ℕ) → view (apply c (Flush k)) q ≡ view c q
unfolding view apply
view_flush c k q = view_flush_of (q / 8 == k) (c (q / 8)) q

view_fence_of : (m : Option ℕ) (l : Line) (q : ℕ) → (fence_at m l).newest q ≡ l.newest q
view_fence_of None l q = refl
view_fence_of (Some k) l q = refl

pub view_fence : (c : Cache) (q : ℕ) → view (apply c Fence) q ≡ view c q
unfolding view apply
view_fence c q = view_fence_of (c (q / 8)).mark (c (q / 8)) q
