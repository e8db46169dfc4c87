-- The effect of a store, a flush and a fence on the versions of a line.
use Rattle.std.proofs.Common.{◌≡◌, ◌≢◌, ◌⊎◌, inl, inr, ⊎_elim, ℕ, zero, suc, ◌/◌, ◌==◌, cond, Bool}
use Rattle.std.proofs.Common.{true, false, List, [], ◌∷◌, ◌++◌, drop, Some, None, Option, ℤ, refl}
use Rattle.std.proofs.Common.{ap, eqb-true, eq-eqb, ne_eqb}
use Rattle.cache_model.specs.Event.{Store, Flush, Fence}
use Rattle.cache_model.specs.Cache.{Words, put, Line, Cache}
use Rattle.cache_model.specs.Play.{store_line, flush_line, fence_at, apply}
use Rattle.cache_model.specs.Image.{Among, IsVersion}

pub put_same : (v : Words) (p : ℕ) (x : ℤ) → put v p x p ≡ x
unfolding put
put_same v p x = ap (λ (b : Bool). cond b x (v p)) (eq-eqb p p refl)

pub put_other : (v : Words) (p q : ℕ) (x : ℤ) → q ≢ p → put v p x q ≡ v q
unfolding put
put_other v p q x ne = ap (λ (b : Bool). cond b x (v q)) (ne_eqb q p ne)

pub put_cong : (u v : Words) (p q : ℕ) (x : ℤ) → u q ≡ v q → put u p x q ≡ put v p x q
unfolding put
put_cong u v p q x e = ap (λ (y : ℤ). cond (q == p) x y) e

among_push : (us : List Words) (n v : Words) → Among (us ++ n ∷ []) v → Among us v ⊎ (v ≡ n)
among_push [] n v (inl e) = inr e
among_push [] n v (inr none) = absurd none
among_push (u ∷ us) n v (inl e) = inl (inl e)
among_push (u ∷ us) n v (inr h) = ⊎_elim (λ a. inl (inr a)) (λ e. inr e) (among_push us n v h)

pub among_drop : (k : ℕ) (us : List Words) (v : Words) → Among (drop k us) v → Among us v
among_drop zero us v h = h
among_drop (suc k) [] v h = h
among_drop (suc k) (u ∷ us) v h = inr (among_drop k us v h)

store_of : (b : Bool) (l : Line) (p : ℕ) (x : ℤ) (v : Words)
    → IsVersion (cond b (store_line l p x) l) v
    → IsVersion l v ⊎ ((b ≡ true) × (v ≡ put l.newest p x))
store_of true l p x v (inl e) = inr (refl, e)
store_of true l p x v (inr h) =
    inl (⊎_elim (λ a. inr a) (λ e. inl e) (among_push l.older l.newest v h))
store_of false l p x v h = inl h

-- a store adds one version to its line
pub store_version : (c : Cache) (p : ℕ) (x : ℤ) (l : ℕ) (v : Words)
    → IsVersion (apply c (Store p x) l) v → IsVersion (c l) v
    ⊎ ((l ≡ p / 8) × (v ≡ put (c l).newest p x))
unfolding apply
store_version c p x l v h = ⊎_elim (λ old. inl old) (λ new. inr (eqb-true l (p / 8) new.0, new.1))
    (store_of (l == p / 8) (c l) p x v h)

flush_of : (b : Bool) (l : Line) (v : Words) → IsVersion (cond b (flush_line l) l) v → IsVersion l v
flush_of true l v h = h
flush_of false l v h = h

pub flush_version : (c : Cache) (k l : ℕ) (v : Words) → IsVersion (apply c (Flush k) l) v
    → IsVersion (c l) v
unfolding apply
flush_version c k l v h = flush_of (l == k) (c l) v h

fence_of : (m : Option ℕ) (l : Line) (v : Words) → IsVersion (fence_at m l) v → IsVersion l v
fence_of None l v h = h
fence_of (Some k) l v (inl e) = inl e
fence_of (Some k) l v (inr h) = inr (among_drop k l.older v h)

pub fence_version : (c : Cache) (l : ℕ) (v : Words) → IsVersion (apply c Fence l) v
    → IsVersion (c l) v
unfolding apply
fence_version c l v h = fence_of (c l).mark (c l) v h

store_other_of : (b : Bool) (l : Line) (p : ℕ) (x : ℤ) → b ≡ false → cond b (store_line l p x) l ≡ l
store_other_of true l p x e = absurd (cc)
store_other_of false l p x e = refl

-- a store leaves the other lines unchanged
pub store_other : (c : Cache) (p l : ℕ) (x : ℤ) → l ≢ p / 8 → apply c (Store p x) l ≡ c l
unfolding apply
store_other c p l x ne = store_other_of (l == p / 8) (c l) p x (ne_eqb l (p / 8) ne)
