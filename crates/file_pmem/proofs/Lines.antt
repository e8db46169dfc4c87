-- What a store, a flush and a fence leave among the versions of a line.
use Rattle.std.proofs.Common.{◌≡◌, inl, inr, ℕ, zero, suc, ◌≤◌, List, [], ◌∷◌, ◌++◌, drop}
use Rattle.std.proofs.Common.{length, Option, Some, None, ℤ, refl, arith, sym, subst}
use Rattle.cache_model.specs.Cache.{Words, Line}
use Rattle.cache_model.specs.Play.{store_line, flush_line, fence_at, fence_line, mark_of}
use Rattle.cache_model.specs.Image.{Among, IsVersion}

among_last : (us : List Words) (n : Words) → Among (us ++ n ∷ []) n
among_last [] n = inl refl
among_last (u ∷ us) n = inr (among_last us n)

among_before : (us : List Words) (n v : Words) → Among us v → Among (us ++ n ∷ []) v
among_before [] n v h = absurd h
among_before (u ∷ us) n v (inl e) = inl e
among_before (u ∷ us) n v (inr h) = inr (among_before us n v h)

drop_last : (k : ℕ) (us : List Words) (n : Words) → k ≤ length us → Among (drop k (us ++ n ∷ [])) n
drop_last zero us n le = among_last us n
drop_last (suc k) [] n le = absurd (let h : ⊥ = omega arith in h)
drop_last (suc k) (u ∷ us) n le = drop_last k us n (omega arith)

drop_before : (k : ℕ) (us : List Words) (n v : Words) → Among (drop k us) v
    → Among (drop k (us ++ n ∷ [])) v
drop_before zero us n v h = among_before us n v h
drop_before (suc k) [] n v h = absurd h
drop_before (suc k) (u ∷ us) n v h = drop_before k us n v h

-- a store drops no version
pub stored_version : (y : Line) (p : ℕ) (x : ℤ) (v : Words) → IsVersion y v
    → IsVersion (store_line y p x) v
stored_version y p x v (inl e) =
    inr (subst (λ (w : Words). Among (y.older ++ y.newest ∷ []) w) (sym e)
    (among_last y.older y.newest))
stored_version y p x v (inr h) = inr (among_before y.older y.newest v h)

fenced_of : (m : Option ℕ) (y : Line) (p : ℕ) (x : ℤ) (v : Words)
    → ((k : ℕ) → m ≡ Some k → k ≤ length y.older) → IsVersion (fence_at m y) v
    → IsVersion (fence_at m (store_line y p x)) v
fenced_of None y p x v fits h = stored_version y p x v h
fenced_of (Some k) y p x v fits (inl e) =
    inr (subst (λ (w : Words). Among (drop k (y.older ++ y.newest ∷ [])) w) (sym e)
    (drop_last k y.older y.newest (fits k refl)))
fenced_of (Some k) y p x v fits (inr h) = inr (drop_before k y.older y.newest v h)

-- nor does it drop one that a fence keeps
pub stored_fenced : (y : Line) (p : ℕ) (x : ℤ) (v : Words)
    → ((k : ℕ) → y.mark ≡ Some k → k ≤ length y.older) → IsVersion (fence_line y) v
    → IsVersion (fence_line (store_line y p x)) v
stored_fenced y p x v fits h = fenced_of y.mark y p x v fits h

newest_of : (m : Option ℕ) (y : Line) → IsVersion (fence_at m y) y.newest
newest_of None y = inl refl
newest_of (Some k) y = inl refl

-- a fence keeps the newest version
pub newest_fenced : (y : Line) → IsVersion (fence_line y) y.newest
newest_fenced y = newest_of y.mark y

again_of : (m : Option ℕ) (y : Line) (v : Words) → m ≡ y.mark → IsVersion (fence_at m y) v
    → IsVersion (fence_line (fence_at m y)) v
again_of None y v e h = subst (λ (m : Option ℕ). IsVersion (fence_at m y) v) e h
again_of (Some k) y v e h = h

-- a second fence drops nothing
pub fenced_again : (y : Line) (v : Words) → IsVersion (fence_line y) v
    → IsVersion (fence_line (fence_line y)) v
fenced_again y v h = again_of y.mark y v refl h

marked_of : (us : List Words) (m : Option ℕ) (k : ℕ) → (m ≡ Some k → k ≤ length us)
    → mark_of us m ≡ Some k → k ≤ length us
marked_of [] m k fits e = fits e
marked_of (v ∷ vs) m k fits e =
    let is : suc (length vs) ≡ k = cc in
    omega arith

-- a flush marks a version
pub flushed_mark : (y : Line) (k : ℕ) → (y.mark ≡ Some k → k ≤ length y.older)
    → (flush_line y).mark ≡ Some k → k ≤ length y.older
flushed_mark y k fits e = marked_of y.older y.mark k fits e

none_some : (o : Option ℕ) (k : ℕ) → None ≡ o → o ≡ Some k → ⊥
none_some None k e f = cc
none_some (Some j) k e f = cc

unmarked_of : (m : Option ℕ) (y : Line) (k : ℕ) → m ≡ y.mark → (fence_at m y).mark ≡ Some k → ⊥
unmarked_of None y k e f = none_some y.mark k e f
unmarked_of (Some j) y k e f = none_some None k refl f

-- after a fence there is no mark
pub fenced_mark : (y : Line) (k : ℕ) → (fence_line y).mark ≡ Some k → ⊥
fenced_mark y k e = unmarked_of y.mark y k refl e

length_more : (us : List Words) (n : Words) (k : ℕ) → k ≤ length us → k ≤ length (us ++ n ∷ [])
length_more [] n k le = omega arith
length_more (u ∷ us) n zero le = omega arith
length_more (u ∷ us) n (suc k) le =
    let h : k ≤ length (us ++ n ∷ []) = length_more us n k (omega arith) in
    omega arith

pub stored_mark : (y : Line) (p : ℕ) (x : ℤ) (k : ℕ) → k ≤ length y.older
    → k ≤ length (store_line y p x).older
stored_mark y p x k le = length_more y.older y.newest k le
