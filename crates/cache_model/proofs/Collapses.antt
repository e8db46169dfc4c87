-- After a power cut there is one image, and it is an image of the cache before.
use Rattle.std.proofs.Common.{◌≡◌, ◌⊎◌, inl, inr, ⊎_elim, ℕ, zero, suc, ◌/◌, List, [], ◌∷◌, ◌++◌}
use Rattle.std.proofs.Common.{get_or, Some, None, Option, refl, ap, ◌∙◌}
use Rattle.cache_model.specs.Cache.{Words, Line, Cache, view}
use Rattle.cache_model.specs.Image.{Among, IsVersion, IsImage, HasOne}
use Rattle.cache_model.specs.Collapse.{kept, left_cache, picked}
use Rattle.cache_model.specs.declared.choice.Rest.{Rest}
use Rattle.cache_model.specs.declared.choice.Rest.TheVariants.{Old, New}
use Rattle.cache_model.specs.declared.choice.Pick.{Pick}

at_of : (us : List Words) (n : Words) (k : ℕ) → (get_or (us ++ n ∷ []) k n ≡ n)
    ⊎ Among us (get_or (us ++ n ∷ []) k n)
at_of [] n zero = inl refl
at_of [] n (suc k) = inl refl
at_of (u ∷ us) n zero = inr (inl refl)
at_of (u ∷ us) n (suc k) = ⊎_elim (λ e. inl e) (λ a. inr (inr a)) (at_of us n k)

kept_version : (rest : Rest) (pick : Option ℕ) (l : Line) → IsVersion l (kept rest pick l)
kept_version Old None l = at_of l.older l.newest 0
kept_version New None l = inl refl
kept_version rest (Some k) l = at_of l.older l.newest k

pub left_image : (c : Cache) (rest : Rest) (picks : List Pick)
    → IsImage c (view (left_cache c rest picks))
unfolding view left_cache
left_image c rest picks l = (
  kept rest (picked picks l) (c l),
  kept_version rest (picked picks l) (c l),
  λ p on. ap (λ (k : ℕ). kept rest (picked picks k) (c k) p) on,
)

pub left_one : (c : Cache) (rest : Rest) (picks : List Pick)
    → HasOne (left_cache c rest picks) (view (left_cache c rest picks))
unfolding view left_cache
left_one c rest picks image is p =
    let version = is (p / 8) in
    version.2 p refl ∙ ⊎_elim (λ (e : version.0 ≡ kept rest (picked picks (p / 8)) (c (p / 8))).
    ap (λ (v : Words). v p) e) (λ none. absurd none) version.1
