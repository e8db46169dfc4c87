-- A cache at rest has one image, its view, and a power cut leaves a cache with that image alone.
use Rattle.std.proofs.Common.{◌≡◌, ⊎_elim, ℕ, ◌/◌, List, refl, sym, ap, ◌∙◌, subst}
use Rattle.cache_model.specs.Cache.{Words, Cache, view}
use Rattle.cache_model.specs.Image.{Among, IsVersion, Images, HasOne}
use Rattle.cache_model.specs.Collapse.{left_cache}
use Rattle.cache_model.specs.declared.choice.Rest.{Rest}
use Rattle.cache_model.specs.declared.choice.Pick.{Pick}
use Rattle.cache_model.proofs.Collapses.{left_image}
use Rattle.crash_law.specs.Law.{IsAtRest}
use Rattle.cut_law.proofs.Misses.{view_image}

-- each version of a line at rest is its newest
pub rest_newest : (c : Cache) → IsAtRest c → (l : ℕ) (v : Words) → IsVersion (c l) v
    → v ≡ (c l).newest
rest_newest c rest l v is = ⊎_elim (λ (e : v ≡ (c l).newest). e)
    (λ among. absurd (subst (λ (us : List Words). Among us v) (rest l) among)) is

pub rest_one : (c : Cache) → IsAtRest c → HasOne c (view c)
unfolding view
rest_one c rest image is p =
    let version = is (p / 8) in
    version.2 p refl ∙ ap (λ (v : Words). v p) (rest_newest c rest (p / 8) version.0 version.1)

pub rest_images : (P : Words → Type 0) (c : Cache) → IsAtRest c → P (view c) → Images P c
rest_images P c rest holds image is = subst P (λ i p. sym (rest_one c rest image is p) i) holds

pub at_view : (P : Words → Type 0) (c : Cache) → Images P c → P (view c)
at_view P c all = all (view c) (view_image c)

pub left_rest : (c : Cache) (rest : Rest) (picks : List Pick) → IsAtRest (left_cache c rest picks)
unfolding left_cache
left_rest c rest picks l = refl

pub at_left : (P : Words → Type 0) (c : Cache) (rest : Rest) (picks : List Pick) → Images P c
    → P (view (left_cache c rest picks))
at_left P c rest picks all = all (view (left_cache c rest picks)) (left_image c rest picks)
