-- A cache with one image is at rest if its view is; images before a call are at rest and show the
-- same pool.
use Rattle.std.proofs.Common.{◌≡◌, inl, ℕ, suc, ◌+◌, ◌-◌, ◌^◌, ◌<◌, ◌≤◌, Bool, true, false, ◌&&◌}
use Rattle.std.proofs.Common.{if◌then◌else◌, nat_lt, nat_le, ltb, ℤ, pos, ◌+ℤ◌, refl, sym, ap, ◌∙◌}
use Rattle.std.proofs.Common.{subst, arith, int_eq, rules}
use Rattle.std.proofs.lemmas.Bool.{ltb-false}
use Rattle.std.proofs.lemmas.Bool.Decides.{Decides-int_eq}
use Rattle.cache_model.specs.Cache.{Words, Cache, view}
use Rattle.cache_model.specs.Image.{IsImage, Images, HasOne}
use Rattle.pool_layout.specs.declared.places.TheConstants.{DONE, ATTEMPT, SEAL}
use Rattle.pool_layout.specs.declared.limits.Sizes.{Sizes}
use Rattle.pool_layout.specs.declared.places.Place.TheVariants.{Heap}
use Rattle.pool_layout.specs.Places.{at, pool_of}
use Rattle.pool_layout.specs.Sizes.{heap_words}
use Rattle.pool_layout.specs.Good.{Pool}
use Rattle.clobber_log.specs.Logs.{attempt_of, count_in}
use Rattle.recovery.specs.Found.{has_numbers}
use Rattle.crash_law.specs.Pools.{IsBefore}
use Rattle.cnvm_session.specs.Laws.{TellTheSame, IsQuiet, IsCacheAtRest}

view_image : (c : Cache) → IsImage c (view c)
unfolding view
view_image c l = ((c l).newest, inl refl, λ p on. ap (λ (i : ℕ). (c i).newest p) on)

pub one_rests : (s : Sizes) (c : Cache) → HasOne c (view c) → IsQuiet s (view c) → IsCacheAtRest s c
one_rests s c only quiet =
    record {
      quiet = λ image is. subst (IsQuiet s) (sym (same image is)) quiet;
      alike = λ image is. subst (λ (w : Words). TellTheSame s image w) (same image is)
          (record { heap = refl; done = refl; value = refl });
    }
  where
    same : (image : Words) → IsImage c image → image ≡ view c
    same image is = λ i p. only image is p i

no_seal : (seal done : ℤ) (f : ℕ) → done ≡ pos f → (seal ≡ pos (suc f) → ⊥)
    → int_eq seal (done +ℤ pos 1) ≡ false
no_seal seal done f is ne = go (int_eq seal (done +ℤ pos 1)) refl
  where
    next : done +ℤ pos 1 ≡ pos (suc f)
    next = ap (λ (x : ℤ). x +ℤ pos 1) is ∙ ap pos (let e : f + 1 ≡ suc f = omega arith in e)

    go : (b : Bool) → int_eq seal (done +ℤ pos 1) ≡ b → b ≡ false
    go true e = absurd (ne ((Decides-int_eq seal (done +ℤ pos 1)).0 e ∙ next))
    go false e = refl

small : (a : ℕ) → a < 2 ^ 62 → attempt_of (pos a) ≡ a
small a less = go (ltb a (2 ^ 63 - 2)) refl
  where
    go : (b : Bool) → ltb a (2 ^ 63 - 2) ≡ b → (if b then a else 2 ^ 63 - 2) ≡ a
    go true is = refl
    go false is = let more : 2 ^ 63 - 2 ≤ a = ltb-false a (2 ^ 63 - 2) is in absurd (omega arith)

room : (count a : ℕ) → a < 2 ^ 62 → has_numbers count a ≡ false
room count a less = go (nat_lt 0 count) (nat_le (2 ^ 62) a) refl
  where
    go : (x y : Bool) → nat_le (2 ^ 62) a ≡ y → (x && y) ≡ false
    go true false is = refl
    go false false is = refl
    go x true is = let more : 2 ^ 62 ≤ a = search rules in absurd (omega arith)

module _ (pool : Pool) (f : ℕ) (h : ℕ → ℤ) (last : ℤ) (c : Cache)
    (before : Images (IsBefore pool f h last) c)
    (few : Images (λ image. (a : ℕ) → image ATTEMPT ≡ pos a → a < 2 ^ 62) c) where
  abbrev s : Sizes
  s = pool.sizes

  quiet : (image : Words) → IsImage c image → IsQuiet s image
  quiet image is =
      let good = (before image is).good in
      let less : good.attempt < 2 ^ 62 = few image is good.attempt good.attempt_is in
      record {
        mark = good.mark;
        unsealed = no_seal (image SEAL) (image DONE) f good.done good.unsealed;
        numbers = ap (has_numbers (count_in s image)) (ap attempt_of good.attempt_is
            ∙ small good.attempt less) ∙ room (count_in s image) good.attempt less;
      }

  heap_is : (image : Words) → IsImage c image → (w : ℕ) (b : Bool) → nat_lt w (heap_words s) ≡ b
      → (if b then image (at (pool_of s) (Heap w)) else pos 0) ≡ (if b then h w else pos 0)
  heap_is image is w true less = (before image is).good.heap w (search rules)
  heap_is image is w false more = refl

  alike : (image : Words) → IsImage c image → TellTheSame s image (view c)
  alike image is =
      let one = before image is in
      let other = before (view c) (view_image c) in
      record {
        heap = λ i w. (heap_is image is w (nat_lt w (heap_words s)) refl
            ∙ sym (heap_is (view c) (view_image c) w (nat_lt w (heap_words s)) refl)) i;
        done = one.good.done ∙ sym other.good.done;
        value = one.last_is ∙ sym other.last_is;
      }

  pub good_rests : IsCacheAtRest s c
  good_rests = record { quiet = quiet; alike = alike }
