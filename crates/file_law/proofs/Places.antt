-- A pool's words with another digest: all but the words of lines 0 and 1 are the same.
use Rattle.std.proofs.Common.{◌≡◌, ◌⊎◌, inl, inr, ℕ, Bool, List, ℤ, pos}
use Rattle.std.proofs.Common.{◌-◌, slice_index_or, true, false, if◌then◌else◌, refl, sym, ◌∙◌}
use Rattle.std.proofs.Common.{arith}
use Rattle.cache_model.specs.Cache.{Words}
use Rattle.pool_layout.specs.declared.limits.Sizes.{Sizes}
use Rattle.pool_layout.specs.declared.places.Layout.{Layout}
use Rattle.pool_layout.specs.declared.places.Place.TheVariants.{RecordStamp, Heap}
use Rattle.pool_layout.specs.Places.{at, pool_of}
use Rattle.pool_layout.specs.Log.{WellMade, leading, count}
use Rattle.pool_layout.specs.Good.{Pool, Good}
use Rattle.clobber_log.specs.Logs.{attempt_in, count_in}
use Rattle.crash_law.specs.Pools.{IsBefore}
use Rattle.file_law.specs.Moved.{is_digest_word, with_digest}
use Rattle.file_law.proofs.Moves.{with_same, far_other, IsBetween}

module _ (digest : List ℤ) where
  abbrev moved : Words → Words
  moved w = with_digest digest w

  -- the words of lines 0 and 1 get the digest too
  super_moved : (super w : Words) (k : ℕ) → w k ≡ super k → moved w k ≡ moved super k
  super_moved super w k same = go (is_digest_word k)
    where
      go : (b : Bool)
          → (if b then slice_index_or digest (k - 8) (pos 0) else w k)
          ≡ (if b then slice_index_or digest (k - 8) (pos 0) else super k)
      go true = refl
      go false = same

  module _ (z : Sizes) where
    abbrev L : Layout
    L = pool_of z

    abbrev pool_as : Words → Pool
    pool_as super = record { sizes = z; super = super }

    stamp : (w : Words) (j : ℕ) → moved w (at L (RecordStamp j)) ≡ w (at L (RecordStamp j))
    stamp w j = far_other digest w (at L (RecordStamp j)) (omega arith)

    pub heap_word : (w : Words) (j : ℕ) → moved w (at L (Heap j)) ≡ w (at L (Heap j))
    heap_word w j = far_other digest w (at L (Heap j)) (omega arith)

    pub count_moved : (w : Words) → count_in z (moved w) ≡ count_in z w
    unfolding count
    count_moved w = λ i. leading (λ j. stamp w j i) (attempt_in z w) z.records

    log_moved : (a : ℕ) (w : Words) → WellMade L a w → WellMade L a (moved w)
    log_moved a w log = record {
      stamps = λ j less. let up_to = log.stamps j less in
          (up_to.0, up_to.1, stamp w j ∙ up_to.2);
      first = λ j k less last is.
          stamp w j ∙ log.first j k less last (sym (stamp w k) ∙ is);
    }

    pub good_moved : (super : Words) (d : ℕ) (h w : Words) → Good (pool_as super) d h w
        → Good (pool_as (moved super)) d h (moved w)
    good_moved super d h w good = record {
      super = λ k less. super_moved super w k (good.super k less);
      mark = good.mark;
      done = good.done;
      done_fits = good.done_fits;
      unsealed = good.unsealed;
      attempt = good.attempt;
      attempt_is = good.attempt_is;
      attempt_fits = good.attempt_fits;
      log = log_moved good.attempt w good.log;
      heap = λ j less. heap_word w j ∙ good.heap j less;
    }

    pub before_moved : (super : Words) (d : ℕ) (h : Words) (last : ℤ) (w : Words)
        → IsBefore (pool_as super) d h last w → IsBefore (pool_as (moved super)) d h last (moved w)
    before_moved super d h last w before = record {
      good = good_moved super d h w before.good;
      last_is = before.last_is;
    }

  -- words between two digests, with one of both, are the words before with it
  pub between_moved : (other : List ℤ) (before between : Words) → IsBetween other before between
      → moved between ≡ moved before
  between_moved other before between near i k = go (near k) i
    where
      go : (between k ≡ before k)
          ⊎ ((is_digest_word k ≡ true) × (between k ≡ with_digest other before k))
          → moved between k ≡ moved before k
      go (inl same) = super_moved before between k same
      go (inr set) = with_same digest between before k set.0
