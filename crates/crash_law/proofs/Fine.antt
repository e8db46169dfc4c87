-- The condition on the word at each place, in one phase, and the images that meet it.
use Rattle.pool_layout.specs.Sizes.{heap_words}
use Rattle.std.proofs.Common.{length, ◌≡◌, ℕ, suc, ◌+◌, ◌^◌, ◌<◌, ◌≤◌, Option, Some, None, ℤ, pos}
use Rattle.std.proofs.Common.{refl, sym, ap, ◌∙◌, arith, unwrap_or}
use Rattle.cache_model.specs.Cache.{Words}
use Rattle.pool_layout.specs.declared.places.Place.{Place}
use Rattle.pool_layout.specs.declared.places.Place.TheVariants.{Super, Last, Done, Attempt, Mark}
use Rattle.pool_layout.specs.declared.places.Place.TheVariants.{Argument, Seal, RecordWord}
use Rattle.pool_layout.specs.declared.places.Place.TheVariants.{RecordOld, RecordStamp, Heap, Spare}
use Rattle.pool_layout.specs.declared.places.Place.TheVariants.{RecordSpare}
use Rattle.pool_layout.specs.declared.places.Layout.{Layout}
use Rattle.pool_layout.specs.declared.places.TheConstants.{ARGUMENTS, SUPER_WORDS}
use Rattle.pool_layout.specs.Places.{at, IsPlace, pool_of}
use Rattle.pool_layout.specs.Image.{IsUpTo}
use Rattle.pool_layout.specs.Log.{count}
use Rattle.pool_layout.specs.Restored.{restored, undone}
use Rattle.crash_law.specs.Pools.{call_word, Call, IsKept, Owed}
use Rattle.pool_layout.proofs.Records.{pos_inj, count_is}
use Rattle.pool_layout.specs.Good.{Pool, Good}
use Rattle.crash_law.proofs.Records.{found, found_cong, undone_found, well_made}

pub record Fine : Type 1 where
  pub super : ℕ → ℤ → Type 0
  pub last : ℤ → Type 0
  pub done : ℤ → Type 0
  pub attempt : ℤ → Type 0
  pub mark : ℤ → Type 0
  pub argument : ℕ → ℤ → Type 0
  pub seal : ℤ → Type 0
  pub word : ℕ → ℤ → Type 0
  pub old : ℕ → ℤ → Type 0
  pub stamp : ℕ → ℤ → Type 0
  pub heap : ℕ → ℤ → Type 0

abbrev pub ok : Fine → Place → ℤ → Type 0
ok f (Super k) x = f.super k x
ok f Last x = f.last x
ok f Done x = f.done x
ok f Attempt x = f.attempt x
ok f Mark x = f.mark x
ok f (Spare k) x = Unit {0}
ok f (Argument k) x = f.argument k x
ok f Seal x = f.seal x
ok f (RecordWord j) x = f.word j x
ok f (RecordOld j) x = f.old j x
ok f (RecordStamp j) x = f.stamp j x
ok f (RecordSpare j k) x = Unit {0}
ok f (Heap w) x = f.heap w x

-- a stamp, if the first n records are valid
abbrev pub StampIs : ℕ → ℕ → ℕ → ℤ → Type 0
StampIs a n j x = (j < n → x ≡ pos (suc a)) × (n ≤ j → IsUpTo a x)

-- each word of the image meets its condition
abbrev pub IsFine : Layout → Fine → Words → Type 0
IsFine C f image = (q : Place) → IsPlace C q → ok f q (image (at C q))

-- The setting of a call's law: the pool and the call, the inputs E and overwrites W of its run from
-- h, a heap r that differs from h only in words of W that aren't in E, and what is asked of the
-- last value.
pub record Setting : Type 1 where
  pub pool : Pool
  pub call : Call
  pub E : ℕ → Type 0
  pub W : ℕ → Type 0
  pub h : ℕ → ℤ
  pub r : ℕ → ℤ
  pub kept : ℤ → Type 0
  pub done_fits : call.done ≤ 2 ^ 62
  pub given_fits : length call.args ≤ ARGUMENTS
  pub from : (w : ℕ) → w < heap_words pool.sizes → IsKept E W w → r w ≡ h w

module _ (s : Setting) where
  -- the call is owed, with attempt a, n records and a heap of which this holds
  abbrev pub owing : (a n : ℕ) → (word old : ℕ → ℤ) → (ℕ → ℤ → Type 0) → Fine
  owing a n word old heap = record {
    super = λ k x. k < SUPER_WORDS → x ≡ s.pool.super k;
    last = s.kept;
    done = λ x. x ≡ pos s.call.done;
    attempt = λ x. x ≡ pos a;
    mark = λ x. x ≡ pos 0;
    argument = λ k x. k ≤ length s.call.args → x ≡ call_word s.call k;
    seal = λ x. x ≡ pos (suc s.call.done);
    word = λ j x. j < n → x ≡ word j;
    old = λ j x. j < n → x ≡ old j;
    stamp = StampIs a n;
    heap = heap;
  }

  restored_of : (n : ℕ) (word old : ℕ → ℤ) (heap : ℕ → ℤ → Type 0) (w : ℕ) (o : Option ℤ) (x y : ℤ)
      → ((y : ℤ) → o ≡ Some y → y ≡ s.h w) → (o ≡ None → x ≡ s.h w) → unwrap_or o x ≡ s.h w
  restored_of n word old heap w None x y some none = none refl
  restored_of n word old heap w (Some z) x y some none = some z refl

  -- an image is owed if each word that matters is h's, by its oldest record or because it has none
  pub owed_image : (a n : ℕ) (word old : ℕ → ℤ) (heap : ℕ → ℤ → Type 0) (image : Words) → a ≤ 2 ^ 62
      → n ≤ s.pool.sizes.records → ((j : ℕ) → j < n → (u : ℕ) × (word j ≡ pos u)
      × (u < heap_words s.pool.sizes)) → ((w : ℕ) → w < heap_words s.pool.sizes → IsKept s.E s.W w
      → (y : ℤ) → found word old n w ≡ Some y → y ≡ s.h w)
      → ((w : ℕ) (x : ℤ) → w < heap_words s.pool.sizes → IsKept s.E s.W w → heap w x
      → found word old n w ≡ None → x ≡ s.h w)
      → IsFine (pool_of s.pool.sizes) (owing a n word old heap) image
      → Owed s.pool s.call s.E s.W s.h s.kept image
  unfolding restored
  owed_image a n word old heap image a_fits room in_heap recorded plain fine =
      let C = pool_of s.pool.sizes in
      let counted : count C a image ≡ n = count_is C a n image room
      (λ j lt. (fine (RecordStamp j) (omega arith)).0 lt)
      (λ j ge lt e. let u = (fine (RecordStamp j) lt).1 ge in
      absurd (omega (arith, u.1, pos_inj (suc a) u.0 (sym e ∙ u.2)))) in
      record {
        super = λ k lt. fine (Super k) (omega arith) lt;
        last_is = fine Last tt;
        mark = fine Mark tt;
        done = fine Done tt;
        done_fits = s.done_fits;
        sealed = fine Seal tt;
        call_is = λ k le. fine (Argument k) (omega arith) le;
        attempt = a;
        attempt_is = fine Attempt tt;
        attempt_fits = a_fits;
        log = well_made C a n image (λ j jC lt. (fine (RecordStamp j) jC).0 lt) (λ j jC ge.
            (fine (RecordStamp j) jC).1 ge);
        in_heap = λ j lt.
            let below : j < n = omega arith in
            let u = in_heap j below in
            (u.0, fine (RecordWord j) (omega arith) below ∙ u.1, u.2);
        restores = λ w lt kept.
            let words = λ (j : ℕ). image (at C (RecordWord j)) in
            let olds = λ (j : ℕ). image (at C (RecordOld j)) in
            let heap_now = λ (u : ℕ). image (at C (Heap u)) in
            let same : found words olds n w ≡ found word old n w =
            found_cong words olds word old n (λ j below. fine (RecordWord j) (omega arith) below)
            (λ j below. fine (RecordOld j) (omega arith) below) w in
            ap (λ (m : ℕ). undone words olds m heap_now w) counted
            ∙ undone_found words olds n heap_now w
            ∙ ap (λ (o : Option ℤ). unwrap_or o (heap_now w)) same
            ∙ restored_of n word old heap w (found word old n w) (heap_now w) (heap_now w)
            (recorded w lt kept) (λ none. plain w (heap_now w) lt kept (fine (Heap w) lt) none);
      }

module _ (pool : Pool) (d : ℕ) (h : ℕ → ℤ) (fits : d ≤ 2 ^ 62 + 1) where
  -- d calls done, with this heap; attempt a, of whose stamps the first n are valid
  abbrev pub at_rest : (a n : ℕ) → (last seal : ℤ → Type 0) → Fine
  at_rest a n last seal = record {
    super = λ k x. k < SUPER_WORDS → x ≡ pool.super k;
    last = last;
    done = λ x. x ≡ pos d;
    attempt = λ x. x ≡ pos a;
    mark = λ x. x ≡ pos 0;
    argument = λ k x. Unit {0};
    seal = seal;
    word = λ j x. Unit {0};
    old = λ j x. Unit {0};
    stamp = StampIs a n;
    heap = λ w x. w < heap_words pool.sizes → x ≡ h w;
  }

  pub good_image : (a n : ℕ) (last seal : ℤ → Type 0) (image : Words) → a ≤ 2 ^ 62 + 1
      → ((x : ℤ) → seal x → x ≡ pos (suc d) → ⊥)
      → IsFine (pool_of pool.sizes) (at_rest a n last seal)
      image → Good pool d h image
  good_image a n last seal image a_fits unsealed fine =
      let C = pool_of pool.sizes in
      record {
        super = λ k lt. fine (Super k) (omega arith) lt;
        mark = fine Mark tt;
        done = fine Done tt;
        done_fits = fits;
        unsealed = unsealed (image (at C Seal)) (fine Seal tt);
        attempt = a;
        attempt_is = fine Attempt tt;
        attempt_fits = a_fits;
        log = well_made C a n image (λ j jC lt. (fine (RecordStamp j) jC).0 lt) (λ j jC ge.
            (fine (RecordStamp j) jC).1 ge);
        heap = λ w lt. fine (Heap w) lt lt;
      }
