-- The law of compartments.
use Rattle.std.proofs.Common.{◌≡◌, ◌≢◌, inl, inr, ℕ, ◌+◌, ◌*◌, ◌≤◌, ◌==◌, nat_lt, cond, Bool, true}
use Rattle.std.proofs.Common.{false, List, [], ◌∷◌, ◌++◌, append_assoc, refl, sym, ap, ◌∙◌, subst}
use Rattle.std.proofs.Common.{arith, eqb-true, eq-eqb}
use Rattle.std.proofs.lemmas.Bool.{ltb-true, ltb-false, eqb-false}
use Rattle.std.proofs.Math.Nat.{mul-le-mul_left}
use Rattle.cache_model.specs.Event.{CacheEvent, Store, Flush, Fence}
use Rattle.cache_model.specs.Cache.{Words, Cache}
use Rattle.cache_model.specs.Play.{apply, play}
use Rattle.cache_model.specs.Image.{IsImage}
use Rattle.crash_law.specs.Law.{IsAtRest, IsLeft, IsFenced, Empty, Kept, Added, AreMarked}
use Rattle.crash_law.proofs.Fences.{fences_add_none}
use Rattle.pool_workers.specs.Compartment.{cache_in, lifted, IsInside}
use Rattle.workers_law.specs.Interleaved.{WorkerEvent, Piece, steps_by, worker_events, whole_events}
use Rattle.workers_law.specs.Interleaved.{own_events, own_pieces, fence_of, seen_events, AreInside}
use Rattle.workers_law.specs.Interleaved.{IsPrefix, Interleaves}
use Rattle.workers_law.specs.Compartments.{CompartmentLaw, CompartmentImagesLaw}
use Rattle.workers_law.specs.Fenced.{AreDisjoint}
use Rattle.pool_workers.proofs.Windows.{own_event, outside_store, outside_flush}
use Rattle.workers_law.proofs.Asides.{inside_part, cache_cong, marked_in}

pub apart : (n i j : ℕ) → i ≢ j → AreDisjoint (n * i) n (n * j) n
apart n i j ne = by_order (nat_lt i j) refl
  where
    by_order : (b : Bool) → nat_lt i j ≡ b → AreDisjoint (n * i) n (n * j) n
    by_order true is =
        let lt : i + 1 ≤ j = omega (arith, ltb-true i j is) in
        let more : n * (i + 1) ≤ n * j = mul-le-mul_left n lt in
        inl (omega arith)
    by_order false is =
        let ge = ltb-false i j is in
        let lt : j + 1 ≤ i = omega arith in
        let more : n * (j + 1) ≤ n * i = mul-le-mul_left n lt in
        inr (omega arith)

-- an event of another compartment
other_event : (n w i : ℕ) (c : Cache) (e : CacheEvent) → w ≢ i → IsInside n e →
    cache_in (n * i) n (apply c (lifted (n * w) e)) ≡ play (cache_in (n * i) n c) (fence_of e [])
other_event n w i c (Store p x) ne lt =
    cache_cong (n * i) n (apply c (lifted (n * w) (Store p x))) c
    (λ l less. outside_store (n * w) n p (n * i + l) x c lt
    (inside_part (n * w) n (n * i) n l (apart n w i ne) less))
other_event n w i c (Flush k) ne lt =
    cache_cong (n * i) n (apply c (lifted (n * w) (Flush k))) c
    (λ l less. outside_flush (n * w) n k (n * i + l) c lt
    (inside_part (n * w) n (n * i) n l (apart n w i ne) less))
other_event n w i c Fence ne lt = own_event (n * i) n c Fence tt

abbrev pub AllInside : ℕ → List WorkerEvent → Type 0
AllInside n [] = Unit {0}
AllInside n (s ∷ ss) = IsInside n s.event × AllInside n ss

play_fence : (c : Cache) (e : CacheEvent) (es : List CacheEvent) →
    play c (fence_of e es) ≡ play (play c (fence_of e [])) es
play_fence c (Store p x) es = refl
play_fence c (Flush k) es = refl
play_fence c Fence es = refl

seen_case : (b : Bool) (n i : ℕ) (c : Cache) (s : WorkerEvent) (ss : List WorkerEvent)
    → (s.worker == i) ≡ b →
    IsInside n s.event →
    cache_in (n * i) n (play (apply c (lifted (n * s.worker) s.event)) (whole_events n ss))
    ≡ play (cache_in (n * i) n (apply c (lifted (n * s.worker) s.event))) (seen_events i ss) →
    cache_in (n * i) n (play (apply c (lifted (n * s.worker) s.event)) (whole_events n ss))
    ≡ play (cache_in (n * i) n c)
    (cond b (s.event ∷ seen_events i ss) (fence_of s.event (seen_events i ss)))
seen_case true n i c s ss is lt rest =
    let same : s.worker ≡ i = eqb-true s.worker i is in
    rest
    ∙ ap (λ (w : ℕ). play (cache_in (n * i) n (apply c (lifted (n * w) s.event)))
    (seen_events i ss)) same
    ∙ ap (λ (d : Cache). play d (seen_events i ss)) (own_event (n * i) n c s.event lt)
seen_case false n i c s ss is lt rest =
    rest
    ∙ ap (λ (d : Cache). play d (seen_events i ss))
    (other_event n s.worker i c s.event (eqb-false s.worker i is) lt)
    ∙ sym (play_fence (cache_in (n * i) n c) s.event (seen_events i ss))

pub seen_cache : (n i : ℕ) (ss : List WorkerEvent) (c : Cache) → AllInside n ss →
    cache_in (n * i) n (play c (whole_events n ss))
    ≡ play (cache_in (n * i) n c) (seen_events i ss)
seen_cache n i [] c lt = refl
seen_cache n i (s ∷ ss) c lt =
    seen_case (s.worker == i) n i c s ss refl lt.0
    (seen_cache n i ss (apply c (lifted (n * s.worker) s.event)) lt.1)

fenced_case : (b : Bool) (e : CacheEvent) (es fs : List CacheEvent) → IsFenced es fs →
    IsFenced (cond b (e ∷ es) es) (cond b (e ∷ fs) (fence_of e fs))
fenced_case true e es fs is = Kept e is
fenced_case false (Store p x) es fs is = is
fenced_case false (Flush k) es fs is = is
fenced_case false Fence es fs is = Added is

pub seen_fenced : (i : ℕ) (ss : List WorkerEvent) → IsFenced (own_events i ss) (seen_events i ss)
seen_fenced i [] = Empty
seen_fenced i (s ∷ ss) =
    fenced_case (s.worker == i) s.event (own_events i ss) (seen_events i ss) (seen_fenced i ss)

own_case : (b : Bool) (e : CacheEvent) (es fs : List CacheEvent) →
    cond b (e ∷ (es ++ fs)) (es ++ fs) ≡ cond b (e ∷ es) es ++ fs
own_case true e es fs = refl
own_case false e es fs = refl

own_append : (i : ℕ) (ss ts : List WorkerEvent) →
    own_events i (ss ++ ts) ≡ own_events i ss ++ own_events i ts
own_append i [] ts = refl
own_append i (s ∷ ss) ts =
    ap (λ (es : List CacheEvent). cond (s.worker == i) (s.event ∷ es) es) (own_append i ss ts)
    ∙ own_case (s.worker == i) s.event (own_events i ss) (own_events i ts)

pub own_by : (b : Bool) (w i : ℕ) (es : List CacheEvent) (rest : List WorkerEvent) → (w == i) ≡ b →
    own_events i (steps_by w es rest) ≡ cond b (es ++ own_events i rest) (own_events i rest)
own_by true w i [] rest is = refl
own_by false w i [] rest is = refl
own_by true w i (e ∷ es) rest is =
    ap (λ (b : Bool). cond b (e ∷ own_events i (steps_by w es rest))
    (own_events i (steps_by w es rest))) is
    ∙ ap (λ (fs : List CacheEvent). e ∷ fs) (own_by true w i es rest is)
own_by false w i (e ∷ es) rest is =
    ap (λ (b : Bool). cond b (e ∷ own_events i (steps_by w es rest))
    (own_events i (steps_by w es rest))) is ∙ own_by false w i es rest is

own_pieces_steps : (i : ℕ) (ps : List Piece) → own_events i (worker_events ps) ≡ own_pieces i ps
own_pieces_steps i [] = refl
own_pieces_steps i (p ∷ ps) =
    own_by (p.worker == i) p.worker i p.events (worker_events ps) refl
    ∙ ap (λ (es : List CacheEvent). cond (p.worker == i) (p.events ++ es) es)
    (own_pieces_steps i ps)

inside_first : (n : ℕ) (es fs : List CacheEvent) → AreInside n (es ++ fs) → AreInside n es
inside_first n [] fs lt = tt
inside_first n (e ∷ es) fs lt = (lt.0, inside_first n es fs lt.1)

inside_head : (n : ℕ) (b : Bool) (e : CacheEvent) (es : List CacheEvent) → b ≡ true →
    AreInside n (cond b (e ∷ es) es) → IsInside n e
inside_head n true e es is lt = lt.0
inside_head n false e es is lt = absurd (cc)

inside_tail : (n : ℕ) (b : Bool) (e : CacheEvent) (es : List CacheEvent) →
    AreInside n (cond b (e ∷ es) es) → AreInside n es
inside_tail n true e es lt = lt.1
inside_tail n false e es lt = lt

all_inside : (n : ℕ) (ss : List WorkerEvent) → ((i : ℕ) → AreInside n (own_events i ss))
    → AllInside n ss
all_inside n [] lt = tt
all_inside n (s ∷ ss) lt = (
  inside_head n (s.worker == s.worker) s.event (own_events s.worker ss)
      (eq-eqb s.worker s.worker refl) (lt s.worker),
  all_inside n ss (λ i. inside_tail n (s.worker == i) s.event (own_events i ss) (lt i)),
)

module _ (n : ℕ) (c : Cache) (due : ℕ → List CacheEvent) (ps : List Piece)
    (first rest : List WorkerEvent) (inside : (i : ℕ) → AreInside n (due i))
    (pieces : Interleaves due ps) (is : first ++ rest ≡ worker_events ps) where
  own_first : (i : ℕ) → IsPrefix (own_events i first) (due i)
  own_first i =
      let more = pieces i in (
        own_events i rest ++ more.0,
        sym (append_assoc (own_events i first) (own_events i rest) more.0)
            ∙ ap (λ (es : List CacheEvent). es ++ more.0)
            (sym (own_append i first rest) ∙ ap (own_events i) is ∙ own_pieces_steps i ps)
            ∙ more.1,
      )

  own_inside : AllInside n first
  own_inside = all_inside n first
      (λ i. let p = own_first i in
      inside_first n (own_events i first) p.0 (subst (AreInside n) (sym p.1) (inside i)))

  pub cache_seen : (i : ℕ) →
      cache_in (n * i) n (play c (whole_events n first))
      ≡ play (cache_in (n * i) n c) (seen_events i first)
  cache_seen i = seen_cache n i first c own_inside

  module _ (marks : AreMarked c) (i : ℕ) where
    abbrev start : Cache
    start = cache_in (n * i) n c

    fences : ((image : Words) → IsLeft start (seen_events i first) image →
        IsLeft start (own_events i first) image)
        × ((image : Words) → IsImage (play start (seen_events i first)) image →
        IsImage (play start (own_events i first)) image)
        × (IsAtRest (play start (own_events i first)) → IsAtRest (play start (seen_events i first)))
    fences = fences_add_none start (own_events i first) (seen_events i first)
        (marked_in (n * i) n c marks) (seen_fenced i first)

    image_left : (image : Words) →
        IsImage (cache_in (n * i) n (play c (whole_events n first))) image →
        IsLeft start (due i) image
    image_left image im =
        let p = own_first i in (
          own_events i first,
          p.0,
          p.1,
          fences.1 image (subst (λ (d : Cache). IsImage d image) (cache_seen i) im),
        )

    pub images : ((image : Words) →
        IsImage (cache_in (n * i) n (play c (whole_events n first))) image →
        IsLeft start (due i) image)
        × ((image : Words) → own_events i first ≡ due i →
        IsImage (cache_in (n * i) n (play c (whole_events n first))) image →
        IsImage (play start (due i)) image)
        × (own_events i first ≡ due i → IsAtRest (play start (due i)) →
        IsAtRest (cache_in (n * i) n (play c (whole_events n first))))
    images = (
      image_left,
      (λ image whole im. subst (λ (es : List CacheEvent). IsImage (play start es) image) whole
          (fences.1 image (subst (λ (d : Cache). IsImage d image) (cache_seen i) im))),
      (λ whole rested. subst IsAtRest (sym (cache_seen i))
          (fences.2 (subst (λ (es : List CacheEvent). IsAtRest (play start es))
          (sym whole) rested))),
    )

pub compartment : CompartmentLaw
compartment n c due first f i = (
  own_first n c due f.pieces first f.rest f.inside f.interleaves f.is i,
  seen_fenced i first,
  cache_seen n c due f.pieces first f.rest f.inside f.interleaves f.is i,
)

pub compartment_images : CompartmentImagesLaw
compartment_images n c due first marks f i =
    images n c due f.pieces first f.rest f.inside f.interleaves f.is marks i
