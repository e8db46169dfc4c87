-- The effect of a power cut, a fence and a creation on a compartment.
use Rattle.std.proofs.Common.{◌≡◌, ◌≢◌, ⊎_elim, ℕ, zero, suc, ◌+◌, ◌-◌, ◌*◌, ◌/◌, ◌<◌, ◌≤◌, ◌==◌}
use Rattle.std.proofs.Common.{nat_lt, cond, Bool, true, false, List, [], ◌∷◌, ◌++◌, append-nil, map}
use Rattle.std.proofs.Common.{length, slice_index_or, Option, Some, None, ℤ, refl, sym, ap}
use Rattle.std.proofs.Common.{◌∙◌, subst, arith, eq-eqb, ne_eqb, length-append}
use Rattle.std.proofs.lemmas.Bool.{cases_eq, ltb-true, ltb-false}
use Rattle.cache_model.specs.Event.{CacheEvent, Store, Flush, Fence}
use Rattle.cache_model.specs.Cache.{Words, Line, Cache, blank_line, blank, versions, view}
use Rattle.cache_model.specs.Play.{store_line, mark_of, flush_line, fence_at, apply, play}
use Rattle.cache_model.specs.Image.{IsImage, HasOne}
use Rattle.cache_model.specs.Collapse.{picked, kept, left_line, left_cache}
use Rattle.cache_model.specs.declared.choice.Rest.{Rest}
use Rattle.cache_model.specs.declared.choice.Rest.TheVariants.{Old, New}
use Rattle.cache_model.specs.declared.choice.Pick.{Pick}
use Rattle.cache_model.proofs.Versions.{fence_version}
use Rattle.cache_model.proofs.Views.{view_fence}
use Rattle.cache_model.proofs.Collapses.{left_image, left_one}
use Rattle.pmem.specs.Device.{blanked}
use Rattle.pmem.proofs.Refused.{all_cache}
use Rattle.pool_layout.specs.declared.limits.Sizes.{Sizes}
use Rattle.pool_layout.specs.Sizes.{pool_lines}
use Rattle.args_log.specs.Created.{sizes_events, digest_events, creation_events}
use Rattle.crash_law.specs.Law.{IsAtRest, IsMarkIn, AreMarked}
use Rattle.crash_law.proofs.Rest.{single_ready_of}
use Rattle.pool_workers.specs.Compartment.{words_from, line_counted_from, cache_in, lifted}
use Rattle.pool_workers.specs.Compartment.{IsInside, first_line}
use Rattle.workers_law.specs.Interleaved.{WorkerEvent, steps_by, whole_events, own_events}
use Rattle.workers_law.specs.Interleaved.{seen_events}
use Rattle.pool_workers.specs.Making.{lifted_all, creations}
use Rattle.workers_law.specs.Power.{picks_in, PowerLaw, FencedLaw, MarksLaw, CompartmentsCreatedLaw}
use Rattle.workers_law.proofs.Compartments.{AllInside, seen_cache, seen_fenced, own_by}
use Rattle.workers_law.specs.Fenced.{fenced_cache}
use Rattle.pool_workers.proofs.Windows.{map_push}
use Rattle.workers_law.proofs.Asides.{marked_in}

index_map : (f : ℕ) (vs : List Words) (k : ℕ) (d : Words) →
    slice_index_or (map (words_from f) vs) k (words_from f d)
    ≡ words_from f (slice_index_or vs k d)
index_map f [] k d = refl
index_map f (v ∷ vs) zero d = refl
index_map f (v ∷ vs) (suc k) d = index_map f vs k d

index_in : (f k : ℕ) (l : Line) →
    slice_index_or (versions (line_counted_from f l)) k (words_from f l.newest)
    ≡ words_from f (slice_index_or (versions l) k l.newest)
index_in f k l =
    ap (λ (vs : List Words). slice_index_or vs k (words_from f l.newest))
    (sym (map_push f l.older l.newest)) ∙ index_map f (versions l) k l.newest

kept_in : (f : ℕ) (rest : Rest) (pick : Option ℕ) (l : Line) →
    kept rest pick (line_counted_from f l) ≡ words_from f (kept rest pick l)
kept_in f Old None l = index_in f 0 l
kept_in f New None l = refl
kept_in f rest (Some k) l = index_in f k l

kept_blank : (rest : Rest) (pick : Option ℕ) → kept rest pick blank_line ≡ blank_line.newest
kept_blank Old None = refl
kept_blank New None = refl
kept_blank rest (Some zero) = refl
kept_blank rest (Some (suc k)) = refl

picks_case : (f n l : ℕ) (p : Pick) (ps : List Pick) (low high : Bool) → nat_lt p.line f ≡ low →
    nat_lt p.line (f + n) ≡ high → l < n → picked (picks_in f n ps) l ≡ picked ps (f + l) →
    picked (cond low (picks_in f n ps)
    (cond high (record { line = p.line - f; version = p.version } ∷ picks_in f n ps)
    (picks_in f n ps))) l ≡ cond (p.line == f + l) (Some p.version) (picked ps (f + l))
picks_case f n l p ps false true low high lt rest =
    let le : f ≤ p.line = ltb-false p.line f low in
    ap (λ (o : Option ℕ). cond (p.line - f == l) (Some p.version) o) rest
    ∙ ap (λ (b : Bool). cond b (Some p.version) (picked ps (f + l))) (same le)
  where
    same : f ≤ p.line → (p.line - f == l) ≡ (p.line == f + l)
    same le = ⊎_elim
        (λ (e : p.line ≡ f + l). let d : p.line - f ≡ l = omega arith in
        eq-eqb (p.line - f) l d ∙ sym (eq-eqb p.line (f + l) e))
        (λ (ne : p.line ≢ f + l). ne_eqb (p.line - f) l (λ e. ne (omega arith))
        ∙ sym (ne_eqb p.line (f + l) ne))
        (cases_eq p.line (f + l))
picks_case f n l p ps false false low high lt rest =
    let past : f + n ≤ p.line = ltb-false p.line (f + n) high in
    rest ∙ sym (ap (λ (b : Bool). cond b (Some p.version) (picked ps (f + l)))
    (ne_eqb p.line (f + l) (λ e. let none : ⊥ = omega arith in none)))
picks_case f n l p ps true high low h lt rest =
    let below : p.line < f = ltb-true p.line f low in
    rest ∙ sym (ap (λ (b : Bool). cond b (Some p.version) (picked ps (f + l)))
    (ne_eqb p.line (f + l) (λ e. let none : ⊥ = omega arith in none)))

picked_in : (f n l : ℕ) (ps : List Pick) → l < n → picked (picks_in f n ps) l ≡ picked ps (f + l)
picked_in f n l [] lt = refl
picked_in f n l (p ∷ ps) lt =
    picks_case f n l p ps (nat_lt p.line f) (nat_lt p.line (f + n)) refl refl lt
    (picked_in f n l ps lt)

left_in : (f : ℕ) (rest : Rest) (pick : Option ℕ) (l : Line) →
    line_counted_from f (left_line rest pick l) ≡ left_line rest pick (line_counted_from f l)
left_in f rest pick l =
    λ i. record { older = []; newest = sym (kept_in f rest pick l) i; mark = None }

power_case : (f n l : ℕ) (c : Cache) (rest : Rest) (ps : List Pick) (b : Bool) → nat_lt l n ≡ b →
    cond b (line_counted_from f (left_line rest (picked ps (f + l)) (c (f + l)))) blank_line
    ≡ left_line rest (picked (picks_in f n ps) l)
    (cond b (line_counted_from f (c (f + l))) blank_line)
power_case f n l c rest ps true is =
    left_in f rest (picked ps (f + l)) (c (f + l))
    ∙ ap (λ (o : Option ℕ). left_line rest o (line_counted_from f (c (f + l))))
    (sym (picked_in f n l ps (ltb-true l n is)))
power_case f n l c rest ps false is =
    λ i. record {
      older = [];
      newest = sym (kept_blank rest (picked (picks_in f n ps) l)) i;
      mark = None;
    }

power_cache : (f n : ℕ) (c : Cache) (rest : Rest) (ps : List Pick) →
    cache_in f n (left_cache c rest ps) ≡ left_cache (cache_in f n c) rest (picks_in f n ps)
unfolding cache_in left_cache
power_cache f n c rest ps = λ i l. power_case f n l c rest ps (nat_lt l n) refl i

pub power : PowerLaw
power f n c rest ps =
    let same = power_cache f n c rest ps in (
      same,
      subst (λ (d : Cache). IsImage (cache_in f n c) (view d)) (sym same)
          (left_image (cache_in f n c) rest (picks_in f n ps)),
      subst (λ (d : Cache). HasOne d (view d)) (sym same)
          (left_one (cache_in f n c) rest (picks_in f n ps)),
    )

-- fences

fenced_image : (k : Bool) (c : Cache) (image : Words) → IsImage (fenced_cache k c) image →
    IsImage c image
fenced_image true c image im l = let pick = im l in
    (pick.0, fence_version c l pick.0 pick.1, pick.2)
fenced_image false c image im l = im l

pub fenced_view : (k : Bool) (c : Cache) → view (fenced_cache k c) ≡ view c
fenced_view true c = λ i q. view_fence c q i
fenced_view false c = refl

fenced_rest : (k : Bool) (c : Cache) → IsAtRest c → IsAtRest (fenced_cache k c)
unfolding apply
fenced_rest true c rests l = single_ready_of (c l).mark (c l) (rests l)
fenced_rest false c rests l = rests l

pub fenced : FencedLaw
fenced k c = (fenced_image k c, fenced_view k c, fenced_rest k c)

-- marks

mark_grows : (m : Option ℕ) (n : ℕ) → IsMarkIn m n → (k : ℕ) → n ≤ k → IsMarkIn m k
mark_grows None n is k le = tt
mark_grows (Some j) n is k le = omega arith

store_marked : (b : Bool) (l : Line) (p : ℕ) (x : ℤ) → IsMarkIn l.mark (length l.older) →
    IsMarkIn (cond b (store_line l p x) l).mark (length (cond b (store_line l p x) l).older)
store_marked true l p x is =
    mark_grows l.mark (length l.older) is (length (l.older ++ l.newest ∷ []))
    (omega (arith, length-append l.older (l.newest ∷ [])))
store_marked false l p x is = is

mark_fits : (us : List Words) (m : Option ℕ) → IsMarkIn m (length us) →
    IsMarkIn (mark_of us m) (length us)
mark_fits [] m is = is
mark_fits (u ∷ us) m is = omega arith

flush_marked : (b : Bool) (l : Line) → IsMarkIn l.mark (length l.older) →
    IsMarkIn (cond b (flush_line l) l).mark (length (cond b (flush_line l) l).older)
flush_marked true l is = mark_fits l.older l.mark is
flush_marked false l is = is

fence_marked : (m : Option ℕ) (l : Line) → l.mark ≡ m → IsMarkIn l.mark (length l.older) →
    IsMarkIn (fence_at m l).mark (length (fence_at m l).older)
fence_marked None l same is = is
fence_marked (Some k) l same is = tt

apply_marked : (c : Cache) (e : CacheEvent) → AreMarked c → AreMarked (apply c e)
unfolding apply
apply_marked c (Store p x) marks l = store_marked (l == p / 8) (c l) p x (marks l)
apply_marked c (Flush k) marks l = flush_marked (l == k) (c l) (marks l)
apply_marked c Fence marks l = fence_marked (c l).mark (c l) refl (marks l)

left_marked : (c : Cache) (rest : Rest) (picks : List Pick) → AreMarked (left_cache c rest picks)
unfolding left_cache
left_marked c rest picks l = tt

pub marks : MarksLaw
marks = ((λ l. tt), apply_marked, left_marked, marked_in)

-- a new pool of compartments

creation_steps : Sizes → List ℤ → (worker n : ℕ) → List WorkerEvent
creation_steps s digest worker zero = []
creation_steps s digest worker (suc n) =
    steps_by worker (creation_events s digest) (creation_steps s digest (suc worker) n)

whole_by : (n w : ℕ) (es : List CacheEvent) (rest : List WorkerEvent) →
    whole_events n (steps_by w es rest) ≡ lifted_all (n * w) es ++ whole_events n rest
whole_by n w [] rest = refl
whole_by n w (e ∷ es) rest =
    ap (λ (fs : List CacheEvent). lifted (n * w) e ∷ fs) (whole_by n w es rest)

creations_whole : (s : Sizes) (digest : List ℤ) (w n : ℕ) →
    creations s digest w n ≡ whole_events (pool_lines s) (creation_steps s digest w n)
unfolding creation_steps
creations_whole s digest w zero = refl
creations_whole s digest w (suc n) =
    ap (λ (es : List CacheEvent). lifted_all (first_line s w) (creation_events s digest) ++ es)
    (creations_whole s digest (suc w) n)
    ∙ sym (whole_by (pool_lines s) w (creation_events s digest) (creation_steps s digest (suc w) n))

own_none : (s : Sizes) (digest : List ℤ) (i w n : ℕ) → i < w →
    own_events i (creation_steps s digest w n) ≡ []
unfolding creation_steps
own_none s digest i w zero lt = refl
own_none s digest i w (suc n) lt =
    own_by false w i (creation_events s digest) (creation_steps s digest (suc w) n)
    (ne_eqb w i (λ e. let none : ⊥ = omega arith in none))
    ∙ own_none s digest i (suc w) n (omega arith)

own_creation : (s : Sizes) (digest : List ℤ) (i w n : ℕ) → w ≤ i → i < w + n →
    own_events i (creation_steps s digest w n) ≡ creation_events s digest
unfolding creation_steps
own_creation s digest i w zero le lt = absurd (let none : ⊥ = omega arith in none)
own_creation s digest i w (suc n) le lt = ⊎_elim
    (λ (e : w ≡ i).
    own_by true w i (creation_events s digest) (creation_steps s digest (suc w) n) (eq-eqb w i e)
    ∙ ap (λ (es : List CacheEvent). creation_events s digest ++ es)
    (own_none s digest i (suc w) n (omega arith)) ∙ append-nil (creation_events s digest))
    (λ (ne : w ≢ i).
    own_by false w i (creation_events s digest) (creation_steps s digest (suc w) n) (ne_eqb w i ne)
    ∙ own_creation s digest i (suc w) n (omega arith) (omega arith))
    (cases_eq w i)

AreIn : ℕ → List CacheEvent → Type 0
AreIn n [] = Unit {0}
AreIn n (e ∷ es) = IsInside n e × AreIn n es

events_in_it : (s : Sizes) (digest : List ℤ) → AreIn (pool_lines s) (creation_events s digest)
unfolding AreIn sizes_events digest_events
events_in_it s digest = (
  omega arith,
  (
    omega arith,
    (
      omega arith,
      (
        omega arith,
        (
          omega arith,
          (
            omega arith,
            (
              omega arith,
              (
                omega arith,
                (omega arith, (omega arith, (omega arith, (omega arith, (tt, tt))))),
              ),
            ),
          ),
        ),
      ),
    ),
  ),
)

by_inside : (n w : ℕ) (es : List CacheEvent) (rest : List WorkerEvent) → AreIn n es
    → AllInside n rest →
    AllInside n (steps_by w es rest)
unfolding AreIn
by_inside n w [] rest lt more = more
by_inside n w (e ∷ es) rest lt more = (lt.0, by_inside n w es rest lt.1 more)

steps_inside : (s : Sizes) (digest : List ℤ) (w n : ℕ) →
    AllInside (pool_lines s) (creation_steps s digest w n)
unfolding creation_steps
steps_inside s digest w zero = tt
steps_inside s digest w (suc n) =
    by_inside (pool_lines s) w (creation_events s digest) (creation_steps s digest (suc w) n)
    (events_in_it s digest) (steps_inside s digest (suc w) n)

blank_case : (f : ℕ) (b : Bool) → cond b (line_counted_from f blank_line) blank_line ≡ blank_line
blank_case f true = refl
blank_case f false = refl

blank_in : (f n : ℕ) → cache_in f n blank ≡ blank
unfolding cache_in
blank_in f n = λ i l. blank_case f (nat_lt l n) i

pub created : CompartmentsCreatedLaw
created s digest count d b all i lt =
    let steps = creation_steps s digest 0 count in
    let n = pool_lines s in
    record {
      done = own_events i steps;
      shown = seen_events i steps;
      due_is = append-nil (own_events i steps)
          ∙ own_creation s digest i 0 count (omega arith) (omega arith);
      fenced = seen_fenced i steps;
      now_is =
          ap (cache_in (first_line s i) n)
          (all_cache (creations s digest 0 count) (blanked (n * count) d) b all
          ∙ ap (play blank) (creations_whole s digest 0 count))
          ∙ seen_cache n i steps blank (steps_inside s digest 0 count)
          ∙ ap (λ (c : Cache). play c (seen_events i steps)) (blank_in (n * i) n);
    }
