-- Fences put into a list of events never add an image.
use Rattle.std.proofs.Common.{◌≡◌, inl, inr, ℕ, ◌+◌, ◌-◌, ◌/◌, ◌≤◌, ◌==◌, cond, Bool, true, false}
use Rattle.std.proofs.Common.{List, [], ◌∷◌, ◌++◌, length, drop, Option, Some, None, ℤ, refl, sym}
use Rattle.std.proofs.Common.{ap, ◌∙◌, subst, subst₂, arith, length-append, length-drop}
use Rattle.std.proofs.lemmas.List.{drop-drop, drop-append-le, drop_all}
use Rattle.cache_model.specs.Event.{CacheEvent, Store, Flush, Fence}
use Rattle.cache_model.specs.Cache.{Words, put, Line, Cache}
use Rattle.cache_model.specs.Play.{store_line, mark_of, flush_line, fence_at, fence_line, apply}
use Rattle.cache_model.specs.Play.{play}
use Rattle.cache_model.specs.Image.{Among, IsVersion, IsImage, Images}
use Rattle.cache_model.specs.During.{during}
use Rattle.crash_law.specs.Law.{IsLeft, IsFenced, Empty, Kept, Added, IsMarkIn, AddedFencesLaw}
use Rattle.cache_model.proofs.Versions.{among_drop}
use Rattle.cache_model.proofs.During.{during_more}
use Rattle.crash_law.proofs.Again.{left_image}

-- the mark of a line, compared with that of the line without its first k versions
abbrev pub MarkIs : (k n : ℕ) → Option ℕ → Option ℕ → Type 0
MarkIs k n None None = Unit {0}
MarkIs k n None (Some j) = ⊥
MarkIs k n (Some m) None = m ≤ k
MarkIs k n (Some m) (Some j) = (k + j ≡ m) × (m ≤ n)

-- the line with more fences has lost the first k versions
pub record Later (few more : Line) : Type 0 where
  pub k : ℕ
  pub older : few.older ≡ drop k more.older
  pub within : k ≤ length more.older
  pub newest : few.newest ≡ more.newest
  pub mark : MarkIs k (length more.older) more.mark few.mark

later_same_of : (l : Line) (m : Option ℕ) → l.mark ≡ m → IsMarkIn m (length l.older) → Later l l
later_same_of l None e is = record {
  k = 0;
  older = refl;
  within = omega arith;
  newest = refl;
  mark = subst (λ (o : Option ℕ). MarkIs 0 (length l.older) o o) (sym e) tt;
}
later_same_of l (Some m) e is =
    record {
      k = 0;
      older = refl;
      within = omega arith;
      newest = refl;
      mark = subst (λ (o : Option ℕ). MarkIs 0 (length l.older) o o) (sym e) (omega arith, is);
    }

later_version : (few more : Line) (v : Words) → Later few more → IsVersion few v → IsVersion more v
later_version few more v r (inl e) = inl (e ∙ r.newest)
later_version few more v r (inr h) =
    inr (among_drop r.k more.older v (subst (λ (us : List Words). Among us v) r.older h))

later_store : (few more : Line) (p : ℕ) (x : ℤ) → Later few more
    → Later (store_line few p x) (store_line more p x)
later_store few more p x r = record {
  k = r.k;
  older = (λ i. r.older i ++ r.newest i ∷ [])
      ∙ sym (drop-append-le r.k more.older (more.newest ∷ []) r.within);
  within = omega (arith, r.within, length-append more.older (more.newest ∷ []));
  newest = λ i. put (r.newest i) p x;
  mark = grown more.mark few.mark r.mark;
}
  where
    grown : (m j : Option ℕ) → MarkIs r.k (length more.older) m j
        → MarkIs r.k (length (more.older ++ more.newest ∷ [])) m j
    grown None None h = h
    grown None (Some j) h = h
    grown (Some m) None h = h
    grown (Some m) (Some j) h = (
      h.0,
      omega (arith, h.1, length-append more.older (more.newest ∷ [])),
    )

-- a fence of the second line alone
later_fence_of : (older : List Words) (newest : Words) (more : Line) (j : Option ℕ) (k : ℕ)
    → older ≡ drop k more.older → k ≤ length more.older → newest ≡ more.newest → (m : Option ℕ)
    → more.mark ≡ m → MarkIs k (length more.older) m j
    → Later (fence_at j (record { older = older; newest = newest; mark = j })) more
later_fence_of older newest more None k e within n None is h =
    record {
      k = k;
      older = e;
      within = within;
      newest = n;
      mark = subst (λ (o : Option ℕ). MarkIs k (length more.older) o None) (sym is) tt;
    }
later_fence_of older newest more None k e within n (Some m) is h =
    record {
      k = k;
      older = e;
      within = within;
      newest = n;
      mark = subst (λ (o : Option ℕ). MarkIs k (length more.older) o None) (sym is) h;
    }
later_fence_of older newest more (Some j) k e within n None is h = absurd h
later_fence_of older newest more (Some j) k e within n (Some m) is h = record {
  k = m;
  older = ap (λ (us : List Words). drop j us) e ∙ drop-drop j k more.older
      ∙ ap (λ (i : ℕ). drop i more.older) h.0;
  within = h.1;
  newest = n;
  mark = subst (λ (o : Option ℕ). MarkIs m (length more.older) o None) (sym is) (omega arith);
}

later_fence : (few more : Line) → Later few more → Later (fence_line few) more
later_fence few more r = later_fence_of few.older few.newest more few.mark r.k r.older r.within
    r.newest more.mark refl r.mark

-- a fence of both lines
both_fence_of : (few more : Line) (m j : Option ℕ) (k : ℕ) → few.older ≡ drop k more.older
    → k ≤ length more.older → few.newest ≡ more.newest → few.mark ≡ j → more.mark ≡ m
    → MarkIs k (length more.older) m j → Later (fence_at j few) (fence_at m more)
both_fence_of few more None None k e within n isj ism h =
    record {
      k = k;
      older = e;
      within = within;
      newest = n;
      mark = subst₂ (λ (x y : Option ℕ). MarkIs k (length more.older) x y) (sym ism) (sym isj) tt;
    }
both_fence_of few more None (Some j) k e within n isj ism h = absurd h
both_fence_of few more (Some m) None k e within n isj ism h = record {
  k = k - m;
  older = e ∙ sym (drop-drop (k - m) m more.older ∙ ap (λ (i : ℕ). drop i more.older)
      (let s : m + (k - m) ≡ k = omega arith in s));
  within = omega (arith, length-drop m more.older);
  newest = n;
  mark = subst (λ (y : Option ℕ). MarkIs (k - m) (length (drop m more.older)) None y) (sym isj) tt;
}
both_fence_of few more (Some m) (Some j) k e within n isj ism h = record {
  k = 0;
  older = ap (λ (us : List Words). drop j us) e ∙ drop-drop j k more.older
      ∙ ap (λ (i : ℕ). drop i more.older) h.0;
  within = omega arith;
  newest = n;
  mark = tt;
}

both_fence : (few more : Line) → Later few more → Later (fence_line few) (fence_line more)
both_fence few more r = both_fence_of few more more.mark few.mark r.k r.older r.within r.newest refl
    refl r.mark

no_more : (n k : ℕ) (mm : Option ℕ) (j : ℕ) → n ≤ k → MarkIs k n mm (Some j) → j ≡ 0
no_more n k None j le h = absurd h
no_more n k (Some m) j le h = omega arith

flush_marks : (fo mo : List Words) (fm mm : Option ℕ) (k : ℕ) → fo ≡ drop k mo → k ≤ length mo
    → MarkIs k (length mo) mm fm → MarkIs k (length mo) (mark_of mo mm) (mark_of fo fm)
flush_marks [] [] fm mm k e within h = h
flush_marks (v ∷ vs) [] fm mm k e within h =
    absurd (omega (arith, ap (length {A = Words}) e, length-drop {A = Words} k []))
flush_marks [] (y ∷ ys) None mm k e within h =
    omega (arith, ap (length {A = Words}) e, length-drop k (y ∷ ys))
flush_marks [] (y ∷ ys) (Some j) mm k e within h =
    let all : length (y ∷ ys) ≤ k =
    omega (arith, ap (length {A = Words}) e, length-drop k (y ∷ ys)) in
    let none : j ≡ 0 = no_more (length (y ∷ ys)) k mm j all h in
    (omega arith, omega arith)
flush_marks (v ∷ vs) (y ∷ ys) fm mm k e within h =
    (omega (arith, ap (length {A = Words}) e, length-drop k (y ∷ ys)), omega arith)

later_flush : (few more : Line) → Later few more → Later (flush_line few) (flush_line more)
later_flush few more r = record {
  k = r.k;
  older = r.older;
  within = r.within;
  newest = r.newest;
  mark = flush_marks few.older more.older few.mark more.mark r.k r.older r.within r.mark;
}

-- all lines

abbrev pub AllLater : Cache → Cache → Type 0
AllLater few more = (l : ℕ) → Later (few l) (more l)

store_of : (b : Bool) (few more : Line) (p : ℕ) (x : ℤ) → Later few more
    → Later (cond b (store_line few p x) few) (cond b (store_line more p x) more)
store_of true few more p x r = later_store few more p x r
store_of false few more p x r = r

flush_of : (b : Bool) (few more : Line) → Later few more
    → Later (cond b (flush_line few) few) (cond b (flush_line more) more)
flush_of true few more r = later_flush few more r
flush_of false few more r = r

later_event : (few more : Cache) (e : CacheEvent) → AllLater few more
    → AllLater (apply few e) (apply more e)
unfolding apply
later_event few more (Store p x) r l = store_of (l == p / 8) (few l) (more l) p x (r l)
later_event few more (Flush k) r l = flush_of (l == k) (few l) (more l) (r l)
later_event few more Fence r l = both_fence (few l) (more l) (r l)

added_fence : (few more : Cache) → AllLater few more → AllLater (apply few Fence) more
unfolding apply
added_fence few more r l = later_fence (few l) (more l) (r l)

later_image : (few more : Cache) (image : Words) → AllLater few more → IsImage few image
    → IsImage more image
later_image few more image r im l = let pick = im l in
    (pick.0, later_version (few l) (more l) pick.0 (r l) pick.1, pick.2)

during_first : (c : Cache) (es : List CacheEvent) (Q : Cache → Type 0) → during c es Q → Q c
during_first c [] Q h = h
during_first c (e ∷ es) Q h = h.0

pub fenced_during : (P : Words → Type 0) (es fs : List CacheEvent) → IsFenced es fs
    → (few more : Cache) → AllLater few more → during more es (Images P) → during few fs (Images P)
    × AllLater (play few fs) (play more es)
fenced_during P _ _ Empty few more r h =
    ((λ image im. h image (later_image few more image r im)), r)
fenced_during P _ _ (Kept {es = es} {fs = fs} e is) few more r h =
    let rest = fenced_during P es fs is (apply few e) (apply more e)
    (later_event few more e r) h.1 in
    (((λ image im. h.0 image (later_image few more image r im)), rest.0), rest.1)
fenced_during P _ _ (Added {es = es} {fs = fs} is) few more r h =
    let rest = fenced_during P es fs is (apply few Fence) more (added_fence few more r) h in (
      (
        (λ image im. during_first more es (Images P) h image (later_image few more image r im)),
        rest.0,
      ),
      rest.1,
    )

all_left : (c : Cache) (es : List CacheEvent) → during c es (Images (IsLeft c es))
all_left c [] = λ image im. ([], [], refl, im)
all_left c (e ∷ es) = (
  (λ image im. ([], e ∷ es, refl, im)),
  during_more (apply c e) es (Images (IsLeft (apply c e) es)) (Images (IsLeft c (e ∷ es)))
      (λ d h image im. let left = h image im in (e ∷ left.0, left.1, (λ i. e ∷ left.2 i), left.3))
      (all_left (apply c e) es),
)

later_rest : (few more : Line) → Later few more → more.older ≡ [] → few.older ≡ []
later_rest few more r e = r.older ∙ ap (λ (us : List Words). drop r.k us) e
    ∙ drop_all r.k [] (omega arith)

pub fences_add_none : AddedFencesLaw
fences_add_none c es fs marks fenced =
    let start : AllLater c c = λ l. later_same_of (c l) (c l).mark refl (marks l) in
    let both = fenced_during (IsLeft c es) es fs fenced c c start (all_left c es) in (
      (λ image left. left_image (IsLeft c es) c fs image both.0 left),
      (λ image im. later_image (play c fs) (play c es) image both.1 im),
      (λ rest l. later_rest (play c fs l) (play c es l) (both.1 l) (rest l)),
    )
