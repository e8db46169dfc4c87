-- Which event of a list is refused, and the device after it.
use Rattle.std.proofs.Common.{◌≡◌, ◌≢◌, inl, inr, ⊎_elim, ℕ, zero, suc, ◌-◌, ◌<◌, ◌≤◌, List, []}
use Rattle.std.proofs.Common.{◌∷◌, length, take, Option, Some, None, false, refl, sym, ap, ◌∙◌}
use Rattle.std.proofs.Common.{subst, arith}
use Rattle.std.proofs.lemmas.Option.{same_Some}
use Rattle.cache_model.specs.Event.{CacheEvent}
use Rattle.cache_model.specs.Play.{play}
use Rattle.pmem.specs.Device.{Device, less_one, armed_less, armed_as, FaultsRose, MayFail, MayGo}
use Rattle.pmem.specs.Device.{spent, off_of, failed_of}
use Rattle.pmem.specs.Played.{Refuses, PlaysAll, PlaysPart}
use Rattle.pmem.specs.Law.{AllLaw, OffLaw, FailedLaw, MemoryLaw, DownLaw}
use Rattle.pmem.specs.declared.answer.Refusal.{Refusal}
use Rattle.pmem.specs.declared.answer.Refusal.TheVariants.{Off, Failed, NoMemory}

all_lines : (es : List CacheEvent) (d b : Device) → PlaysAll d es b → b.lines ≡ d.lines
all_lines [] d b all = ap (λ (x : Device). x.lines) all
all_lines (e ∷ es) d b all = all_lines es (spent d e) b all.1

pub all_cache : (es : List CacheEvent) (d b : Device) → PlaysAll d es b → b.cache ≡ play d.cache es
all_cache [] d b all = ap (λ (x : Device). x.cache) all
all_cache (e ∷ es) d b all = all_cache es (spent d e) b all.1

pub all_on : (es : List CacheEvent) (d b : Device) → PlaysAll d es b → b.on ≡ d.on
all_on [] d b all = ap (λ (x : Device). x.on) all
all_on (e ∷ es) d b all = all_on es (spent d e) b all.1

pub all_faults : (es : List CacheEvent) (d b : Device) → PlaysAll d es b → b.faults ≡ d.faults
all_faults [] d b all = ap (λ (x : Device). x.faults) all
all_faults (e ∷ es) d b all = all_faults es (spent d e) b all.1

pred_of : (n : ℕ) → suc n - 1 ≡ n
pred_of n = omega arith

all_left : (es : List CacheEvent) (d b : Device) (n : ℕ) → PlaysAll d es b → d.left ≡ Some n
    → (length es ≤ n) × (b.left ≡ Some (n - length es))
all_left [] d b n all is = (
  omega arith,
  ap (λ (x : Device). x.left) all ∙ is
      ∙ ap Some (omega arith),
)
all_left (e ∷ es) d b zero all is = absurd (all.0.0.1 is)
all_left (e ∷ es) d b (suc n) all is =
    let h = all_left es (spent d e) b n all.1 (ap less_one is ∙ ap Some (pred_of n)) in
    let lt = h.0 in
    (omega arith, h.1 ∙ ap Some (omega arith))

all_endless : (es : List CacheEvent) (d b : Device) → PlaysAll d es b → d.left ≡ None
    → b.left ≡ None
all_endless [] d b all is = ap (λ (x : Device). x.left) all ∙ is
all_endless (e ∷ es) d b all is = all_endless es (spent d e) b all.1 (ap less_one is)

may_go : (a : Option (Option ℕ)) → MayGo a → a ≢ Some (Some 0)
may_go None go e = cc
may_go (Some k) go e = go (cc)

all_armed : (es : List CacheEvent) (d b : Device) (i : ℕ) → PlaysAll d es b
    → d.armed ≡ Some (Some i) → (length es ≤ i) × (b.armed ≡ Some (Some (i - length es)))
all_armed [] d b i all is = (
  omega arith,
  ap (λ (x : Device). x.armed) all ∙ is
      ∙ ap (λ (n : ℕ). Some (Some n)) (omega arith),
)
all_armed (e ∷ es) d b zero all is = absurd (may_go d.armed all.0.1 is)
all_armed (e ∷ es) d b (suc i) all is =
    let h = all_armed es (spent d e) b i all.1
    (ap armed_less is ∙ ap (λ (n : ℕ). Some (Some n)) (pred_of i)) in
    let lt = h.0 in
    (omega arith, h.1 ∙ ap (λ (n : ℕ). Some (Some n)) (omega arith))

all_unarmed : (es : List CacheEvent) (d b : Device) → PlaysAll d es b → d.armed ≡ Some None
    → b.armed ≡ Some None
all_unarmed [] d b all is = ap (λ (x : Device). x.armed) all ∙ is
all_unarmed (e ∷ es) d b all is = all_unarmed es (spent d e) b all.1 (ap armed_less is)

all_untold : (es : List CacheEvent) (d b : Device) → PlaysAll d es b → d.armed ≡ None
    → b.armed ≡ None
all_untold [] d b all is = ap (λ (x : Device). x.armed) all ∙ is
all_untold (e ∷ es) d b all is = all_untold es (spent d e) b all.1 (ap armed_less is)

pub all_done : AllLaw
all_done d b es all = record {
  lines = all_lines es d b all;
  cache = all_cache es d b all;
  on = all_on es d b all;
  faults = all_faults es d b all;
  left = λ n is. all_left es d b n all is;
  endless = λ is. all_endless es d b all is;
  armed = λ i is. all_armed es d b i all is;
  unarmed = λ is. all_unarmed es d b all is;
  untold = λ is. all_untold es d b all is;
}

-- the device before the refused event, and the number of events done
record Stops (why : Refusal) (d : Device) (es : List CacheEvent) (b : Device) : Type 0 where
  n : ℕ
  fewer : n < length es
  at : Device
  done : PlaysAll d (take n es) at
  count : length (take n es) ≡ n
  refuses : Refuses why at b

stops : (es : List CacheEvent) (why : Refusal) (d b : Device) → PlaysPart why d es b
    → Stops why d es b
stops [] why d b part = absurd part
stops (e ∷ es) why d b (inl refuses) =
    record { n = 0; fewer = omega arith; at = d; done = refl; count = refl; refuses = refuses.1 }
stops (e ∷ es) why d b (inr part) =
    let s = stops es why (spent d e) b part.1 in
    let lt = s.fewer in
    record {
      n = suc s.n;
      fewer = omega arith;
      at = s.at;
      done = (part.0, s.done);
      count = ap suc s.count;
      refuses = s.refuses;
    }

left_of : (l : Option ℕ) (k : ℕ) (m : Option ℕ)
    → ((n : ℕ) → l ≡ Some n → (k ≤ n) × (m ≡ Some (n - k))) → (l ≡ None → m ≡ None) → m ≡ Some 0
    → l ≡ Some k
left_of None k m some none is = absurd (let e = none refl in cc)
left_of (Some n) k m some none is =
    let h = some n refl in
    let le = h.0 in
    let e : n - k ≡ 0 = same_Some (n - k) 0 (sym h.1 ∙ is) in
    ap Some (omega arith)

pub went_off : OffLaw
went_off d b es part on =
    let s = stops es Off d b part in
    let a = all_done d s.at (take s.n es) s.done in
    let is : b ≡ off_of s.at = s.refuses.1 in
    let zero : s.at.left ≡ Some 0 =
    ⊎_elim (λ off. absurd (let e = a.on in cc)) (λ z. z) s.refuses.0 in
    record {
      n = s.n;
      left = left_of d.left (length (take s.n es)) s.at.left a.left a.endless zero
          ∙ ap Some s.count;
      fewer = s.fewer;
      armed = λ i told. let le = (a.armed i told).0 in let c = s.count in omega arith;
      cache = ap (λ (x : Device). x.cache) is ∙ a.cache;
      lines = ap (λ (x : Device). x.lines) is ∙ a.lines;
      off = ap (λ (x : Device). x.on) is;
      none = ap (λ (x : Device). x.left) is;
      faults = ap (λ (x : Device). x.faults) is ∙ a.faults;
    }

armed_of : (a : Option ℕ) (o : Option ℕ) (k : ℕ) (m : Option (Option ℕ)) → a ≡ o
    → ((i : ℕ) → a ≡ Some i → (k ≤ i) × (m ≡ Some (Some (i - k)))) → (a ≡ None → m ≡ Some None)
    → MayFail m → (o ≡ Some k) × (armed_as None m ≡ Some None)
armed_of None o k m same some none may = absurd (let e = none refl in
    let f : None ≡ Some 0 = subst MayFail e may in cc)
armed_of (Some i) o k m same some none may =
    let h = some i refl in
    let le = h.0 in
    let f : Some (i - k) ≡ Some 0 = subst MayFail h.1 may in
    let e : i - k ≡ 0 = same_Some (i - k) 0 f in
    (sym same ∙ ap Some (omega arith), ap (armed_as None) h.1)

pub has_failed : FailedLaw
has_failed d b es part =
    let s = stops es Failed d b part in
    let a = all_done d s.at (take s.n es) s.done in
    let count = s.count in
    let is : b ≡ failed_of s.at b.faults = s.refuses.3 in
    record {
      n = s.n;
      fewer = s.fewer;
      more = λ k told.
          let h = a.left k told in
          let le = h.0 in
          let ne : k - s.n ≢ 0 = λ z. s.refuses.0.1 (h.1 ∙ ap (λ (c : ℕ). Some (k - c)) count
          ∙ ap Some z) in
          (omega arith, ap (λ (x : Device). x.left) is ∙ h.1 ∙ ap (λ (c : ℕ). Some (k - c)) count);
      endless = λ none. ap (λ (x : Device). x.left) is ∙ a.endless none;
      armed = λ o told.
          let h = armed_of o o (length (take s.n es)) s.at.armed refl
          (λ i e. a.armed i (told ∙ ap Some e)) (λ e. a.unarmed (told ∙ ap Some e)) s.refuses.1 in
          (h.0 ∙ ap Some count, ap (λ (x : Device). x.armed) is ∙ h.1);
      untold = λ none. ap (λ (x : Device). x.armed) is ∙ ap (armed_as None) (a.untold none);
      cache = ap (λ (x : Device). x.cache) is ∙ a.cache;
      lines = ap (λ (x : Device). x.lines) is ∙ a.lines;
      was_on = sym a.on ∙ s.refuses.0.0;
      on = ap (λ (x : Device). x.on) is ∙ s.refuses.0.0;
      rose = subst (λ (n : ℕ). FaultsRose n b.faults) a.faults s.refuses.2;
    }

pub was_short : MemoryLaw
was_short d b es part =
    let s = stops es NoMemory d b part in
    record {
      n = s.n;
      fewer = s.fewer;
      done = subst (λ (x : Device). PlaysAll d (take s.n es) x)
          (sym s.refuses) s.done;
    }

down_all : (es : List CacheEvent) (d b : Device) → d.on ≡ false → PlaysAll d es b
    → (es ≡ []) × (b ≡ d)
down_all [] d b off all = (refl, all)
down_all (e ∷ es) d b off all = absurd (let on = all.0.0.0 in cc)

down_off : (es : List CacheEvent) (d b : Device) → d.on ≡ false → PlaysPart Off d es b
    → (b.cache ≡ d.cache) × (b.on ≡ false)
down_off [] d b off part = absurd part
down_off (e ∷ es) d b off (inl refuses) =
    (ap (λ (x : Device). x.cache) refuses.1.1, ap (λ (x : Device). x.on) refuses.1.1)
down_off (e ∷ es) d b off (inr rest) = absurd (let on = rest.0.0.0 in cc)

down_failed : (es : List CacheEvent) (d b : Device) → d.on ≡ false → PlaysPart Failed d es b → ⊥
down_failed [] d b off part = part
down_failed (e ∷ es) d b off (inl refuses) = let on = refuses.1.0.0 in cc
down_failed (e ∷ es) d b off (inr rest) = let on = rest.0.0.0 in cc

down_short : (es : List CacheEvent) (d b : Device) → d.on ≡ false
    → PlaysPart NoMemory d es b → b ≡ d
down_short [] d b off part = absurd part
down_short (e ∷ es) d b off (inl same) = same.1
down_short (e ∷ es) d b off (inr rest) = absurd (let on = rest.0.0.0 in cc)

pub down : DownLaw
down d b es off = (
  down_all es d b off,
  down_off es d b off,
  down_failed es d b off,
  down_short es d b off,
)
