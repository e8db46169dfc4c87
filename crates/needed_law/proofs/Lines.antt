-- A line is played by itself: so a word of what a power cut leaves computes in one step for each
-- event.
use Rattle.std.proofs.Common.{◌≡◌, ℕ, ◌/◌, ◌==◌, cond, List, [], ◌∷◌, take, drop, refl}
use Rattle.std.proofs.Common.{ap, ◌∙◌, sym, subst, length, ℤ, arith}
use Rattle.std.proofs.lemmas.List.{take-append-drop, take_all}
use Rattle.cache_model.specs.Event.{CacheEvent, Store, Flush, Fence}
use Rattle.cache_model.specs.Cache.{Words, Line, Cache, view}
use Rattle.cache_model.specs.Play.{store_line, flush_line, fence_line, apply, play}
use Rattle.cache_model.specs.Image.{IsImage}
use Rattle.cache_model.specs.Collapse.{picked, kept, left_cache}
use Rattle.cache_model.specs.declared.choice.Rest.{Rest}
use Rattle.cache_model.specs.declared.choice.Pick.{Pick}
use Rattle.cache_model.proofs.Collapses.{left_image}
use Rattle.crash_law.specs.Law.{collapsed}
use Rattle.needed_law.specs.Trials.{Trial}
use Rattle.needed_law.specs.Wrong.{left_after, ShowsWords, IsWrong, IsWrongEnd}

-- line l after an event, and after a list of them
abbrev after_one : ℕ → CacheEvent → Line → Line
after_one l (Store p x) y = cond (l == p / 8) (store_line y p x) y
after_one l (Flush k) y = cond (l == k) (flush_line y) y
after_one l Fence y = fence_line y

abbrev after_all : ℕ → List CacheEvent → Line → Line
after_all l [] y = y
after_all l (e ∷ es) y = after_all l es (after_one l e y)

apply_line : (c : Cache) (e : CacheEvent) (l : ℕ) → apply c e l ≡ after_one l e (c l)
unfolding apply
apply_line c (Store p x) l = refl
apply_line c (Flush k) l = refl
apply_line c Fence l = refl

play_line : (c : Cache) (es : List CacheEvent) (l : ℕ) → play c es l ≡ after_all l es (c l)
play_line c [] l = refl
play_line c (e ∷ es) l =
    play_line (apply c e) es l ∙ ap (λ (y : Line). after_all l es y) (apply_line c e l)

-- the same image, by lines
abbrev pub left_words : Words → List CacheEvent → (n : ℕ) → Rest → List Pick → Words
left_words found events n rest picks p =
    kept rest (picked picks (p / 8))
    (after_all (p / 8) (take n events) (collapsed found (p / 8))) p

pub left_same : (found : Words) (events : List CacheEvent) (n : ℕ) (rest : Rest)
    (picks : List Pick)
    → left_after found events n rest picks ≡ left_words found events n rest picks
unfolding view left_cache
left_same found events n rest picks = λ i p.
    kept rest (picked picks (p / 8)) (play_line (collapsed found) (take n events) (p / 8) i) p

pub wrong_is : (trial : Trial) (events : List CacheEvent) (n : ℕ) (rest : Rest)
    (picks : List Pick) (words : List (ℕ × ℤ))
    → ShowsWords words (left_words trial.found events n rest picks)
    → (trial.cut (left_words trial.found events n rest picks) → ⊥)
    → IsWrong trial events n rest picks words
wrong_is trial events n rest picks words has wrong =
    let same = sym (left_same trial.found events n rest picks) in
    record {
      left = (
        take n events,
        drop n events,
        take-append-drop n events,
        left_image (play (collapsed trial.found) (take n events)) rest picks,
      );
      has = subst (λ (image : Words). ShowsWords words image) same has;
      wrong = subst (λ (image : Words). trial.cut image → ⊥) same wrong;
    }

pub wrong_end_is : (trial : Trial) (events : List CacheEvent) (rest : Rest) (picks : List Pick)
    (words : List (ℕ × ℤ))
    → ShowsWords words (left_words trial.found events (length events) rest picks)
    → (trial.ended (left_words trial.found events (length events) rest picks) → ⊥)
    → IsWrongEnd trial events rest picks words
wrong_end_is trial events rest picks words has wrong =
    let same = sym (left_same trial.found events (length events) rest picks) in
    record {
      left = subst (λ (es : List CacheEvent). IsImage (play (collapsed trial.found) es)
          (left_after trial.found events (length events) rest picks))
          (take_all (length events) events (omega arith))
          (left_image (play (collapsed trial.found) (take (length events) events)) rest picks);
      has = subst (λ (image : Words). ShowsWords words image) same has;
      wrong = subst (λ (image : Words). trial.ended image → ⊥) same wrong;
    }
