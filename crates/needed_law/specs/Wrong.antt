-- What a power cut leaves where an event of a trial is left out, or two are exchanged.
use Rattle.std.specs.Prelude.{ℕ, suc, ◌≡◌, List, [], ◌∷◌, ◌++◌, take, drop, length}
use Rattle.std.specs.Prelude.{slice_index_or, slice_set, ℤ}
use Rattle.cache_model.specs.Event.{CacheEvent, Fence}
use Rattle.cache_model.specs.Cache.{Words, view}
use Rattle.cache_model.specs.Play.{play}
use Rattle.cache_model.specs.Image.{IsImage}
use Rattle.cache_model.specs.Collapse.{left_cache}
use Rattle.cache_model.specs.declared.choice.Rest.{Rest}
use Rattle.cache_model.specs.declared.choice.Pick.{Pick}
use Rattle.crash_law.specs.Law.{collapsed, IsLeft}
use Rattle.needed_law.specs.Trials.{Trial}

-- event n is left out; events i and j are exchanged
abbrev pub lacking : ℕ → List CacheEvent → List CacheEvent
lacking n events = take n events ++ drop (suc n) events

abbrev pub exchanged : (i j : ℕ) → List CacheEvent → List CacheEvent
exchanged i j events = slice_set (slice_set events i (slice_index_or events j Fence)) j
    (slice_index_or events i Fence)

-- line l keeps version k, counted from 0 at the oldest
abbrev pub keeps : (l k : ℕ) → Pick
keeps l k = record { line = l; version = k }

-- what a power cut leaves after n of these events: of each line without a pick the oldest or the
-- newest version
abbrev pub left_after : Words → List CacheEvent → (n : ℕ) → Rest → List Pick → Words
left_after found events n rest picks =
    view (left_cache (play (collapsed found) (take n events)) rest picks)

-- the image has these words
abbrev pub ShowsWords : List (ℕ × ℤ) → Words → Type 0
ShowsWords [] image = Unit {0}
ShowsWords (entry ∷ entries) image = (image entry.0 ≡ entry.1) × ShowsWords entries image

-- A power cut after n of these events leaves an image that has these words, and that the trial's
-- law doesn't allow.
pub record IsWrong (trial : Trial) (events : List CacheEvent) (n : ℕ) (rest : Rest)
    (picks : List Pick) (words : List (ℕ × ℤ)) : Type 0 where
  pub left : IsLeft (collapsed trial.found) events (left_after trial.found events n rest picks)
  pub has : ShowsWords words (left_after trial.found events n rest picks)
  pub wrong : trial.cut (left_after trial.found events n rest picks) → ⊥

-- The same of an image that is left after all of these events.
pub record IsWrongEnd (trial : Trial) (events : List CacheEvent) (rest : Rest) (picks : List Pick)
    (words : List (ℕ × ℤ)) : Type 0 where
  pub left : IsImage (play (collapsed trial.found) events)
      (left_after trial.found events (length events) rest picks)
  pub has : ShowsWords words (left_after trial.found events (length events) rest picks)
  pub wrong : trial.ended (left_after trial.found events (length events) rest picks) → ⊥
