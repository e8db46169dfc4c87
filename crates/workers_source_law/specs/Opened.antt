-- What the source knows of workers whose compartments are images that are opened: of each what it
-- knows of the image.
use Rattle.std.specs.Prelude.{ℕ, ◌*◌, ◌<◌, ◌≡◌, List, length, ℤ}
use Rattle.cache_model.specs.Cache.{Words}
use Rattle.pool_layout.specs.Sizes.{pool_lines}
use Rattle.pool_layout.specs.Image.{image_words}
use Rattle.pool_layout.specs.Opened.{IsOpened}
use Rattle.pool_workers.specs.Compartment.{words_within}
use Rattle.cnvm_session.specs.declared.program.Program.{Program}
use Rattle.cnvm_session.specs.Pool.{sizes_of, wanted_of}
use Rattle.session_law.specs.Opened.{opened}
use Rattle.session_law.specs.Words.{AreWords}
use Rattle.workers_source_law.specs.States.{States}

-- as many words as the compartments have, and those of each are an image's that was read
pub record AreOpened (program : Program) (count : ℕ) (words : List ℤ) : Type 0 where
  pub whole : length words ≡ 8 * (pool_lines (sizes_of program) * count)
  pub each : (worker : ℕ) → worker < count
      → IsOpened (wanted_of program) (words_within (sizes_of program) worker words)
  pub fit : (worker : ℕ) → worker < count
      → AreWords (words_within (sizes_of program) worker words)

-- the image of a worker's compartment
abbrev pub image_at : Program → List ℤ → (worker : ℕ) → Words
image_at program words worker = image_words (words_within (sizes_of program) worker words)

-- what the source knows of each worker's image
abbrev pub all_opened : Program → List ℤ → States
all_opened program words worker = opened program (image_at program words worker)
