-- What each image that a power cut may leave has, by what the user knows.
use Rattle.std.specs.Prelude.{suc, ◌≡◌, ◌≢◌, ◌⊎◌, pos}
use Rattle.cache_model.specs.Cache.{Words, view}
use Rattle.cache_model.specs.Image.{Images, HasOne}
use Rattle.pmem.specs.Device.{Device}
use Rattle.pmem.specs.declared.answer.Phase.{Phase}
use Rattle.pmem.specs.declared.answer.Phase.TheVariants as phase
use Rattle.pool_layout.specs.declared.places.TheConstants.{LAST, DONE, MARK, SEAL}
use Rattle.pool_map.specs.Trap.{trap_number}
use Rattle.user_law.specs.Source.{Source, pool_of_image}
use Rattle.user_law.specs.State.{UserStanding, Ready, Idle, Owed, Unusable, UserState}

-- The image is a pool without a mark and without the seal of a next transaction; its counts, its
-- last value and its heap are those that the user knows.
pub record HasState (p : Source) (s : UserState) (image : Words) : Type 0 where
  pub mark : image MARK ≡ pos 0
  pub unsealed : image SEAL ≢ pos (suc s.done)
  pub done : image DONE ≡ pos s.done
  pub last : image LAST ≡ s.last
  pub pool : pool_of_image p image ≡ s.pool

abbrev pub HasNextSeal : UserState → Words → Type 0
HasNextSeal s image = image SEAL ≡ pos (suc s.done)

-- where a call was cut off: nothing of it is there, or its seal is, or the mark of its trap
abbrev pub IsOwedAt : Phase → Source → UserState → Words → Type 0
IsOwedAt phase.Unsealed p s image = image SEAL ≢ pos (suc s.done)
IsOwedAt phase.Sealing p s image = HasState p s image ⊎ (HasNextSeal s image ⊎ (image MARK ≢ pos 0))
IsOwedAt phase.Sealed p s image = HasNextSeal s image

abbrev pub UserKeepsAs : UserStanding → Source → Device → UserState → Type 0
UserKeepsAs Ready p d s = HasOne d.cache (view d.cache) × HasState p s (view d.cache)
UserKeepsAs Idle p d s = Images (HasState p s) d.cache
UserKeepsAs (Owed call seal) p d s =
    Images (IsOwedAt phase.Sealing p s) d.cache × Images (IsOwedAt seal p s) d.cache
UserKeepsAs (Unusable kind) p d s = Images (λ image. image MARK ≡ pos (trap_number kind)) d.cache

abbrev pub UserKeeps : Source → Device → UserState → Type 0
UserKeeps p d s = UserKeepsAs s.standing p d s
