use Rattle.cache_model.proofs.laws.cache_laws.Goals as goal
use Rattle.cache_model.proofs.Versions.{store_version, flush_version, fence_version, store_other}
use Rattle.cache_model.proofs.Views.{view_store, view_flush, view_fence}
use Rattle.cache_model.proofs.Ready.{flush_ready, fence_single}
use Rattle.cache_model.proofs.During.{play_append, during_end}
use Rattle.cache_model.specs.Image.{HasOne}
use Rattle.cache_model.proofs.Collapses.{left_image, left_one}

pub returns-clause-store : goal.returns-clause-store
returns-clause-store c = (store_version, store_other, view_store)

pub returns-clause-flush : goal.returns-clause-flush
returns-clause-flush c = (flush_version, view_flush, flush_ready)

pub returns-clause-fence : goal.returns-clause-fence
returns-clause-fence c = (fence_version, view_fence, fence_single)

pub returns-clause-play : goal.returns-clause-play
returns-clause-play c = (play_append, λ c es one h. during_end c es (λ d. HasOne d one) h)

pub returns-clause-collapse : goal.returns-clause-collapse
returns-clause-collapse c = λ c rest picks. (left_image c rest picks, left_one c rest picks)
