-- Lines with given words, eight to a line. Each line has one version.
use Rattle.std.specs.Prelude.{◌/◌, true, List, [], length, None, ℤ}
use Rattle.cache_model.specs.Cache.{Cache, Memory}
use Rattle.pmem.specs.Device.{Device, armed_as}
use Rattle.pmem.specs.Sparse.{newest_of}

abbrev pub filled_cache : List ℤ → Cache
filled_cache words l = record { older = []; newest = newest_of words l; mark = None }

abbrev pub filled_memory : List ℤ → Memory
filled_memory words = record { lines = length words / 8; cache = filled_cache words }

-- the device with these lines, switched on, with nothing armed
abbrev pub filled : List ℤ → Device → Device
filled words d = record {
  lines = length words / 8;
  cache = filled_cache words;
  on = true;
  left = None;
  armed = armed_as None d.armed;
  faults = d.faults;
}
