-- The place of a pool's file in memory.
use Rattle.file_pmem.specs.Found.{Found, Nothing, Taken, There}
use Rattle.file_pmem.specs.MemFile.{lines_from}
use Rattle.file_pmem.specs.declared.mem_pools.Place.{Place}
use Rattle.file_pmem.specs.declared.mem_pools.Place.TheVariants as place

-- what its name leads to
abbrev pub place_found : Place → Found
place_found place.Nothing = Nothing
place_found place.Taken = Taken
place_found (place.There file) = There (lines_from file.lines)
