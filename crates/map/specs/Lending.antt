-- What is gathered of a lent list of region entries: the first eight, and the count of all.
use Rattle.std.specs.Prelude.{List, ◌++◌, length, take, replicate}
use Rattle.definition.specs.declared.MemoryRegion.{MemoryRegion}
use Rattle.definition.specs.declared.MemoryRegionKind.TheVariants.{Reserved}
use Rattle.boot.specs.declared.Gathered.{Gathered}

abbrev pub no_region : MemoryRegion
no_region = record { start = record { 0 = 0 }; length = 0; kind = Reserved }

-- eight places, the first of which are the map's
abbrev pub gathered : List MemoryRegion → Gathered
gathered ms = record { map = take 8 (ms ++ replicate 8 no_region); count = length ms }
