-- What a pool's sizes and a program's shapes must satisfy: the pool has at least one slot and at
-- most 1,048,576, the root's words are those of its fields and take at most 8,192 lines, a struct
-- has fewer words than a slot, and there are at most 255 structs. Each program that passes the
-- front end has such shapes, with the sizes that are asked for it.
use Rattle.std.specs.Prelude.{ℕ, ◌<◌, ◌≤◌, ◌≡◌, length, Some, slice_get}
use Rattle.pool_layout.specs.declared.limits.Sizes.{Sizes}
use Rattle.pool_map.specs.declared.shapes.StructShape.{StructShape}
use Rattle.pool_map.specs.declared.shapes.Shapes.{Shapes}
use Rattle.pool_map.specs.PoolFits.{words_of}
use Rattle.pm_alloc.specs.Search.{IsPool}
use Rattle.pool_layout.specs.Sizes.{slot_words}

pub record IsFit (s : Sizes) (shapes : Shapes) : Type 0 where
  pub pool : IsPool s
  pub root : words_of shapes.root ≡ s.root_words
  pub short : (k : ℕ) (shape : StructShape) → slice_get shapes.structs k ≡ Some shape
      → words_of shape.fields < slot_words s
  pub few : length shapes.structs ≤ 255
