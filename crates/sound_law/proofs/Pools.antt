-- A pool that fits still fits after a store, a free and a new object.
use Rattle.std.proofs.Common.{◌≡◌, ℕ, zero, suc, ◌-◌, Bool, true, false}
use Rattle.std.proofs.Common.{Option, None, Some, IfSome, IsSomeAnd, option_map}
use Rattle.std.proofs.Common.{ℤ, pos, sym, ◌∙◌, subst}
use Rattle.std.specs.Prelude.{if◌then◌else◌}
use Rattle.std.proofs.lemmas.List.{length-set, length-replicate}
use Rattle.pool_map.specs.declared.object.Object.{Object}
use Rattle.pool_map.specs.declared.shapes.StructShape.{StructShape}
use Rattle.pool_map.specs.declared.shapes.Shapes.{Shapes}
use Rattle.pool_map.specs.PoolFits.{PoolFits, ObjectFits, words_of, struct_at}
use Rattle.pool_map.specs.PoolMap.{PoolMap, object_at, with_object, blank_object, with_field}
use Rattle.pool_map.specs.PoolMap.{write, free}
use Rattle.pool_map.specs.Checks.{has_word, new_at}
use Rattle.pool_map.proofs.Fitting.{slot_put, slot_all}
use Rattle.pool_map.specs.declared.word.PoolWord.{PoolWord}
use Rattle.pool_map.specs.declared.word.PoolWord.TheVariants.{Root, Field}
use Rattle.pool_map.specs.Words.{write_word}

module _ (shapes : Shapes) where
  pub object_fits : (w : PoolMap) (q : ℕ) → PoolFits shapes w
      → IfSome (object_at w q) (ObjectFits shapes.structs)
  object_fits w zero fits = tt
  object_fits w (suc i) fits = slot_all (ObjectFits shapes.structs) w.slots i fits.1

  fits_at : (w : PoolMap) (q : ℕ) (o : Option Object) → PoolFits shapes w
      → IfSome o (ObjectFits shapes.structs) → PoolFits shapes (with_object w q o)
  fits_at w q o fits one =
      (fits.0, slot_put (ObjectFits shapes.structs) w.slots (q - 1) o fits.1 one)

  field_fits : (o : Option Object) (i : ℕ) (v : ℤ) → IfSome o (ObjectFits shapes.structs)
      → IfSome (option_map (with_field i v) o) (ObjectFits shapes.structs)
  field_fits None i v fits = tt
  field_fits (Some object) i v fits =
      subst (λ (n : ℕ). IsSomeAnd (struct_at shapes.structs object.kind)
      (λ shape. n ≡ words_of shape.fields)) (sym (length-set object.fields i v)) fits

  write_fits : (w : PoolMap) (q i : ℕ) (v : ℤ) (b : Bool) → PoolFits shapes w
      → PoolFits shapes (if b then write w q i v else w)
  write_fits w q i v true fits =
      fits_at w q (option_map (with_field i v) (object_at w q)) fits
      (field_fits (object_at w q) i v (object_fits w q fits))
  write_fits w q i v false fits = fits

  pub store_fits : (w : PoolMap) (x : PoolWord) (v : ℤ) → PoolFits shapes w
      → PoolFits shapes (write_word w x v)
  store_fits w (Root i) v fits = (length-set w.root i v ∙ fits.0, fits.1)
  store_fits w (Field q i) v fits = write_fits w q i v (has_word (object_at w q) i) fits

  pub free_fits : (w : PoolMap) (q : ℕ) → PoolFits shapes w → PoolFits shapes (free w q)
  free_fits w q fits = fits_at w q None fits tt

  blank_fits : (kind words : ℕ) (shape : StructShape)
      → struct_at shapes.structs kind ≡ Some shape → words ≡ words_of shape.fields
      → ObjectFits shapes.structs (blank_object kind words)
  blank_fits kind words shape at same = rw at (length-replicate words (pos 0) ∙ same)

  pub new_fits : (w : PoolMap) (kind words : ℕ) (o : Option ℕ) (shape : StructShape)
      → struct_at shapes.structs kind ≡ Some shape → words ≡ words_of shape.fields
      → PoolFits shapes w → PoolFits shapes (new_at w kind words o).1
  new_fits w kind words None shape at same fits = fits
  new_fits w kind words (Some q) shape at same fits =
      fits_at w q (Some (blank_object kind words)) fits (blank_fits kind words shape at same)
