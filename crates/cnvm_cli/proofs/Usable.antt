-- What a run on a former pool rests on.
use Rattle.std.proofs.Common.{◌≡◌, List, ℕ, Option, None, sym, ◌∙◌, arith}
use Rattle.cnvm_session.specs.Former.{first_other}
use Rattle.cnvm_session.specs.Pool.{sizes_of}
use Rattle.cnvm_compile.specs.declared.asked.Asked.{Asked}
use Rattle.cnvm_compile.specs.declared.compiling.Compiled.{Compiled}
use Rattle.cnvm_compile.specs.Compilation.{IsCompiled}
use Rattle.file_law.proofs.Shapes.{moved_sizes}
use Rattle.cnvm_cli.specs.declared.former.FormerPool.{FormerPool}
use Rattle.cnvm_cli.specs.inside.FormerEnds.{ComesFromText, IsFormerPool, IsUsable}
use Rattle.cnvm_cli.proofs.texts.Sources.{known_bytes}

-- two programs of the same sizes that were asked for
pub sizes_same : (asked : Asked) (former new : Compiled) → ComesFromText asked former
    → ComesFromText asked new → first_other former.program.typed new.program.typed ≡ None
    → sizes_of new.program ≡ sizes_of former.program
sizes_same asked former new old text none =
    moved_sizes former.program new.program none text.1.accepted.1 old.1.agrees text.1.agrees
    (text.1.sizes.0 ∙ sym old.1.sizes.0) (text.1.sizes.1 ∙ sym old.1.sizes.1)
    (text.1.sizes.2 ∙ sym old.1.sizes.2)

pub usable_pool : (asked : Asked) (new : Compiled) (former image : Option (List ℕ))
    (pool : FormerPool) → ComesFromText asked new
    → IsFormerPool asked new.program former image pool → IsUsable new.program pool
usable_pool asked new former image pool text is =
    let old = known_bytes former (λ t. IsCompiled asked t pool.compiled) is.compiled in
    let whole = is.gives.0.whole in
    record {
      formed = old.1.well_formed;
      long = omega (arith, whole);
      other = is.other;
      sizes =
          λ (none : pool.other ≡ None).
          sizes_same asked pool.compiled new old text (sym is.other ∙ none);
    }
