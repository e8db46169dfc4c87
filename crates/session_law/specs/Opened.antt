-- What the source knows of an image that is opened. If the image is sealed, the transaction of its
-- record is owed, on the pool that its log restores; else nothing is owed, and the pool is the
-- image's own. If it has a mark, the pool is unusable.
use Rattle.std.specs.Prelude.{if◌then◌else◌, Some, None, pos}
use Rattle.std.specs.Ordering.{int_eq}
use Rattle.cache_model.specs.Cache.{Words}
use Rattle.pool_layout.specs.declared.places.TheConstants.{LAST, DONE, MARK, FUNCTION}
use Rattle.pool_layout.specs.declared.places.Place.TheVariants.{Heap}
use Rattle.pool_layout.specs.Places as places
use Rattle.pool_layout.specs.Image.{is_sealed}
use Rattle.pool_layout.specs.Restored.{restored}
use Rattle.clobber_log.specs.Logs.{attempt_in}
use Rattle.args_log.specs.Pending.{tx_number}
use Rattle.tx_run.specs.Standing.{trap_of_mark}
use Rattle.recovery.specs.Found.{recorded}
use Rattle.cnvm_session.specs.declared.program.Program.{Program}
use Rattle.cnvm_session.specs.Pool.{sizes_of}
use Rattle.session_law.specs.Source.{source_pool}
use Rattle.session_law.specs.State.{Pending, Standing, Down, Unusable, SourceState}

abbrev pub opened_heap : Program → Words → Words
opened_heap program image =
    if is_sealed image then restored (places.pool_of (sizes_of program))
    (attempt_in (sizes_of program) image) image
    else (λ w. image (places.at (places.pool_of (sizes_of program)) (Heap w)))

-- the transaction and the arguments that the record names
abbrev pub recorded_in : Program → Words → Pending
recorded_in program image = record {
  tx = tx_number (image FUNCTION);
  args = recorded program.image (tx_number (image FUNCTION)) image;
}

abbrev pub opened_standing : Program → Words → Standing
opened_standing program image =
    if int_eq (image MARK) (pos 0)
    then Down (if is_sealed image then Some (recorded_in program image) else None)
    else Unusable (trap_of_mark (image MARK))

abbrev pub opened : Program → Words → SourceState
opened program image =
    record {
      pool = source_pool program (opened_heap program image);
      done = tx_number (image DONE);
      last = image LAST;
      standing = opened_standing program image;
    }
