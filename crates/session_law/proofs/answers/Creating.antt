-- A new pool is at rest, and holds the empty one.
use Rattle.std.proofs.Common.{◌≡◌, ◌≢◌, ℕ, zero, suc, ◌/◌, ◌<◌, ◌≤◌, ◌==◌, cond, Bool, true, false}
use Rattle.std.proofs.Common.{List, [], ◌∷◌, replicate, Option, None, ℤ, pos, refl, sym, ap, ◌∙◌}
use Rattle.std.proofs.Common.{subst, arith}
use Rattle.cache_model.specs.Event.{CacheEvent, Store, Flush, Fence}
use Rattle.cache_model.specs.Cache.{Words, put, Line, Cache, view, blank_line, blank}
use Rattle.cache_model.specs.Play.{flush_line, fence_line, apply, play}
use Rattle.cache_model.proofs.Versions.{store_other}
use Rattle.pmem.specs.Device.{blanked}
use Rattle.pmem.proofs.Refused.{all_cache, all_on}
use Rattle.pool_layout.specs.declared.places.TheConstants.{LAST, DONE, ATTEMPT, MARK, SEAL}
use Rattle.pool_layout.specs.declared.limits.Sizes.{Sizes}
use Rattle.pool_layout.specs.declared.places.Place.TheVariants.{RecordStamp, Heap}
use Rattle.pool_layout.specs.Places as places
use Rattle.pool_layout.specs.Sizes.{pool_lines}
use Rattle.pool_layout.proofs.Records.{count_is, pos_inj}
use Rattle.pool_layout.specs.Good.{Good}
use Rattle.pool_map.specs.declared.object.Object.{Object}
use Rattle.pool_map.specs.declared.shapes.StructShape.{StructShape}
use Rattle.pm_machine.specs.HeapPool.{words_from, objects_from}
use Rattle.clobber_log.specs.Logs.{count_in}
use Rattle.crash_law.specs.Pools.{IsBefore}
use Rattle.crash_law.specs.Law.{IsAtRest}
use Rattle.c_types.specs.Shapes.{shapes_of}
use Rattle.cut_law.specs.Law.{pool_with}
use Rattle.cnvm_session.specs.declared.program.Program.{Program}
use Rattle.cnvm_session.specs.Pool.{sizes_of}
use Rattle.args_log.specs.Created.{sizes_events, digest_events, creation_events}
use Rattle.session_law.specs.State.{created}
use Rattle.session_law.specs.Holds.{HoldsPool}
use Rattle.session_law.specs.Law.{super_words, CreatedLaw}
use Rattle.session_law.proofs.Words.{empty_words}
use Rattle.session_law.proofs.images.Retired.{count_at}
use Rattle.session_law.proofs.images.Resting.{resting_at}

-- events that store nothing to line l; a blank line that isn't stored to stays blank

abbrev Avoids : ℕ → List CacheEvent → Type 0
Avoids l [] = Unit {0}
Avoids l (Store p x ∷ es) = (l ≢ p / 8) × Avoids l es
Avoids l (Flush k ∷ es) = Avoids l es
Avoids l (Fence ∷ es) = Avoids l es

flushed_blank : (b : Bool) → cond b (flush_line blank_line) blank_line ≡ blank_line
flushed_blank true = refl
flushed_blank false = refl

blank_flush : (c : Cache) (k l : ℕ) → c l ≡ blank_line → apply c (Flush k) l ≡ blank_line
unfolding apply
blank_flush c k l is = ap (λ (y : Line). cond (l == k) (flush_line y) y) is ∙ flushed_blank (l == k)

blank_fence : (c : Cache) (l : ℕ) → c l ≡ blank_line → apply c Fence l ≡ blank_line
unfolding apply
blank_fence c l is = ap fence_line is

stays_blank : (es : List CacheEvent) (c : Cache) (l : ℕ) → Avoids l es → c l ≡ blank_line
    → play c es l ≡ blank_line
stays_blank [] c l avoids is = is
stays_blank (Store p x ∷ es) c l avoids is =
    stays_blank es (apply c (Store p x)) l avoids.1 (store_other c p l x avoids.0 ∙ is)
stays_blank (Flush k ∷ es) c l avoids is =
    stays_blank es (apply c (Flush k)) l avoids (blank_flush c k l is)
stays_blank (Fence ∷ es) c l avoids is =
    stays_blank es (apply c Fence) l avoids (blank_fence c l is)

abbrev zeros : Words
zeros w = pos 0

never : {x : ℤ} → x ≡ pos 0 → x ≡ pos 1 → ⊥
never none one = let clash = pos_inj 0 1 (sym none ∙ one) in absurd (omega (arith, clash))

module _ (program : Program) where
  abbrev z : Sizes
  z = sizes_of program

  abbrev events : List CacheEvent
  events = creation_events z program.digest

  abbrev new : Cache
  new = play blank events

  -- only lines 0 and 1 are stored to
  avoids : (l : ℕ) → 2 ≤ l → Avoids l events
  unfolding sizes_events digest_events
  avoids l far =
      let zero_line : l ≢ 0 = λ e. absurd (omega arith) in
      let one_line : l ≢ 1 = λ e. absurd (omega arith) in (
        zero_line,
        (
          zero_line,
          (
            zero_line,
            (
              zero_line,
              (
                zero_line,
                (
                  zero_line,
                  (one_line, (one_line, (one_line, (one_line, tt)))),
                ),
              ),
            ),
          ),
        ),
      )

  far_line : (l : ℕ) → 2 ≤ l → new l ≡ blank_line
  far_line l far = stays_blank events blank l (avoids l far) refl

  far_word : (p : ℕ) → LAST ≤ p → view new p ≡ pos 0
  unfolding view
  far_word p far = ap (λ (y : Line). y.newest p) (far_line (p / 8) (omega arith))

  rest : IsAtRest new
  unfolding apply sizes_events digest_events
  rest zero = refl
  rest (suc zero) = refl
  rest (suc (suc l)) = ap (λ (y : Line). y.older) (far_line (suc (suc l)) (omega arith))

  -- the words of lines 0 and 1
  super_is : (k : ℕ) → k < LAST → view new k ≡ super_words program k
  unfolding view apply put sizes_events digest_events
  super_is zero less = refl
  super_is (suc zero) less = refl
  super_is (suc (suc zero)) less = refl
  super_is (suc (suc (suc zero))) less = refl
  super_is (suc (suc (suc (suc zero)))) less = refl
  super_is (suc (suc (suc (suc (suc zero))))) less = refl
  super_is (suc (suc (suc (suc (suc (suc zero)))))) less = refl
  super_is (suc (suc (suc (suc (suc (suc (suc zero))))))) less = refl
  super_is (suc (suc (suc (suc (suc (suc (suc (suc zero)))))))) less = refl
  super_is (suc (suc (suc (suc (suc (suc (suc (suc (suc zero))))))))) less = refl
  super_is (suc (suc (suc (suc (suc (suc (suc (suc (suc (suc zero)))))))))) less = refl
  super_is (suc (suc (suc (suc (suc (suc (suc (suc (suc (suc (suc zero))))))))))) less = refl
  super_is (suc (suc (suc (suc (suc (suc (suc (suc (suc (suc (suc (suc zero)))))))))))) less = refl
  super_is (suc (suc (suc (suc (suc (suc (suc (suc (suc (suc (suc (suc (suc zero))))))))))))) less =
      refl
  super_is (suc (suc (suc (suc (suc (suc (suc (suc (suc (suc (suc (suc (suc (suc zero))))))))))))))
      less = refl
  super_is (suc
      (suc (suc (suc (suc (suc (suc (suc (suc (suc (suc (suc (suc (suc (suc zero)))))))))))))))
      less = refl
  super_is (suc
      (suc (suc (suc (suc (suc (suc (suc (suc (suc (suc (suc (suc (suc (suc (suc k))))))))))))))))
      less = absurd (omega arith)

  stamp_is : (j : ℕ) → view new (places.at (places.pool_of z) (RecordStamp j)) ≡ pos 0
  stamp_is j = far_word (places.at (places.pool_of z) (RecordStamp j)) (omega arith)

  not_valid : (j : ℕ) → view new (places.at (places.pool_of z) (RecordStamp j)) ≡ pos 1 → ⊥
  not_valid j e = never (stamp_is j) e

  good : Good (pool_with program.image (super_words program)) 0 zeros (view new)
  good = record {
    super = super_is;
    mark = far_word MARK (omega arith);
    done = far_word DONE (omega arith);
    done_fits = omega arith;
    unsealed = λ e. never (far_word SEAL (omega arith)) e;
    attempt = 0;
    attempt_is = far_word ATTEMPT (omega arith);
    attempt_fits = omega arith;
    log = record {
      stamps = λ j less. (0, omega arith, stamp_is j);
      first = λ j k less in_log e. absurd (not_valid k e);
    };
    heap = λ w less. far_word (places.at (places.pool_of z) (Heap w)) (omega arith);
  }

  none : count_in z (view new) ≡ 0
  none =
      count_at z (view new) 0 (far_word ATTEMPT (omega arith)) (omega arith)
      ∙ count_is (places.pool_of z) 0 0 (view new) (omega arith) (λ j less. absurd (omega arith))
      (λ j ge less e. not_valid j e)

  words_are : (w n : ℕ) → words_from zeros w n ≡ replicate n (pos 0)
  words_are w zero = refl
  words_are w (suc n) = ap (λ (xs : List ℤ). pos 0 ∷ xs) (words_are (suc w) n)

  objects_are : (structs : List StructShape) (slot n : ℕ) → objects_from z structs zeros slot n
      ≡ replicate n None
  objects_are structs slot zero = refl
  objects_are structs slot (suc n) =
      ap (λ (xs : List (Option Object)). None ∷ xs) (objects_are structs (suc slot) n)

  holds : HoldsPool program zeros (created program)
  holds = record {
    headers = λ slot first last. (0, omega arith, refl);
    pool = λ i. record {
      root = words_are 0 z.root_words i;
      slots = objects_are (shapes_of program.typed).structs 1 z.slots i;
    };
    words = empty_words z.root_words z.slots;
  }

pub created_rests : CreatedLaw
created_rests program d b all =
    let events : List CacheEvent = creation_events (sizes_of program) program.digest in
    let played : b.cache ≡ play blank events =
    all_cache events (blanked (pool_lines (sizes_of program)) d) b all in
    let before : IsBefore (pool_with program.image (super_words program)) 0 zeros (pos 0)
    (view (play blank events)) = record {
      good = good program;
      last_is = far_word program LAST (omega arith);
    } in (
      refl,
      resting_at program (super_words program) b (created program) zeros
          (all_on events (blanked (pool_lines (sizes_of program)) d) b all)
          (subst IsAtRest (sym played) (rest program))
          (subst (λ (c : Cache). IsBefore (pool_with program.image (super_words program)) 0 zeros
          (pos 0) (view c)) (sym played) before)
          (subst (λ (c : Cache). count_in (sizes_of program) (view c) ≡ 0) (sym played)
          (none program))
          (holds program),
    )
