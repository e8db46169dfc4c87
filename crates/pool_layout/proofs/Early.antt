-- A fault that comes before the faults of content isn't one of them.
use Rattle.std.proofs.Common.{◌≡◌, Bool, true, false, List, [], ◌∷◌, Option, Some, None, ℕ, not}
use Rattle.std.proofs.Common.{nat_lt, length, pos, ◌||◌, subst}
use Rattle.std.specs.Ordering.{int_eq}
use Rattle.std.specs.Cmp.Lexicographic.{pointwise}
use Rattle.pool_layout.specs.declared.wanted.Wanted.{Wanted}
use Rattle.pool_layout.specs.declared.wanted.ImageFault.{ImageFault}
use Rattle.pool_layout.specs.declared.wanted.ImageFault.TheVariants.{Short, Magic, Content}
use Rattle.pool_layout.specs.declared.wanted.ImageFault.TheVariants.{NoMemory, Version, Sizes}
use Rattle.pool_layout.specs.declared.wanted.ImageFault.TheVariants.{Digest}
use Rattle.pool_layout.specs.Bytes.{word_in}
use Rattle.pool_layout.specs.Good.{magic}
use Rattle.pool_layout.specs.Fault.{when, first_fault, early_fault, sizes_fault, size_fault, needed}
use Rattle.pool_layout.specs.Fault.{digest_in, IsFirstFault}

abbrev IsEarly : ImageFault → Type 0
IsEarly (Content w v) = ⊥
IsEarly NoMemory = ⊥
IsEarly fault = Unit {0}

abbrev GivesEarly : Option ImageFault → Type 0
GivesEarly None = Unit {0}
GivesEarly (Some fault) = IsEarly fault

abbrev AllEarly : List (Option ImageFault) → Type 0
AllEarly [] = Unit {0}
AllEarly (o ∷ os) = GivesEarly o × AllEarly os

when_early : (b : Bool) (fault : ImageFault) → IsEarly fault → GivesEarly (when b fault)
when_early true fault early = early
when_early false fault early = tt

first_early : (faults : List (Option ImageFault)) → AllEarly faults
    → GivesEarly (first_fault faults)
first_early [] all = tt
first_early (None ∷ os) all = first_early os all.1
first_early (Some fault ∷ os) all = all.0

size_early : (bytes : List ℕ) (k wanted : ℕ) → GivesEarly (size_fault bytes k wanted)
size_early bytes k wanted = when_early (not (int_eq (word_in bytes k) (pos wanted)))
    (Sizes (word_in bytes k) (pos wanted)) tt

sizes_early : (wanted : Wanted) (bytes : List ℕ) → GivesEarly (sizes_fault wanted bytes)
sizes_early wanted bytes = first_early
    (size_fault bytes 2 wanted.sizes.slots ∷ size_fault bytes 3 wanted.sizes.records
    ∷ size_fault bytes 4 wanted.sizes.root_words ∷ size_fault bytes 5 wanted.sizes.ticks
    ∷ when (nat_lt (needed wanted bytes) (length bytes))
    (Sizes (pos (length bytes)) (pos (needed wanted bytes))) ∷ []) (
      size_early bytes 2 wanted.sizes.slots,
      (
        size_early bytes 3 wanted.sizes.records,
        (
          size_early bytes 4 wanted.sizes.root_words,
          (
            size_early bytes 5 wanted.sizes.ticks,
            (
              when_early (nat_lt (needed wanted bytes) (length bytes))
                  (Sizes (pos (length bytes)) (pos (needed wanted bytes))) tt,
              tt,
            ),
          ),
        ),
      ),
    )

early_early : (wanted : Wanted) (bytes : List ℕ) → GivesEarly (early_fault wanted bytes)
unfolding early_fault
early_early wanted bytes = first_early
    (when (nat_lt (length bytes) (needed wanted bytes)) (Short (length bytes) (needed wanted bytes))
    ∷ when (not (int_eq (word_in bytes 0) magic)) (Magic (word_in bytes 0) magic)
    ∷ when (not (int_eq (word_in bytes 1) (pos 1) || int_eq (word_in bytes 1) (pos 2)))
    (Version (word_in bytes 1) (pos 2))
    ∷ sizes_fault wanted bytes
    ∷ when (not (pointwise int_eq (digest_in bytes) wanted.digest))
    (Digest (digest_in bytes) wanted.digest) ∷ []) (
      when_early (nat_lt (length bytes) (needed wanted bytes))
          (Short (length bytes) (needed wanted bytes)) tt,
      (
        when_early (not (int_eq (word_in bytes 0) magic)) (Magic (word_in bytes 0) magic) tt,
        (
          when_early (not (int_eq (word_in bytes 1) (pos 1) || int_eq (word_in bytes 1) (pos 2)))
              (Version (word_in bytes 1) (pos 2)) tt,
          (
            sizes_early wanted bytes,
            (
              when_early (not (pointwise int_eq (digest_in bytes) wanted.digest))
                  (Digest (digest_in bytes) wanted.digest) tt,
              tt,
            ),
          ),
        ),
      ),
    )

pub early_refuses : (wanted : Wanted) (bytes : List ℕ) (fault : ImageFault)
    → early_fault wanted bytes ≡ Some fault → IsFirstFault wanted bytes fault
early_refuses wanted bytes (Content w v) is = let e : ⊥ =
    subst GivesEarly is (early_early wanted bytes) in absurd e
early_refuses wanted bytes NoMemory is = let e : ⊥ =
    subst GivesEarly is (early_early wanted bytes) in absurd e
early_refuses wanted bytes (Short a b) is = is
early_refuses wanted bytes (Magic a b) is = is
early_refuses wanted bytes (Version a b) is = is
early_refuses wanted bytes (Sizes a b) is = is
early_refuses wanted bytes (Digest a b) is = is
