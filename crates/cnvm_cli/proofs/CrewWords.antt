-- The images of several workers' pools are read one after another.
use Rattle.std.proofs.Common.{◌≡◌, ◌≢◌, ⊎_elim, ℕ, zero, suc, ◌+◌, ◌-◌, ◌*◌, ◌<◌, ◌≤◌, ◌^◌, List}
use Rattle.std.proofs.Common.{[], ◌∷◌, ◌++◌, length, take, drop, Option, IfSome, Result, Ok, Err, ℤ}
use Rattle.std.proofs.Common.{refl, sym, ap, ◌∙◌, subst, arith}
use Rattle.std.proofs.Math.Nat.{mul-le-mul, mul-le-mul_left}
use Rattle.std.proofs.lemmas.Bool.{cases_eq}
use Rattle.std.proofs.lemmas.List.{length-append}
use Rattle.pool_layout.specs.declared.limits.Sizes.{Sizes}
use Rattle.pool_layout.specs.Opened.{IsOpened}
use Rattle.pool_layout.specs.Sizes.{pool_lines}
use Rattle.pool_workers.specs.Compartment.{first_line, words_within}
use Rattle.cnvm_session.specs.declared.program.Program.{Program}
use Rattle.cnvm_session.specs.Pool.{sizes_of, wanted_of}
use Rattle.session_law.specs.Words.{AreWords}
use Rattle.cnvm_cli.specs.CrewOpened.{image_size, crew_part, bytes_within, IsCrewFault}
use Rattle.cnvm_cli.specs.CrewOpened.{AreCrewWords}
use Rattle.cnvm_cli.specs.Opened.{AreImageWords}
use Rattle.cnvm_cli.specs.declared.refused.Refused.{Refused}
use Rattle.cnvm_cli.specs.declared.refused.Refused.TheVariants as refused
use Rattle.cnvm_cli.specs.inside.CrewEnds.{CrewIs, CrewImageReadAs}
use Rattle.cnvm_cli.specs.inside.Opened.{ImageIs}
use Rattle.cnvm_cli.proofs.texts.Sources.{of_part}

-- the images have so many bytes at most
pub images_bound : (size count : ℕ) → size ≤ 2 ^ 33 → count ≤ 8 → size * count ≤ 2 ^ 36
images_bound size count small few =
    let most : size * count ≤ 2 ^ 33 * 8 = mul-le-mul small few in omega arith

-- the lines before the last compartment, and its own, are all
pub last_place : (n count : ℕ) → 1 ≤ count → 6 ≤ n → 8 * (n * (count - 1)) + 1 < 8 * (n * count)
last_place n count first least =
    let same : count - 1 + 1 ≡ count = omega arith in
    let both : n * (count - 1 + 1) ≡ n * count = ap (λ (k : ℕ). n * k) same in
    omega (arith, both)

-- a piece of a list that grows

drop_append : (f : ℕ) (xs ys : List ℤ) → f ≤ length xs → drop f (xs ++ ys) ≡ drop f xs ++ ys
drop_append zero xs ys fits = refl
drop_append (suc f) [] ys fits = absurd (omega arith)
drop_append (suc f) (x ∷ xs) ys fits = drop_append f xs ys (omega arith)

take_append : (m : ℕ) (xs ys : List ℤ) → m ≤ length xs → take m (xs ++ ys) ≡ take m xs
take_append zero xs ys fits = refl
take_append (suc m) [] ys fits = absurd (omega arith)
take_append (suc m) (x ∷ xs) ys fits =
    ap (λ (l : List ℤ). x ∷ l) (take_append m xs ys (omega arith))

drop_long : (f m : ℕ) (xs : List ℤ) → f + m ≤ length xs → m ≤ length (drop f xs)
drop_long zero m xs fits = omega arith
drop_long (suc f) m [] fits = absurd (omega arith)
drop_long (suc f) m (x ∷ xs) fits = drop_long f m xs (omega arith)

drop_first : (f : ℕ) (xs ys : List ℤ) → length xs ≡ f → drop f (xs ++ ys) ≡ ys
drop_first zero [] ys long = refl
drop_first zero (x ∷ xs) ys long = absurd (omega (arith, long))
drop_first (suc f) [] ys long = absurd (omega (arith, long))
drop_first (suc f) (x ∷ xs) ys long = drop_first f xs ys (omega (arith, long))

take_whole : (m : ℕ) (xs : List ℤ) → length xs ≡ m → take m xs ≡ xs
take_whole zero [] long = refl
take_whole zero (x ∷ xs) long = absurd (omega (arith, long))
take_whole (suc m) [] long = absurd (omega (arith, long))
take_whole (suc m) (x ∷ xs) long =
    ap (λ (l : List ℤ). x ∷ l) (take_whole m xs (omega (arith, long)))

module _ (s : Sizes) (worker : ℕ) (xs ys : List ℤ)
    (long : length xs ≡ 8 * (pool_lines s * worker)) where
  -- the words of the workers before this one stay
  within_before : (j : ℕ) → j < worker → words_within s j (xs ++ ys) ≡ words_within s j xs
  within_before j less =
      let n : ℕ = pool_lines s in
      let more : n * (j + 1) ≤ n * worker = mul-le-mul_left n (omega arith) in
      let fits : 8 * (n * j) + 8 * n ≤ length xs = omega (arith, long, more) in
      ap (take (8 * n)) (drop_append (8 * (n * j)) xs ys (omega (arith, fits)))
      ∙ take_append (8 * n) (drop (8 * (n * j)) xs) ys
      (drop_long (8 * (n * j)) (8 * n) xs fits)

  -- this one's are those that follow
  within_own : length ys ≡ 8 * pool_lines s → words_within s worker (xs ++ ys) ≡ ys
  within_own own =
      ap (take (8 * pool_lines s)) (drop_first (8 * first_line s worker) xs ys long)
      ∙ take_whole (8 * pool_lines s) ys own

-- the words of the images that were read so far
pub record SoFar (program : Program) (count : ℕ) (bytes : List ℕ) (worker : ℕ)
    (words : List ℤ) : Type 0 where
  pub long : length words ≡ 8 * (pool_lines (sizes_of program) * worker)
  pub opened : (j : ℕ) → j < worker
      → IsOpened (wanted_of program) (words_within (sizes_of program) j words)
  pub are : (j : ℕ) → j < worker → AreWords (words_within (sizes_of program) j words)
  pub each : (j : ℕ) → j < worker
      → AreImageWords program (bytes_within program count j bytes)
      (words_within (sizes_of program) j words)

module _ (program : Program) (count : ℕ) (bytes : List ℕ) where
  pub so_far_none : SoFar program count bytes 0 []
  so_far_none = record {
    long = omega arith;
    opened = λ j less. absurd (omega (arith, less));
    are = λ j less. absurd (omega (arith, less));
    each = λ j less. absurd (omega (arith, less));
  }

  module _ (worker : ℕ) (words own : List ℤ) (before : SoFar program count bytes worker words)
      (is : ImageIs program (Ok own) (bytes_within program count worker bytes)) where
    -- what holds of a piece of the words so far and of the new ones
    more : (P : ℕ → List ℤ → Type 0)
        → ((j : ℕ) → j < worker → P j (words_within (sizes_of program) j words)) → P worker own
        → (j : ℕ) → j < worker + 1 → P j (words_within (sizes_of program) j (words ++ own))
    more P old new j less = ⊎_elim
        (λ (e : j ≡ worker).
        subst (λ (i : ℕ). P i (words_within (sizes_of program) i (words ++ own))) (sym e)
        (subst (P worker)
        (sym (within_own (sizes_of program) worker words own before.long is.0.whole)) new))
        (λ (ne : j ≢ worker).
        subst (P j)
        (sym (within_before (sizes_of program) worker words own before.long j
        (below j ne less))) (old j (below j ne less)))
        (cases_eq j worker)
      where
        below : (j : ℕ) → j ≢ worker → j < worker + 1 → j < worker
        below j ne less = grind arith

    pub so_far_more : SoFar program count bytes (worker + 1) (words ++ own)
    so_far_more = record {
      long = (let all = length-append words own in let old = before.long in
          let new = is.0.whole in omega (arith, all, old, new));
      opened = more (λ j l. IsOpened (wanted_of program) l) before.opened is.0;
      are = more (λ j l. AreWords l) before.are is.1;
      each = more (λ j l. AreImageWords program (bytes_within program count j bytes) l) before.each
          is.2;
    }

  pub so_far_all : (words : List ℤ) → SoFar program count bytes count words
      → CrewIs program count (Ok words) bytes
  so_far_all words all =
      (record { whole = all.long; each = all.opened; fit = all.are }, all.each)

  -- the first image that is refused
  pub refused_at : (worker : ℕ) (words : List ℤ) (why : Refused)
      → SoFar program count bytes worker words → worker < count
      → ImageIs program (Err why) (bytes_within program count worker bytes)
      → CrewIs program count (Err why) bytes
  refused_at worker words (refused.Image fault) before known is = record {
    worker = worker;
    known = known;
    before = λ j less. (before.each j less).accepted;
    first = is;
  }
  refused_at worker words refused.ReadFault before known is = tt
  refused_at worker words refused.NoMemory before known is = tt
  refused_at worker words refused.Usage before known is = absurd is
  refused_at worker words refused.LongProgram before known is = absurd is
  refused_at worker words (refused.Program line complaint) before known is = absurd is
  refused_at worker words refused.LongScript before known is = absurd is
  refused_at worker words (refused.Script number) before known is = absurd is
  refused_at worker words refused.Busy before known is = absurd is

-- what the reader of the images answers of a source
pub crew_read : (program : Program) (count : ℕ) (w : Option (List ℕ))
    (r : Result (List ℤ) Refused) (bytes : List ℕ)
    → IfSome w (λ all. bytes ≡ crew_part program count all)
    → length bytes ≤ image_size program * count + 1
    → CrewIs program count r bytes → CrewImageReadAs program count r w
crew_read program count w (Ok words) bytes first within is = (
  is.0,
  of_part (image_size program * count + 1) w (λ part. AreCrewWords program count part words) bytes
      first within is.1,
)
crew_read program count w (Err (refused.Image fault)) bytes first within is =
    of_part (image_size program * count + 1) w (λ part. IsCrewFault program count part fault) bytes
    first within is
crew_read program count w (Err refused.ReadFault) bytes first within is = tt
crew_read program count w (Err refused.NoMemory) bytes first within is = tt
crew_read program count w (Err refused.Usage) bytes first within is = absurd is
crew_read program count w (Err refused.LongProgram) bytes first within is = absurd is
crew_read program count w (Err (refused.Program line complaint)) bytes first within is = absurd is
crew_read program count w (Err refused.LongScript) bytes first within is = absurd is
crew_read program count w (Err (refused.Script number)) bytes first within is = absurd is
crew_read program count w (Err refused.Busy) bytes first within is = absurd is
