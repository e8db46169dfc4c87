-- How a file is taken that may have a former program's pool.
use Rattle.std.proofs.Common.{◌≡◌, ◌⊎◌, inl, inr, ℕ, ℤ, pos, List, Bool, true, false, Option, refl}
use Rattle.std.proofs.Common.{◌*◌, length, sym, slice_index_or, ap, subst, ◌∙◌}
use Rattle.std.specs.Prelude.{option_map}
use Rattle.file_pmem.specs.File.{FileLines, HoldsNewest}
use Rattle.pool_layout.specs.declared.wanted.ImageFault.TheVariants.{Version}
use Rattle.pool_layout.specs.Fault.{digest_in}
use Rattle.pool_layout.specs.Opened.{IsOpened}
use Rattle.pool_layout.specs.Sizes.{pool_lines}
use Rattle.cnvm_session.specs.Pool.{sizes_of, wanted_of}
use Rattle.cnvm_session.specs.declared.program.Program.{Program}
use Rattle.session_law.specs.Words.{AreWords}
use Rattle.session_run.specs.declared.status.Status.{Status}
use Rattle.cnvm_compile.specs.declared.asked.Asked.{Asked}
use Rattle.cnvm_compile.specs.declared.compiling.Compiled.{Compiled}
use Rattle.cnvm_compile.specs.Compilation.{IsCompiled}
use Rattle.cnvm_cli.specs.declared.former.FormerPool.{FormerPool}
use Rattle.cnvm_cli.specs.declared.refused.Refused.{Refused}
use Rattle.cnvm_cli.specs.declared.refused.Refused.TheVariants as refused
use Rattle.cnvm_cli.specs.Former.{unmoved, MendsLine, TakesGiven}
use Rattle.cnvm_cli.specs.Former.{IsOther, TakesFormer, TakesOther, TakesEither, TakesIf}
use Rattle.cnvm_cli.specs.Opened.{ImageRefuses, ImageGives}
use Rattle.cnvm_cli.specs.PoolSide.{PoolSide, IsSilent, RefusesFile, RunsWordsOn, RunsWords}
use Rattle.cnvm_cli.specs.PoolSide.{TakesImage, TakesFile}
use Rattle.cnvm_cli.specs.Run.{RefusedAs}
use Rattle.cnvm_cli.specs.Verdict.{OfBytes}
use Rattle.cnvm_cli.specs.inside.FormerEnds.{IsTakenAsOwn, IsFormerImage, IsFormerPool}
use Rattle.cnvm_cli.specs.inside.FormerEnds.{RefusesStart, TakesWords, TakesPool}
use Rattle.cnvm_cli.proofs.texts.Sources.{of_map}

pub newest_by : (a : Option FileLines) (l n : ℕ) (h w : List ℤ) → l ≡ n → h ≡ w
    → HoldsNewest a l h → HoldsNewest a n w
newest_by a l n h w count same holds =
    subst (λ (k : ℕ). HoldsNewest a k w) count
    (subst (λ (xs : List ℤ). HoldsNewest a l xs) same holds)

-- the refusal of a file whose words are others
version_told : (v : ℕ) (x : Refused) (given held : List ℤ) (r : Status) (w w' : Option (List ℕ))
    → x ≡ refused.Image (Version (slice_index_or given v (pos 0)) (pos 2)) → given ≡ held
    → RefusedAs x r w w'
    → RefusedAs (refused.Image (Version (slice_index_or held v (pos 0)) (pos 2))) r w w'
version_told v x given held r w w' is same told =
    subst (λ (y : Refused). RefusedAs y r w w')
    (is ∙ ap (λ (xs : List ℤ). refused.Image (Version (slice_index_or xs v (pos 0)) (pos 2))) same)
    told

-- what is run on the words of a file, and how other words are refused
module _ (run : List ℤ → Type 0) (lines version : ℕ) (shown : Option FileLines)
    (result : Status) (before after : PoolSide) (n : ℕ) (held words : List ℤ) (count : n ≡ lines)
    (newest : HoldsNewest shown n held) where
  pub runs_held : held ≡ words → run held
      → RunsWordsOn run words lines version shown result before after
  runs_held same ran =
      inr (newest_by shown n lines held words count same newest, subst run same ran)

  pub runs_other : length held ≡ 8 * n → (held ≡ words → ⊥) → (x : Refused) (given : List ℤ)
      → x ≡ refused.Image (Version (slice_index_or given version (pos 0)) (pos 2)) → given ≡ held
      → RefusesFile x result before after
      → RunsWordsOn run words lines version shown result before after
  runs_other long other x given is same refuses =
      inl (
        held,
        long ∙ ap (λ (k : ℕ). 8 * k) count,
        other,
        newest_by shown n lines held held count refl newest,
        (
          version_told version x given held result before.out after.out is same refuses.0,
          refuses.1,
          refuses.2,
        ),
      )

-- the image gives the words on which the file is taken
pub words_image : (refuses : Refused → Type 0) (gives run : List ℤ → Type 0)
    (lines version : ℕ) (shown : Option FileLines) (result : Status) (before after : PoolSide)
    (given words : List ℤ) → given ≡ words → gives words
    → IsSilent result before after ⊎ RunsWordsOn run given lines version shown result before after
    → TakesImage refuses gives run lines version shown result before after
words_image refuses gives run lines version shown result before after given words same is
    (inl silent) =
    inr (inl silent)
words_image refuses gives run lines version shown result before after given words same is
    (inr runs) =
    inr (inr (
      words,
      is,
      subst (λ (ws : List ℤ). RunsWordsOn run ws lines version shown result before after) same runs,
    ))

pub words_file : (run : List ℤ → Type 0) (program : Program) (image : Option (List ℕ))
    (shown : Option FileLines) (result : Status) (before after : PoolSide) (given words : List ℤ)
    → given ≡ words → ImageGives program image words
    → TakesWords run program given shown result before after
    → TakesFile run program image shown result before after
words_file run program image =
    words_image (ImageRefuses program image) (ImageGives program image) run
    (pool_lines (sizes_of program)) 1

module _ (asked : Asked) (former : Option (List ℕ)) (run : List ℤ → Type 0)
    (moved : Compiled → List ℤ → Type 0) (program : Program) (image : Option (List ℕ))
    (shown : Option FileLines) (result : Status) (before after : PoolSide) where
  file_either : IsTakenAsOwn asked program former image
      → TakesFile run program image shown result before after
      → TakesEither asked former run moved program image shown result before after
  file_either (inl own) takes = inl (own, takes)
  file_either (inr (other, old, compiled, neither)) takes =
      inr (other, inr (old, compiled, inl (neither, takes)))

  -- the image gives these words
  pub words_either : (given words : List ℤ) → given ≡ words
      → IsTakenAsOwn asked program former image → ImageGives program image words
      → TakesWords run program given shown result before after
      → TakesEither asked former run moved program image shown result before after
  words_either given words same taken gives takes =
      file_either taken
      (words_file run program image shown result before after given words same gives takes)

  -- there is no pool to run on
  pub refused_either : (why : Refused) → RefusesStart asked program former image why
      → RefusesFile why result before after
      → TakesEither asked former run moved program image shown result before after
  refused_either why (inl (taken, refuses)) file = file_either taken (inl (why, refuses, file))
  refused_either why (inr (other, inl refuses)) file = inr (other, inl (why, refuses, file))
  refused_either why (inr (other, inr (old, compiled, between, inl refuses))) file =
      inr (other, inr (old, compiled, inr (between, inl (why, refuses, file))))
  refused_either why (inr (other, inr (old, compiled, between, inr (words, gives, owed)))) file =
      inr (
        other,
        inr (
          old,
          compiled,
          inr (
            between,
            inr (inr (
              words,
              gives,
              of_map image _ _
                  (λ bytes owes. inl (
                    owes.0,
                    subst (λ (y : Refused). RefusesFile y result before after) owes.1 file,
                  ))
                  owed,
            )),
          ),
        ),
      )

  -- the image is that of this former pool
  pub pool_either : (pool : FormerPool) → IsFormerPool asked program former image pool
      → TakesPool (moved pool.compiled) pool shown result before after
      → TakesEither asked former run moved program image shown result before after
  pool_either pool is takes =
      inr (
        of_map image (IsFormerImage program pool) (IsOther program) (λ bytes i. i.other) is.is,
        inr (
          pool.compiled,
          is.compiled,
          inr (
            of_map image (IsFormerImage program pool) _ (λ bytes i. i.between) is.is,
            pool_former takes,
          ),
        ),
      )
    where
      pool_former : TakesPool (moved pool.compiled) pool shown result before after
          → TakesFormer (moved pool.compiled) pool.compiled.program program image shown result
          before after
      pool_former (inl silent) = inr (inl silent)
      pool_former (inr (shown', mended, runs)) =
          inr (inr (
            pool.words,
            is.gives,
            of_map image (IsFormerImage program pool) _
                (λ bytes i. inr (
                  i.unowed,
                  shown',
                  subst (λ (b : Bool). MendsLine b pool.words shown shown') (sym i.cut) mended,
                  runs,
                ))
                is.is,
          ))

-- a former text is named, or isn't
pub either_if : (names : Bool) → names ≡ true → (asked : Asked) (former : Option (List ℕ))
    (run : List ℤ → Type 0) (moved : Compiled → List ℤ → Type 0) (program : Program)
    (image : Option (List ℕ)) (result : Status) (before after : PoolSide)
    (shown : Option FileLines)
    → TakesEither asked former run moved program image shown result before after
    → TakesIf names asked former run moved program image result before after shown
either_if names is asked former run moved program image result before after shown takes =
    subst
    (λ (b : Bool). TakesIf b asked former run moved program image result before after shown)
    (sym is) takes

pub file_if : (names : Bool) → names ≡ false → (asked : Asked) (former : Option (List ℕ))
    (run : List ℤ → Type 0) (moved : Compiled → List ℤ → Type 0) (program : Program)
    (image : Option (List ℕ)) (result : Status) (before after : PoolSide)
    (shown : Option FileLines) → TakesFile run program image shown result before after
    → TakesIf names asked former run moved program image result before after shown
file_if names is asked former run moved program image result before after shown takes =
    subst
    (λ (b : Bool). TakesIf b asked former run moved program image result before after shown)
    (sym is) takes

-- What follows of a run on words follows of how a file is taken.
module _ (result : Status) (before after : PoolSide) where
  runs_map : (program : Program) (words : List ℤ) (run also : List ℤ → Type 0)
      → (run words → also words) → (shown : Option FileLines)
      → RunsWords run program words shown result before after
      → RunsWords also program words shown result before after
  runs_map program words run also so shown (inl other) = inl other
  runs_map program words run also so shown (inr (holds, ran)) = inr (holds, so ran)

  pub file_map : (program : Program) (image : Option (List ℕ)) (run also : List ℤ → Type 0)
      → ((words : List ℤ) → AreWords words → IsOpened (wanted_of program) words → run words
      → also words) → (shown : Option FileLines)
      → TakesFile run program image shown result before after
      → TakesFile also program image shown result before after
  file_map program image run also so shown (inl refused) = inl refused
  file_map program image run also so shown (inr (inl silent)) = inr (inl silent)
  file_map program image run also so shown (inr (inr (words, gives, runs))) =
      let given : ImageGives program image words = gives in
      inr (inr (
        words,
        gives,
        runs_map program words run also (so words given.1 given.0) shown runs,
      ))

  given_map : (former new : Program) (words : List ℤ) (moved also : List ℤ → Type 0)
      → (moved words → also words) → (shown : Option FileLines) (found : List ℤ)
      → TakesGiven moved former new words shown result before after found
      → TakesGiven also former new words shown result before after found
  given_map former new words moved also so shown found (inl owes) = inl owes
  given_map former new words moved also so shown found (inr (unowed, shown', mended, runs)) =
      inr (unowed, shown', mended, runs_map former words moved also so shown' runs)

  former_map : (former new : Program) (image : Option (List ℕ)) (moved also : List ℤ → Type 0)
      → ((words : List ℤ) → AreWords words → IsOpened (wanted_of former) words → moved words
      → also words) → (shown : Option FileLines)
      → TakesFormer moved former new image shown result before after
      → TakesFormer also former new image shown result before after
  former_map former new image moved also so shown (inl refused) = inl refused
  former_map former new image moved also so shown (inr (inl silent)) = inr (inl silent)
  former_map former new image moved also so shown (inr (inr (words, gives, given))) =
      let from : ImageGives former (option_map (unmoved former) image) words = gives in
      inr (inr (
        words,
        gives,
        of_map image _ _
            (λ bytes taken. given_map former new words moved also (so words from.1 from.0) shown
            (digest_in bytes) taken)
            given,
      ))

  module _ (asked : Asked) (former : Option (List ℕ)) (program : Program)
      (image : Option (List ℕ)) (run runs : List ℤ → Type 0)
      (moved moves : Compiled → List ℤ → Type 0)
      (so : (words : List ℤ) → AreWords words → IsOpened (wanted_of program) words → run words
      → runs words)
      (then_moved : (old : Compiled) → OfBytes former (λ text. IsCompiled asked text old)
      → (words : List ℤ) → AreWords words → IsOpened (wanted_of old.program) words
      → moved old words → moves old words) where
    other_map : (shown : Option FileLines)
        → TakesOther asked former run moved program image shown result before after
        → TakesOther asked former runs moves program image shown result before after
    other_map shown (inl refused) = inl refused
    other_map shown (inr (old, compiled, inl (neither, takes))) =
        inr (old, compiled, inl (neither, file_map program image run runs so shown takes))
    other_map shown (inr (old, compiled, inr (between, takes))) =
        inr (
          old,
          compiled,
          inr (
            between,
            former_map old.program program image (moved old) (moves old) (then_moved old compiled)
                shown takes,
          ),
        )

    pub taken_map : (names : Bool) (shown : Option FileLines)
        → TakesIf names asked former run moved program image result before after shown
        → TakesIf names asked former runs moves program image result before after shown
    taken_map false shown takes = file_map program image run runs so shown takes
    taken_map true shown (inl (own, takes)) =
        inl (own, file_map program image run runs so shown takes)
    taken_map true shown (inr (other, takes)) = inr (other, other_map shown takes)
