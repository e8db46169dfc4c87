-- What a crash leaves of the file of several workers is recovered as what a power cut leaves.
use Rattle.std.proofs.Common.{◌≡◌, inl, inr, ℕ, ◌+◌, ◌*◌, ◌/◌, ◌<◌, ◌≤◌, Bool, true, false}
use Rattle.std.proofs.Common.{nat_lt, cond, List, [], ◌∷◌, length, map, drop, ℤ, pos}
use Rattle.std.proofs.Common.{refl, sym, ap, ◌∙◌, subst, arith}
use Rattle.std.proofs.lemmas.Bool.{ltb-true, ltb-false}
use Rattle.cache_model.specs.Cache.{Words, Line, Cache, blank_line}
use Rattle.cache_model.specs.Image.{Among, IsVersion, IsImage}
use Rattle.file_pmem.specs.File.{FileLines}
use Rattle.pool_layout.specs.Image.{image_words}
use Rattle.pool_layout.specs.Sizes.{pool_lines}
use Rattle.pool_workers.specs.Compartment.{words_from, line_counted_from, cache_in, first_line}
use Rattle.pool_workers.specs.Crew.{compartment}
use Rattle.cnvm_session.specs.declared.program.Program.{Program}
use Rattle.cnvm_session.specs.Pool.{sizes_of}
use Rattle.session_law.specs.Holds.{HeldAs}
use Rattle.session_law.proofs.images.Ones.{rest_images}
use Rattle.file_law.proofs.Reopening.{left_image}
use Rattle.workers_source_law.specs.Law.{Instant}
use Rattle.workers_source_law.specs.Opened.{image_at}
use Rattle.workers_source_law.specs.Reopened.{AllHeld, AreLeft, ReopenedLaw, ReopenedPartLaw}
use Rattle.workers_source_law.proofs.Stills.{still, own, AreFewer, fewer_held}
use Rattle.workers_source_law.proofs.Opened.{within, index_taken, opened_cache, opened_rest, seen}
use Rattle.workers_source_law.proofs.Opened.{run_from, part_from}

-- a version of a line, counted from another line

among_from : (f : ℕ) (us : List Words) (v : Words) → Among us v
    → Among (map (words_from f) us) (words_from f v)
among_from f [] v is = is
among_from f (u ∷ us) v (inl same) = inl (ap (words_from f) same)
among_from f (u ∷ us) v (inr is) = inr (among_from f us v is)

version_from : (f : ℕ) (l : Line) (v : Words) → IsVersion l v
    → IsVersion (line_counted_from f l) (words_from f v)
version_from f l v (inl same) = inl (ap (words_from f) same)
version_from f l v (inr is) = inr (among_from f l.older v is)

-- An image of the whole memory has in each compartment an image of it.
module _ (f n : ℕ) (c : Cache) (whole part : Words) (is : IsImage c whole)
    (inside : (p : ℕ) → p < 8 * n → part p ≡ whole (8 * f + p))
    (past : (p : ℕ) → 8 * n ≤ p → part p ≡ pos 0) where
  abbrev OfLine : ℕ → Line → Type 0
  OfLine l line = (v : Words) × IsVersion line v × ((p : ℕ) → p / 8 ≡ l → part p ≡ v p)

  line_part : (l : ℕ) (b : Bool) → nat_lt l n ≡ b
      → OfLine l (cond b (line_counted_from f (c (f + l))) blank_line)
  line_part l true less =
      let one = is (f + l) in
      let lt : l < n = ltb-true l n less in (
        words_from f one.0,
        version_from f (c (f + l)) one.0 one.1,
        λ p e. inside p (omega (arith, e, lt)) ∙ one.2 (8 * f + p) (omega (arith, e)),
      )
  line_part l false more =
      let le : n ≤ l = ltb-false l n more in
      (blank_line.newest, inl refl, λ p e. past p (omega (arith, e, le)))

  image_in : IsImage (cache_in f n c) part
  unfolding cache_in
  image_in l = line_part l (nat_lt l n) refl

module _ (program : Program) (firsts : ℕ → Words) (x : Instant) (f : FileLines) (words : List ℤ)
    (held : AllHeld program firsts x) (are : AreLeft program x f words) where
  abbrev count : ℕ
  count = length x.scene.workers.tasks

  abbrev n : ℕ
  n = pool_lines (sizes_of program)

  all_words : length words ≡ 8 * (n * count)
  all_words = are.whole ∙ ap (λ (l : ℕ). 8 * l) are.lines

  abbrev cache_at : ℕ → Cache
  cache_at worker = opened_cache program count words all_words worker

  -- what is left of a compartment is an image of it
  worker_left : (worker : ℕ)
      → IsImage (own program worker x.scene.device) (image_at program words worker)
  worker_left worker =
      let g : ℕ = first_line (sizes_of program) worker in
      image_in g n x.scene.device.cache (image_words words) (image_at program words worker)
      (left_image x.scene.device f words are.past are.covers are.left are.whole)
      (λ p less. within g n p words less)
      (λ p more. index_taken (8 * n) p (drop (8 * g) words) more)

  fewer_left : (worker : ℕ) → AreFewer (own program worker x.scene.device) (cache_at worker)
  fewer_left worker =
      rest_images (IsImage (own program worker x.scene.device)) (cache_at worker)
      (opened_rest program count words all_words worker)
      (subst (IsImage (own program worker x.scene.device))
      (sym (seen program count words all_words worker)) (worker_left worker))

  still_held : (worker : ℕ) → worker < count
      → HeldAs (x.states worker).standing program (firsts worker) (still (cache_at worker))
      (x.states worker)
  still_held worker less =
      fewer_held program (firsts worker) (x.states worker).standing
      (compartment program.image worker x.scene.device) (still (cache_at worker))
      (x.states worker) (fewer_left worker) (held worker less)

pub reopened_run : ReopenedLaw
reopened_run program firsts x f commands words w w' d d' k k' agrees args held are is =
    run_from program (length x.scene.workers.tasks) words
    (all_words program firsts x f words held are) agrees firsts x.states
    (still_held program firsts x f words held are) commands w w' d d' k k' args is

pub reopened_part : ReopenedPartLaw
reopened_part program firsts x f commands words w w' d d' k k' agrees args held are is =
    part_from program (length x.scene.workers.tasks) words
    (all_words program firsts x f words held are) agrees firsts x.states
    (still_held program firsts x f words held are) commands w w' d d' k k' args is
