-- A pool that is opened from an image is recovered as the source says.
use Rattle.std.proofs.Common.{◌≡◌, inl, inr, ℕ, zero, suc, ◌+◌, ◌<◌, ◌≤◌, Bool, true, false}
use Rattle.std.proofs.Common.{if◌then◌else◌, List, [], ◌∷◌, length, slice_get, slice_index_or}
use Rattle.std.proofs.Common.{option_map, Some, None, ℤ, pos, ◌+ℤ◌, int_eq, refl, sym, ap, ◌∙◌}
use Rattle.std.proofs.Common.{subst, arith}
use Rattle.std.proofs.lemmas.Bool.Decides.{Decides-int_eq}
use Rattle.cache_model.specs.Cache.{Words, view, blank}
use Rattle.cache_model.specs.Play.{play}
use Rattle.cache_model.specs.Image.{Images}
use Rattle.pmem.specs.Device.{Device, blanked}
use Rattle.pmem.proofs.Refused.{all_cache, all_on}
use Rattle.pool_layout.specs.declared.places.TheConstants.{LAST, DONE, MARK, FUNCTION, SEAL}
use Rattle.pool_layout.specs.declared.limits.Sizes.{Sizes}
use Rattle.pool_layout.specs.declared.places.Place.TheVariants.{Heap}
use Rattle.pool_layout.specs.Places as places
use Rattle.pool_layout.specs.Sizes.{pool_lines}
use Rattle.pool_layout.specs.Image.{image_words, is_sealed}
use Rattle.pool_layout.specs.Restored.{restored}
use Rattle.pool_layout.specs.Opens.{IsOpenable, NamesOwed}
use Rattle.pool_layout.specs.Opened.{IsOpened, wanted_rules}
use Rattle.pool_map.specs.declared.trap.TrapKind.{TrapKind}
use Rattle.pool_map.specs.declared.trap.TrapKind.TheVariants as trap
use Rattle.pool_map.specs.Trap.{trap_number}
use Rattle.c_tree.specs.ItemTree.{FunctionTree}
use Rattle.c_types.specs.Shapes.{transactions_of}
use Rattle.clobber_log.specs.Logs.{attempt_of, attempt_in}
use Rattle.args_log.specs.Pending.{tx_number}
use Rattle.pm_machine.specs.Effects.{heap_end}
use Rattle.pool_layout.specs.Good.{Lost, Pool}
use Rattle.pm_machine.specs.HeapPool.{words_from}
use Rattle.crash_law.specs.Pools.{Owed, IsBefore}
use Rattle.crash_law.specs.Law.{KeepsLast, IsAtRest, IsCut}
use Rattle.run_law.specs.Seen.{result_of, E, W}
use Rattle.run_law.proofs.Sounds.{trap_some}
use Rattle.recovery.specs.Found.{recorded}
use Rattle.tx_run.specs.Standing.{trap_of_mark}
use Rattle.cut_law.specs.Law.{call_of, pool_with}
use Rattle.cnvm_session.specs.declared.mode.Mode.{Mode}
use Rattle.cnvm_session.specs.declared.answer.Answer.{Answer}
use Rattle.cnvm_session.specs.declared.program.Program.{Program}
use Rattle.cnvm_session.specs.Marks.{rolls_back_of, policy_of}
use Rattle.pm_machine.specs.declared.records.Policy.{Policy}
use Rattle.cut_law.proofs.Cuts.{keeps}
use Rattle.cnvm_session.specs.Commands.{tx_parameters}
use Rattle.cnvm_session.specs.Opening.{opening_events}
use Rattle.cnvm_session.specs.Outcomes as outcomes
use Rattle.cnvm_session.specs.Pool.{sizes_of, wanted_of}
use Rattle.session_law.specs.Source.{source_pool}
use Rattle.session_law.specs.Words.{AreWords, HasPoolWords}
use Rattle.session_law.specs.Agrees.{Agrees, RunsAs}
use Rattle.session_law.specs.State.{Down, Unusable, SourceState}
use Rattle.session_law.specs.Answers.{Powers}
use Rattle.session_law.specs.Opened.{opened_heap, recorded_in, opened}
use Rattle.session_law.specs.Holds.{HoldsPool, OwesNone, OwesBy, Holds, HeldAs}
use Rattle.session_law.proofs.Words.{AreAll, pool_words, restored_words, recorded_words}
use Rattle.session_law.proofs.images.Heaps.{length_words}
use Rattle.session_law.proofs.images.Ones.{rest_images}
use Rattle.session_law.proofs.images.Retired.{attempt_small}
use Rattle.session_law.proofs.images.Reading.{kind_read, taken_is, next_done}
use Rattle.session_law.proofs.logs.Exact.{run_recorded}
use Rattle.session_law.proofs.answers.Powers.{held_recovers}
use Rattle.cnvm_session.proofs.Writing.{written_word, written_rest}

-- each mark from 1 to 8 is the number of a trap
trap_with : (n : ℕ) → 0 < n → n ≤ 8 → (kind : TrapKind) × (n ≡ trap_number kind)
trap_with zero some few = absurd (omega arith)
trap_with (suc zero) some few = (trap.Null, refl)
trap_with (suc (suc zero)) some few = (trap.Stale, refl)
trap_with (suc (suc (suc zero))) some few = (trap.Index, refl)
trap_with (suc (suc (suc (suc zero)))) some few = (trap.Divide, refl)
trap_with (suc (suc (suc (suc (suc zero))))) some few = (trap.Steps, refl)
trap_with (suc (suc (suc (suc (suc (suc zero)))))) some few = (trap.Abort, refl)
trap_with (suc (suc (suc (suc (suc (suc (suc zero))))))) some few = (trap.LogFull, refl)
trap_with (suc (suc (suc (suc (suc (suc (suc (suc zero)))))))) some few = (trap.Depth, refl)
trap_with (suc (suc (suc (suc (suc (suc (suc (suc (suc n))))))))) some few = absurd (omega arith)

-- the image has the transaction
there : (fs : List FunctionTree) (i : ℕ) → i < length fs
    → (n : ℕ) × (option_map (λ (f : FunctionTree). length f.parameters) (slice_get fs i) ≡ Some n)
there [] i less = absurd (omega arith)
there (f ∷ fs) zero less = (length f.parameters, refl)
there (f ∷ fs) (suc i) less = there fs i (omega arith)

takes_some : (program : Program) → Agrees program → (tx : ℕ) → 1 ≤ tx
    → tx ≤ length (transactions_of program.typed)
    → (n : ℕ) × (tx_parameters program.image tx ≡ Some n)
takes_some program agrees zero first last = absurd (omega arith)
takes_some program agrees (suc i) first last =
    let found = there (transactions_of program.typed) i (omega arith) in
    (found.0, agrees.parameters (suc i) ∙ found.1)

word_at : (n p j : ℕ) (w : Words) → j < n → slice_index_or (words_from w p n) j (pos 0) ≡ w (p + j)
word_at zero p j w less = absurd (omega arith)
word_at (suc n) p zero w less = ap w (let e : p ≡ p + 0 = omega arith in e)
word_at (suc n) p (suc j) w less = word_at n (suc p) j w (omega arith)
    ∙ ap w (let e : suc p + j ≡ p + suc j = omega arith in e)

module _ (program : Program) (agrees : Agrees program) (words : List ℤ)
    (are : AreWords words) (opens : IsOpenable (wanted_rules (wanted_of program))
    (image_words words))
    (e : Device) (rest : IsAtRest e.cache)
    (seen : view e.cache ≡ image_words words) where
  abbrev z : Sizes
  z = sizes_of program

  abbrev image : Words
  image = image_words words

  abbrev pool : Pool
  pool = pool_with program.image image

  abbrev s : SourceState
  s = opened program image

  abbrev d : ℕ
  d = opens.done.0

  abbrev a : ℕ
  a = opens.attempt

  done_is : s.done ≡ d
  done_is = ap tx_number opens.done.2

  attempt_is : attempt_in z image ≡ a
  attempt_is = ap attempt_of opens.attempt_is ∙ attempt_small a (let fits = opens.attempt_fits in
      omega arith)

  all_of : (P : Words → Type 0) → P image → Images P e.cache
  all_of P holds = rest_images P e.cache rest (subst P (sym seen) holds)

  -- the words of the opened pool are those of the image
  opened_words : HasPoolWords s.pool
  opened_words = pool_words program (opened_heap program image) (by_case (is_sealed image))
    where
      by_case : (b : Bool) → AreAll (if b then restored (places.pool_of z) (attempt_in z image)
          image else (λ w. image (places.at (places.pool_of z) (Heap w))))
      by_case true = restored_words (places.pool_of z) (attempt_in z image) image are
      by_case false = λ w. are (places.at (places.pool_of z) (Heap w))

  -- the pool has a mark
  lost : (n : ℕ) → image MARK ≡ pos n → 0 < n → n ≤ 8 →
      Images (Lost pool.sizes (trap_number (trap_of_mark (image MARK)))) e.cache
  lost n is some few =
      let kind = trap_with n some few in
      let read : trap_of_mark (image MARK) ≡ kind.0 =
      kind_read (image MARK) kind.0 (is ∙ ap pos kind.1) in
      let number : n ≡ trap_number (trap_of_mark (image MARK)) =
      kind.1 ∙ ap trap_number (sym read) in
      all_of (Lost pool.sizes (trap_number (trap_of_mark (image MARK)))) (
        is
            ∙ ap pos number,
        trap_some (trap_of_mark (image MARK)),
      )

  module _ (mark : image MARK ≡ pos 0) where
    -- the image isn't sealed
    module _ (unsealed : is_sealed image ≡ false) where
      none_sealed : image SEAL ≡ pos (suc s.done) → ⊥
      none_sealed seal =
          let is : is_sealed image ≡ true =
          (Decides-int_eq (image SEAL) (image DONE +ℤ pos 1)).1
          (seal ∙ ap (λ (n : ℕ). pos (suc n)) done_is
          ∙ sym (next_done (image DONE) d opens.done.2)) in
          let clash : true ≡ false = sym is ∙ unsealed in
          absurd cc

      abbrev own : Words
      own w = image (places.at (places.pool_of z) (Heap w))

      before : IsBefore pool s.done own s.last image
      before =
          record {
            good = record {
              super = λ k less. refl;
              mark = mark;
              done = opens.done.2 ∙ ap pos (sym done_is);
              done_fits = (let fits = opens.done.1 in let is = done_is in omega arith);
              unsealed = none_sealed;
              attempt = a;
              attempt_is = opens.attempt_is;
              attempt_fits = (let fits = opens.attempt_fits in omega arith);
              log = opens.log;
              heap = λ w less. refl;
            };
            last_is = refl;
          }

      heap_is : opened_heap program image ≡ own
      heap_is = ap (λ (b : Bool). if b then restored (places.pool_of z) (attempt_in z image) image
          else own) unsealed

      owes_none : OwesNone program image e s
      owes_none =
          record {
            heap = own;
            holds = record {
              headers = opens.headers;
              pool = ap (source_pool program) (sym heap_is);
              words = opened_words;
            };
            left = all_of (IsBefore pool s.done own s.last) before;
          }

    -- the image is sealed
    module _ (sealed : is_sealed image ≡ true) where
      is_owed : NamesOwed (wanted_rules (wanted_of program)) a image
      is_owed = opens.sealed sealed

      abbrev tx : ℕ
      tx = tx_number (image FUNCTION)

      abbrev args : List ℤ
      args = recorded program.image tx image

      abbrev h : Words
      h = restored (places.pool_of z) a image

      tx_is : tx ≡ is_owed.function.0
      tx_is = ap tx_number is_owed.function.3

      some : (n : ℕ) × (tx_parameters program.image tx ≡ Some n)
      some = takes_some program agrees tx (let is = tx_is in
          let first = is_owed.function.1 in omega arith) (let is = tx_is in
          let last = is_owed.function.2 in omega arith)

      few : some.0 ≤ 22
      few = (agrees.few tx some.0 some.1).1

      args_is : args ≡ words_from image 25 some.0
      args_is = ap (λ (n : ℕ). words_from image 25 n) (taken_is program.image tx some.0 some.1 few)

      long : length args ≡ some.0
      long = ap (λ (xs : List ℤ). length xs) args_is ∙ length_words image 25 some.0

      takes : tx_parameters program.image tx ≡ Some (length args)
      takes = some.1 ∙ ap (λ (n : ℕ). Some n) (sym long)

      called : (k : ℕ) → k ≤ length args → image (FUNCTION + k)
          ≡ slice_index_or (pos tx ∷ args) k (pos 0)
      called zero less = ap image (let f : FUNCTION + 0 ≡ FUNCTION = omega arith in f)
          ∙ is_owed.function.3
          ∙ ap pos (sym tx_is)
      called (suc j) less =
          ap image (let f : FUNCTION + suc j ≡ 25 + j = omega arith in f)
          ∙ sym (word_at some.0 25 j image (let is = long in omega arith))
          ∙ ap (λ (xs : List ℤ). slice_index_or xs j (pos 0)) (sym args_is)

      heap_restored : opened_heap program image ≡ h
      heap_restored =
          ap (λ (b : Bool). if b then restored (places.pool_of z) (attempt_in z image) image
          else (λ w. image (places.at (places.pool_of z) (Heap w)))) sealed
          ∙ ap (λ (n : ℕ). restored (places.pool_of z) n image) attempt_is

      args_are : AreWords args
      args_are = recorded_words program.image tx image are

      runs : RunsAs program h tx args
      runs = agrees.runs h tx args is_owed.headers
          (subst (λ (g : Words). HasPoolWords (source_pool program g)) heap_restored opened_words)
          args_are takes

      -- the call is owed, with all words that the log restores
      owed_for : (F G : ℕ → Type 0) (K : ℤ → Type 0) → K (image LAST)
          → Owed pool (call_of s.done tx args) F G h K image
      owed_for F G K kept =
          record {
            super = λ k less. refl;
            last_is = kept;
            mark = mark;
            done = opens.done.2 ∙ ap pos (sym done_is);
            done_fits = (let fits = opens.done.1 in let is = done_is in omega arith);
            sealed = (Decides-int_eq (image SEAL) (image DONE +ℤ pos 1)).0 sealed
                ∙ next_done (image DONE) d opens.done.2 ∙ ap (λ (n : ℕ). pos (suc n)) (sym done_is);
            call_is = called;
            attempt = a;
            attempt_is = opens.attempt_is;
            attempt_fits = opens.attempt_fits;
            log = opens.log;
            in_heap = λ j less. let below = is_owed.in_heap j less in (below.0, below.2, below.1);
            restores = λ w less kept. refl;
          }

      held : HoldsPool program h s
      held = record {
        headers = is_owed.headers;
        pool = ap (source_pool program) (sym heap_restored);
        words = opened_words;
      }

      owes_by : (marked : Bool) → OwesBy marked program image (recorded_in program image) e s
      owes_by marked =
          let p : Policy = policy_of marked in
          let run = run_recorded marked program h tx args runs in
          record {
            heap = h;
            holds = held;
            takes = takes;
            words = args_are;
            end = run.end;
            effects = run.effects;
            ran = run.ran;
            left = all_of (IsCut pool (call_of s.done tx args) (E p run.effects) (W run.effects) h
                (heap_end h run.effects) s.last (result_of p s.last run.end))
                (inr (inl (owed_for (E p run.effects) (W run.effects)
                (KeepsLast (result_of p s.last run.end)) (keeps p s.last run.end))));
          }

  -- what the device holds, by the mark and the seal
  by_seal : image MARK ≡ pos 0 → (b : Bool) → is_sealed image ≡ b
      → HeldAs (Down (if b then Some (recorded_in program image) else None)) program image e s
  by_seal mark true is =
      owes_by mark is (rolls_back_of program (recorded_in program image).tx)
  by_seal mark false is = owes_none mark is

  by_mark : (b : Bool) → int_eq (image MARK) (pos 0) ≡ b
      → HeldAs (if b then Down (if is_sealed image then Some (recorded_in program image) else None)
      else Unusable (trap_of_mark (image MARK))) program image e s
  by_mark true is = by_seal ((Decides-int_eq (image MARK) (pos 0)).0 is) (is_sealed image) refl
  by_mark false is =
      let mark = opens.mark in
      lost mark.0 mark.2 (some_of mark.0 mark.2) mark.1
    where
      some_of : (n : ℕ) → image MARK ≡ pos n → 0 < n
      some_of zero none =
          let yes : int_eq (image MARK) (pos 0) ≡ true =
          (Decides-int_eq (image MARK) (pos 0)).1 none in
          let clash : true ≡ false = sym yes ∙ is in
          absurd cc
      some_of (suc n) more = omega arith

  pub opened_held : HeldAs s.standing program image e s
  opened_held = by_mark (int_eq (image MARK) (pos 0)) refl

-- what the recovery of an image's pool answers
abbrev pub OpenedAnswers : Type 0
OpenedAnswers =
    (program : Program) (words : List ℤ) (n : Mode) (d b : Device) (a : Answer)
    (k k1 : ℕ) →
    Agrees program → AreWords words → IsOpened (wanted_of program) words →
    outcomes.Opens program words d a n b k k1 →
    (t : SourceState) × Powers program (opened program (image_words words))
    (image_words words) a t
    × Holds program (image_words words) n b t

pub opened_answers : OpenedAnswers
opened_answers program words n d b a k k1 agrees are is opens =
    let z : Sizes = sizes_of program in
    let e : Device = opens.opened in
    let lines : ℕ = pool_lines z in
    let played : e.cache ≡ play blank (opening_events lines words) =
    all_cache (opening_events lines words) (blanked lines d) e opens.written in
    let on = all_on (opening_events lines words) (blanked lines d) e opens.written in
    let rest : IsAtRest e.cache = subst IsAtRest (sym played) (written_rest words lines is.whole) in
    let seen : view e.cache ≡ image_words words =
    ap view played ∙ (λ i p. written_word words lines p i) in
    let held = opened_held program agrees words are is.opens e rest seen in
    let done = held_recovers program (image_words words) agrees e
    (opened program (image_words words)) on rest a n b k k1 opens.recovers held in (
      done.0,
      subst (λ (image : Words). Powers program (opened program (image_words words))
          image a done.0) seen done.1,
      done.2,
    )
