-- The premises of the crash law's laws, for each trial.
use Rattle.std.proofs.Common.{◌≡◌, ◌<◌, ◌≤◌, cond, inl, ℕ, zero, suc, Bool, false}
use Rattle.std.proofs.Common.{IsTrue, List, [], ◌∷◌, ℤ, pos, negsuc, nat_abs, refl, sym, ap, ◌∙◌}
use Rattle.std.proofs.Common.{subst, arith}
use Rattle.std.proofs.lemmas.Bool.{eqb-true, ne_eqb}
use Rattle.cache_model.specs.Cache.{Words}
use Rattle.pool_layout.specs.declared.places.Place.TheVariants.{RecordWord, RecordOld, RecordStamp}
use Rattle.pool_layout.specs.declared.places.Place.TheVariants.{Argument, Heap}
use Rattle.pool_layout.specs.Places.{pool_of}
use Rattle.pool_layout.specs.Image.{IsUpTo}
use Rattle.pool_layout.specs.Log.{count}
use Rattle.pool_layout.specs.Restored.{restored}
use Rattle.pool_layout.specs.Good.{Good}
use Rattle.pool_layout.proofs.Undone.{undone_other}
use Rattle.crash_law.specs.Pools.{Call, Owed, call_word, last_of}
use Rattle.crash_law.specs.Due.{Entry, Plain, Logged, Result, Halted, Trapped, Undone}
use Rattle.crash_law.specs.Due.{due_call, redo_events}
use Rattle.crash_law.specs.Law.{KeepsLast, IsRun, Leaves, collapsed}
use Rattle.crash_law.proofs.Whole.{cut_call}
use Rattle.crash_law.proofs.Redo.{cut_redo}
use Rattle.crash_law.proofs.Clean.{cut_clean}
use Rattle.crash_law.proofs.Again.{collapsed_one}
use Rattle.needed_law.specs.SmallPool.{small_sizes, small_word, small_pool, small_heap, is_counter}
use Rattle.needed_law.specs.SmallPool.{words_with, after_inc, owed_once, owed_twice, retired_once}
use Rattle.needed_law.specs.Trials.{second_call, call_trial, redo_trial, tidy_up, KeepsTrial}
use Rattle.needed_law.specs.Met.{MeetsCall, MeetsRedo, MeetsClean, MetLaw, TrialsLaw}
use Rattle.needed_law.proofs.Refuting.{IsYes, clash}

-- which end a result is
number_of : Result → ℕ
number_of (Halted value) = 0
number_of (Trapped trap) = suc (suc trap)
number_of (Undone last) = 1

is_counter_zero : (w : ℕ) → IsTrue (is_counter w) → w ≡ 0
is_counter_zero w is = eqb-true w 0 is

-- runs of one store, and one of two
run_halted : (found : Words) (value x : ℤ) → IsRun (small_pool found) (λ w. IsTrue (is_counter w))
    (λ w. IsTrue (is_counter w)) (Halted value) (Logged 0 x ∷ [])
unfolding number_of
run_halted found value x = record {
  trace_is = (refl, omega arith, omega arith, tt);
  all_stored = λ w is. inl (is_counter_zero w is);
  trap_is = λ trap e. let no : 0 ≡ suc (suc trap) = ap number_of e in omega arith;
  undone_is = λ last e w is. is;
}

run_twice : (found : Words) (value x y : ℤ) → IsRun (small_pool found)
    (λ w. IsTrue (is_counter w)) (λ w. IsTrue (is_counter w)) (Halted value)
    (Logged 0 x ∷ Logged 0 y ∷ [])
unfolding number_of
run_twice found value x y = record {
  trace_is = (refl, omega arith, omega arith, (refl, omega arith, omega arith, tt));
  all_stored = λ w is. inl (is_counter_zero w is);
  trap_is = λ trap e. let no : 0 ≡ suc (suc trap) = ap number_of e in omega arith;
  undone_is = λ last e w is. is;
}

run_undone : (found : Words) (last x : ℤ) → IsRun (small_pool found) (λ w. IsTrue (is_counter w))
    (λ w. IsTrue (is_counter w)) (Undone last) (Logged 0 x ∷ [])
unfolding number_of
run_undone found last x = record {
  trace_is = (refl, omega arith, omega arith, tt);
  all_stored = λ w is. inl (is_counter_zero w is);
  trap_is = λ trap e. let no : 1 ≡ suc (suc trap) = ap number_of e in omega arith;
  undone_is = λ given e w is. is;
}

run_plain : (found : Words) (result : Result) (x : ℤ)
    → ((trap : ℕ) → result ≡ Trapped trap → 0 < trap) → ((last : ℤ) → result ≡ Undone last → ⊥)
    → IsRun (small_pool found) (λ w. IsTrue false) (λ w. IsTrue (is_counter w)) result
    (Plain 0 x ∷ [])
run_plain found result x trap not_undone = record {
  trace_is = (refl, omega arith, λ e. absurd (subst IsYes (sym e) tt), tt);
  all_stored = λ w is. inl (is_counter_zero w is);
  trap_is = trap;
  undone_is = λ last e w is. absurd (not_undone last e);
}

halted_trap : (value : ℤ) (trap : ℕ) → Halted value ≡ Trapped trap → 0 < trap
unfolding number_of
halted_trap value trap e = let no : 0 ≡ suc (suc trap) = ap number_of e in omega arith

trapped_trap : (k trap : ℕ) → 0 < k → Trapped k ≡ Trapped trap → 0 < trap
unfolding number_of
trapped_trap k trap lt e = let same : suc (suc k) ≡ suc (suc trap) = ap number_of e in omega arith

halted_undone : (value last : ℤ) → Halted value ≡ Undone last → ⊥
unfolding number_of
halted_undone value last e =
    let no : number_of (Halted value) ≡ 1 = ap number_of e in omega arith

trapped_undone : (k : ℕ) (last : ℤ) → Trapped k ≡ Undone last → ⊥
unfolding number_of
trapped_undone k last e = let no : suc (suc k) ≡ 1 = ap number_of e in omega arith

-- stamps: two records, of which the second has no valid stamp
pub two_stamps : (image : Words) (a s r : ℕ)
    → image (small_word (RecordStamp 0)) ≡ pos s → s ≤ suc a
    → image (small_word (RecordStamp 1)) ≡ pos r → r ≤ suc a
    → (j : ℕ) → j < 2 → IsUpTo (suc a) (image (small_word (RecordStamp j)))
two_stamps image a s r first le second le2 zero lt = (s, le, first)
two_stamps image a s r first le second le2 (suc zero) lt = (r, le2, second)
two_stamps image a s r first le second le2 (suc (suc j)) lt = absurd (omega arith)

pub valid_first : (image : Words) (a : ℕ)
    → (image (small_word (RecordStamp 1)) ≡ pos (suc a)
    → image (small_word (RecordStamp 0)) ≡ pos (suc a))
    → (j k : ℕ) → j < k → k < 2 → image (small_word (RecordStamp k)) ≡ pos (suc a)
    → image (small_word (RecordStamp j)) ≡ pos (suc a)
valid_first image a f j zero lt fits e = absurd (omega arith)
valid_first image a f zero (suc zero) lt fits e = f e
valid_first image a f (suc j) (suc zero) lt fits e = absurd (omega arith)
valid_first image a f j (suc (suc k)) lt fits e = absurd (omega arith)

abbrev pub good_after : Good (small_pool after_inc) 1 (small_heap after_inc) after_inc
good_after = record {
  super = λ k lt. refl;
  mark = refl;
  done = refl;
  done_fits = omega arith;
  unsealed = λ e. clash (pos 1) (pos 2) e tt;
  attempt = 1;
  attempt_is = refl;
  attempt_fits = omega arith;
  log = record {
    stamps = two_stamps after_inc 1 1 0 refl (omega arith) refl (omega arith);
    first = valid_first after_inc 1 (λ e. absurd (clash (pos 0) (pos 2) e tt));
  };
  heap = λ w lt. refl;
}

abbrev pub good_retired : Good (small_pool retired_once) 2 (small_heap retired_once) retired_once
good_retired = record {
  super = λ k lt. refl;
  mark = refl;
  done = refl;
  done_fits = omega arith;
  unsealed = λ e. clash (pos 2) (pos 3) e tt;
  attempt = 1;
  attempt_is = refl;
  attempt_fits = omega arith;
  log = record {
    stamps = two_stamps retired_once 1 2 0 refl (omega arith) refl (omega arith);
    first = valid_first retired_once 1 (λ e. absurd (clash (pos 0) (pos 2) e tt));
  };
  heap = λ w lt. refl;
}

-- past the counter all words are 0
AreBelow : ℕ → List (ℕ × ℤ) → Type 0
AreBelow n [] = Unit {0}
AreBelow n (entry ∷ entries) = (entry.0 < n) × AreBelow n entries

words_past : (n : ℕ) (entries : List (ℕ × ℤ)) (p : ℕ) → AreBelow n entries → n ≤ p
    → words_with entries p ≡ pos 0
unfolding AreBelow
words_past n [] p below le = refl
words_past n (entry ∷ entries) p below le =
    let lt = below.0 in
    ap (λ (b : Bool). cond b entry.1 (words_with entries p))
    (ne_eqb p entry.0 (λ e. omega arith)) ∙ words_past n entries p below.1 le

-- a heap word other than the counter
restored_other : (found : List (ℕ × ℤ)) (n : ℕ)
    → count (pool_of small_sizes) 1 (words_with found) ≡ n → n ≤ 2
    → ((j : ℕ) → j < 2 → words_with found (small_word (RecordWord j)) ≡ pos 0) → (w : ℕ)
    → restored (pool_of small_sizes) 1 (words_with found) (suc w)
    ≡ small_heap (words_with found) (suc w)
unfolding restored
restored_other found n counted few words w =
    undone_other (λ j. words_with found (small_word (RecordWord j)))
    (λ j. words_with found (small_word (RecordOld j)))
    (count (pool_of small_sizes) 1 (words_with found))
    (λ u. words_with found (small_word (Heap u))) (suc w)
    (λ j lt e. let zero_is : 0 ≡ suc w = ap nat_abs (sym (words j (omega arith)) ∙ e) in
    omega arith)

-- two images of the small pool that are 0 past the counter, the first of which has the records of
-- the counter alone: what its log restores is the second's heap, if it is the second's counter
restored_is : (found other : List (ℕ × ℤ)) (n : ℕ)
    → count (pool_of small_sizes) 1 (words_with found) ≡ n → n ≤ 2
    → ((j : ℕ) → j < 2 → words_with found (small_word (RecordWord j)) ≡ pos 0)
    → restored (pool_of small_sizes) 1 (words_with found) 0 ≡ small_heap (words_with other) 0
    → AreBelow 65 found → AreBelow 65 other → (w : ℕ)
    → restored (pool_of small_sizes) 1 (words_with found) w ≡ small_heap (words_with other) w
restored_is found other n counted few words first below below2 zero = first
restored_is found other n counted few words first below below2 (suc w) =
    restored_other found n counted few words w
    ∙ words_past 65 found (small_word (Heap (suc w))) below (omega arith)
    ∙ sym (words_past 65 other (small_word (Heap (suc w))) below2 (omega arith))

pub counter_words : (image : Words) → image (small_word (RecordWord 0)) ≡ pos 0
    → image (small_word (RecordWord 1)) ≡ pos 0 → (j : ℕ) → j < 2
    → image (small_word (RecordWord j)) ≡ pos 0
counter_words image zero_is one_is zero lt = zero_is
counter_words image zero_is one_is (suc zero) lt = one_is
counter_words image zero_is one_is (suc (suc j)) lt = absurd (omega arith)

pub second_words : (image : Words) → image (small_word (Argument 0)) ≡ pos 1
    → image (small_word (Argument 1)) ≡ pos 5 → (k : ℕ) → k ≤ 1
    → image (small_word (Argument k)) ≡ call_word (second_call (pos 1)) k
second_words image function argument zero le = function
second_words image function argument (suc zero) le = argument
second_words image function argument (suc (suc k)) le = absurd (omega arith)

-- the words of these images
abbrev after_list : List (ℕ × ℤ)
after_list = (16, pos 3) ∷ (17, pos 1) ∷ (18, pos 1) ∷ (24, pos 1) ∷ (25, pos 3) ∷ (47, pos 1)
    ∷ (50, pos 1) ∷ (64, pos 3) ∷ []

abbrev once_list : List (ℕ × ℤ)
once_list = (16, pos 3) ∷ (17, pos 1) ∷ (18, pos 1) ∷ (24, pos 1) ∷ (25, pos 5) ∷ (47, pos 2)
    ∷ (49, pos 3) ∷ (50, pos 2) ∷ (64, pos 8) ∷ []

abbrev twice_list : List (ℕ × ℤ)
twice_list = (16, pos 3) ∷ (17, pos 1) ∷ (18, pos 1) ∷ (24, pos 1) ∷ (25, pos 5) ∷ (47, pos 2)
    ∷ (49, pos 3) ∷ (50, pos 2) ∷ (57, pos 8) ∷ (58, pos 2) ∷ (64, pos 13) ∷ []

below_after : AreBelow 65 after_list
unfolding AreBelow
below_after = (
  omega arith,
  (
    omega arith,
    (
      omega arith,
      (
        omega arith,
        (
          omega arith,
          (
            omega arith,
            (omega arith, (omega arith, tt)),
          ),
        ),
      ),
    ),
  ),
)

below_once : AreBelow 65 once_list
unfolding AreBelow
below_once = (
  omega arith,
  (
    omega arith,
    (
      omega arith,
      (
        omega arith,
        (
          omega arith,
          (
            omega arith,
            (omega arith, (omega arith, (omega arith, tt))),
          ),
        ),
      ),
    ),
  ),
)

below_twice : AreBelow 65 twice_list
unfolding AreBelow
below_twice = (
  omega arith,
  (
    omega arith,
    (
      omega arith,
      (
        omega arith,
        (
          omega arith,
          (
            omega arith,
            (omega arith, (omega arith, (omega arith, (omega arith, (omega arith, tt))))),
          ),
        ),
      ),
    ),
  ),
)

pub once_restored : (w : ℕ) → restored (pool_of small_sizes) 1 owed_once w ≡ small_heap after_inc w
unfolding count restored
once_restored = restored_is once_list after_list 1 refl (omega arith)
    (counter_words owed_once refl refl) refl below_once below_after

twice_restored : (w : ℕ) → restored (pool_of small_sizes) 1 owed_twice w ≡ small_heap after_inc w
unfolding count restored
twice_restored = restored_is twice_list after_list 2 refl (omega arith)
    (counter_words owed_twice refl refl) refl below_twice below_after

pub once_count : count (pool_of small_sizes) 1 owed_once ≡ 1
unfolding count
once_count = refl

twice_count : count (pool_of small_sizes) 1 owed_twice ≡ 2
unfolding count
twice_count = refl

pub in_small : (image : Words) (n : ℕ) → n ≤ 2
    → ((j : ℕ) → j < 2 → image (small_word (RecordWord j)) ≡ pos 0) → (j : ℕ) → j < n
    → (u : ℕ) × (image (small_word (RecordWord j)) ≡ pos u) × (u < 24)
in_small image n few words j lt = (0, words j (omega arith), omega arith)

abbrev pub owed_once_is : Owed (small_pool owed_once) (second_call (pos 1))
    (λ w. IsTrue (is_counter w)) (λ w. IsTrue (is_counter w)) (small_heap after_inc)
    (KeepsLast (Halted (pos 8))) owed_once
owed_once_is = record {
  super = λ k lt. refl;
  last_is = tt;
  mark = refl;
  done = refl;
  done_fits = omega arith;
  sealed = refl;
  call_is = second_words owed_once refl refl;
  attempt = 1;
  attempt_is = refl;
  attempt_fits = omega arith;
  log = record {
    stamps = two_stamps owed_once 1 2 0 refl (omega arith) refl (omega arith);
    first = valid_first owed_once 1 (λ e. absurd (clash (pos 0) (pos 2) e tt));
  };
  in_heap = λ j lt. in_small owed_once 1 (omega arith) (counter_words owed_once refl refl) j
      (subst (λ (n : ℕ). j < n) once_count lt);
  restores = λ w lt kept. once_restored w;
}

abbrev owed_twice_is : Owed (small_pool owed_twice) (second_call (pos 1))
    (λ w. IsTrue (is_counter w)) (λ w. IsTrue (is_counter w)) (small_heap after_inc)
    (KeepsLast (Halted (pos 13))) owed_twice
owed_twice_is = record {
  super = λ k lt. refl;
  last_is = tt;
  mark = refl;
  done = refl;
  done_fits = omega arith;
  sealed = refl;
  call_is = second_words owed_twice refl refl;
  attempt = 1;
  attempt_is = refl;
  attempt_fits = omega arith;
  log = record {
    stamps = two_stamps owed_twice 1 2 2 refl (omega arith) refl (omega arith);
    first = valid_first owed_twice 1 (λ e. refl);
  };
  in_heap = λ j lt. in_small owed_twice 2 (omega arith) (counter_words owed_twice refl refl) j
      (subst (λ (n : ℕ). j < n) twice_count lt);
  restores = λ w lt kept. twice_restored w;
}

pub meets_inc : MeetsCall (second_call (pos 1)) is_counter (Halted (pos 8))
    (Logged 0 (pos 8) ∷ [])
unfolding count
meets_inc = record {
  few = omega arith;
  number = omega arith;
  run = run_halted after_inc (pos 8) (pos 8);
  last = tt;
  only = collapsed_one after_inc;
  good = good_after;
  attempt = omega arith;
  empty = refl;
}

pub meets_set : MeetsCall (second_call (pos 2)) (λ w. false) (Halted (pos 5))
    (Plain 0 (pos 5) ∷ [])
unfolding count
meets_set = record {
  few = omega arith;
  number = omega arith;
  run = run_plain after_inc (Halted (pos 5)) (pos 5) (halted_trap (pos 5)) (halted_undone (pos 5));
  last = tt;
  only = collapsed_one after_inc;
  good = good_after;
  attempt = omega arith;
  empty = refl;
}

pub meets_bad : MeetsCall (second_call (pos 3)) (λ w. false) (Trapped 4)
    (Plain 0 (pos 5) ∷ [])
unfolding count
meets_bad = record {
  few = omega arith;
  number = omega arith;
  run = run_plain after_inc (Trapped 4) (pos 5) (λ trap e. trapped_trap 4 trap (omega arith) e)
      (trapped_undone 4);
  last = tt;
  only = collapsed_one after_inc;
  good = good_after;
  attempt = omega arith;
  empty = refl;
}

pub meets_take_back : MeetsCall (second_call (pos 4)) is_counter (Undone (pos 3))
    (Logged 0 (negsuc 1) ∷ [])
unfolding count
meets_take_back = record {
  few = omega arith;
  number = omega arith;
  run = run_undone after_inc (pos 3) (negsuc 1);
  last = refl;
  only = collapsed_one after_inc;
  good = good_after;
  attempt = omega arith;
  empty = refl;
}

pub meets_redo : MeetsRedo owed_once 1 (Halted (pos 8))
    (Logged 0 (pos 8) ∷ [])
meets_redo = record {
  run = run_halted owed_once (pos 8) (pos 8);
  only = collapsed_one owed_once;
  owed = owed_once_is;
  counted = once_count;
  attempt = omega arith;
}

pub meets_redo_twice : MeetsRedo owed_twice 2 (Halted (pos 13))
    (Logged 0 (pos 8) ∷ Logged 0 (pos 13) ∷ [])
meets_redo_twice = record {
  run = run_twice owed_twice (pos 13) (pos 8) (pos 13);
  only = collapsed_one owed_twice;
  owed = owed_twice_is;
  counted = twice_count;
  attempt = omega arith;
}

pub meets_clean : MeetsClean retired_once 2 1
unfolding count
meets_clean = record {
  only = collapsed_one retired_once;
  good = good_retired;
  counted = refl;
  attempt = omega arith;
}

pub met : MetLaw
met = record {
  inc = meets_inc;
  set = meets_set;
  bad = meets_bad;
  take_back = meets_take_back;
  redo = meets_redo;
  redo_twice = meets_redo_twice;
  tidy_up = meets_clean;
}

-- so each trial keeps its law
keeps_call : (call : Call) (E : ℕ → Bool) (result : Result) (trace : List Entry)
    (meets : MeetsCall call E result trace) → meets.good.attempt ≡ 1
    → KeepsTrial (call_trial call E result trace)
keeps_call call E result trace meets one =
    let number = meets.number in
    let attempt = meets.attempt in
    subst (λ (a : ℕ). Leaves (collapsed after_inc)
    (due_call small_sizes a call (small_heap after_inc) result trace)
    (call_trial call E result trace).cut (call_trial call E result trace).ended) one
    (cut_call (small_pool after_inc) call (λ w. IsTrue (E w)) (λ w. IsTrue (is_counter w))
    (small_heap after_inc) result trace (omega arith) meets.few meets.run
    (last_of (small_pool after_inc) after_inc) meets.last (collapsed after_inc) after_inc refl
    meets.only meets.good (omega arith) meets.empty)

keeps_redo : (found : Words) (n : ℕ) (result : Result) (trace : List Entry)
    (meets : MeetsRedo found n result trace) → meets.owed.attempt ≡ 1
    → KeepsTrial (redo_trial found n result trace)
keeps_redo found n result trace meets one =
    subst (λ (a : ℕ). Leaves (collapsed found)
    (redo_events small_sizes a 2 found n result trace)
    (redo_trial found n result trace).cut (redo_trial found n result trace).ended) one
    (cut_redo (small_pool found) (second_call (pos 1)) (λ w. IsTrue (is_counter w))
    (λ w. IsTrue (is_counter w)) (small_heap after_inc) result trace (omega arith) meets.run found
    meets.owed n meets.counted (λ lt. meets.attempt) (collapsed found) meets.only)

pub tidy_count : count (pool_of small_sizes) 1 retired_once ≡ 1
unfolding count
tidy_count = refl

inc_attempt : meets_inc.good.attempt ≡ 1
unfolding meets_inc
inc_attempt = refl

set_attempt : meets_set.good.attempt ≡ 1
unfolding meets_set
set_attempt = refl

bad_attempt : meets_bad.good.attempt ≡ 1
unfolding meets_bad
bad_attempt = refl

take_back_attempt : meets_take_back.good.attempt ≡ 1
unfolding meets_take_back
take_back_attempt = refl

redo_attempt : meets_redo.owed.attempt ≡ 1
unfolding meets_redo
redo_attempt = refl

redo_twice_attempt : meets_redo_twice.owed.attempt ≡ 1
unfolding meets_redo_twice
redo_twice_attempt = refl

keeps_tidy : KeepsTrial tidy_up
keeps_tidy = cut_clean (small_pool retired_once) 2 (small_heap retired_once)
    (collapsed retired_once) retired_once meets_clean.only good_retired 1 tidy_count
    (λ lt. omega arith)

pub keeps_all : TrialsLaw
keeps_all = record {
  inc = keeps_call (second_call (pos 1)) is_counter (Halted (pos 8)) (Logged 0 (pos 8) ∷ [])
      meets_inc inc_attempt;
  set = keeps_call (second_call (pos 2)) (λ w. false) (Halted (pos 5)) (Plain 0 (pos 5) ∷ [])
      meets_set set_attempt;
  bad = keeps_call (second_call (pos 3)) (λ w. false) (Trapped 4) (Plain 0 (pos 5) ∷ [])
      meets_bad bad_attempt;
  take_back = keeps_call (second_call (pos 4)) is_counter (Undone (pos 3))
      (Logged 0 (negsuc 1) ∷ []) meets_take_back take_back_attempt;
  redo = keeps_redo owed_once 1 (Halted (pos 8)) (Logged 0 (pos 8) ∷ []) meets_redo redo_attempt;
  redo_twice = keeps_redo owed_twice 2 (Halted (pos 13))
      (Logged 0 (pos 8) ∷ Logged 0 (pos 13) ∷ [])
      meets_redo_twice redo_twice_attempt;
  tidy_up = keeps_tidy;
}
