-- Which transactions a session has done.
use Rattle.std.proofs.Common.{◌≡◌, ◌≢◌, inl, inr, ⊎_elim, ℕ, suc, ◌+◌, ◌==◌, Bool, true, false}
use Rattle.std.proofs.Common.{◌&&◌, if◌then◌else◌, List, [], ◌∷◌, ◌++◌, length, Option, Some, None}
use Rattle.std.proofs.Common.{ℤ, pos, int_eq, refl, sym, ap, ◌∙◌, subst, arith, append_assoc}
use Rattle.std.proofs.Common.{append-nil, length-append}
use Rattle.std.proofs.lemmas.Bool.Decides.{Decides-int_eq}
use Rattle.cache_model.specs.Cache.{Words}
use Rattle.pool_layout.specs.declared.places.TheConstants.{DONE, MARK, SEAL}
use Rattle.pool_map.specs.PoolMap.{PoolMap}
use Rattle.c_meaning.specs.Transaction.{Outcome, Done, Trap}
use Rattle.cnvm_script.specs.declared.command.Command.{Command}
use Rattle.cnvm_script.specs.declared.command.Command.TheVariants as command
use Rattle.cnvm_session.specs.declared.answer.Answer.{Answer}
use Rattle.cnvm_session.specs.declared.answer.Answer.TheVariants as answer
use Rattle.cnvm_session.specs.declared.program.Program.{Program}
use Rattle.cnvm_session.specs.Commands.{call_number}
use Rattle.cnvm_session.specs.Marks.{rolls_back_of, looks_of}
use Rattle.session_law.specs.Source.{source_parameters}
use Rattle.session_law.specs.State.{Pending, Standing, Ready, Down, Unusable, SourceState}
use Rattle.session_law.specs.State.{standing_as}
use Rattle.session_law.specs.Answers.{Refused, ConcludesAs, IsConcluded, RunsBy, Looks, RunsAs}
use Rattle.session_law.specs.Answers.{CallsWith, CallsTo}
use Rattle.session_law.specs.Answers.{CallsNamed, Calls, Tells, Shows, ShowsDead, Lasts}
use Rattle.session_law.specs.Answers.{FindsOf, FindsOwed, Rests, Redoes, Recovers, Powers, Answers}
use Rattle.session_law.specs.History.{LeavesPool, LeadsTo, waiting_of, call_to, counted, call_in}
use Rattle.session_law.specs.History.{called_by, is_retired, recovered_by, done_by, IsPart}
use Rattle.session_law.specs.History.{HasDone}
use Rattle.session_law.proofs.answers.Looking.{looked_state}

-- parts of lists

pub part_none : (ys : List Pending) → IsPart [] ys
part_none [] = refl
part_none (y ∷ ys) = inl (part_none ys)

pub part_same : (xs : List Pending) → IsPart xs xs
part_same [] = refl
part_same (x ∷ xs) = inr (xs, refl, part_same xs)

pub part_append : (xs ys us vs : List Pending) → IsPart xs ys → IsPart us vs →
    IsPart (xs ++ us) (ys ++ vs)
part_append xs [] us vs none second =
    subst (λ (zs : List Pending). IsPart (zs ++ us) vs) (sym none) second
part_append xs (y ∷ ys) us vs (inl rest) second = inl (part_append xs ys us vs rest second)
part_append xs (y ∷ ys) us vs (inr kept) second =
    inr (
      kept.0 ++ us,
      ap (λ (zs : List Pending). zs ++ us) kept.1,
      part_append kept.0 ys us vs kept.2 second,
    )

pub part_trans : (xs ys zs : List Pending) → IsPart xs ys → IsPart ys zs → IsPart xs zs
part_trans xs ys [] first none = subst (IsPart xs) none first
part_trans xs ys (z ∷ zs) first (inl rest) = inl (part_trans xs ys zs first rest)
part_trans xs ys (z ∷ zs) first (inr kept) = ⊎_elim
    (λ (rest : IsPart xs kept.0). inl (part_trans xs kept.0 zs rest kept.2))
    (λ (both : (us : List Pending) × (xs ≡ z ∷ us) × IsPart us kept.0).
    inr (both.0, both.1, part_trans both.0 kept.0 zs both.2 kept.2))
    (subst (IsPart xs) kept.1 first)

part_left : (xs ys : List Pending) → IsPart xs (xs ++ ys)
part_left xs ys = subst (λ (zs : List Pending). IsPart zs (xs ++ ys)) (append-nil xs)
    (part_append xs xs [] ys (part_same xs) (part_none ys))

module _ (program : Program) where
  pub leads_append : (p q r : PoolMap) (xs ys : List Pending) → LeadsTo program p xs q →
      LeadsTo program q ys r → LeadsTo program p (xs ++ ys) r
  leads_append p q r [] ys same rest =
      subst (λ (x : PoolMap). LeadsTo program x ys r) same rest
  leads_append p q r (x ∷ xs) ys first rest =
      (first.0, first.1, leads_append first.0 q r xs ys first.2 rest)

  -- the transactions of two stretches, one after the other
  pub both : (s u t : SourceState) (D F xs ys : List Pending) → HasDone program s u D xs →
      HasDone program u t F ys → HasDone program s t (D ++ F) (xs ++ ys)
  both s u t D F xs ys first second =
      let wu : List Pending = waiting_of u.standing in
      let wt : List Pending = waiting_of t.standing in
      let long : length (D ++ F) ≡ length D + length F = length-append D F in
      let one = first.count in
      let two = second.count in
      let middle : IsPart (D ++ (F ++ wt)) (D ++ (wu ++ ys)) =
      part_append D D (F ++ wt) (wu ++ ys) (part_same D) second.part in
      let outer : IsPart ((D ++ wu) ++ ys) ((waiting_of s.standing ++ xs) ++ ys) =
      part_append (D ++ wu) (waiting_of s.standing ++ xs) ys ys first.part (part_same ys) in
      record {
        pool = leads_append s.pool u.pool t.pool D F first.pool second.pool;
        count = omega arith;
        part =
            subst (λ (zs : List Pending). IsPart zs (waiting_of s.standing ++ (xs ++ ys)))
            (sym (append_assoc D F wt))
            (subst (IsPart (D ++ (F ++ wt))) (append_assoc (waiting_of s.standing) xs ys)
            (part_trans (D ++ (F ++ wt)) (D ++ (wu ++ ys)) ((waiting_of s.standing ++ xs) ++ ys)
            middle
            (subst (λ (zs : List Pending). IsPart zs ((waiting_of s.standing ++ xs) ++ ys))
            (append_assoc D wu ys) outer)));
      }

  -- nothing is done, and what was owed is still owed, or no longer is
  pub same_done : (s t : SourceState) (calls : List Pending) → t ≡ s → HasDone program s t [] calls
  same_done s t calls is =
      subst (λ (x : SourceState). HasDone program s x [] calls) (sym is)
      (record { pool = refl; count = omega arith; part = part_left (waiting_of s.standing) calls })

  only_standing : (s t : SourceState) (st : Standing) (calls : List Pending)
      → t ≡ standing_as st s →
      IsPart (waiting_of st) (waiting_of s.standing ++ calls) → HasDone program s t [] calls
  only_standing s t st calls is part =
      subst (λ (x : SourceState). HasDone program s x [] calls) (sym is)
      (record { pool = refl; count = omega arith; part = part })

  -- one transaction is finished

  leaves_of : (marked : Bool) (o : Outcome) (s t : SourceState) (st : Standing) →
      ConcludesAs marked o st s t → LeavesPool marked o s.pool t.pool
  leaves_of marked (Done pool value) s t st is = ap (λ (x : SourceState). x.pool) is
  leaves_of marked (Trap kind) s t st is = (is.0, ap (λ (x : SourceState). x.pool) is.1)

  -- it is counted, and the session stands as it says
  abbrev Counted : SourceState → SourceState → Standing → Type 0
  Counted s t st = (t.done ≡ suc s.done) × (t.standing ≡ st)

  counted_as : (s t : SourceState) (pool : PoolMap) (value : ℤ) (st : Standing)
      → t ≡ record { pool = pool; done = suc s.done; last = value; standing = st } → Counted s t st
  counted_as s t pool value st is =
      (ap (λ (x : SourceState). x.done) is, ap (λ (x : SourceState). x.standing) is)

  counts_of : (marked : Bool) (o : Outcome) (s t : SourceState) (st : Standing) →
      ConcludesAs marked o st s t → Counted s t st
  counts_of marked (Done pool value) s t st is = counted_as s t pool value st is
  counts_of marked (Trap kind) s t st is = counted_as s t s.pool s.last st is.1

  pub finished_counts : (marked : Bool) (s t : SourceState) (owed : Pending)
      (st : Standing) → IsConcluded marked program owed s st t → Counted s t st
  finished_counts marked s t owed st is = counts_of marked is.1 s t st is.3

  one_finished :
      (s t : SourceState) (owed : Pending) (st : Standing) (calls : List Pending) →
      waiting_of st ≡ [] → IsConcluded (rolls_back_of program owed.tx) program owed s st t
      → IsPart (owed ∷ []) (waiting_of s.standing ++ calls) →
      HasDone program s t (owed ∷ []) calls
  one_finished s t owed st calls none is part =
      let marked : Bool = rolls_back_of program owed.tx in
      let counts = finished_counts marked s t owed st is in
      let more = counts.0 in
      record {
        pool = (t.pool, (is.0, is.1, is.2, leaves_of marked is.1 s t st is.3), refl);
        count = omega (arith, more);
        part = subst (λ (ws : List Pending). IsPart (owed ∷ ws) (waiting_of s.standing ++ calls))
            (sym (ap waiting_of counts.1 ∙ none)) part;
      }

  -- where no call counts, none does
  pub none_counts : (a : Answer) → called_by [] a ≡ []
  none_counts (answer.Done value unsigned logged) = refl
  none_counts (answer.Aborted kind) = refl
  none_counts (answer.Trap kind) = refl
  none_counts (answer.Stopped p) = refl
  none_counts answer.DeviceFault = refl
  none_counts answer.NoMemory = refl
  none_counts answer.Silent = refl
  none_counts answer.RecoveredNone = refl
  none_counts (answer.RecoveredRedone value unsigned logged) = refl
  none_counts (answer.RecoveredTrap kind) = refl
  none_counts (answer.RecoveredAborted kind) = refl
  none_counts (answer.Shown text) = refl
  none_counts (answer.ShownDead trap text) = refl
  none_counts (answer.Last n value) = refl
  none_counts answer.RefusedDown = refl
  none_counts (answer.RefusedUnusable kind) = refl
  none_counts answer.RefusedUnknown = refl
  none_counts answer.RefusedArity = refl
  none_counts answer.RefusedNumbers = refl
  none_counts (answer.RefusedPick line) = refl

  -- a refused command does nothing
  refused_done : (s t : SourceState) (why a : Answer) (calls : List Pending)
      → called_by calls why ≡ [] →
      Refused why s a t → HasDone program s t (called_by calls a) calls
  refused_done s t why a calls none is =
      subst (λ (x : Answer). HasDone program s t (called_by calls x) calls) (sym is.0)
      (subst (λ (ds : List Pending). HasDone program s t ds calls) (sym none)
      (same_done s t calls is.1))

  -- a call of a session that was ready
  module _ (s t : SourceState) (image : Words) (args : List ℤ) where
    abbrev call : ℕ → Pending
    call tx = record { tx = tx; args = args }

    abbrev called : ℕ → List Pending
    called tx = call tx ∷ []

    right : (tx : ℕ) → IsPart (called tx) (waiting_of s.standing ++ called tx)
    right tx = part_append [] (waiting_of s.standing) (called tx) (called tx)
        (part_none (waiting_of s.standing)) (part_same (called tx))

    cut : (tx : ℕ) → t ≡ standing_as (Down (Some (record { tx = tx; args = args }))) s →
        HasDone program s t [] (called tx)
    cut tx is = only_standing s t (Down (Some (record { tx = tx; args = args }))) (called tx) is
        (right tx)

    runs_done : (tx : ℕ) (a : Answer) →
        RunsBy (rolls_back_of program tx) program s image tx args a t →
        HasDone program s t (called_by (called tx) a) (called tx)
    runs_done tx (answer.Done value unsigned logged) is =
        one_finished s t (call tx) Ready (called tx) refl
        (logged, Done is.0 value, is.1, is.2) (right tx)
    runs_done tx (answer.Aborted kind) is =
        one_finished s t (call tx) Ready (called tx) refl
        (is.1.0, Trap kind, is.1.1, (is.0, is.2)) (right tx)
    runs_done tx (answer.Trap kind) is =
        only_standing s t (Unusable kind) (called tx) is.2
        (part_none (waiting_of s.standing ++ called tx))
    runs_done tx (answer.Stopped p) is = cut tx is
    runs_done tx answer.DeviceFault is = cut tx is
    runs_done tx answer.NoMemory is = cut tx is
    runs_done tx answer.RefusedNumbers is = same_done s t (called tx) is.1
    runs_done tx answer.Silent is = absurd is
    runs_done tx answer.RecoveredNone is = absurd is
    runs_done tx (answer.RecoveredRedone value unsigned logged) is = absurd is
    runs_done tx (answer.RecoveredTrap kind) is = absurd is
    runs_done tx (answer.RecoveredAborted kind) is = absurd is
    runs_done tx (answer.Shown text) is = absurd is
    runs_done tx (answer.ShownDead trap text) is = absurd is
    runs_done tx (answer.Last n value) is = absurd is
    runs_done tx answer.RefusedDown is = absurd is
    runs_done tx (answer.RefusedUnusable kind) is = absurd is
    runs_done tx answer.RefusedUnknown is = absurd is
    runs_done tx answer.RefusedArity is = absurd is
    runs_done tx (answer.RefusedPick line) is = absurd is

    -- a look does nothing
    look_done : (tx : ℕ) (a : Answer) → Looks program s tx args a t →
        HasDone program s t (called_by [] a) []
    look_done tx a is =
        subst (λ (ds : List Pending). HasDone program s t ds []) (sym (none_counts a))
        (⊎_elim (λ same. same_done s t [] same)
        (λ down. only_standing s t (Down None) [] down.1 (part_none (waiting_of s.standing ++ [])))
        (looked_state program s t tx args a is))

    -- what a call counts, by whether it only looks
    abbrev counts_by : Bool → ℕ → List Pending
    counts_by looks tx = call_to (if looks then None else Some tx) args

    any_done : (tx : ℕ) (looks : Bool) (a : Answer) →
        RunsAs looks (rolls_back_of program tx) program s image tx args a t →
        HasDone program s t (called_by (counts_by looks tx) a) (counts_by looks tx)
    any_done tx true a is = look_done tx a is
    any_done tx false a is = runs_done tx a is

    abbrev counts : ℕ → List Pending
    counts tx = counts_by (looks_of program tx) tx

    with_done : (tx : ℕ) (same : Bool) (a : Answer) →
        CallsWith same program s image tx args a t →
        HasDone program s t (called_by (counts tx) a) (counts tx)
    with_done tx true a is = any_done tx (looks_of program tx) a is
    with_done tx false a is = refused_done s t answer.RefusedArity a (counts tx) refl is

    to_done : (tx : ℕ) (count : Option ℕ) (a : Answer) →
        CallsTo count program s image tx args a t →
        HasDone program s t (called_by (counts tx) a) (counts tx)
    to_done tx None a is = refused_done s t answer.RefusedUnknown a (counts tx) refl is
    to_done tx (Some count) a is = with_done tx (count == length args) a is

    named_done : (number : Option ℕ) (a : Answer) →
        CallsNamed number program s image args a t →
        HasDone program s t (called_by (call_to (counted program number) args) a)
        (call_to (counted program number) args)
    named_done None a is = refused_done s t answer.RefusedUnknown a [] refl is
    named_done (Some tx) a is = to_done tx (source_parameters program tx) a is

    calls_done : (st : Standing) (name : List ℕ) (a : Answer) →
        Calls st program s image name args a t →
        HasDone program s t
        (called_by (call_to (counted program (call_number program name)) args) a)
        (call_to (counted program (call_number program name)) args)
    calls_done Ready name a is = named_done (call_number program name) a is
    calls_done (Down owed) name a is =
        refused_done s t answer.RefusedDown a
        (call_to (counted program (call_number program name)) args) refl is
    calls_done (Unusable kind) name a is =
        refused_done s t (answer.RefusedUnusable kind) a
        (call_to (counted program (call_number program name)) args) refl is

  -- what a power cut leaves owed is a part of what was owed

  part_at : (s : SourceState) (st : Standing) (xs : List Pending) → s.standing ≡ st
      → IsPart xs (waiting_of st ++ []) → IsPart xs (waiting_of s.standing ++ [])
  part_at s st xs is part = subst (λ (x : Standing). IsPart xs (waiting_of x ++ [])) (sym is) part

  -- the owed transaction, if the image shows that it is done
  abbrev retired_by : SourceState → Words → List Pending
  retired_by s image = if is_retired s image then waiting_of s.standing else []

  retired_none : (s : SourceState) (image : Words) → waiting_of s.standing ≡ []
      → retired_by s image ≡ []
  retired_none s image none = by_test (is_retired s image)
    where
      by_test : (b : Bool) → (if b then waiting_of s.standing else []) ≡ []
      by_test true = none
      by_test false = refl

  not_eq : (v w : ℤ) → (v ≡ w → ⊥) → int_eq v w ≡ false
  not_eq v w none = by_test (int_eq v w) refl
    where
      by_test : (b : Bool) → int_eq v w ≡ b → b ≡ false
      by_test true e = absurd (none ((Decides-int_eq v w).0 e))
      by_test false e = refl

  and_false : (b : Bool) → (b && false) ≡ false
  and_false true = refl
  and_false false = refl

  pub fresh_shows : (s : SourceState) (image : Words) → image SEAL ≢ pos (suc s.done) →
      is_retired s image ≡ false
  fresh_shows s image fresh =
      ap (λ (b : Bool). b && int_eq (image DONE) (pos (suc s.done)))
      (not_eq (image SEAL) (pos (suc s.done)) fresh)

  pub retired_shows : (s : SourceState) (image : Words) → image SEAL ≡ pos (suc s.done) →
      image DONE ≡ pos (suc s.done) → is_retired s image ≡ true
  retired_shows s image seal done =
      ap (λ (b : Bool). b && int_eq (image DONE) (pos (suc s.done)))
      ((Decides-int_eq (image SEAL) (pos (suc s.done))).1 seal)
      ∙ (Decides-int_eq (image DONE) (pos (suc s.done))).1 done

  pub sealed_shows : (s : SourceState) (image : Words) → image DONE ≡ pos s.done →
      is_retired s image ≡ false
  sealed_shows s image done =
      ap (λ (b : Bool). int_eq (image SEAL) (pos (suc s.done)) && b)
      (not_eq (image DONE) (pos (suc s.done)) (λ e. apart s.done (sym done ∙ e)))
      ∙ and_false (int_eq (image SEAL) (pos (suc s.done)))
    where
      apart : (n : ℕ) → pos n ≡ pos (suc n) → ⊥
      apart n e = let same : n ≡ suc n = cc in omega (arith, same)

  -- the owed transaction, if the recovery ran it to a value or rolled it back
  abbrev redone_by : Standing → Answer → List Pending
  redone_by st (answer.RecoveredRedone value unsigned logged) = waiting_of st
  redone_by st (answer.RecoveredAborted kind) = waiting_of st
  redone_by st a = []

  by_retired : (s : SourceState) (image : Words) (b : Bool) (found : SourceState)
      → is_retired s image ≡ b →
      HasDone program s found (if b then waiting_of s.standing else []) [] →
      HasDone program s found (retired_by s image) []
  by_retired s image b found is h =
      subst (λ (x : Bool). HasDone program s found (if x then waiting_of s.standing else []) [])
      (sym is) h

  -- the state that is found after a power cut
  module _ (s found : SourceState) (image : Words) where
    abbrev Found : Type 0
    Found = HasDone program s found (retired_by s image) []

    finds_none : waiting_of s.standing ≡ [] → found ≡ standing_as (Down None) s → Found
    finds_none none is =
        subst (λ (ds : List Pending). HasDone program s found ds [])
        (sym (retired_none s image none))
        (only_standing s found (Down None) [] is (part_none (waiting_of s.standing ++ [])))

    finds_of : (owed : Pending) → s.standing ≡ Down (Some owed) →
        FindsOf (Some owed) program s image found → Found
    finds_of owed is (inl fresh) =
        by_retired s image false found (fresh_shows s image fresh.0)
        (only_standing s found (Down None) [] fresh.1 (part_none (waiting_of s.standing ++ [])))
    finds_of owed is (inr (inl retired)) =
        let waiting : waiting_of s.standing ≡ owed ∷ [] = ap waiting_of is in
        by_retired s image true found (retired_shows s image retired.0 retired.1)
        (subst (λ (ds : List Pending). HasDone program s found ds []) (sym waiting)
        (one_finished s found owed (Down None) [] refl retired.2
        (part_at s (Down (Some owed)) (owed ∷ []) is (part_same (owed ∷ [])))))
    finds_of owed is (inr (inr sealed)) =
        by_retired s image false found (sealed_shows s image sealed.1)
        (only_standing s found (Down (Some owed)) [] sealed.2
        (part_at s (Down (Some owed)) (owed ∷ []) is (part_same (owed ∷ []))))

    finds_done : (st : Standing) → s.standing ≡ st → FindsOwed st program s image found
        → Found
    finds_done Ready is finds = finds_none (ap waiting_of is) finds
    finds_done (Down None) is finds = finds_none (ap waiting_of is) finds
    finds_done (Down (Some owed)) is finds = finds_of owed is finds
    finds_done (Unusable kind) is finds = absurd finds

  rests_done : (s t : SourceState) (image : Words) (a : Answer) → Rests program s image a t →
      HasDone program s t (redone_by (Down None) a) []
  rests_done s t image answer.RecoveredNone is =
      only_standing s t Ready [] is (part_none (waiting_of s.standing ++ []))
  rests_done s t image answer.RefusedNumbers is = same_done s t [] is.1
  rests_done s t image (answer.Stopped p) is = same_done s t [] is.1
  rests_done s t image answer.DeviceFault is = same_done s t [] is
  rests_done s t image answer.NoMemory is = same_done s t [] is
  rests_done s t image answer.Silent is = absurd is
  rests_done s t image (answer.Done value unsigned logged) is = absurd is
  rests_done s t image (answer.Trap kind) is = absurd is
  rests_done s t image (answer.Aborted kind) is = absurd is
  rests_done s t image (answer.RecoveredRedone value unsigned logged) is = absurd is
  rests_done s t image (answer.RecoveredTrap kind) is = absurd is
  rests_done s t image (answer.RecoveredAborted kind) is = absurd is
  rests_done s t image (answer.Shown text) is = absurd is
  rests_done s t image (answer.ShownDead trap text) is = absurd is
  rests_done s t image (answer.Last n value) is = absurd is
  rests_done s t image answer.RefusedDown is = absurd is
  rests_done s t image (answer.RefusedUnusable kind) is = absurd is
  rests_done s t image answer.RefusedUnknown is = absurd is
  rests_done s t image answer.RefusedArity is = absurd is
  rests_done s t image (answer.RefusedPick line) is = absurd is

  redoes_done : (owed : Pending) (s t : SourceState) (image : Words) (a : Answer) →
      s.standing ≡ Down (Some owed) → Redoes program owed s image a t →
      HasDone program s t (redone_by (Down (Some owed)) a) []
  redoes_done owed s t image (answer.RecoveredRedone value unsigned logged) at is =
      one_finished s t owed Ready [] refl (logged, Done is.0 value, is.1, is.2)
      (part_at s (Down (Some owed)) (owed ∷ []) at (part_same (owed ∷ [])))
  redoes_done owed s t image (answer.RecoveredAborted kind) at is =
      one_finished s t owed Ready [] refl (is.1.0, Trap kind, is.1.1, (is.0, is.2))
      (part_at s (Down (Some owed)) (owed ∷ []) at (part_same (owed ∷ [])))
  redoes_done owed s t image (answer.RecoveredTrap kind) at is =
      only_standing s t (Unusable kind) [] is.2 (part_none (waiting_of s.standing ++ []))
  redoes_done owed s t image answer.RefusedNumbers at is = same_done s t [] is.1
  redoes_done owed s t image (answer.Stopped p) at is = same_done s t [] is.1
  redoes_done owed s t image answer.DeviceFault at is = same_done s t [] is
  redoes_done owed s t image answer.NoMemory at is = same_done s t [] is
  redoes_done owed s t image answer.Silent at is = absurd is
  redoes_done owed s t image (answer.Done value unsigned logged) at is = absurd is
  redoes_done owed s t image (answer.Trap kind) at is = absurd is
  redoes_done owed s t image (answer.Aborted kind) at is = absurd is
  redoes_done owed s t image answer.RecoveredNone at is = absurd is
  redoes_done owed s t image (answer.Shown text) at is = absurd is
  redoes_done owed s t image (answer.ShownDead trap text) at is = absurd is
  redoes_done owed s t image (answer.Last n value) at is = absurd is
  redoes_done owed s t image answer.RefusedDown at is = absurd is
  redoes_done owed s t image (answer.RefusedUnusable kind) at is = absurd is
  redoes_done owed s t image answer.RefusedUnknown at is = absurd is
  redoes_done owed s t image answer.RefusedArity at is = absurd is
  redoes_done owed s t image (answer.RefusedPick line) at is = absurd is

  recovers_done : (s t : SourceState) (image : Words) (a : Answer) (st : Standing)
      →
      s.standing ≡ st → Recovers st program s image a t →
      HasDone program s t (redone_by st a) []
  recovers_done s t image a Ready at is = absurd is
  recovers_done s t image a (Down None) at is = rests_done s t image a is
  recovers_done s t image a (Down (Some owed)) at is =
      redoes_done owed s t image a at is
  recovers_done s t image a (Unusable kind) at is = absurd is

  -- together the two lists are what the cut has done
  abbrev Parts : SourceState → SourceState → Words → Answer → Type 0
  Parts s found image a = retired_by s image ++ redone_by found.standing a ≡ recovered_by s image a

  down_none : (found s : SourceState) → found ≡ standing_as (Down None) s
      → found.standing ≡ Down None
  down_none found s is = ap (λ (x : SourceState). x.standing) is

  -- an answer that only the recovery of an owed transaction gives
  module _ (a : Answer) (t : SourceState) (image : Words)
      (never : (found : SourceState) → Rests program found image a t → ⊥) where
    redone_none : (found : SourceState) → found.standing ≡ Down None →
        Recovers found.standing program found image a t → ⊥
    redone_none found is recovers =
        never found (subst (λ (st : Standing). Recovers st program found image a t) is recovers)

    redone_parts :
        (s found : SourceState) (st : Standing) → s.standing ≡ st →
        FindsOwed st program s image found → Recovers found.standing program found image a t →
        retired_by s image ++ waiting_of found.standing ≡ waiting_of s.standing
    redone_parts s found Ready is finds recovers =
        absurd (redone_none found (down_none found s finds) recovers)
    redone_parts s found (Down None) is finds recovers =
        absurd (redone_none found (down_none found s finds) recovers)
    redone_parts s found (Down (Some owed)) is (inl fresh) recovers =
        absurd (redone_none found (down_none found s fresh.1) recovers)
    redone_parts s found (Down (Some owed)) is (inr (inl retired)) recovers =
        absurd (redone_none found
        (finished_counts (rolls_back_of program owed.tx) s found owed (Down None) retired.2).1
        recovers)
    redone_parts s found (Down (Some owed)) is (inr (inr sealed)) recovers =
        ap (λ (b : Bool). (if b then waiting_of s.standing else []) ++ waiting_of found.standing)
        (sealed_shows s image sealed.1)
        ∙ ap waiting_of (ap (λ (x : SourceState). x.standing) sealed.2 ∙ sym is)
    redone_parts s found (Unusable kind) is finds recovers = absurd finds

  -- where the recovery ran nothing to a value
  module _ (s t : SourceState) (image : Words) where
    abbrev Back : Answer → Type 0
    Back a =
        (image MARK ≡ pos 0)
        × ((found : SourceState) × FindsOwed s.standing program s image found
        × Recovers found.standing program found image a t)

    back_with : (a : Answer) (is : Back a) → Parts s is.1.0 image a →
        HasDone program s t (recovered_by s image a) []
    back_with a is parts =
        let found : SourceState = is.1.0 in
        subst (λ (ds : List Pending). HasDone program s t ds []) parts
        (both s found t (retired_by s image) (redone_by found.standing a) [] []
        (finds_done s found image s.standing refl is.1.1)
        (recovers_done found t image a found.standing refl is.1.2))

    none : retired_by s image ++ [] ≡ retired_by s image
    none = append-nil (retired_by s image)

    pub powers_done : (a : Answer) → Powers program s image a t →
        HasDone program s t (recovered_by s image a) []
    powers_done (answer.RefusedPick line) is = same_done s t [] is
    powers_done (answer.RefusedUnusable kind) is =
        only_standing s t (Unusable kind) [] is.2 (part_none (waiting_of s.standing ++ []))
    powers_done (answer.RecoveredRedone value unsigned logged) is =
        back_with (answer.RecoveredRedone value unsigned logged) is
        (redone_parts (answer.RecoveredRedone value unsigned logged) t image (λ found no. no) s
        is.1.0 s.standing refl is.1.1 is.1.2)
    powers_done (answer.RecoveredAborted kind) is =
        back_with (answer.RecoveredAborted kind) is
        (redone_parts (answer.RecoveredAborted kind) t image (λ found no. no) s is.1.0
        s.standing refl is.1.1 is.1.2)
    powers_done answer.Silent is = back_with answer.Silent is none
    powers_done (answer.Done value unsigned logged) is =
        back_with (answer.Done value unsigned logged) is none
    powers_done (answer.Trap kind) is = back_with (answer.Trap kind) is none
    powers_done (answer.Aborted kind) is = back_with (answer.Aborted kind) is none
    powers_done (answer.Stopped p) is = back_with (answer.Stopped p) is none
    powers_done answer.DeviceFault is = back_with answer.DeviceFault is none
    powers_done answer.RecoveredNone is = back_with answer.RecoveredNone is none
    powers_done (answer.RecoveredTrap kind) is = back_with (answer.RecoveredTrap kind) is none
    powers_done (answer.Shown text) is = back_with (answer.Shown text) is none
    powers_done (answer.ShownDead trap text) is = back_with (answer.ShownDead trap text) is none
    powers_done (answer.Last n value) is = back_with (answer.Last n value) is none
    powers_done answer.NoMemory is = back_with answer.NoMemory is none
    powers_done answer.RefusedDown is = back_with answer.RefusedDown is none
    powers_done answer.RefusedUnknown is = back_with answer.RefusedUnknown is none
    powers_done answer.RefusedArity is = back_with answer.RefusedArity is none
    powers_done answer.RefusedNumbers is = back_with answer.RefusedNumbers is none

  -- `show` and `last` do nothing to the history

  tells_done : (s t : SourceState) (a : Answer) → Tells program s a t → HasDone program s t [] []
  tells_done s t (answer.Shown text) is = same_done s t [] is.1
  tells_done s t (answer.ShownDead trap text) is = absurd is
  tells_done s t answer.NoMemory is =
      only_standing s t (Down None) [] is (part_none (waiting_of s.standing ++ []))
  tells_done s t answer.Silent is = absurd is
  tells_done s t (answer.Done value unsigned logged) is = absurd is
  tells_done s t (answer.Trap kind) is = absurd is
  tells_done s t (answer.Aborted kind) is = absurd is
  tells_done s t (answer.Stopped p) is = absurd is
  tells_done s t answer.DeviceFault is = absurd is
  tells_done s t answer.RecoveredNone is = absurd is
  tells_done s t (answer.RecoveredRedone value unsigned logged) is = absurd is
  tells_done s t (answer.RecoveredTrap kind) is = absurd is
  tells_done s t (answer.RecoveredAborted kind) is = absurd is
  tells_done s t (answer.Last n value) is = absurd is
  tells_done s t answer.RefusedDown is = absurd is
  tells_done s t (answer.RefusedUnusable kind) is = absurd is
  tells_done s t answer.RefusedUnknown is = absurd is
  tells_done s t answer.RefusedArity is = absurd is
  tells_done s t answer.RefusedNumbers is = absurd is
  tells_done s t (answer.RefusedPick line) is = absurd is

  shows_done : (s t : SourceState) (a : Answer) (st : Standing) → Shows st program s a t →
      HasDone program s t [] []
  shows_done s t a Ready is = tells_done s t a is
  shows_done s t a (Down owed) is = same_done s t [] is.1
  shows_done s t a (Unusable kind) is = same_done s t [] is.1

  dead_done : (s t : SourceState) (image : Words) (a : Answer) (st : Standing)
      → ShowsDead st program s image a t → HasDone program s t [] []
  dead_done s t image a Ready is = shows_done s t a Ready is
  dead_done s t image a (Down owed) is = shows_done s t a (Down owed) is
  dead_done s t image a (Unusable kind) is = same_done s t [] is.1

  lasts_done : (s t : SourceState) (a : Answer) (st : Standing) → Lasts st s a t →
      HasDone program s t [] []
  lasts_done s t a Ready is = same_done s t [] is.1
  lasts_done s t a (Down owed) is = same_done s t [] is.1
  lasts_done s t a (Unusable kind) is = same_done s t [] is.1

  pub answer_done : (s t : SourceState) (image : Words) (c : Command) (a : Answer)
      →
      Answers program s image c a t →
      HasDone program s t (done_by program s image c a) (call_in program c)
  answer_done s t image (command.Call name args) a is =
      calls_done s t image args s.standing name a is
  answer_done s t image (command.Stop left) a is = same_done s t [] is.1
  answer_done s t image (command.Fault at) a is = same_done s t [] is.1
  answer_done s t image (command.Power choice) a is = powers_done s t image a is
  answer_done s t image command.Show a is = shows_done s t a s.standing is
  answer_done s t image command.ShowDead a is = dead_done s t image a s.standing is
  answer_done s t image command.Last a is = lasts_done s t a s.standing is
