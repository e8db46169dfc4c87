-- The events of a command, from what the machine and the device did.
use Rattle.std.proofs.Common.{◌≡◌, ◌⊎◌, inl, inr, ℕ, ◌+◌, ◌*◌, ◌≤◌, ◌==◌, ◌&&◌, Bool, true, false}
use Rattle.std.proofs.Common.{if◌then◌else◌, List, [], length, Option, Some, None, ℤ, pos, int_eq}
use Rattle.std.proofs.Common.{refl, sym, ap, ◌∙◌, subst, arith, ⊎_elim}
use Rattle.std.specs.Option.{option_map_or}
use Rattle.std.proofs.lemmas.Bool.Decides.{Decides-int_eq}
use Rattle.cache_model.specs.Cache.{Words, view}
use Rattle.cache_model.specs.Collapse.{bad}
use Rattle.cache_model.specs.Event.{CacheEvent}
use Rattle.cache_model.specs.declared.choice.Choice.{Choice}
use Rattle.pmem.specs.Device.{Device, memory_of, powered}
use Rattle.pmem.specs.declared.answer.Phase.TheVariants as phase
use Rattle.pool_layout.specs.declared.places.TheConstants.{DONE, ATTEMPT, MARK}
use Rattle.pool_layout.specs.declared.limits.Sizes.{Sizes}
use Rattle.pool_layout.specs.Image.{is_sealed}
use Rattle.pool_map.specs.declared.shapes.Shapes.{Shapes}
use Rattle.c_types.specs.Shapes.{shapes_of}
use Rattle.pm_machine.specs.declared.records.Policy.{Policy}
use Rattle.pm_machine.specs.declared.image.Image.{Image}
use Rattle.pm_machine.specs.declared.effect.End.{End}
use Rattle.pm_machine.specs.declared.effect.End.TheVariants.{Halted, Trapped}
use Rattle.tx_run.specs.Called.{Called, IsTxCalled}
use Rattle.tx_run.specs.Looked.{look_answer, look_at}
use Rattle.tx_run.specs.declared.looking.LookAnswer.{LookAnswer}
use Rattle.tx_run.specs.declared.looking.LookAnswer.TheVariants as looked
use Rattle.tx_run.specs.Due.{due_call}
use Rattle.tx_run.specs.declared.answer.CallAnswer.{CallAnswer}
use Rattle.tx_run.specs.declared.answer.CallAnswer.TheVariants as called
use Rattle.tx_run.specs.declared.standing.Standing.{Standing}
use Rattle.tx_run.specs.declared.standing.Standing.TheVariants as stands
use Rattle.tx_run.specs.Standing.{standing_of, trap_of_mark, is_number}
use Rattle.recovery.specs.Due.{due_clean, due_redo}
use Rattle.recovery.specs.Found.{names_tx}
use Rattle.recovery.specs.Recovered.{Cleaned, Redid, IsRecovered, numbers_out, tx_in, args_in}
use Rattle.recovery.specs.Recovered.{valid_in}
use Rattle.recovery.specs.declared.answer.RecoverAnswer.{RecoverAnswer}
use Rattle.recovery.specs.declared.answer.RecoverAnswer.TheVariants as recovered
use Rattle.codegen.specs.Emit.{most_steps}
use Rattle.cnvm_script.specs.declared.command.Command.{Command}
use Rattle.cnvm_script.specs.declared.command.Command.TheVariants as command
use Rattle.cnvm_session.specs.declared.answer.Answer.{Answer}
use Rattle.cnvm_session.specs.declared.answer.Answer.TheVariants as answer
use Rattle.cnvm_session.specs.declared.mode.Mode.{Mode}
use Rattle.cnvm_session.specs.declared.mode.Mode.TheVariants as mode
use Rattle.cnvm_session.specs.declared.program.Program.{Program}
use Rattle.cnvm_session.specs.Commands as commanded
use Rattle.cnvm_session.specs.Commands.{call_number, tx_parameters, fallen, Commanded}
use Rattle.cnvm_session.specs.Marks.{rolls_back_of, looks_of, policy_of, owes_marked}
use Rattle.cnvm_session.specs.Marks.{unsigned_of, owes_unsigned}
use Rattle.cnvm_session.specs.Outcomes.{answer_of_call, answer_of_look, answer_of_recovery, RunsBy}
use Rattle.cnvm_session.specs.Outcomes.{Looks, RunsAs, RecoversBy}
use Rattle.cnvm_session.specs.Pool.{sizes_of}
use Rattle.session_law.specs.Holds.{HoldsAs}
use Rattle.session_law.specs.State as session
use Rattle.session_law.specs.State.{SourceState}
use Rattle.session_law.proofs.answers.Dead.{told_dead}
use Rattle.user_law.specs.Played.{prepared, PlaysAs}
use Rattle.user_law.specs.Seen.{PlayedLaw}
use Rattle.user_law.proofs.Counting.{most_events, call_few, clean_few, redo_few}
use Rattle.user_law.proofs.Looking.{calls_look, only_same}

-- some events, not many, are played as the answer says
abbrev Plays : ℕ → Answer → Device → Device → Type 0
Plays most a e b =
    (events : List CacheEvent) × (length events ≤ most) × PlaysAs a e events b

-- no pool's words say that the device is off
never_off : (w : Words) → standing_of w ≡ stands.Off → ⊥
never_off w = go (int_eq (w MARK) (pos 0)) (is_number (w DONE) && is_number (w ATTEMPT))
  where
    go : (none numbers : Bool) → (if none then (if numbers then stands.Ready else stands.Numbers)
        else stands.Unusable (trap_of_mark (w MARK))) ≡ stands.Off → ⊥
    go true true e = absurd cc
    go true false e = absurd cc
    go false numbers e = absurd cc

-- an answer that has no events
none_played : (most : ℕ) (a why : Answer) (d b : Device) → a ≡ why → PlaysAs why d [] b →
    Plays most a d b
none_played most a why d b is played =
    subst (λ (x : Answer). Plays most x d b) (sym is) ([], omega arith, played)

module _ (p : Policy) (u : Bool) (image : Image) (d b : Device) (k k1 : ℕ) where
  abbrev most : ℕ
  most = most_events image

  abbrev Made : Answer → Device → Device → Type 0
  Made = Plays most

  call_plays : (tx : ℕ) (args : List ℤ) (r : CallAnswer) → Called r p image tx args d b k k1 →
      Made (answer_of_call u r) d b
  call_plays tx args (called.Done v l) h =
      (due_call p image tx args d.cache, call_few p image tx args d.cache, h.0.played)
  call_plays tx args (called.Trap t) h =
      (due_call p image tx args d.cache, call_few p image tx args d.cache, h.1.played)
  call_plays tx args (called.Aborted t) h =
      (due_call p image tx args d.cache, call_few p image tx args d.cache, h.1.played)
  call_plays tx args (called.Off at) h =
      (due_call p image tx args d.cache, call_few p image tx args d.cache, h.0)
  call_plays tx args called.Failed h =
      (due_call p image tx args d.cache, call_few p image tx args d.cache, h)
  call_plays tx args called.NoMemory h =
      (due_call p image tx args d.cache, call_few p image tx args d.cache, inr h)
  call_plays tx args (called.Unusable t) h = absurd h
  call_plays tx args called.Numbers h = absurd h

  tx_plays : (tx : ℕ) (args : List ℤ) (r : CallAnswer) → d.on ≡ true →
      IsTxCalled r p image tx args d b k k1 → Made (answer_of_call u r) d b
  tx_plays tx args r on is = go (standing_of (view d.cache)) refl
    where
      go : (st : Standing) → standing_of (view d.cache) ≡ st → Made (answer_of_call u r) d b
      go stands.Ready e = call_plays tx args r (is.ready on e)
      go (stands.Unusable kind) e =
          let same = is.unusable kind on e in
          none_played most (answer_of_call u r) (answer.RefusedUnusable kind) d b
          (ap (answer_of_call u) same.0) same.1
      go stands.Numbers e =
          let same = is.numbers on e in
          none_played most (answer_of_call u r) answer.RefusedNumbers d b
          (ap (answer_of_call u) same.0) same.1
      go stands.Off e = absurd (never_off (view d.cache) e)

  clean_plays : (es : List CacheEvent) → length es ≤ most → (r : RecoverAnswer) →
      Cleaned r d es b →
      Made (answer_of_recovery u r) d b
  clean_plays es few recovered.Clean h = (es, few, h)
  clean_plays es few (recovered.Off phase.Unsealed) h = (es, few, h)
  clean_plays es few (recovered.Off phase.Sealing) h = absurd h
  clean_plays es few (recovered.Off phase.Sealed) h = absurd h
  clean_plays es few recovered.Failed h = (es, few, h)
  clean_plays es few recovered.NoMemory h = (es, few, inr h)
  clean_plays es few (recovered.Redone v l) h = absurd h
  clean_plays es few (recovered.Trap t) h = absurd h
  clean_plays es few (recovered.Aborted t) h = absurd h
  clean_plays es few (recovered.Unusable t) h = absurd h
  clean_plays es few recovered.Numbers h = absurd h

  redo_plays : (tx : ℕ) (args : List ℤ) (n : ℕ) (r : RecoverAnswer) →
      Redid r p image tx args n d b k k1 → Made (answer_of_recovery u r) d b
  redo_plays tx args n (recovered.Redone v l) h =
      (due_redo p image tx args n d.cache, redo_few p image tx args n d.cache, h.0.played)
  redo_plays tx args n (recovered.Trap t) h =
      (due_redo p image tx args n d.cache, redo_few p image tx args n d.cache, h.1.played)
  redo_plays tx args n (recovered.Aborted t) h =
      (due_redo p image tx args n d.cache, redo_few p image tx args n d.cache, h.1.played)
  redo_plays tx args n (recovered.Off phase.Sealed) h =
      (due_redo p image tx args n d.cache, redo_few p image tx args n d.cache, h)
  redo_plays tx args n (recovered.Off phase.Unsealed) h = absurd h
  redo_plays tx args n (recovered.Off phase.Sealing) h = absurd h
  redo_plays tx args n recovered.Failed h =
      (due_redo p image tx args n d.cache, redo_few p image tx args n d.cache, h)
  redo_plays tx args n recovered.NoMemory (inl h) =
      (due_redo p image tx args n d.cache, redo_few p image tx args n d.cache, inl h.0)
  redo_plays tx args n recovered.NoMemory (inr h) =
      (due_redo p image tx args n d.cache, redo_few p image tx args n d.cache, inr h)
  redo_plays tx args n recovered.Clean h = absurd h
  redo_plays tx args n (recovered.Unusable t) h = absurd h
  redo_plays tx args n recovered.Numbers h = absurd h

  recovery_plays : (r : RecoverAnswer) → d.on ≡ true → IsRecovered r p image d b k k1 →
      Made (answer_of_recovery u r) d b
  recovery_plays r on is = by_mark (int_eq (view d.cache MARK) (pos 0)) refl
    where
      numbers : (r ≡ recovered.Numbers) × (b ≡ d) × (k1 ≡ k) → Made (answer_of_recovery u r) d b
      numbers same =
          none_played most (answer_of_recovery u r) answer.RefusedNumbers d b
          (ap (answer_of_recovery u) same.0) same.1

      by_name : (named : Bool) → names_tx image (tx_in d) ≡ named → view d.cache MARK ≡ pos 0 →
          numbers_out image d ≡ false → is_sealed (view d.cache) ≡ true →
          Made (answer_of_recovery u r) d b
      by_name true e mark out seal =
          redo_plays (tx_in d) (args_in image d) (valid_in image d) r (is.redid on mark out seal e)
      by_name false e mark out seal = numbers (is.unnamed on mark out seal e)

      by_seal : (sealed : Bool) → is_sealed (view d.cache) ≡ sealed → view d.cache MARK ≡ pos 0 →
          numbers_out image d ≡ false → Made (answer_of_recovery u r) d b
      by_seal true e mark out = by_name (names_tx image (tx_in d)) refl mark out e
      by_seal false e mark out =
          clean_plays (due_clean image.parts.sizes (valid_in image d) d.cache)
          (clean_few image (valid_in image d) d.cache) r
          (is.clean on mark out e)

      by_numbers : (out : Bool) → numbers_out image d ≡ out → view d.cache MARK ≡ pos 0 →
          Made (answer_of_recovery u r) d b
      by_numbers true e mark = numbers (is.numbers on mark e)
      by_numbers false e mark = by_seal (is_sealed (view d.cache)) refl mark e

      by_mark : (none : Bool) → int_eq (view d.cache MARK) (pos 0) ≡ none →
          Made (answer_of_recovery u r) d b
      by_mark true e =
          by_numbers (numbers_out image d) refl ((Decides-int_eq (view d.cache MARK) (pos 0)).0 e)
      by_mark false e =
          let same = is.unusable on (λ mark. let t : true ≡ false =
          sym ((Decides-int_eq (view d.cache MARK) (pos 0)).1 mark) ∙ e in absurd cc) in
          none_played most (answer_of_recovery u r) (answer.RefusedUnusable _) d b
          (ap (answer_of_recovery u) same.0) same.1

-- the device before a recovery is the one that the cut leaves, since no recovery refuses a pick
prepared_by : (choice : Choice) (d : Device) (u : Bool) (r : RecoverAnswer) →
    prepared (command.Power choice) (answer_of_recovery u r) d ≡ powered choice d
prepared_by choice d u recovered.Clean = refl
prepared_by choice d u (recovered.Redone v l) = refl
prepared_by choice d u (recovered.Trap kind) = refl
prepared_by choice d u (recovered.Aborted kind) = refl
prepared_by choice d u (recovered.Unusable kind) = refl
prepared_by choice d u recovered.Numbers = refl
prepared_by choice d u (recovered.Off p) = refl
prepared_by choice d u recovered.Failed = refl
prepared_by choice d u recovered.NoMemory = refl

module _ (program : Program) (d b : Device) (a : Answer) (n : Mode) (k k1 : ℕ) where
  abbrev its_most : ℕ
  its_most = most_events program.image

  abbrev Performed : Answer → Device → Device → Type 0
  Performed = Plays its_most

  runs_play : (marked u : Bool) (tx : ℕ) (args : List ℤ) → d.on ≡ true →
      RunsBy marked u program.image tx args d a n b k k1 → Performed a d b
  runs_play marked u tx args on is =
      subst (λ (x : Answer). Performed x d b) (sym is.answer)
      (tx_plays (policy_of marked) u program.image d b k k1 tx args is.tx_answer on is.called)

  -- none where the call only looks
  abbrev bound : (looks : Bool) → ℕ
  bound looks = if looks then 0 else its_most

  look_played : (u : Bool) (end : End) → b ≡ d
      → PlaysAs (answer_of_look u (look_answer end)) d [] b
  look_played u (Halted v) same = same
  look_played u (Trapped kind) same = same

  look_plays : (u : Bool) (tx : ℕ) (args : List ℤ) → d.on ≡ true →
      Looks u program.image tx args d a n b k k1 → Plays 0 a d b
  look_plays u tx args on is = by_answer (is.looked.on on)
    where
      told : (r : LookAnswer) → is.seen ≡ r → PlaysAs (answer_of_look u r) d [] b → Plays 0 a d b
      told r seen = none_played 0 a (answer_of_look u r) d b
          (is.answer ∙ ap (answer_of_look u) seen)

      by_answer : ((is.seen ≡ look_answer (look_at program.image tx args d).end)
          × (k1 ≡ k + (look_at program.image tx args d).steps))
          ⊎ ((is.seen ≡ looked.NoMemory) × (k1 ≡ k)) → Plays 0 a d b
      by_answer (inl seen) = told (look_answer (look_at program.image tx args d).end) seen.0
          (look_played u (look_at program.image tx args d).end is.same)
      by_answer (inr seen) = told looked.NoMemory seen.0 (inl is.same)

  runs_as_play : (looks marked u : Bool) (tx : ℕ) (args : List ℤ) → d.on ≡ true →
      RunsAs looks marked u program.image tx args d a n b k k1 → Plays (bound looks) a d b
  runs_as_play true marked u tx args on is = look_plays u tx args on is
  runs_as_play false marked u tx args on is = runs_play marked u tx args on is

  with_plays : (same : Bool) (tx : ℕ) (args : List ℤ) → d.on ≡ true →
      commanded.CallsWith same program tx args d a n b k k1 →
      Plays (bound (looks_of program tx)) a d b
  with_plays true tx args on is =
      runs_as_play (looks_of program tx) (rolls_back_of program tx) (unsigned_of program tx) tx args
      on is
  with_plays false tx args on is =
      none_played (bound (looks_of program tx)) a answer.RefusedArity d b is.0 is.2

  to_plays : (count : Option ℕ) (tx : ℕ) (args : List ℤ) → d.on ≡ true →
      commanded.CallsTo count program tx args d a n b k k1 →
      Plays (bound (looks_of program tx)) a d b
  to_plays None tx args on is =
      none_played (bound (looks_of program tx)) a answer.RefusedUnknown d b is.0 is.2
  to_plays (Some count) tx args on is = with_plays (count == length args) tx args on is

  named_plays : (number : Option ℕ) (args : List ℤ) → d.on ≡ true →
      commanded.CallsNamed number program args d a n b k k1 →
      Plays (bound (option_map_or (looks_of program) number false)) a d b
  named_plays None args on is = none_played its_most a answer.RefusedUnknown d b is.0 is.2
  named_plays (Some tx) args on is = to_plays (tx_parameters program.image tx) tx args on is

  calls_play : (m : Mode) (name : List ℕ) (args : List ℤ) → (m ≡ mode.Ready → d.on ≡ true) →
      commanded.Calls program name args m d a n b k k1 →
      Plays (bound (calls_look program (command.Call name args))) a d b
  calls_play mode.Ready name args on is = named_plays (call_number program name) args (on refl) is
  calls_play mode.Down name args on is =
      none_played (bound (calls_look program (command.Call name args))) a answer.RefusedDown d b
      is.0 is.2
  calls_play (mode.Unusable kind) name args on is =
      none_played (bound (calls_look program (command.Call name args))) a
      (answer.RefusedUnusable kind) d b is.0 is.2

  shows_play : (m : Mode) (shapes : Shapes) (s : Sizes) →
      commanded.Shows shapes s m d a n b k k1 → Performed a d b
  shows_play mode.Ready shapes s is = ([], omega arith, tells_play a is.0 is.1)
    where
      tells_play : (x : Answer) → commanded.Tells shapes s d x n → b ≡ d → PlaysAs x d [] b
      tells_play (answer.Shown text) tells same = same
      tells_play (answer.ShownDead trap text) tells same = absurd tells
      tells_play answer.NoMemory tells same = inl same
      tells_play answer.Silent tells same = absurd tells
      tells_play (answer.Done value unsigned logged) tells same = absurd tells
      tells_play (answer.Trap kind) tells same = absurd tells
      tells_play (answer.Aborted kind) tells same = absurd tells
      tells_play (answer.Stopped at) tells same = absurd tells
      tells_play answer.DeviceFault tells same = absurd tells
      tells_play answer.RecoveredNone tells same = absurd tells
      tells_play (answer.RecoveredRedone value unsigned logged) tells same = absurd tells
      tells_play (answer.RecoveredTrap kind) tells same = absurd tells
      tells_play (answer.RecoveredAborted kind) tells same = absurd tells
      tells_play (answer.Last n value) tells same = absurd tells
      tells_play answer.RefusedDown tells same = absurd tells
      tells_play (answer.RefusedUnusable kind) tells same = absurd tells
      tells_play answer.RefusedUnknown tells same = absurd tells
      tells_play answer.RefusedArity tells same = absurd tells
      tells_play answer.RefusedNumbers tells same = absurd tells
      tells_play (answer.RefusedPick line) tells same = absurd tells
  shows_play mode.Down shapes s is = none_played its_most a answer.RefusedDown d b is.0 is.2
  shows_play (mode.Unusable kind) shapes s is =
      none_played its_most a (answer.RefusedUnusable kind) d b is.0 is.2

  deads_play : (m : Mode) (shapes : Shapes) (s : Sizes) →
      commanded.ShowsDead shapes s m d a n b k k1 → Performed a d b
  deads_play mode.Ready shapes s is = shows_play mode.Ready shapes s is
  deads_play mode.Down shapes s is = shows_play mode.Down shapes s is
  deads_play (mode.Unusable kind) shapes s is =
      ⊎_elim (λ shown. none_played its_most a (answer.ShownDead kind shown.0) d b shown.1 is.2)
      (λ none. ([], omega arith, subst (λ (x : Answer). PlaysAs x d [] b) (sym none) (inl is.2)))
      (told_dead shapes s kind d a is.0)

  lasts_play : (m : Mode) → (m ≡ mode.Ready → d.on ≡ true) → commanded.Lasts m d a n b k k1 →
      Performed a d b
  lasts_play mode.Ready on is = none_played its_most a (answer.Last _ _) d b (is.0 (on refl)) is.2
  lasts_play mode.Down on is = none_played its_most a answer.RefusedDown d b is.0 is.2
  lasts_play (mode.Unusable kind) on is =
      none_played its_most a (answer.RefusedUnusable kind) d b is.0 is.2

  recovers_play : (choice : Choice) (marked u : Bool) →
      RecoversBy marked u program.image (powered choice d) a n b k k1 →
      Performed a (prepared (command.Power choice) a d) b
  recovers_play choice marked u is =
      subst (λ (x : Answer). Performed x (prepared (command.Power choice) x d) b) (sym is.answer)
      (subst (λ (e : Device). Performed (answer_of_recovery u is.tx_answer) e b)
      (sym (prepared_by choice d u is.tx_answer))
      (recovery_plays (policy_of marked) u program.image (powered choice d) b k k1 is.tx_answer refl
      is.recovered))

  bad_pick : (choice : Choice) (m : Mode) (line : ℕ) →
      commanded.Refused (answer.RefusedPick line) m d a n b k k1 →
      Performed a (prepared (command.Power choice) a d) b
  bad_pick choice m line is =
      subst (λ (x : Answer). Performed x (prepared (command.Power choice) x d) b) (sym is.0)
      ([], omega arith, is.2)

  power_plays : (m : Mode) (choice : Choice) → commanded.Powers program choice m d a n b k k1 →
      Performed a (prepared (command.Power choice) a d) b
  power_plays m choice is =
      by_picks (fallen 0 choice.picks) (bad (memory_of d) choice.picks) refl refl
    where
      by_picks : (first pick : Option ℕ) → fallen 0 choice.picks ≡ first →
          bad (memory_of d) choice.picks ≡ pick →
          Performed a (prepared (command.Power choice) a d) b
      by_picks (Some line) pick falls bads = bad_pick choice m line (is.0 line falls)
      by_picks None (Some line) rises bads = bad_pick choice m line (is.1 line rises bads)
      by_picks None None rises fits =
          recovers_play choice (owes_marked program (powered choice d))
          (owes_unsigned program (powered choice d)) (is.2 rises fits)

  commanded_plays : (c : Command) (m : Mode) → (m ≡ mode.Ready → d.on ≡ true) →
      Commanded program c m d a n b k k1 → Plays (bound (calls_look program c)) a (prepared c a d) b
  commanded_plays (command.Call name args) m on is = calls_play m name args on is
  commanded_plays (command.Stop left) m on is =
      none_played its_most a answer.Silent (prepared (command.Stop left) a d) b is.0 is.2
  commanded_plays (command.Fault at) m on is =
      none_played its_most a answer.Silent (prepared (command.Fault at) a d) b is.0 is.2
  commanded_plays (command.Power choice) m on is = power_plays m choice is
  commanded_plays command.Show m on is =
      shows_play m (shapes_of program.typed) program.image.parts.sizes is
  commanded_plays command.ShowDead m on is =
      deads_play m (shapes_of program.typed) program.image.parts.sizes is
  commanded_plays command.Last m on is = lasts_play m on is

-- a session that takes calls has a device that is on
is_on : (program : Program) (super : Words) (m : Mode) (d : Device) (s : SourceState)
    (st : session.Standing) → HoldsAs st program super m d s → m ≡ mode.Ready → d.on ≡ true
is_on program super m d s session.Ready holds is = holds.1.on
is_on program super m d s (session.Down None) holds is =
    let clash : mode.Down ≡ mode.Ready = sym holds.0 ∙ is in absurd cc
is_on program super m d s (session.Down (Some owed)) holds is =
    let clash : mode.Down ≡ mode.Ready = sym holds.0 ∙ is in absurd cc
is_on program super m d s (session.Unusable kind) holds is =
    let clash : mode.Unusable kind ≡ mode.Ready = sym holds.0 ∙ is in absurd cc

pub played_law : PlayedLaw
played_law program logs super c m n d b s a k k1 count holds is =
    subst (λ (looks : Bool). Plays (if looks then 0 else
    10 * most_steps (sizes_of program) (length program.typed.lines)
    + 4 * (sizes_of program).records + 64) a (prepared c a d) b) (sym (only_same program logs c))
    (subst (λ (most : ℕ). Plays (if calls_look program c then 0 else
    10 * most + 4 * (sizes_of program).records + 64) a (prepared c a d) b) count.most
    (commanded_plays program d b a n k k1 c m (is_on program super m d s s.standing holds) is))
