-- What each command does in a session: its answer, whether the session takes calls after it, the
-- device, and the count of steps, which rises from k to k1.
use Rattle.std.specs.Prelude.{ℕ, zero, suc, ◌+◌, ◌≡◌, ◌==◌, nat_lt, if◌then◌else◌, true, false}
use Rattle.std.specs.Prelude.{Bool, List, [], ◌∷◌, Option, Some, None, length, map, option_map}
use Rattle.std.specs.Prelude.{slice_get, ℤ}
use Rattle.cache_model.specs.Cache.{view}
use Rattle.cache_model.specs.Collapse.{bad}
use Rattle.cache_model.specs.declared.choice.Pick.{Pick}
use Rattle.cache_model.specs.declared.choice.Choice.{Choice}
use Rattle.pmem.specs.Device.{Device, memory_of, powered, with_left, with_armed}
use Rattle.pool_layout.specs.declared.places.TheConstants.{LAST, DONE}
use Rattle.pool_layout.specs.declared.limits.Sizes.{Sizes}
use Rattle.pool_map.specs.declared.shapes.Shapes.{Shapes}
use Rattle.pool_map.specs.declared.trap.TrapKind.{TrapKind}
use Rattle.pool_map.specs.PoolFits.{PoolFits}
use Rattle.pool_map.specs.PoolText.{pool_text}
use Rattle.pm_machine.specs.HeapPool.{heap_of, pool_in}
use Rattle.c_tree.specs.ItemTree.{FunctionTree}
use Rattle.c_types.specs.Tables.{index_of}
use Rattle.c_types.specs.Shapes.{shapes_of, transactions_of}
use Rattle.pm_machine.specs.declared.image.Image.{Image}
use Rattle.cnvm_script.specs.declared.command.Command.{Command}
use Rattle.cnvm_script.specs.declared.command.Command.TheVariants as command
use Rattle.cnvm_session.specs.declared.mode.Mode.{Mode}
use Rattle.cnvm_session.specs.declared.mode.Mode.TheVariants.{Ready, Down, Unusable}
use Rattle.cnvm_session.specs.declared.answer.Answer.{Answer}
use Rattle.cnvm_session.specs.declared.answer.Answer.TheVariants.{Silent, Shown, ShownDead}
use Rattle.cnvm_session.specs.declared.answer.Answer.TheVariants.{Last, NoMemory}
use Rattle.cnvm_session.specs.declared.answer.Answer.TheVariants.{RefusedDown, RefusedUnusable}
use Rattle.cnvm_session.specs.declared.answer.Answer.TheVariants.{RefusedUnknown, RefusedArity}
use Rattle.cnvm_session.specs.declared.answer.Answer.TheVariants.{RefusedPick}
use Rattle.cnvm_session.specs.declared.program.Program.{Program}
use Rattle.cnvm_session.specs.Outcomes.{Runs, Recovers}

-- the answer is this one, nothing changes, and no step is taken
abbrev pub Refused : Answer → Mode → Device → Answer → Mode → Device → (k k1 : ℕ) → Type 0
Refused why m d a n b k k1 = (a ≡ why) × (n ≡ m) × (b ≡ d) × (k1 ≡ k)

abbrev pub Lasts : Mode → Device → Answer → Mode → Device → (k k1 : ℕ) → Type 0
Lasts Ready d a n b k k1 =
    (d.on ≡ true → a ≡ Last (view d.cache DONE) (view d.cache LAST)) × (n ≡ Ready) × (b ≡ d)
    × (k1 ≡ k)
Lasts Down d a n b k k1 = Refused RefusedDown Down d a n b k k1
Lasts (Unusable kind) d a n b k k1 =
    Refused (RefusedUnusable kind) (Unusable kind) d a n b k k1

-- the text of the pool that the heap holds, if the heap fits the shapes; or there was no memory for
-- it
abbrev pub Tells : Shapes → Sizes → Device → Answer → Mode → Type 0
Tells shapes s d (Shown text) n =
    (d.on ≡ true → PoolFits shapes (pool_in shapes s (heap_of s (view d.cache)))
    → text ≡ pool_text shapes (pool_in shapes s (heap_of s (view d.cache)))) × (n ≡ Ready)
Tells shapes s d NoMemory n = n ≡ Down
Tells shapes s d a n = ⊥

abbrev pub Shows : Shapes → Sizes → Mode → Device → Answer → Mode → Device → (k k1 : ℕ) → Type 0
Shows shapes s Ready d a n b k k1 = Tells shapes s d a n × (b ≡ d) × (k1 ≡ k)
Shows shapes s Down d a n b k k1 = Refused RefusedDown Down d a n b k k1
Shows shapes s (Unusable kind) d a n b k k1 =
    Refused (RefusedUnusable kind) (Unusable kind) d a n b k k1

-- The same of a pool that this trap has ended. It stays so, also without memory.
abbrev pub TellsDead : Shapes → Sizes → TrapKind → Device → Answer → Type 0
TellsDead shapes s kind d (ShownDead trap text) =
    (trap ≡ kind) × (d.on ≡ true → PoolFits shapes (pool_in shapes s (heap_of s (view d.cache)))
    → text ≡ pool_text shapes (pool_in shapes s (heap_of s (view d.cache))))
TellsDead shapes s kind d NoMemory = Unit {0}
TellsDead shapes s kind d a = ⊥

-- only of such a pool the answer isn't that of `show`
abbrev pub ShowsDead : Shapes → Sizes → Mode → Device → Answer → Mode → Device → (k k1 : ℕ) → Type 0
ShowsDead shapes s Ready d a n b k k1 = Shows shapes s Ready d a n b k k1
ShowsDead shapes s Down d a n b k k1 = Shows shapes s Down d a n b k k1
ShowsDead shapes s (Unusable kind) d a n b k k1 =
    TellsDead shapes s kind d a × (n ≡ Unusable kind) × (b ≡ d) × (k1 ≡ k)

-- the number of the transaction of that name, counted from 1, and how many parameters a transaction
-- of the image has
abbrev pub call_number : Program → List ℕ → Option ℕ
call_number program name = option_map suc
    (index_of name (map (λ (f : FunctionTree). f.name.text) (transactions_of program.typed)))

abbrev pub tx_parameters : Image → ℕ → Option ℕ
tx_parameters image zero = None
tx_parameters image (suc i) = option_map (λ e. e.parameters) (slice_get image.parts.txs i)

-- a call, by whether it has as many arguments as the transaction has parameters
abbrev pub CallsWith : Bool → Program → ℕ → List ℤ → Device → Answer → Mode → Device
    → (k k1 : ℕ) → Type 0
CallsWith true program tx args d a n b k k1 = Runs program tx args d a n b k k1
CallsWith false program tx args d a n b k k1 = Refused RefusedArity Ready d a n b k k1

abbrev pub CallsTo : Option ℕ → Program → ℕ → List ℤ → Device → Answer → Mode → Device
    → (k k1 : ℕ) → Type 0
CallsTo None program tx args d a n b k k1 = Refused RefusedUnknown Ready d a n b k k1
CallsTo (Some count) program tx args d a n b k k1 =
    CallsWith (count == length args) program tx args d a n b k k1

abbrev pub CallsNamed : Option ℕ → Program → List ℤ → Device → Answer → Mode → Device
    → (k k1 : ℕ) → Type 0
CallsNamed None program args d a n b k k1 = Refused RefusedUnknown Ready d a n b k k1
CallsNamed (Some tx) program args d a n b k k1 =
    CallsTo (tx_parameters program.image tx) program tx args d a n b k k1

abbrev pub Calls : Program → List ℕ → List ℤ → Mode → Device → Answer → Mode → Device
    → (k k1 : ℕ) → Type 0
Calls program name args Ready d a n b k k1 =
    CallsNamed (call_number program name) program args d a n b k k1
Calls program name args Down d a n b k k1 = Refused RefusedDown Down d a n b k k1
Calls program name args (Unusable kind) d a n b k k1 =
    Refused (RefusedUnusable kind) (Unusable kind) d a n b k k1

-- the line of the first pick whose line is below n, or isn't above that of the pick before it
abbrev pub fallen : ℕ → List Pick → Option ℕ
fallen n [] = None
fallen n (p ∷ ps) = if nat_lt p.line n then Some p.line else fallen (p.line + 1) ps

-- A choice with a pick that doesn't rise, or with a bad pick, changes nothing. With any other
-- choice the power is cut, and what is left of the lines is recovered.
abbrev pub Powers : Program → Choice → Mode → Device → Answer → Mode → Device → (k k1 : ℕ) → Type 0
Powers program choice m d a n b k k1 =
    ((line : ℕ) → fallen 0 choice.picks ≡ Some line → Refused (RefusedPick line) m d a n b k k1)
    × ((line : ℕ) → fallen 0 choice.picks ≡ None → bad (memory_of d) choice.picks ≡ Some line →
    Refused (RefusedPick line) m d a n b k k1)
    × (fallen 0 choice.picks ≡ None → bad (memory_of d) choice.picks ≡ None
    → Recovers program (powered choice d) a n b k k1)

abbrev pub Commanded : Program → Command → Mode → Device → Answer → Mode → Device
    → (k k1 : ℕ) → Type 0
Commanded program (command.Call name args) m d a n b k k1 = Calls program name args m d a n b k k1
Commanded program (command.Stop left) m d a n b k k1 =
    Refused Silent m (with_left left d) a n b k k1
Commanded program (command.Fault at) m d a n b k k1 = Refused Silent m (with_armed at d) a n b k k1
Commanded program (command.Power choice) m d a n b k k1 = Powers program choice m d a n b k k1
Commanded program command.Show m d a n b k k1 =
    Shows (shapes_of program.typed) program.image.parts.sizes m d a n b k k1
Commanded program command.ShowDead m d a n b k k1 =
    ShowsDead (shapes_of program.typed) program.image.parts.sizes m d a n b k k1
Commanded program command.Last m d a n b k k1 = Lasts m d a n b k k1
