-- A device that shows that no fault is armed never fails, and no call on it ends with
-- `DeviceFault`, but for one that runs on a pool's file.
use Rattle.std.proofs.Common.{◌≡◌, ℕ, ◌*◌, List, [], ◌∷◌, Bool, true, false, Option, Some, None}
use Rattle.std.proofs.Common.{is_some, ℤ, inl, inr, sym, ap, subst, Result, Ok, Err}
use Rattle.cache_model.specs.Event.{CacheEvent}
use Rattle.pmem.specs.Device.{Device, MayFail, armed_less, armed_as, spent, blanked}
use Rattle.pmem.specs.Played.{PlaysPart}
use Rattle.pmem.specs.declared.answer.Refusal.TheVariants as refusal
use Rattle.pool_layout.specs.declared.limits.Sizes.{Sizes}
use Rattle.pool_layout.specs.Sizes.{pool_lines}
use Rattle.pool_layout.specs.declared.wanted.ImageFault.TheVariants as image
use Rattle.pool_workers.specs.Making.{creations, Unmade}
use Rattle.pool_workers.specs.declared.answer.MakeFault.TheVariants as make
use Rattle.cnvm_script.specs.declared.command.Command.{Command}
use Rattle.cnvm_session.specs.declared.creating.StartFault.{StartFault}
use Rattle.cnvm_session.specs.declared.creating.StartFault.TheVariants as start
use Rattle.cnvm_session.specs.declared.program.Program.{Program}
use Rattle.cnvm_session.specs.Unmade.{IsUnmade}
use Rattle.cnvm_words.specs.declared.plan.Plan.{Plan}
use Rattle.cnvm_words.specs.declared.plan.Plan.TheVariants as plan
use Rattle.cnvm_compile.specs.declared.asked.Asked.{Asked}
use Rattle.cnvm_cli.specs.declared.refused.Refused.{Refused}
use Rattle.cnvm_cli.specs.declared.refused.Refused.TheVariants as refused
use Rattle.session_run.specs.declared.status.Status.{Status}
use Rattle.session_run.specs.declared.storm.StormOrder.{StormOrder}
use Rattle.session_run.specs.declared.status.Status.TheVariants as status
use Rattle.cnvm_cli.specs.CodeEnds.{CodeEnds}
use Rattle.cnvm_cli.specs.Emitted.{EmitEnds}
use Rattle.cnvm_cli.specs.Listed.{ListEnds}
use Rattle.cnvm_cli.specs.Meant.{Start, Fresh, FromImage, start_if, StartMeant, JobMeant, RunMeant}
use Rattle.cnvm_cli.specs.Meant.{PlanMeant, CallMeant}
use Rattle.cnvm_cli.specs.PoolMeant.{HasPool}
use Rattle.cnvm_cli.specs.Run.{RefusedAs}
use Rattle.session_run.specs.Told.{TellsAs}
use Rattle.session_run.specs.Saved.{SavedAs}
use Rattle.cnvm_cli.specs.Serve.{StatusOf, IsNeverGivenUp, MemoryMeantTo, ServeMeant}
use Rattle.session_serve.specs.declared.serving.Served.{Served}
use Rattle.session_serve.specs.declared.serving.Served.TheVariants as served
use Rattle.cnvm_cli.specs.StormMeant.{ordered, StormMeant}
use Rattle.cnvm_cli.specs.Verdict.{Grammar, ProgramRefuses, RefuseIn, asked_by}
use Rattle.cnvm_cli.specs.WhyEnds.{WhyEnds}
use Rattle.cnvm_cli.specs.WorkersMeant.{WorkersMeant}
use Rattle.cnvm_cli.specs.World.{Sources, Outside}
use Rattle.cnvm_cli.proofs.Statuses.{strict_device}

-- the device shows that no fault is armed
abbrev pub IsFaultless : Device → Type 0
IsFaultless d = d.armed ≡ Some None

never_fails : (es : List CacheEvent) (d b : Device) → IsFaultless d
    → PlaysPart refusal.Failed d es b → ⊥
never_fails [] d b none part = part
never_fails (e ∷ es) d b none (inl refused) =
    let may : MayFail (Some None) = subst MayFail none refused.1.1 in absurd cc
never_fails (e ∷ es) d b none (inr rest) =
    never_fails es (spent d e) b (ap armed_less none) rest.1

never_unmade : (lines : ℕ) (es : List CacheEvent) (d b : Device) → IsFaultless d
    → IsUnmade start.Failed lines es d b → ⊥
never_unmade lines es d b none (inl wanted) = let e = wanted.0 in absurd cc
never_unmade lines es d b none (inr part) =
    never_fails es (blanked lines d) b (ap (armed_as None) none) part

never_made : (sizes : Sizes) (digest : List ℤ) (count : ℕ) (d b : Device) → IsFaultless d
    → Unmade make.Failed sizes digest count d b → ⊥
never_made sizes digest count d b none part =
    never_fails (creations sizes digest 0 count) (blanked (pool_lines sizes * count) d) b
    (ap (armed_as None) none) part

-- no refusal has this status

tells_never : (due : Status) (line : List ℕ) (w w' : Option (List ℕ))
    → (due ≡ status.DeviceFault → ⊥) → TellsAs due line status.DeviceFault w w' → ⊥
tells_never due line w w' other (inl all) = other (sym all.0)
tells_never due line w w' other (inr (inl none)) = let e = none.0 in absurd cc
tells_never due line w w' other (inr (inr part)) = let e = part.0 in absurd cc

device_refused : (why : Refused) (w w' : Option (List ℕ))
    → RefusedAs why status.DeviceFault w w' → ⊥
device_refused refused.Usage w w' told =
    tells_never status.Usage _ w w' (λ e. cc) told
device_refused refused.LongProgram w w' told =
    tells_never status.Program _ w w' (λ e. cc) told
device_refused (refused.Program line complaint) w w' told =
    tells_never status.Program _ w w' (λ e. cc) told
device_refused refused.LongScript w w' told =
    tells_never status.Script _ w w' (λ e. cc) told
device_refused (refused.Script number) w w' told =
    tells_never status.Script _ w w' (λ e. cc) told
device_refused (refused.Image (image.Short a b)) w w' told =
    tells_never status.Image _ w w' (λ e. cc) told
device_refused (refused.Image (image.Magic a b)) w w' told =
    tells_never status.Image _ w w' (λ e. cc) told
device_refused (refused.Image (image.Version a b)) w w' told =
    tells_never status.Image _ w w' (λ e. cc) told
device_refused (refused.Image (image.Sizes a b)) w w' told =
    tells_never status.Image _ w w' (λ e. cc) told
device_refused (refused.Image (image.Digest a b)) w w' told =
    tells_never status.Image _ w w' (λ e. cc) told
device_refused (refused.Image (image.Content a b)) w w' told =
    tells_never status.Image _ w w' (λ e. cc) told
device_refused (refused.Image image.NoMemory) w w' told = let e = told.0 in absurd cc
device_refused refused.Busy w w' told =
    tells_never status.PoolBusy _ w w' (λ e. cc) told
device_refused refused.ReadFault w w' told = let e = told.0 in absurd cc
device_refused refused.NoMemory w w' told = let e = told.0 in absurd cc

program_never : (p : Option (List ℕ)) (why : Refused) (w w' : Option (List ℕ))
    → ProgramRefuses p why → RefusedAs why status.DeviceFault w w' → ⊥
program_never p why w w' refuses told =
    device_refused why w w' told

texts_never : {C : Type 0} (means : Grammar C) (asked : Asked) (p s : Option (List ℕ))
    (why : Refused) (w w' : Option (List ℕ))
    → RefuseIn means asked p s why → RefusedAs why status.DeviceFault w w' → ⊥
texts_never means asked p s why w w' (inl refuses) told = program_never p why w w' refuses told
texts_never means asked p s why w w' (inr refuses) told =
    device_refused why w w' told

-- no pool fails to be made, and none is saved so

start_never : (from : Start) (program : Program) (commands : List Command)
    (w w' : Option (List ℕ)) (d d' : Device) (k k' : ℕ) → IsFaultless d
    → StartMeant from program commands status.DeviceFault w w' d d' k k' → ⊥
start_never Fresh program commands w w' d d' k k' none meant =
    never_unmade _ _ d d' none meant.2
start_never (FromImage bytes) program commands w w' d d' k k' none (inl refuses) =
    device_refused refuses.0 w w' refuses.2
start_never (FromImage bytes) program commands w w' d d' k k' none (inr meant) =
    let unopened = meant.2 in never_unmade _ _ d d' none unopened.2

saved_ran : (ran : Status) (o o' : Option (List ℕ)) (d d' : Device)
    → SavedAs ran status.DeviceFault o o' d d' → ran ≡ status.DeviceFault
saved_ran status.Done o o' d d' saved =
    absurd (tells_never status.Done _ o o' (λ e. cc) saved.1)
saved_ran status.Unmet o o' d d' saved =
    absurd (tells_never status.Unmet _ o o' (λ e. cc) saved.1)
saved_ran status.NoMemory o o' d d' saved = sym saved.0
saved_ran status.Usage o o' d d' saved = sym saved.0
saved_ran status.Program o o' d d' saved = sym saved.0
saved_ran status.Script o o' d d' saved = sym saved.0
saved_ran status.ReadFault o o' d d' saved = sym saved.0
saved_ran status.WriteFault o o' d d' saved = sym saved.0
saved_ran status.DeviceFault o o' d d' saved = sym saved.0
saved_ran status.Image o o' d d' saved = sym saved.0
saved_ran status.PoolBusy o o' d d' saved = sym saved.0

job_never : (saves : Bool) (from : Start) (program : Program) (commands : List Command)
    (before after : Outside) → IsFaultless before.dev
    → JobMeant saves from program commands status.DeviceFault before after → ⊥
job_never false from program commands before after none meant =
    start_never from program commands before.out after.out before.dev after.dev before.steps
    after.steps none meant.0
job_never true from program commands before after none meant =
    start_never from program commands before.out after.out before.dev meant.1 before.steps
    after.steps none
    (subst (λ (s : Status). StartMeant from program commands s before.out after.out before.dev
    meant.1 before.steps after.steps)
    (saved_ran meant.0 before.image after.image meant.1 after.dev meant.3) meant.2)

run_never : (asked : Asked) (told : Sources) (opens saves : Bool) (before after : Outside)
    → IsFaultless before.dev
    → RunMeant asked told opens saves status.DeviceFault before after → ⊥
run_never asked told opens saves before after none (inl refuses) =
    texts_never _ asked told.program told.script refuses.0 before.out after.out refuses.1 refuses.2
run_never asked told opens saves before after none (inr meant) =
    job_never saves (start_if opens told.image) meant.0.program meant.1 before after none meant.3

list_never : (p w w' : Option (List ℕ)) → ListEnds p status.DeviceFault w w' → ⊥
list_never p w w' (inl refuses) = program_never p refuses.0 w w' refuses.1 refuses.2
list_never p w w' (inr written) = written.2

why_never : (p w w' : Option (List ℕ)) → WhyEnds p status.DeviceFault w w' → ⊥
why_never p w w' (inl refuses) = program_never p refuses.0 w w' refuses.1 refuses.2
why_never p w w' (inr written) = written.4

emit_never : (asked : Asked) (prefix : List ℕ) (header : Bool) (p w w' : Option (List ℕ))
    → EmitEnds asked prefix header p status.DeviceFault w w' → ⊥
emit_never asked prefix header p w w' (inl refuses) =
    program_never p refuses.0 w w' refuses.1 refuses.2
emit_never asked prefix header p w w' (inr written) = written.2

code_never : (p w w' : Option (List ℕ)) → CodeEnds p status.DeviceFault w w' → ⊥
code_never p w w' (inl refuses) = program_never p refuses.0 w w' refuses.1 refuses.2
code_never p w w' (inr written) = written.2

storm_never : (asked : Asked) (order : StormOrder) (p w w' : Option (List ℕ)) (d d' : Device)
    (k k' : ℕ) → IsFaultless d
    → StormMeant asked order p status.DeviceFault w w' d d' k k' → ⊥
storm_never asked order p w w' d d' k k' none (inl refuses) =
    program_never p refuses.0 w w' refuses.1 refuses.2
storm_never asked order p w w' d d' k k' none (inr meant) =
    let uncreated = meant.2 in never_unmade _ _ d d' none uncreated.2

workers_never : (asked : Asked) (count : ℕ) (p s w w' : Option (List ℕ)) (d d' : Device)
    (k k' : ℕ) → IsFaultless d
    → WorkersMeant asked count p s status.DeviceFault w w' d d' k k' → ⊥
workers_never asked count p s w w' d d' k k' none (inl refuses) =
    texts_never _ asked p s refuses.0 w w' refuses.1 refuses.2
workers_never asked count p s w w' d d' k k' none (inr meant) =
    let unbegun = meant.4 in never_made _ _ _ d d' none unbegun.2

served_never : (r : Result Served StartFault) (left rest : Option (List ℕ)) (program : Program)
    (w v w' : Option (List ℕ)) (d d' : Device) (k k' : ℕ) → IsFaultless d
    → StatusOf r status.DeviceFault v w' → IsNeverGivenUp r
    → MemoryMeantTo r left rest program w v d d' k k' → ⊥
served_never (Ok served.Done) left rest program w v w' d d' k k' none told never ends =
    let e = told.0 in absurd cc
served_never (Ok served.ReadFault) left rest program w v w' d d' k k' none told never ends =
    let e = told.0 in absurd cc
served_never (Ok served.LongLine) left rest program w v w' d d' k k' none told never ends =
    device_refused refused.LongScript v w' told
served_never (Ok served.ManyLines) left rest program w v w' d d' k k' none told never ends =
    device_refused refused.LongScript v w' told
served_never (Ok served.NoMemory) left rest program w v w' d d' k k' none told never ends =
    let e = told.0 in absurd cc
served_never (Ok served.WriteFault) left rest program w v w' d d' k k' none told never ends =
    let e = told.0 in absurd cc
served_never (Ok served.GivenUp) left rest program w v w' d d' k k' none told never ends = never
served_never (Err start.Failed) left rest program w v w' d d' k k' none told never ends =
    never_unmade _ _ d d' none ends.2
served_never (Err start.NoMemory) left rest program w v w' d d' k k' none told never ends =
    let e = told.0 in absurd cc

serve_never : (asked : Asked) (told : Sources) (before after : Outside) → IsFaultless before.dev
    → ServeMeant asked told status.DeviceFault before after → ⊥
serve_never asked told before after none (inl (why, refuses, line, device, steps)) =
    program_never told.program why before.out after.out refuses line
serve_never asked told before after none (inr (compiled, is, r, w, status, never, ends)) =
    served_never r told.script told.rest compiled.program before.out w after.out before.dev
    after.dev before.steps after.steps none status never ends

plan_never : (asked : Plan) (told : Sources) (before after : Outside) → IsFaultless before.dev
    → PlanMeant asked told status.DeviceFault before after → HasPool (Some asked)
plan_never (plan.Run p s slots records ticks from save strict) told before after none meant =
    absurd (run_never (asked_by slots records ticks) told (is_some from) (is_some save) before after
    none
    (subst (λ (s : Status). RunMeant (asked_by slots records ticks) told (is_some from)
    (is_some save) s before after) (strict_device strict meant.0 meant.1) meant.2))
plan_never (plan.RunPool p s slots records ticks pool former strict) told before after none meant =
    tt
plan_never (plan.Serve p slots records ticks) told before after none meant =
    absurd (serve_never (asked_by slots records ticks) told before after none meant.0)
plan_never (plan.ServePool p slots records ticks pool former) told before after none meant = tt
plan_never (plan.List p) told before after none meant =
    absurd (list_never told.program before.out after.out meant.0)
plan_never (plan.Storm p start count reach plain slots records ticks) told before after none meant =
    absurd (storm_never (asked_by slots records ticks) (ordered start count reach plain)
    told.program before.out after.out before.dev after.dev before.steps after.steps none meant.0)
plan_never (plan.Why p) told before after none meant =
    absurd (why_never told.program before.out after.out meant.0)
plan_never (plan.Workers p s workers slots records ticks) told before after none meant =
    absurd (workers_never (asked_by slots records ticks) workers told.program told.script before.out
    after.out before.dev after.dev before.steps after.steps none meant.0)
plan_never (plan.WorkersPool p s workers slots records ticks pool) told before after none meant = tt
plan_never (plan.Emit p prefix header slots records ticks) told before after none meant =
    let asked = asked_by slots records ticks in
    absurd (emit_never asked prefix header told.program before.out after.out meant.0)
plan_never (plan.Code p) told before after none meant =
    absurd (code_never told.program before.out after.out meant.0)

pub call_never : (words : Option Plan) (told : Sources) (before after : Outside)
    → IsFaultless before.dev → CallMeant words told status.DeviceFault before after → HasPool words
call_never None told before after none meant =
    absurd (device_refused refused.Usage before.out after.out meant.0)
call_never (Some asked) told before after none meant =
    plan_never asked told before after none meant
