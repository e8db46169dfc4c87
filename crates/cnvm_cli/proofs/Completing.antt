-- A text or an image that is accepted isn't refused.
use Rattle.std.proofs.Common.{◌≡◌, ℕ, suc, ◌-◌, ◌^◌, ℤ, ◌<◌, ◌≤◌, List, [], ◌∷◌, ◌++◌, Bool, true}
use Rattle.std.proofs.Common.{false, Option, Some, None, is_some, Result, Ok, ap, length-append}
use Rattle.std.proofs.Common.{Err, length, inl, inr, ⊎_elim, refl, sym, subst, ◌∙◌, arith}
use Rattle.std.specs.List.{All}
use Rattle.std.specs.Io.KnownBytes.{Appends, Keeps}
use Rattle.nvm_base.specs.Parts.{AppendsPart}
use Rattle.pmem.specs.Device.{Device}
use Rattle.pool_layout.specs.declared.wanted.ImageFault.{ImageFault}
use Rattle.pool_layout.specs.declared.wanted.ImageFault.TheVariants as image
use Rattle.pool_layout.specs.declared.wanted.Wanted.{Wanted}
use Rattle.pool_layout.specs.Fault.{early_fault, Accepts, IsFirstFault}
use Rattle.cnvm_compile.specs.declared.front_end.ProgramFault.{ProgramFault}
use Rattle.cnvm_compile.specs.declared.front_end.ProgramFault.TheVariants.{NoMemory}
use Rattle.cnvm_compile.specs.declared.compiling.Compiled.{Compiled}
use Rattle.cnvm_compile.specs.Compilation.{IsCompiled}
use Rattle.cnvm_compile.specs.Told.{told_of}
use Rattle.cnvm_compile.proofs.Once.{once}
use Rattle.cnvm_script.specs.declared.command.Command.{Command}
use Rattle.cnvm_script.specs.declared.read.TheConstants.{SCRIPT_BYTES}
use Rattle.cnvm_script.specs.Commands.{script_meaning}
use Rattle.cnvm_script.specs.Lines.{lines}
use Rattle.workers_script.specs.declared.command.WorkersCommand.{WorkersCommand}
use Rattle.workers_script.specs.WorkersGrammar.{workers_script_meaning}
use Rattle.workers_run.specs.WorkersRan.{Unbegun, RunsNew, BreaksOffNew}
use Rattle.cnvm_session.specs.declared.creating.StartFault.{StartFault}
use Rattle.cnvm_session.specs.declared.creating.StartFault.TheVariants as start
use Rattle.cnvm_session.specs.declared.program.Program.{Program}
use Rattle.cnvm_session.specs.Pool.{wanted_of}
use Rattle.cnvm_words.specs.declared.plan.Plan.{Plan}
use Rattle.cnvm_words.specs.declared.plan.Plan.TheVariants as plan
use Rattle.cnvm_compile.specs.declared.asked.Asked.{Asked}
use Rattle.cnvm_cli.specs.declared.refused.Refused.{Refused}
use Rattle.cnvm_cli.specs.declared.refused.Refused.TheVariants as refused
use Rattle.session_run.specs.declared.status.Status.{Status}
use Rattle.session_run.specs.declared.status.Status.TheVariants as status
use Rattle.session_run.specs.declared.storm.StormOrder.{StormOrder}
use Rattle.cnvm_cli.specs.RefusalText.{has_line}
use Rattle.cnvm_cli.specs.StormMeant.{ordered}
use Rattle.cnvm_cli.specs.Verdict.{refused_by, IsTextRefused, IsAccepted, Grammar, SpellsIn}
use Rattle.cnvm_cli.specs.Verdict.{ProgramRefuses, ScriptRefuses, RefuseIn, asked_by}
use Rattle.cnvm_cli.specs.Run.{RefusedAs}
use Rattle.session_run.specs.Made.{Uncreated, Unopened}
use Rattle.session_run.specs.Told.{TellsAs}
use Rattle.cnvm_cli.specs.Opened.{read_part, ImageRefuses}
use Rattle.session_run.specs.Saved.{SavedAs}
use Rattle.cnvm_cli.specs.WhyEnds.{WhyEnds}
use Rattle.cnvm_cli.specs.inside.WorkersEnds.{WorkersRanAs, WorkersEnds}
use Rattle.cnvm_cli.specs.WorkersMeant.{make_fault}
use Rattle.cnvm_cli.specs.World.{Sources, Outside}
use Rattle.cnvm_cli.specs.Meant.{Start, Fresh, FromImage, start_if}
use Rattle.cnvm_cli.specs.inside.Ends.{PoolEnds, JobEnds, RunEnds, StormEnds, PlanEnds}
use Rattle.cnvm_cli.specs.CodeEnds.{CodeEnds}
use Rattle.cnvm_cli.specs.Emitted.{EmitEnds}
use Rattle.cnvm_cli.specs.Listed.{ListEnds, WrittenAs, listing_sizes}
use Rattle.session_run.specs.Commands.{OpensAll, OpensPart, OpenedAs}
use Rattle.session_run.specs.Commands.{CreatedAll, CreatedPart, RanAs}
use Rattle.session_run.specs.Storms.{StormedAll, StormedPart, StormedStarved, StormedAs}
use Rattle.session_serve.specs.declared.serving.Served.{Served}
use Rattle.session_serve.specs.declared.serving.Served.TheVariants as served
use Rattle.session_serve.specs.Begins.{CreatedServed}
use Rattle.session_serve.proofs.Reading.{size_short}
use Rattle.cnvm_cli.specs.Complete.{HasProgram, HasScript, HasLines, HasImage, IsRunServed}
use Rattle.cnvm_cli.specs.Complete.{IsPlanServed, IsServed, IsRefusalStatus}
use Rattle.cnvm_cli.specs.Serve.{StatusOf}
use Rattle.cnvm_cli.specs.inside.ServeEnds.{MemoryEnds}
use Rattle.cnvm_cli.proofs.Statuses.{status_kept, strict_refusal}
use Rattle.session_run.specs.AsStatus.{met}

not_true : (let a : Bool = true in let b : Bool = false in a ≡ b) → ⊥
not_true is = cc

-- a refusal without a line refuses none of the texts
quiet_kept : (why : Refused) (result : Status) (w w' : Option (List ℕ)) → has_line why ≡ false
    → RefusedAs why result w w' → IsRefusalStatus result → ⊥
quiet_kept refused.ReadFault result w w' quiet told refuses =
    subst (λ (s : Status). IsRefusalStatus s) told.0 refuses
quiet_kept refused.NoMemory result w w' quiet told refuses =
    subst (λ (s : Status). IsRefusalStatus s) told.0 refuses
quiet_kept (refused.Image image.NoMemory) result w w' quiet told refuses =
    subst (λ (s : Status). IsRefusalStatus s) told.0 refuses
quiet_kept (refused.Image (image.Short a b)) result w w' quiet told refuses =
    absurd (not_true quiet)
quiet_kept (refused.Image (image.Magic a b)) result w w' quiet told refuses =
    absurd (not_true quiet)
quiet_kept (refused.Image (image.Version a b)) result w w' quiet told refuses =
    absurd (not_true quiet)
quiet_kept (refused.Image (image.Sizes a b)) result w w' quiet told refuses =
    absurd (not_true quiet)
quiet_kept (refused.Image (image.Digest a b)) result w w' quiet told refuses =
    absurd (not_true quiet)
quiet_kept (refused.Image (image.Content a b)) result w w' quiet told refuses =
    absurd (not_true quiet)
quiet_kept refused.Usage result w w' quiet told refuses = absurd (not_true quiet)
quiet_kept refused.Busy result w w' quiet told refuses = absurd (not_true quiet)
quiet_kept refused.LongProgram result w w' quiet told refuses = absurd (not_true quiet)
quiet_kept (refused.Program line complaint) result w w' quiet told refuses = absurd (not_true quiet)
quiet_kept refused.LongScript result w w' quiet told refuses = absurd (not_true quiet)
quiet_kept (refused.Script number) result w w' quiet told refuses = absurd (not_true quiet)

-- an accepted text is refused only for want of memory
text_quiet : (asked : Asked) (text : List ℕ) (why : Refused) → IsAccepted asked text
    → IsTextRefused text why → has_line why ≡ false
text_quiet asked text why is told =
    let none : told.0 ≡ NoMemory =
    once.accepted text is.0.program.typed told.0 is.1.accepted told.1 in
    subst (λ (y : Refused). has_line y ≡ false) told.2
    (subst (λ (f : ProgramFault). has_line (refused_by (told_of f)) ≡ false) (sym none) refl)

program_quiet : (asked : Asked) (p : Option (List ℕ)) → HasProgram asked p → (why : Refused)
    → ProgramRefuses p why → has_line why ≡ false
program_quiet asked None has why told = absurd has
program_quiet asked (Some text) has refused.LongProgram told =
    text_quiet asked text refused.LongProgram has told
program_quiet asked (Some text) has (refused.Program line complaint) told =
    text_quiet asked text (refused.Program line complaint) has told
program_quiet asked (Some text) has refused.ReadFault told = refl
program_quiet asked (Some text) has refused.NoMemory told = refl
program_quiet asked (Some text) has refused.LongScript told = absurd told
program_quiet asked (Some text) has (refused.Script number) told = absurd told
program_quiet asked (Some text) has refused.Usage told = absurd told
program_quiet asked (Some text) has (refused.Image fault) told = absurd told
program_quiet asked (Some text) has refused.Busy told = absurd told

module _ {C : Type 0} (means : Grammar C) where
  not_long : (text : List ℕ) (commands : List C) → SpellsIn means commands text
      → 1048576 < length text → ⊥
  not_long text commands has long = let short = has.0 in omega (arith, short, long)

  not_bad : (text : List ℕ) (commands : List C) (number : ℕ) → SpellsIn means commands text
      → means text ≡ Err number → ⊥
  not_bad text commands number has bad = let good = has.1 in cc

  script_quiet : (text : List ℕ) (commands : List C) → SpellsIn means commands text
      → (why : Refused) → ScriptRefuses means (Some text) why → has_line why ≡ false
  script_quiet text commands is refused.LongScript told = absurd (not_long text commands is told)
  script_quiet text commands is (refused.Script number) told =
      absurd (not_bad text commands number is told.1)
  script_quiet text commands is refused.ReadFault told = refl
  script_quiet text commands is refused.NoMemory told = refl
  script_quiet text commands is refused.Usage told = absurd told
  script_quiet text commands is refused.LongProgram told = absurd told
  script_quiet text commands is (refused.Program line complaint) told = absurd told
  script_quiet text commands is (refused.Image fault) told = absurd told
  script_quiet text commands is refused.Busy told = absurd told

  texts_quiet : (asked : Asked) (p s : Option (List ℕ)) → HasProgram asked p
      → HasScript means s → (why : Refused) → RefuseIn means asked p s why
      → has_line why ≡ false
  texts_quiet asked p None has script why told = absurd script
  texts_quiet asked p (Some text) has script why (inl told) = program_quiet asked p has why told
  texts_quiet asked p (Some text) has script why (inr told) =
      script_quiet text script.0 script.1 why told.1

-- an accepted image has no fault
no_fault : (o : Option ImageFault) (fault : ImageFault) → o ≡ None → o ≡ Some fault → ⊥
no_fault o fault none some = cc

fault_quiet : (wanted : Wanted) (bytes : List ℕ) → Accepts wanted bytes → (fault : ImageFault)
    → IsFirstFault wanted bytes fault
    → has_line (refused.Image fault) ≡ false
fault_quiet wanted bytes is image.NoMemory told = refl
fault_quiet wanted bytes is (image.Short a b) told =
    absurd (no_fault (early_fault wanted bytes) (image.Short a b) is.early told)
fault_quiet wanted bytes is (image.Magic a b) told =
    absurd (no_fault (early_fault wanted bytes) (image.Magic a b) is.early told)
fault_quiet wanted bytes is (image.Version a b) told =
    absurd (no_fault (early_fault wanted bytes) (image.Version a b) is.early told)
fault_quiet wanted bytes is (image.Sizes a b) told =
    absurd (no_fault (early_fault wanted bytes) (image.Sizes a b) is.early told)
fault_quiet wanted bytes is (image.Digest a b) told =
    absurd (no_fault (early_fault wanted bytes) (image.Digest a b) is.early told)
fault_quiet wanted bytes is (image.Content word value) told =
    absurd (not_true (sym told.first.broken ∙ is.content told.first.place told.first.inside))

image_quiet : (program : Program) (bytes : List ℕ)
    → Accepts (wanted_of program) (read_part program bytes) → (why : Refused)
    → ImageRefuses program (Some bytes) why → has_line why ≡ false
image_quiet program bytes is (refused.Image fault) told =
    fault_quiet (wanted_of program) (read_part program bytes) is fault told
image_quiet program bytes is refused.ReadFault told = refl
image_quiet program bytes is refused.NoMemory told = refl
image_quiet program bytes is refused.Usage told = absurd told
image_quiet program bytes is refused.LongProgram told = absurd told
image_quiet program bytes is (refused.Program line complaint) told = absurd told
image_quiet program bytes is refused.LongScript told = absurd told
image_quiet program bytes is (refused.Script number) told = absurd told
image_quiet program bytes is refused.Busy told = absurd told

tells_kept : (due : Status) (line : List ℕ) (result : Status) (w w' : Option (List ℕ))
    → (IsRefusalStatus due → ⊥) → TellsAs due line result w w' → IsRefusalStatus result → ⊥
tells_kept due line result w w' kept tells refuses =
    ⊎_elim (λ all. kept (subst (λ (s : Status). IsRefusalStatus s) all.0 refuses))
    (⊎_elim (λ none. subst (λ (s : Status). IsRefusalStatus s) none.0 refuses)
    (λ part. subst (λ (s : Status). IsRefusalStatus s) part.0 refuses))
    tells

-- saving a pool refuses nothing
saved_kept : (ran result : Status) (o o' : Option (List ℕ)) (d d' : Device)
    → (IsRefusalStatus ran → ⊥) → SavedAs ran result o o' d d' → IsRefusalStatus result → ⊥
saved_kept status.Done result o o' d d' kept saved refuses =
    tells_kept status.Done _ result o o' kept saved.1 refuses
saved_kept status.Unmet result o o' d d' kept saved refuses =
    tells_kept status.Unmet _ result o o' kept saved.1 refuses
saved_kept status.NoMemory result o o' d d' kept saved refuses =
    subst (λ (s : Status). IsRefusalStatus s) saved.0 refuses
saved_kept status.Usage result o o' d d' kept saved refuses = kept tt
saved_kept status.Program result o o' d d' kept saved refuses = kept tt
saved_kept status.Script result o o' d d' kept saved refuses = kept tt
saved_kept status.Image result o o' d d' kept saved refuses = kept tt
saved_kept status.PoolBusy result o o' d d' kept saved refuses = kept tt
saved_kept status.ReadFault result o o' d d' kept saved refuses =
    subst (λ (s : Status). IsRefusalStatus s) saved.0 refuses
saved_kept status.WriteFault result o o' d d' kept saved refuses =
    subst (λ (s : Status). IsRefusalStatus s) saved.0 refuses
saved_kept status.DeviceFault result o o' d d' kept saved refuses =
    subst (λ (s : Status). IsRefusalStatus s) saved.0 refuses

created_kept : (result : Status) (program : Program) (commands : List Command)
    (w w' : Option (List ℕ)) (d d' : Device) (k k' : ℕ)
    → RanAs program commands result w w' d d' k k' → IsRefusalStatus result → ⊥
created_kept result program commands w w' d d' k k' =
    status_kept (λ why. Uncreated program why w w' d d' k k')
    (CreatedPart program commands w w' d d' k k')
    (λ unmet. CreatedAll program commands unmet w w' d d' k k')
    (CreatedPart program commands w w' d d' k k') result

opened_kept : (result : Status) (program : Program) (commands : List Command) (words : List ℤ)
    (w w' : Option (List ℕ)) (d d' : Device) (k k' : ℕ)
    → OpenedAs program commands words result w w' d d' k k' → IsRefusalStatus result → ⊥
opened_kept result program commands words w w' d d' k k' =
    status_kept (λ why. Unopened program words why w w' d d' k k')
    (OpensPart program commands words w w' d d' k k')
    (λ unmet. OpensAll program commands words unmet w w' d d' k k')
    (OpensPart program commands words w w' d d' k k') result

stormed_kept : (result : Status) (program : Program) (order : StormOrder) (w w' : Option (List ℕ))
    (d d' : Device) (k k' : ℕ)
    → StormedAs program order result w w' d d' k k' → IsRefusalStatus result → ⊥
stormed_kept result program order w w' d d' k k' =
    status_kept (λ why. Uncreated program why w w' d d' k k')
    (StormedStarved program order w w' d d' k k')
    (λ unmet. StormedAll program order unmet w w' d d' k k')
    (StormedPart program order w w' d d' k k') result

written_kept : (text : List ℕ) (result : Status) (w w' : Option (List ℕ))
    → WrittenAs text result w w' → IsRefusalStatus result → ⊥
written_kept text result w w' =
    status_kept (λ why. ⊥) (Keeps w w') (met (Appends w w' text)) (AppendsPart w w' text) result

-- the pool's image, if there is one, is accepted
abbrev StartIs : Program → Start → Type 0
StartIs program Fresh = Unit {0}
StartIs program (FromImage None) = ⊥
StartIs program (FromImage (Some bytes)) = Accepts (wanted_of program) (read_part program bytes)

pool_kept : (start : Start) (program : Program) (commands : List Command) (result : Status)
    (w w' : Option (List ℕ)) (d d' : Device) (k k' : ℕ)
    → StartIs program start → PoolEnds start program commands result w w' d d' k k'
    → IsRefusalStatus result → ⊥
pool_kept Fresh program commands result w w' d d' k k' is ends refuses =
    created_kept result program commands w w' d d' k k' ends refuses
pool_kept (FromImage None) program commands result w w' d d' k k' is ends refuses = is
pool_kept (FromImage (Some bytes)) program commands result w w' d d' k k' is ends refuses =
    ⊎_elim (λ told. quiet_kept told.0 result w w' (image_quiet program bytes is told.0 told.1)
    told.2 refuses)
    (λ ran. opened_kept result program commands ran.0 w w' d d' k k' ran.2 refuses) ends

job_kept : (saves : Bool) (start : Start) (program : Program) (commands : List Command)
    (result : Status) (before after : Outside)
    → StartIs program start → JobEnds saves start program commands result before after
    → IsRefusalStatus result → ⊥
job_kept false start program commands result before after is ends refuses =
    pool_kept start program commands result before.out after.out before.dev after.dev before.steps
    after.steps is ends.0 refuses
job_kept true start program commands result before after is ends refuses =
    saved_kept ends.0 result before.image after.image ends.1 after.dev
    (λ (r : IsRefusalStatus ends.0). pool_kept start program commands ends.0 before.out after.out
    before.dev ends.1 before.steps after.steps is ends.2 r)
    ends.3 refuses

start_is : (asked : Asked) (opens : Bool) (text : List ℕ) (image : Option (List ℕ))
    (compiled : Compiled) → IsCompiled asked text compiled
    → (opens ≡ true → HasImage asked (Some text) image)
    → StartIs compiled.program (start_if opens image)
start_is asked false text image compiled is has = tt
start_is asked true text None compiled is has = has refl
start_is asked true text (Some bytes) compiled is has = has refl compiled is

abbrev told_sources : (p former s image rest : Option (List ℕ)) → Sources
told_sources p former s image rest =
    record { program = p; former = former; script = s; image = image; rest = rest }

run_kept : (asked : Asked) (p former s image rest : Option (List ℕ)) (opens saves : Bool)
    (result : Status) (before after : Outside)
    → IsRunServed asked (told_sources p former s image rest) opens
    → RunEnds asked (told_sources p former s image rest) opens saves result before after
    → IsRefusalStatus result → ⊥
run_kept asked None former s image rest opens saves result before after has ends refuses = has.0
run_kept asked (Some text) former s image rest opens saves result before after has ends refuses =
    ⊎_elim (λ told. quiet_kept told.0 result before.out after.out
    (texts_quiet script_meaning asked (Some text) s has.0 has.1 told.0 told.1) told.2 refuses)
    (λ ran. job_kept saves (start_if opens image) ran.0.program ran.1 result before after
    (start_is asked opens text image ran.0 (let gives = ran.2 in gives.0) has.2) ran.3 refuses) ends

abbrev IsShort : List ℕ → Type 0
IsShort line = length line < SCRIPT_BYTES

later_all : (xs ys : List (List ℕ)) → All IsShort (xs ++ ys) → All IsShort ys
later_all [] ys all = all
later_all (x ∷ xs) ys all =
    later_all xs ys (λ (k : ℕ) (d : List ℕ) (less : k < length (xs ++ ys)).
    all (suc k) d (omega (arith, less)))

list_kept : (p : Option (List ℕ)) (result : Status) (w w' : Option (List ℕ))
    → HasProgram listing_sizes p → ListEnds p result w w' → IsRefusalStatus result → ⊥
list_kept p result w w' has ends refuses =
    ⊎_elim (λ told. quiet_kept told.0 result w w' (program_quiet listing_sizes p has told.0 told.1)
    told.2 refuses)
    (λ ran. written_kept _ result w w' ran.2 refuses) ends

why_kept : (p : Option (List ℕ)) (result : Status) (w w' : Option (List ℕ))
    → HasProgram listing_sizes p → WhyEnds p result w w' → IsRefusalStatus result → ⊥
why_kept p result w w' has ends refuses =
    ⊎_elim (λ told. quiet_kept told.0 result w w' (program_quiet listing_sizes p has told.0 told.1)
    told.2 refuses)
    (λ ran. written_kept _ result w w' ran.4 refuses) ends

emit_kept : (asked : Asked) (prefix : List ℕ) (header : Bool) (p : Option (List ℕ))
    (result : Status) (w w' : Option (List ℕ)) → HasProgram asked p
    → EmitEnds asked prefix header p result w w' → IsRefusalStatus result → ⊥
emit_kept asked prefix header p result w w' has ends refuses =
    ⊎_elim (λ told. quiet_kept told.0 result w w' (program_quiet asked p has told.0 told.1)
    told.2 refuses)
    (λ ran. written_kept _ result w w' ran.2 refuses) ends

code_kept : (p : Option (List ℕ)) (result : Status) (w w' : Option (List ℕ))
    → HasProgram listing_sizes p → CodeEnds p result w w' → IsRefusalStatus result → ⊥
code_kept p result w w' has ends refuses =
    ⊎_elim (λ told. quiet_kept told.0 result w w' (program_quiet listing_sizes p has told.0 told.1)
    told.2 refuses)
    (λ ran. written_kept _ result w w' ran.2 refuses) ends

storm_kept : (asked : Asked) (order : StormOrder) (p : Option (List ℕ)) (result : Status)
    (w w' : Option (List ℕ)) (d d' : Device) (k k' : ℕ)
    → HasProgram asked p → StormEnds asked order p result w w' d d' k k'
    → IsRefusalStatus result → ⊥
storm_kept asked order p result w w' d d' k k' has ends refuses =
    ⊎_elim (λ told. quiet_kept told.0 result w w' (program_quiet asked p has told.0 told.1)
    told.2 refuses)
    (λ ran. stormed_kept result ran.0.program order w w' d d' k k' ran.2 refuses) ends

workers_ran_kept : (result : Status) (program : Program) (count : ℕ)
    (commands : List WorkersCommand) (w w' : Option (List ℕ)) (d d' : Device) (k k' : ℕ)
    → WorkersRanAs program count commands result w w' d d' k k' → IsRefusalStatus result → ⊥
workers_ran_kept result program count commands w w' d d' k k' =
    status_kept (λ why. Unbegun (make_fault why) program count w w' d d' k k')
    (BreaksOffNew program count commands w w' d d' k k')
    (met (RunsNew program count commands w w' d d' k k'))
    (BreaksOffNew program count commands w w' d d' k k') result

workers_kept : (asked : Asked) (count : ℕ) (p s : Option (List ℕ)) (result : Status)
    (w w' : Option (List ℕ)) (d d' : Device) (k k' : ℕ)
    → HasProgram asked p → HasScript workers_script_meaning s
    → WorkersEnds asked count p s result w w' d d' k k' → IsRefusalStatus result → ⊥
workers_kept asked count p s result w w' d d' k k' program script ends refuses =
    ⊎_elim (λ told. quiet_kept told.0 result w w'
    (texts_quiet workers_script_meaning asked p s program script told.0 told.1) told.2 refuses)
    (λ ran. workers_ran_kept result ran.0.program count ran.1 w w' d d' k k' ran.4 refuses) ends

-- the lines that were given are among all lines
given_few : (given all rest : List (List ℕ)) (n : ℕ) → all ≡ given ++ rest → n ≤ length given
    → length all < n → ⊥
given_few given all rest n split many few =
    omega (arith, length-append given rest, ap length split, many, few)

-- no line is too long, and there aren't too many
served_kept : (r : Result Served StartFault) (result : Status) (left left' : Option (List ℕ))
    (program : Program) (w v w' : Option (List ℕ)) (d d' : Device) (k k' : ℕ) → HasLines left
    → StatusOf r result v w' → CreatedServed r left left' program d w k d' v k'
    → IsRefusalStatus result → ⊥
served_kept (Ok served.Done) result left left' program w v w' d d' k k' has told ends refuses =
    subst (λ (s : Status). IsRefusalStatus s) told.0 refuses
served_kept (Ok served.ReadFault) result left left' program w v w' d d' k k' has told ends refuses =
    subst (λ (s : Status). IsRefusalStatus s) told.0 refuses
served_kept (Ok served.LongLine) result None left' program w v w' d d' k k' has told ends refuses =
    has
served_kept (Ok served.LongLine) result (Some text) left' program w v w' d d' k k' has told
    (b, made, inl first) refuses = first.0
served_kept (Ok served.LongLine) result (Some text) left' program w v w' d d' k k' has told
    (b, made, inr h) refuses =
    let given = h.2.0 in
    let rest = h.2.1 in
    let short = size_short rest.0 SCRIPT_BYTES
    (later_all given (lines rest.0) (subst (All IsShort) rest.1 has.0)) in
    absurd (omega (arith, short, rest.2))
served_kept (Ok served.ManyLines) result None left' program w v w' d d' k k' has told ends refuses =
    has
served_kept (Ok served.ManyLines) result (Some text) left' program w v w' d d' k k' has told
    (b, made, inl first) refuses = first.0
served_kept (Ok served.ManyLines) result (Some text) None program w v w' d d' k k' has told
    (b, made, inr h) refuses = h.2.3
served_kept (Ok served.ManyLines) result (Some text) (Some more) program w v w' d d' k k' has told
    (b, made, inr h) refuses =
    given_few h.2.0 (lines text) (lines (h.2.1 ++ more)) (2 ^ 64 - 1) h.2.3 h.2.2 has.1
served_kept (Ok served.NoMemory) result left left' program w v w' d d' k k' has told ends refuses =
    subst (λ (s : Status). IsRefusalStatus s) told.0 refuses
served_kept (Ok served.WriteFault) result left left' program w v w' d d' k k' has told ends
    refuses = subst (λ (s : Status). IsRefusalStatus s) told.0 refuses
served_kept (Ok served.GivenUp) result left left' program w v w' d d' k k' has told ends refuses =
    subst (λ (s : Status). IsRefusalStatus s) told.0 refuses
served_kept (Err start.Failed) result left left' program w v w' d d' k k' has told ends refuses =
    subst (λ (s : Status). IsRefusalStatus s) told.0 refuses
served_kept (Err start.NoMemory) result left left' program w v w' d d' k k' has told ends refuses =
    subst (λ (s : Status). IsRefusalStatus s) told.0 refuses

serve_kept : (asked : Asked) (told : Sources) (result : Status) (w w' : Option (List ℕ))
    (d d' : Device) (k k' : ℕ) → HasProgram asked told.program → HasLines told.script
    → MemoryEnds asked told result w w' d d' k k' → IsRefusalStatus result → ⊥
serve_kept asked told result w w' d d' k k' program has
    (inl (why, refuses, reported, device, steps)) is =
    quiet_kept why result w w' (program_quiet asked told.program program why refuses)
    reported is
serve_kept asked told result w w' d d' k k' program has
    (inr (compiled, gives, r, v, status, never, ends)) is =
    served_kept r result told.script told.rest compiled.program w v w' d d' k k' has status ends is

plan_kept : (asked : Plan) (told : Sources) (result : Status) (before after : Outside)
    → IsPlanServed asked told
    → PlanEnds asked told result before after → IsRefusalStatus result → ⊥
plan_kept (plan.Run p s slots records ticks from save strict) told result before after has ends
    refuses =
    run_kept (asked_by slots records ticks) told.program told.former told.script told.image
    told.rest (is_some from) (is_some save) ends.0 before after has ends.2
    (strict_refusal strict ends.0 result ends.1 refuses)
plan_kept (plan.RunPool p s slots records ticks pool former strict) told result before after has
    ends refuses = has
plan_kept (plan.Serve p slots records ticks) told result before after has ends refuses =
    serve_kept (asked_by slots records ticks) told result before.out after.out before.dev after.dev
    before.steps after.steps has.0 has.1 ends.0 refuses
plan_kept (plan.ServePool p slots records ticks pool former) told result before after has ends
    refuses = has
plan_kept (plan.List p) told result before after has ends refuses =
    list_kept told.program result before.out after.out has ends.0 refuses
plan_kept (plan.Storm p start count reach plain slots records ticks) told result before after has
    ends refuses =
    storm_kept (asked_by slots records ticks) (ordered start count reach plain) told.program
    result before.out after.out before.dev
    after.dev before.steps after.steps has ends.0 refuses
plan_kept (plan.Why p) told result before after has ends refuses =
    why_kept told.program result before.out after.out has ends.0 refuses
plan_kept (plan.Workers p s workers slots records ticks) told result before after has
    ends refuses =
    workers_kept (asked_by slots records ticks) workers told.program told.script
    result before.out after.out before.dev
    after.dev before.steps after.steps has.0 has.1 ends.0 refuses
plan_kept (plan.WorkersPool p s workers slots records ticks pool) told result before after has ends
    refuses = has
plan_kept (plan.Emit p prefix header slots records ticks) told result before after has
    ends refuses =
    emit_kept (asked_by slots records ticks) prefix header told.program result before.out after.out
    has ends.0 refuses
plan_kept (plan.Code p) told result before after has ends refuses =
    code_kept told.program result before.out after.out has ends.0 refuses

-- if everything is accepted, the status is no refusal
pub plan_kept_as : (words : Option Plan) (asked : Plan) (told : Sources) (result : Status)
    (before after : Outside) → words ≡ Some asked
    → PlanEnds asked told result before after
    → IsServed words told → IsRefusalStatus result → ⊥
plan_kept_as words asked told result before after is ends has refuses =
    plan_kept asked told result before after
    (subst (λ (w : Option Plan). IsServed w told) is has) ends refuses
