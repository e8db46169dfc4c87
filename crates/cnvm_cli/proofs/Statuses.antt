-- The table of statuses.
use Rattle.std.proofs.Common.{◌≡◌, List, ℕ, Option, Bool, true, false, inl, inr, ◌⊎◌, ⊎_elim, refl}
use Rattle.std.proofs.Common.{sym, subst, ◌∙◌}
use Rattle.cnvm_session.specs.declared.creating.StartFault.{StartFault}
use Rattle.session_run.specs.declared.status.Status.{Status}
use Rattle.session_run.specs.declared.status.Status.TheVariants as status
use Rattle.session_run.specs.AsStatus.{AsStatus, met}
use Rattle.session_run.specs.Strict.{strict_status}
use Rattle.cnvm_cli.specs.Complete.{IsRefusalStatus}
use Rattle.cnvm_cli.specs.Listed.{WrittenAs}
use Rattle.session_run.specs.Told.{TellsAs}

-- what follows of each of three facts follows at each status
pub status_map : (N : StartFault → Type 0) {Z P Y Q : Type 0} {A B : Bool → Type 0} → (Z → Y)
    → ((unmet : Bool) → A unmet → B unmet) → (P → Q) → (s : Status) → AsStatus N Z A P s
    → AsStatus N Y B Q s
status_map N starved all part status.Done h = all false h
status_map N starved all part status.Unmet h = all true h
status_map N starved all part status.WriteFault h = part h
status_map N starved all part status.NoMemory (inl none) = inl none
status_map N starved all part status.NoMemory (inr some) = inr (starved some)
status_map N starved all part status.DeviceFault h = h
status_map N starved all part status.ReadFault h = absurd h
status_map N starved all part status.Usage h = absurd h
status_map N starved all part status.Program h = absurd h
status_map N starved all part status.Script h = absurd h
status_map N starved all part status.Image h = absurd h
status_map N starved all part status.PoolBusy h = absurd h

-- what follows where nothing can be unmet
pub met_map : {A B : Type 0} → (A → B) → (unmet : Bool) → met A unmet → met B unmet
met_map all false h = all h
met_map all true h = absurd h

-- none of them is a refusal
pub status_kept : (N : StartFault → Type 0) (Z : Type 0) (A : Bool → Type 0) (P : Type 0)
    (s : Status)
    → AsStatus N Z A P s → IsRefusalStatus s → ⊥
status_kept N Z A P status.Usage h refuses = h
status_kept N Z A P status.Program h refuses = h
status_kept N Z A P status.Script h refuses = h
status_kept N Z A P status.Image h refuses = h
status_kept N Z A P status.PoolBusy h refuses = h
status_kept N Z A P status.Done h refuses = refuses
status_kept N Z A P status.Unmet h refuses = refuses
status_kept N Z A P status.NoMemory h refuses = refuses
status_kept N Z A P status.ReadFault h refuses = refuses
status_kept N Z A P status.WriteFault h refuses = refuses
status_kept N Z A P status.DeviceFault h refuses = refuses

-- a text that is written with status 0
pub written_as : (text : List ℕ) (result : Status) (w w' : Option (List ℕ))
    → TellsAs status.Done text result w w' → WrittenAs text result w w'
written_as text result w w' tells =
    ⊎_elim (λ all. subst (λ (s : Status). WrittenAs text s w w') (sym all.0) all.1)
    (⊎_elim (λ none. subst (λ (s : Status). WrittenAs text s w w') (sym none.0) (inr none.1))
    (λ part. subst (λ (s : Status). WrittenAs text s w w') (sym part.0) part.1))
    tells

-- what strictness makes of a status
pub strict_or : (strict : Bool) (ran : Status) → (strict_status strict ran ≡ ran)
    ⊎ ((strict_status strict ran ≡ status.Done) × (ran ≡ status.Unmet))
strict_or true ran = inl refl
strict_or false status.Unmet = inr (refl, refl)
strict_or false status.Done = inl refl
strict_or false status.NoMemory = inl refl
strict_or false status.Usage = inl refl
strict_or false status.Program = inl refl
strict_or false status.Script = inl refl
strict_or false status.ReadFault = inl refl
strict_or false status.WriteFault = inl refl
strict_or false status.DeviceFault = inl refl
strict_or false status.Image = inl refl
strict_or false status.PoolBusy = inl refl

-- a status that isn't 0 is that of the run itself
pub strict_same : (strict : Bool) (ran result : Status) → result ≡ strict_status strict ran
    → (result ≡ status.Done → ⊥) → ran ≡ result
strict_same strict ran result is undone = by_case (strict_or strict ran)
  where
    by_case : (strict_status strict ran ≡ ran)
        ⊎ ((strict_status strict ran ≡ status.Done) × (ran ≡ status.Unmet)) → ran ≡ result
    by_case (inl same) = sym (is ∙ same)
    by_case (inr (done, unmet)) = absurd (undone (is ∙ done))

-- want of memory stays so
pub strict_memory : (strict : Bool) → status.NoMemory ≡ strict_status strict status.NoMemory
strict_memory true = refl
strict_memory false = refl

device_undone : status.DeviceFault ≡ status.Done → ⊥
device_undone e = cc

-- a device failed in the run itself
pub strict_device : (strict : Bool) (ran : Status) → status.DeviceFault ≡ strict_status strict ran
    → ran ≡ status.DeviceFault
strict_device strict ran is = strict_same strict ran status.DeviceFault is device_undone

-- a refusal is that of the run itself
pub strict_refusal : (strict : Bool) (ran result : Status) → result ≡ strict_status strict ran
    → IsRefusalStatus result → IsRefusalStatus ran
strict_refusal strict ran result is refuses =
    subst IsRefusalStatus
    (sym (strict_same strict ran result is (λ done. subst IsRefusalStatus done refuses))) refuses
