-- What the phase of a seal says of the images of a compartment.
use Rattle.std.proofs.Common.{◌≡◌, ◌≢◌, ◌⊎◌, inl, inr, suc, Bool, true, false}
use Rattle.std.proofs.Common.{if◌then◌else◌, List, [], ◌∷◌, ◌++◌, ℤ, pos, refl, sym, ap, ◌∙◌, arith}
use Rattle.std.specs.List.{list_all, list_any}
use Rattle.std.proofs.lemmas.Bool.Decides.{Decides-int_eq}
use Rattle.std.proofs.lemmas.Bool.{and_parts, or_parts}
use Rattle.cache_model.specs.Cache.{Words, Cache, view}
use Rattle.cache_model.specs.Image.{Among, Images}
use Rattle.pmem.specs.declared.answer.Phase.{Phase}
use Rattle.pmem.specs.declared.answer.Phase.TheVariants.{Unsealed, Sealing, Sealed}
use Rattle.pool_layout.specs.declared.places.TheConstants.{SEAL, DONE}
use Rattle.args_log.specs.Next.{number_after}
use Rattle.args_log.specs.Phase.{has_seal, phase_of}
use Rattle.args_log.specs.PhaseLaw.{LacksSeal}
use Rattle.workers_law.proofs.Phases.{all_of}
use Rattle.cnvm_session.specs.declared.program.Program.{Program}
use Rattle.session_law.specs.State.{SourceState}
use Rattle.session_law.specs.Holds.{IsResting}
use Rattle.session_law.specs.Law.{HasPhase}
use Rattle.session_law.proofs.images.Ones.{rest_newest}
use Rattle.session_law.proofs.images.Retired.{next_small}
use Rattle.workers_source_law.proofs.Stills.{still}

seal_is : (k : ℤ) (v : Words) → has_seal k v ≡ true → v SEAL ≡ k
seal_is k v is = (Decides-int_eq (v SEAL) k).0 is

seal_not : (k : ℤ) (v : Words) → has_seal k v ≡ false → v SEAL ≢ k
seal_not k v is e = let yes : has_seal k v ≡ true = (Decides-int_eq (v SEAL) k).1 e in
    let no = sym yes ∙ is in absurd cc

all_versions : (k : ℤ) (us : List Words) (w : Words)
    → list_all (has_seal k) (us ++ w ∷ []) ≡ true
    → (v : Words) → (v ≡ w) ⊎ Among us v → v SEAL ≡ k
all_versions k [] w all v (inl e) =
    ap (λ (x : Words). x SEAL) e ∙ seal_is k w (and_parts (has_seal k w) true all).0
all_versions k [] w all v (inr none) = absurd none
all_versions k (u ∷ us) w all v (inl e) =
    all_versions k us w (and_parts (has_seal k u) (list_all (has_seal k) (us ++ w ∷ [])) all).1 v
    (inl e)
all_versions k (u ∷ us) w all v (inr (inl e)) =
    ap (λ (x : Words). x SEAL) e
    ∙ seal_is k u (and_parts (has_seal k u) (list_all (has_seal k) (us ++ w ∷ [])) all).0
all_versions k (u ∷ us) w all v (inr (inr more)) =
    all_versions k us w (and_parts (has_seal k u) (list_all (has_seal k) (us ++ w ∷ [])) all).1 v
    (inr more)

none_versions : (k : ℤ) (us : List Words) (w : Words)
    → list_any (has_seal k) (us ++ w ∷ []) ≡ false
    → (v : Words) → (v ≡ w) ⊎ Among us v → v SEAL ≢ k
none_versions k [] w none v (inl e) is =
    seal_not k w (or_parts (has_seal k w) false none).0
    (sym (ap (λ (x : Words). x SEAL) e) ∙ is)
none_versions k [] w none v (inr among) is = absurd among
none_versions k (u ∷ us) w none v (inl e) is =
    none_versions k us w (or_parts (has_seal k u) (list_any (has_seal k) (us ++ w ∷ [])) none).1 v
    (inl e) is
none_versions k (u ∷ us) w none v (inr (inl e)) is =
    seal_not k u (or_parts (has_seal k u) (list_any (has_seal k) (us ++ w ∷ [])) none).0
    (sym (ap (λ (x : Words). x SEAL) e) ∙ is)
none_versions k (u ∷ us) w none v (inr (inr more)) is =
    none_versions k us w (or_parts (has_seal k u) (list_any (has_seal k) (us ++ w ∷ [])) none).1 v
    (inr more) is

none_of : (a b : Bool) → (if a then Sealed else (if b then Sealing else Unsealed)) ≡ Unsealed
    → b ≡ false
none_of true b is = absurd cc
none_of false true is = absurd cc
none_of false false is = refl

pub phase_images : (s : SourceState) (c : Cache) (at : Phase)
    → phase_of (c 5) (pos (suc s.done)) ≡ at → Images (HasPhase at s) c
phase_images s c Unsealed is image im =
    let pick = im 5 in
    let k = pos (suc s.done) in
    let none = none_of (list_all (has_seal k) ((c 5).older ++ (c 5).newest ∷ []))
    (list_any (has_seal k) ((c 5).older ++ (c 5).newest ∷ [])) is in
    λ e. none_versions k (c 5).older (c 5).newest none pick.0 pick.1 (sym (pick.2 SEAL refl) ∙ e)
phase_images s c Sealing is image im = tt
phase_images s c Sealed is image im =
    let pick = im 5 in
    let k = pos (suc s.done) in
    let all = all_of (list_all (has_seal k) ((c 5).older ++ (c 5).newest ∷ []))
    (list_any (has_seal k) ((c 5).older ++ (c 5).newest ∷ [])) is in
    pick.2 SEAL refl ∙ all_versions k (c 5).older (c 5).newest all pick.0 pick.1

-- a compartment at rest doesn't have the next seal
pub rest_lacks : (program : Program) (super : Words) (c : Cache) (s : SourceState)
    → IsResting program super (still c) s → LacksSeal (pos (suc s.done)) (c 5)
unfolding view
rest_lacks program super c s r v is e =
    r.before.good.unsealed (sym (ap (λ (x : Words). x SEAL) (rest_newest c r.rest 5 v is)) ∙ e)

pub rest_number : (program : Program) (super : Words) (c : Cache) (s : SourceState)
    → IsResting program super (still c) s → pos (suc s.done) ≡ number_after (view c DONE)
rest_number program super c s r =
    sym (next_small (view c DONE) s.done r.before.good.done
    (let fits = r.before.good.done_fits in omega arith))
