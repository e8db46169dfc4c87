-- How far a seal has come, from the versions of its line.
use Rattle.std.proofs.Common.{◌≡◌, ◌≢◌, ◌≤◌, ◌+◌, inl, inr, ⊎_elim, ℕ, zero, suc, Bool, true, false}
use Rattle.std.proofs.Common.{◌||◌, ◌&&◌, Option, Some, List, [], ◌∷◌, ◌++◌, length, ℤ, refl, sym}
use Rattle.std.proofs.Common.{ap, ◌∙◌, subst, arith, int_eq}
use Rattle.std.specs.List.{list_all, list_any}
use Rattle.std.proofs.lemmas.Bool.Decides.{Decides-int_eq}
use Rattle.std.proofs.lemmas.List.{drop_all}
use Rattle.std.proofs.lemmas.List.Folds.{list_all-append, list_any-append}
use Rattle.std.proofs.lemmas.Bool.{false_from_ne_true}
use Rattle.cache_model.specs.Event.{CacheEvent, Store, Flush, Fence}
use Rattle.cache_model.specs.Cache.{Words, put, Line, Cache, versions}
use Rattle.cache_model.specs.Play.{store_line, flush_line, fence_line, fence_at, mark_of, apply}
use Rattle.cache_model.specs.Image.{Among}
use Rattle.cache_model.proofs.Versions.{put_same, put_other, store_version, flush_version}
use Rattle.cache_model.proofs.Versions.{fence_version}
use Rattle.pmem.specs.Device.{Device, spent}
use Rattle.pmem.specs.Played.{PlaysAll, PlaysPart}
use Rattle.pmem.specs.declared.answer.Phase.TheVariants.{Unsealed, Sealing, Sealed}
use Rattle.pmem.specs.declared.answer.Refusal.TheVariants.{Off}
use Rattle.pool_layout.specs.declared.places.TheConstants.{FUNCTION, SEAL, ARGUMENTS}
use Rattle.args_log.specs.Seal.{stores_from, flushes_from, payload_lines, payload_events}
use Rattle.args_log.specs.Seal.{unsealed_events, sealing_events, seal_events}
use Rattle.args_log.specs.Sealing.{WentAfter}
use Rattle.args_log.specs.Phase.{has_seal, phase_of}
use Rattle.args_log.specs.PhaseLaw.{LacksSeal}

-- an event that isn't the store of a seal
abbrev IsOther : CacheEvent → Type 0
IsOther (Store w x) = w ≢ SEAL
IsOther (Flush l) = Unit {0}
IsOther Fence = Unit {0}

abbrev Others : List CacheEvent → Type 0
Others [] = Unit {0}
Others (e ∷ es) = IsOther e × Others es

others_append : (es fs : List CacheEvent) → Others es → Others fs → Others (es ++ fs)
others_append [] fs a b = b
others_append (e ∷ es) fs a b = (a.0, others_append es fs a.1 b)

others_stores : (w : ℕ) (xs : List ℤ) → w + length xs ≤ SEAL → Others (stores_from w xs)
others_stores w [] le = tt
others_stores w (x ∷ xs) le = (
  λ (e : w ≡ SEAL). absurd (omega arith),
  others_stores (suc w) xs (omega arith),
)

others_flushes : (l n : ℕ) → Others (flushes_from l n)
others_flushes l zero = tt
others_flushes l (suc n) = (tt, others_flushes (suc l) n)

others_payload : (f : ℤ) (args : List ℤ) → length args ≤ ARGUMENTS → Others (payload_events f args)
unfolding payload_events
others_payload f args few =
    others_append (stores_from FUNCTION (f ∷ args)) (flushes_from 3 (payload_lines (length args))
    ++ Fence ∷ [])
    (others_stores FUNCTION (f ∷ args) (omega arith))
    (others_append (flushes_from 3 (payload_lines (length args))) (Fence ∷ [])
    (others_flushes 3 (payload_lines (length args))) (tt, tt))

lacks_event : (k : ℤ) (c : Cache) (e : CacheEvent) → IsOther e → LacksSeal k (c 5)
    → LacksSeal k (apply c e 5)
lacks_event k c (Store w x) other lacks v version = ⊎_elim
    (λ old. lacks v old)
    (λ new. λ (e : v SEAL ≡ k).
    lacks (c 5).newest (inl refl)
    (sym (put_other (c 5).newest w SEAL x (λ (same : SEAL ≡ w). other (sym same)))
    ∙ sym (ap (λ (u : Words). u SEAL) new.1) ∙ e))
    (store_version c w x 5 v version)
lacks_event k c (Flush l) other lacks v version = lacks v (flush_version c l 5 v version)
lacks_event k c Fence other lacks v version = lacks v (fence_version c 5 v version)

-- the power went before the last event
lacks_before : (k : ℤ) (es : List CacheEvent) (e : CacheEvent) (d b : Device) → Others es
    → PlaysPart Off d (es ++ e ∷ []) b
    → LacksSeal k (d.cache 5) → LacksSeal k (b.cache 5)
lacks_before k [] e d b others (inl refused) lacks =
    subst (λ (x : Device). LacksSeal k (x.cache 5)) (sym refused.1.1) lacks
lacks_before k [] e d b others (inr rest) lacks = absurd rest.1
lacks_before k (x ∷ es) e d b others (inl refused) lacks =
    subst (λ (y : Device). LacksSeal k (y.cache 5)) (sym refused.1.1) lacks
lacks_before k (x ∷ es) e d b others (inr rest) lacks =
    lacks_before k es e (spent d x) b others.1 rest.1 (lacks_event k d.cache x others.0 lacks)

-- the seal was stored on a line of which no version had it
record IsStored (k : ℤ) (l : Line) : Type 0 where
  before : Line
  lacks : LacksSeal k before
  is : l ≡ store_line before SEAL k

stored_last : (k : ℤ) (es : List CacheEvent) (d b : Device) → Others es
    → PlaysAll d (es ++ Store SEAL k ∷ []) b → LacksSeal k (d.cache 5) → IsStored k (b.cache 5)
unfolding apply
stored_last k [] d b others all lacks =
    record { before = d.cache 5; lacks = lacks; is = ap (λ (x : Device). x.cache 5) all.1 }
stored_last k (x ∷ es) d b others all lacks =
    stored_last k es (spent d x) b others.1 all.1 (lacks_event k d.cache x others.0 lacks)

all_split : (es fs : List CacheEvent) (d b : Device) → PlaysAll d (es ++ fs) b
    → (m : Device) × PlaysAll d es m × PlaysAll m fs b
all_split [] fs d b all = (d, refl, all)
all_split (e ∷ es) fs d b all = let rest = all_split es fs (spent d e) b all.1 in
    (rest.0, (all.0, rest.1), rest.2)

lacks_seal : (k : ℤ) (v : Words) → v SEAL ≢ k → has_seal k v ≡ false
lacks_seal k v ne =
    false_from_ne_true (int_eq (v SEAL) k) (λ e. ne ((Decides-int_eq (v SEAL) k).0 e))

none_any : (k : ℤ) (us : List Words) → ((v : Words) → Among us v → v SEAL ≢ k)
    → list_any (has_seal k) us ≡ false
none_any k [] lacks = refl
none_any k (u ∷ us) lacks = rw (
  lacks_seal k u (lacks u (inl refl)),
  none_any k us (λ v among. lacks v (inr among)),
) refl

and_false : (b : Bool) → (b && false) ≡ false
and_false true = refl
and_false false = refl

or_true : (b : Bool) → (b || true) ≡ true
or_true true = refl
or_true false = refl

not_all : (k : ℤ) (l : Line) → LacksSeal k l → list_all (has_seal k) (versions l) ≡ false
not_all k l lacks =
    list_all-append (has_seal k) l.older (l.newest ∷ [])
    ∙ rw (lacks_seal k l.newest (lacks l.newest (inl refl)))
    (and_false (list_all (has_seal k) l.older))

not_any : (k : ℤ) (l : Line) → LacksSeal k l → list_any (has_seal k) (versions l) ≡ false
not_any k l lacks =
    list_any-append (has_seal k) l.older (l.newest ∷ [])
    ∙ rw (
      none_any k l.older (λ v among. lacks v (inr among)),
      lacks_seal k l.newest (lacks l.newest (inl refl)),
    ) refl

is_unsealed : (k : ℤ) (l : Line) → LacksSeal k l → phase_of l k ≡ Unsealed
is_unsealed k l lacks = rw (not_all k l lacks, not_any k l lacks) refl

sealed_word : (k : ℤ) (l : Line) → has_seal k (put l.newest SEAL k) ≡ true
sealed_word k l = (Decides-int_eq (put l.newest SEAL k SEAL) k).1 (put_same l.newest SEAL k)

is_sealing : (k : ℤ) (l : Line) → LacksSeal k l → phase_of (store_line l SEAL k) k ≡ Sealing
is_sealing k l lacks =
    let all : list_all (has_seal k) (versions (store_line l SEAL k)) ≡ false =
    list_all-append (has_seal k) (versions l) (put l.newest SEAL k ∷ [])
    ∙ rw (not_all k l lacks) refl in
    let any : list_any (has_seal k) (versions (store_line l SEAL k)) ≡ true =
    list_any-append (has_seal k) (versions l) (put l.newest SEAL k ∷ [])
    ∙ rw (sealed_word k l) (or_true (list_any (has_seal k) (versions l))) in
    rw (all, any) refl

marked : (vs : List Words) (v : Words) (m : Option ℕ)
    → mark_of (vs ++ v ∷ []) m ≡ Some (length (vs ++ v ∷ []))
marked [] v m = refl
marked (u ∷ us) v m = refl

fence_whole : (k : ℤ) (l : Line) (m : Option ℕ) (n : ℕ) → m ≡ Some n → length l.older ≤ n
    → has_seal k l.newest ≡ true → phase_of (fence_at m l) k ≡ Sealed
fence_whole k l m n is le has = rw (is, drop_all n l.older le, has) refl

is_sealed : (k : ℤ) (l : Line) → phase_of (fence_line (flush_line (store_line l SEAL k))) k ≡ Sealed
is_sealed k l =
    fence_whole k (flush_line (store_line l SEAL k)) _ (length (l.older ++ l.newest ∷ []))
    (marked l.older l.newest l.mark) (omega arith) (sealed_word k l)

pub unsealed_law : (d b : Device) (f : ℤ) (args : List ℤ) (k : ℤ) → length args ≤ ARGUMENTS
    → LacksSeal k (d.cache 5)
    → PlaysPart Off d (unsealed_events f args k) b → phase_of (b.cache 5) k ≡ Unsealed
unfolding unsealed_events
unsealed_law d b f args k few lacks part =
    is_unsealed k (b.cache 5) (lacks_before k (payload_events f args) (Store SEAL k) d b
    (others_payload f args few) part lacks)

phase_after : (k : ℤ) (d b : Device) → IsStored k (d.cache 5)
    → PlaysPart Off d (Flush 5 ∷ Fence ∷ []) b → phase_of (b.cache 5) k ≡ Sealing
unfolding apply
phase_after k d b stored (inl refused) =
    ap (λ (x : Device). phase_of (x.cache 5) k) refused.1.1 ∙ ap (λ (l : Line). phase_of l k)
    stored.is ∙ is_sealing k stored.before stored.lacks
phase_after k d b stored (inr (ready, inl refused)) =
    ap (λ (x : Device). phase_of (x.cache 5) k) refused.1.1 ∙ ap (λ (l : Line). phase_of l k)
    stored.is ∙ is_sealing k stored.before stored.lacks
phase_after k d b stored (inr (ready, inr rest)) = absurd rest.1

pub sealing_law : (d b : Device) (f : ℤ) (args : List ℤ) (k : ℤ) → length args ≤ ARGUMENTS
    → LacksSeal k (d.cache 5)
    → WentAfter d f args k b → phase_of (b.cache 5) k ≡ Sealing
unfolding unsealed_events sealing_events
sealing_law d b f args k few lacks went =
    phase_after k went.at_seal b (stored_last k (payload_events f args) d went.at_seal
    (others_payload f args few) went.stored lacks) went.went

settled : (k : ℤ) (d b : Device) → IsStored k (d.cache 5) → PlaysAll d (Flush 5 ∷ Fence ∷ []) b
    → phase_of (b.cache 5) k ≡ Sealed
unfolding apply
settled k d b stored all =
    ap (λ (x : Device). phase_of (x.cache 5) k) all.1.1
    ∙ ap (λ (l : Line). phase_of (fence_line (flush_line l)) k) stored.is
    ∙ is_sealed k stored.before

pub sealed_law : (d b : Device) (f : ℤ) (args : List ℤ) (k : ℤ) → length args ≤ ARGUMENTS
    → LacksSeal k (d.cache 5)
    → PlaysAll d (seal_events f args k) b → phase_of (b.cache 5) k ≡ Sealed
unfolding seal_events unsealed_events sealing_events
sealed_law d b f args k few lacks all =
    let parts = all_split (payload_events f args ++ Store SEAL k ∷ []) (Flush 5 ∷ Fence ∷ [])
    d b all in
    settled k parts.0 b (stored_last k (payload_events f args) d parts.0 (others_payload f args few)
    parts.1 lacks) parts.2
