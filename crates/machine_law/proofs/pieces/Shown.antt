-- Deeds that effects show one after another are shown together.
use Rattle.std.proofs.Common.{◌≡◌, ℕ, Bool, List, [], ◌∷◌, ◌++◌, refl, sym}
use Rattle.cache_model.specs.Cache.{Words}
use Rattle.pool_layout.specs.declared.limits.Sizes.{Sizes}
use Rattle.ir.specs.declared.site.Site.{Site}
use Rattle.code_meaning.specs.Deeds.{Deed}
use Rattle.pm_machine.specs.declared.effect.Effect.{Effect}
use Rattle.pm_machine.specs.Effects.{heap_past, heap_end}
use Rattle.machine_law.specs.emitted.Moments.{onto}
use Rattle.pm_alloc.specs.LocalRun.{World}
use Rattle.machine_law.specs.pieces.Shows.{ShowsDeeds, done, looks, scans, reads, plain, logs}
use Rattle.machine_law.specs.pieces.Shows.{heads, ShowsLaw}
use Rattle.machine_law.specs.pieces.Law.{onward}

pub shown : ShowsLaw
shown s logged ds cs es fs done more = more
shown s logged ds cs es fs (looks {ds = ds'} {es = es'} q there rest) more =
    looks q there (shown s logged ds' cs es' fs rest more)
shown s logged ds cs es fs (scans {ds = ds'} {es = es'} n few rest) more =
    scans n few (shown s logged ds' cs es' fs rest more)
shown s logged ds cs es fs (reads {ds = ds'} {es = es'} x there rest) more =
    reads x there (shown s logged ds' cs es' fs rest more)
shown s logged ds cs es fs (plain {ds = ds'} {es = es'} site x v there is rest) more =
    plain site x v there is (shown s logged ds' cs es' fs rest more)
shown s logged ds cs es fs (logs {ds = ds'} {es = es'} site x v there is rest) more =
    logs site x v there is (shown s logged ds' cs es' fs rest more)
shown s logged ds cs es fs (heads {ds = ds'} {es = es'} site q v there rest) more =
    heads site q v there (shown s logged ds' cs es' fs rest more)

pub heap_append : (es fs : List Effect) (heap : Words)
    → heap_end heap (es ++ fs) ≡ heap_end (heap_end heap es) fs
heap_append [] fs heap = refl
heap_append (e ∷ es) fs heap = heap_append es fs (heap_past heap e)

pub onto_append : (es fs seen : List Effect) → onto (es ++ fs) seen ≡ onto fs (onto es seen)
onto_append [] fs seen = refl
onto_append (e ∷ es) fs seen = onto_append es fs (e ∷ seen)

pub onward_append : (v : World) (es fs : List Effect) (t u : ℕ)
    → onward (onward v es t) fs u ≡ onward v (es ++ fs) u
onward_append v es fs t u = λ i. record {
  heap = sym (heap_append es fs v.heap) i;
  seen = sym (onto_append es fs v.seen) i;
  ticks = u;
}

-- loads of headers change nothing
pub looks_heap : (s : Sizes) (logged : Site → Bool) (ds : List Deed) (es : List Effect)
    (heap : Words) → ShowsDeeds s logged ds es → ds ≡ [] → heap_end heap es ≡ heap
looks_heap s logged ds es heap done e = refl
looks_heap s logged ds es heap (looks {ds = ds'} {es = es'} q there rest) e =
    looks_heap s logged ds' es' heap rest e
looks_heap s logged ds es heap (scans {ds = ds'} {es = es'} n few rest) e =
    looks_heap s logged ds' es' heap rest e
looks_heap s logged ds es heap (reads x there rest) e = absurd (cc)
looks_heap s logged ds es heap (plain site x v there is rest) e = absurd (cc)
looks_heap s logged ds es heap (logs site x v there is rest) e = absurd (cc)
looks_heap s logged ds es heap (heads site q v there rest) e = absurd (cc)
