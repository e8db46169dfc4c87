-- The loop of a run: playing the remaining events gives what playing all of them gives from the
-- start.
use Rattle.std.proofs.Common.{◌≡◌, ℕ, suc, ◌+◌, ◌-◌, ◌<◌, ◌≤◌, List, Some, None, refl, sym}
use Rattle.std.proofs.Common.{ap, ◌∙◌, subst, arith, slice_get, Option}
use Rattle.cache_model.specs.Event.{CacheEvent}
use Rattle.cache_model.specs.Cache.{Cache, Words}
use Rattle.cache_model.specs.Play.{play}
use Rattle.pmem.specs.declared.answer.Refusal.{Refusal}
use Rattle.pmem.specs.Device.{Device}
use Rattle.pmem.specs.Played.{PlaysAll, PlaysPart}
use Rattle.pmem.proofs.Glue.{all_append, part_left, part_right}
use Rattle.pmem.proofs.Refused.{all_cache, all_on}
use Rattle.pm_machine.specs.declared.op.Op.{Op}
use Rattle.pm_machine.specs.declared.op.Function.{Function}
use Rattle.pm_machine.specs.declared.effect.Effect.{Effect}
use Rattle.pm_machine.specs.declared.effect.Effect.TheVariants.{Loads, Scans, Stores, Logs, Flushes}
use Rattle.pm_machine.specs.declared.effect.Effect.TheVariants.{Fences, Quiet}
use Rattle.pm_machine.specs.declared.effect.End.{End}
use Rattle.pm_machine.specs.declared.machine.Went.TheVariants as went
use Rattle.pm_machine.specs.declared.image.Image.{Image}
use Rattle.pool_layout.specs.declared.limits.Sizes.{Sizes}
use Rattle.pm_machine.specs.Effects.{events_all}
use Rattle.pm_machine.specs.Machine.{State, StepOutcome, Goes, Ends, step, execute, fetch, fetch_in}
use Rattle.pm_machine.specs.Logging.{Logging, Turn, Plays, Stops, turn, turn_of}
use Rattle.pm_machine.specs.Runs.{heap_in, Due, due_before, owing, played, due, due_step, IsTurn}
use Rattle.pm_machine.specs.Runs.{turn_events}
use Rattle.pm_machine.specs.inside.Runs.{DueLeads, GoesSilently}
use Rattle.pm_machine.specs.inside.Code.{code_in, code_of}

leads_next : (d : Device) (k : ℕ) (es : List CacheEvent) (x : Due) (d0 : Device) (k0 : ℕ) (x0 : Due)
    (b : Device) → PlaysAll d es b → DueLeads d k (due_before es x) d0 k0 x0
    → DueLeads b (k + 1) x d0 k0 x0
leads_next d k es x d0 k0 x0 b all h = record {
  fate = h.fate;
  whole = λ c p. h.whole c (all_append es x.events d b c all p);
  part = λ why c p. h.part why c (part_right es x.events why d b c all p);
  steps = let e = h.steps in omega arith;
  records = h.records;
}

-- the instruction at a machine's place, found in the code of its open function
pub fetched : (image : Image) (s : State) (code : List Op)
    → code ≡ code_of image.parts.functions s.top.function
    → slice_get code s.top.place ≡ fetch image s
fetched image s code is =
    ap (λ (ops : List Op). slice_get ops s.top.place) is
    ∙ go (slice_get image.parts.functions s.top.function)
  where
    go : (o : Option Function) → slice_get (code_in o) s.top.place ≡ fetch_in s.top.place o
    go None = refl
    go (Some f) = refl

-- first one part of a run, and then the next
pub leads_after : (d : Device) (k : ℕ) (x : Due) (d1 : Device) (k1 : ℕ) (x1 : Due) (d0 : Device)
    (k0 : ℕ) (x0 : Due) → DueLeads d k x d1 k1 x1 → DueLeads d1 k1 x1 d0 k0 x0
    → DueLeads d k x d0 k0 x0
leads_after d k x d1 k1 x1 d0 k0 x0 next first = record {
  fate = next.fate ∙ first.fate;
  whole = λ b p. first.whole b (next.whole b p);
  part = λ why b p. first.part why b (next.part why b p);
  steps = next.steps ∙ first.steps;
  records = next.records ∙ first.records;
}

-- one step of the loop, with m steps left
module _ (image : Image) (a m : ℕ) (g : Logging) (s : State) (d : Device) (k : ℕ) (d0 : Device)
    (k0 : ℕ) (x0 : Due) where
  abbrev z : Sizes
  z = image.parts.sizes

  abbrev Left : ℕ → Type 0
  Left m = DueLeads d k (due image a m g s d.cache) d0 k0 x0

  abbrev heap : Words
  heap = heap_in image.parts.sizes d.cache

  abbrev taken : Turn
  taken = turn_of image g s (heap_in image.parts.sizes d.cache)

  abbrev rest : List Effect → Logging → State → Due
  rest es h t = due image a (m - 1) h t (played image.parts.sizes a g d.cache es)

  abbrev Opened : Turn → Type 0
  Opened u = DueLeads d k (owing image.parts.sizes a g (heap_in image.parts.sizes d.cache) rest u)
      d0 k0 x0

  -- m isn't 0
  opened : 0 < m → Left m → Opened taken
  opened some h =
      let e : m ≡ suc (m - 1) = omega arith in
      subst Left e h

  pub leads_did : (g1 : Logging) (t : State) (b : Device) (k1 : ℕ) →
      IsTurn went.On g1 t taken → PlaysAll d (due_step image a g s d.cache) b → k1 ≡ k + 1 → 0 < m
      → Left m → DueLeads b k1 (due image a (m - 1) g1 t b.cache) d0 k0 x0 × (b.on ≡ d.on)
  leads_did g1 t b k1 is all tick some h = go taken is all (opened some h)
    where
      go : (u : Turn) → IsTurn went.On g1 t u
          → PlaysAll d (turn_events image.parts.sizes a g (heap_in image.parts.sizes d.cache) u) b
          → Opened u
          → DueLeads b k1 (due image a (m - 1) g1 t b.cache) d0 k0 x0 × (b.on ≡ d.on)
      go (Stops end) is all l = absurd is
      go (Plays es h u) is all l =
          let events : List CacheEvent = events_all image.parts.sizes a g.count heap es in (
            subst (λ (c : Cache). DueLeads b k1 (due image a (m - 1) g1 t c) d0 k0 x0)
                (sym (all_cache events d b all))
                (subst (λ (i : ℕ). DueLeads b i (due image a (m - 1) g1 t (play d.cache events))
                d0 k0 x0) (sym tick)
                (subst (λ (g2 : Logging). DueLeads b (k + 1)
                (due image a (m - 1) g2 t (play d.cache events)) d0 k0 x0) (sym is.0)
                (subst (λ (v : State). DueLeads b (k + 1)
                (due image a (m - 1) h v (play d.cache events)) d0 k0 x0) (sym is.1)
                (leads_next d k events (rest es h u) d0 k0 x0 b all l)))),
            all_on events d b all,
          )

  pub leads_ended : (end : End) (g1 : Logging) (t : State) (b : Device) (k1 : ℕ) →
      IsTurn (went.Ended end) g1 t taken → PlaysAll d (due_step image a g s d.cache) b
      → k1 ≡ k + 1 → 0 < m → Left m →
      (x0.fate ≡ Some end) × PlaysAll d0 x0.events b × (k1 ≡ k0 + x0.steps)
      × (x0.records ≡ g.count)
  leads_ended end g1 t b k1 is all tick some h = go taken is all (opened some h)
    where
      go : (u : Turn) → IsTurn (went.Ended end) g1 t u
          → PlaysAll d (turn_events image.parts.sizes a g (heap_in image.parts.sizes d.cache) u) b
          → Opened u
          → (x0.fate ≡ Some end) × PlaysAll d0 x0.events b × (k1 ≡ k0 + x0.steps)
          × (x0.records ≡ g.count)
      go (Plays es h u) is all l = absurd is
      go (Stops q) is all l =
          let same : k + 1 ≡ k0 + x0.steps = l.steps in
          (sym l.fate ∙ ap Some (sym is), l.whole b all, tick ∙ same, sym l.records)

  -- a step without an event
  pub leads_silent : (code : List Op) (t : State) (k1 : ℕ)
      → code ≡ code_of image.parts.functions s.top.function
      → GoesSilently t (execute image (heap_in image.parts.sizes d.cache) s
      (slice_get code s.top.place)) → k1 ≡ k + 1 → 0 < m → Left m
      → DueLeads d k1 (due image a (m - 1) g t d.cache) d0 k0 x0
  leads_silent code t k1 is silent tick some h =
      go (execute image heap s (slice_get code s.top.place))
      (ap (execute image heap s) (fetched image s code is)) silent
    where
      turned : (o : StepOutcome) → o ≡ step image s heap → turn z.records g o ≡ taken
      turned o same = ap (turn z.records g) same

      go : (o : StepOutcome) → o ≡ step image s heap → GoesSilently t o
          → DueLeads d k1 (due image a (m - 1) g t d.cache) d0 k0 x0
      go (Goes Quiet u) same silent =
          (leads_did g t d k1
          (subst (IsTurn went.On g t) (turned (Goes Quiet u) same) (refl, silent))
          (subst (λ (v : Turn). PlaysAll d (turn_events z a g heap v) d)
          (turned (Goes Quiet u) same) refl)
          tick some h).0
      go (Goes (Loads w) u) same silent =
          (leads_did g t d k1
          (subst (IsTurn went.On g t) (turned (Goes (Loads w) u) same) (refl, silent))
          (subst (λ (v : Turn). PlaysAll d (turn_events z a g heap v) d)
          (turned (Goes (Loads w) u) same) refl)
          tick some h).0
      go (Goes (Scans w apart l) u) same silent = absurd silent
      go (Goes (Stores w x) u) same silent = absurd silent
      go (Goes (Logs w) u) same silent = absurd silent
      go (Goes (Flushes l) u) same silent = absurd silent
      go (Goes Fences u) same silent = absurd silent
      go (Ends end) same silent = absurd silent

  -- no step is left
  pub leads_over : m ≡ 0 → Left m → (x0.fate ≡ None) × PlaysAll d0 x0.events d × (k ≡ k0 + x0.steps)
      × (x0.records ≡ g.count)
  leads_over none h =
      let l = subst Left none h in
      let same : k + 0 ≡ k0 + x0.steps = l.steps in
      (sym l.fate, l.whole d refl, omega arith, sym l.records)

  pub leads_refused : (why : Refusal) (b : Device) (k1 : ℕ)
      → PlaysPart why d (due_step image a g s d.cache) b
      → k1 ≡ k + 1 → 0 < m → Left m →
      PlaysPart why d0 x0.events b × (k1 ≤ k0 + x0.steps)
  leads_refused why b k1 part tick some h = go taken part (opened some h)
    where
      go : (u : Turn)
          → PlaysPart why d (turn_events image.parts.sizes a g (heap_in image.parts.sizes d.cache)
          u) b → Opened u → PlaysPart why d0 x0.events b × (k1 ≤ k0 + x0.steps)
      go (Plays es h t) part l = (
        l.part why b (part_left (events_all image.parts.sizes a g.count heap es)
            (rest es h t).events
            why d b part),
        let q = l.steps in omega arith,
      )
      go (Stops end) part l = absurd part
