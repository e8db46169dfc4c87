-- A new object: its piece does what the instruction does.
use Rattle.std.proofs.Common.{◌≡◌, ℕ, zero, suc, ◌+◌, ◌<◌, ◌≤◌, Bool, List, [], ◌∷◌, ◌++◌, length}
use Rattle.std.proofs.Common.{Option, None, Some, ℤ, pos, refl, sym, ap, ◌∙◌, subst, arith}
use Rattle.std.proofs.Common.{append_assoc, leb, ⊎_elim}
use Rattle.std.proofs.Common.{true, false}
use Rattle.std.specs.Prelude.{if◌then◌else◌, option_and_then}
use Rattle.std.specs.Option.{option_map_or}
use Rattle.std.proofs.lemmas.Bool.{lt-leb}
use Rattle.std.proofs.lemmas.Option.{slice_get_cases}
use Rattle.cache_model.specs.Cache.{Words}
use Rattle.cache_model.specs.Cache as cache
use Rattle.pool_layout.specs.declared.limits.Sizes.{Sizes}
use Rattle.pool_layout.specs.Sizes.{slot_words, slot_word}
use Rattle.pool_map.specs.declared.shapes.FieldShape.{FieldShape}
use Rattle.pool_map.specs.declared.shapes.StructShape.{StructShape}
use Rattle.pool_map.specs.declared.shapes.Shapes.{Shapes}
use Rattle.pool_map.specs.PoolFits.{PoolFits, words_of}
use Rattle.pool_map.specs.PoolMap.{PoolMap, least_free, new}
use Rattle.pool_map.proofs.Least.{least_free-some}
use Rattle.ir.specs.declared.site.Site.{Site}
use Rattle.ir.specs.WellFormed.{IsKind}
use Rattle.pool_map.specs.Checks.{new_at}
use Rattle.code_meaning.specs.Code.{Frame, Move, register_at, put_register, new_in}
use Rattle.code_meaning.specs.Code.{fields_of}
use Rattle.code_meaning.specs.Code as code
use Rattle.code_meaning.specs.Deeds.{Deed, Heads, zeros, deeds_new, site}
use Rattle.pm_machine.specs.declared.effect.Effect.{Effect}
use Rattle.pm_machine.specs.Effects.{heap_end}
use Rattle.pm_machine.specs.Find.{least}
use Rattle.pm_alloc.specs.declared.local.Local.{Local}
use Rattle.pm_alloc.specs.declared.local.Local.TheVariants.{Trap}
use Rattle.pm_alloc.specs.New.{wrote, world_after_new}
use Rattle.pm_alloc.specs.Pieces.{new_code}
use Rattle.pm_alloc.specs.Runs.{Goes, local_run}
use Rattle.pm_alloc.specs.LocalRun.{World, Loc, searched, local_step}
use Rattle.pm_alloc.specs.Free.{local_start}
use Rattle.pm_alloc.proofs.New.{NewRun, new_runs}
use Rattle.codegen.specs.Emit.{make_words, make_code}
use Rattle.codegen.specs.Fields.{words_from, room}
use Rattle.machine_law.specs.pieces.Stands.{Stands, header_word}
use Rattle.machine_law.specs.pieces.Fits.{IsFit}
use Rattle.machine_law.specs.pieces.Shows.{ShowsDeeds, done, heads}
use Rattle.machine_law.specs.pieces.Law.{onward}
use Rattle.machine_law.proofs.pieces.Shown.{heap_append, looks_heap, shown, onward_append}
use Rattle.machine_law.proofs.pieces.Comes.{comes, done_by}
use Rattle.machine_law.proofs.pieces.Stores.{store_effects, zero_effects, zeros_show, zeroed_is}
use Rattle.machine_law.proofs.pieces.Changes.{stands_new}
use Rattle.machine_law.proofs.pieces.Fields.{words_is}
use Rattle.machine_law.proofs.pieces.Locals.{written_is, Done}
use Rattle.machine_law.proofs.pieces.Looks.{number_of, looks_of, looks_show, least_is}

module _ (s : Sizes) (logged : Site → Bool) (shapes : Shapes) (f p : ℕ) (regs : List ℤ)
    (below : List Frame) (x : ℕ → ℤ) (v : World) (w : PoolMap) (fit : IsFit s shapes)
    (fits : PoolFits shapes w) (stands : Stands s v.heap w) where
  abbrev first : Loc
  first = local_start (register_at regs) x v

  abbrev Does_all : List Local → List Deed → Move → Type 0
  Does_all piece ds move = Done s logged shapes f p regs below x v w fit fits stands
      piece ds move

  module _ (to kind c : ℕ) (b : Bool) (marked : logged (site f p true) ≡ b)
      (short : c < slot_words s) where
    abbrev piece : List Local
    piece = new_code s to kind c b

    abbrev es : List Effect
    es = looks_of s v.heap

    shows : ShowsDeeds s logged [] es
    shows = looks_show s v.heap logged

    ran : NewRun s to kind c b (register_at regs) x v
    ran = new_runs s to kind c b (register_at regs) x v fit.pool short

    -- the end of the piece, with q as the result
    abbrev last : ℕ → World → Loc
    last q u = record {
      at = length piece;
      own = cache.put (register_at regs) to (pos q);
      temp = ran.temp;
      world = u;
    }

    run_is : (q : ℕ) → least s v.heap ≡ q → local_run (local_step s piece) ran.steps first
        ≡ Goes (last q (world_after_new s kind c b (searched s v) q))
    run_is q is =
        ran.run ∙ ap (λ (n : ℕ). Goes (last n (world_after_new s kind c b (searched s v) n))) is

    -- no slot is free
    none_left : least s v.heap ≡ 0 →
        Does_all piece [] (code.Goes (code.Here f (suc p) (put_register regs to (pos 0)) below
        w v.ticks))
    none_left is = (
      ran.steps,
      omega (arith, ran.few),
      done_by s logged piece ran.steps first v [] es (last 0) f (suc p)
          (put_register regs to (pos 0)) below w v.ticks
          (comes shows (run_is 0 is))
          (record {
            place = refl;
            temp = ran.eight;
            own = written_is regs to (pos 0);
            world = refl;
            stands = subst (λ (h : Words). Stands s h w)
                (sym (looks_heap s logged [] es v.heap shows refl)) stands;
          }),
    )

    -- slot q is free
    module _ (r : ℕ) (high : suc r ≤ length w.slots) (is : least s v.heap ≡ suc r) where
      abbrev q : ℕ
      q = suc r

      abbrev head : List Effect
      head = store_effects true (header_word s q) (pos kind)

      abbrev zeros_in : List Effect
      zeros_in = zero_effects s b q 0 c

      abbrev ds : List Deed
      ds = Heads (site f p false) q (pos kind) ∷ zeros (site f p true) q 0 c

      low : 1 ≤ q
      low = omega arith

      within : q ≤ s.slots
      within = omega (arith, stands.slots)

      all_shown : ShowsDeeds s logged ds ((es ++ head) ++ zeros_in)
      all_shown =
          shown s logged (Heads (site f p false) q (pos kind) ∷ []) (zeros (site f p true) q 0 c)
          (es ++ head) zeros_in
          (shown s logged [] (Heads (site f p false) q (pos kind) ∷ []) es head shows
          (heads (site f p false) q (pos kind) (low, within) done))
          (zeros_show s logged b q low within c 0 (site f p true) marked (omega arith))

      world_is : world_after_new s kind c b (searched s v) q
          ≡ onward v ((es ++ head) ++ zeros_in) v.ticks
      world_is =
          let u : World = wrote true (searched s v) (slot_word s q) (pos kind) in
          zeroed_is s logged b q low within c 0 (slot_word s q + 1) u (omega arith)
          ∙ onward_append v (es ++ head) zeros_in v.ticks v.ticks

      heap_is : heap_end v.heap ((es ++ head) ++ zeros_in) ≡ heap_end v.heap (head ++ zeros_in)
      heap_is = ap (heap_end v.heap) (append_assoc es head zeros_in)
          ∙ heap_append es (head ++ zeros_in) v.heap
          ∙ ap (λ (h : Words). heap_end h (head ++ zeros_in))
          (looks_heap s logged [] es v.heap shows refl)

      one_made : Does_all piece ds
          (code.Goes (code.Here f (suc p) (put_register regs to (pos q)) below
          (new w q kind c) v.ticks))
      one_made = (
        ran.steps,
        omega (arith, ran.few),
        done_by s logged piece ran.steps first v ds ((es ++ head) ++ zeros_in) (last q) f (suc p)
            (put_register regs to (pos q)) below (new w q kind c) v.ticks
            (comes all_shown (run_is q is ∙ ap (λ (u : World). Goes (last q u)) world_is))
            (record {
              place = refl;
              temp = ran.eight;
              own = written_is regs to (pos q);
              world = refl;
              stands = subst (λ (h : Words). Stands s h (new w q kind c)) (sym heap_is)
                  (stands_new s shapes v.heap w fit fits stands b q kind c (low, high) short);
            }),
      )

    by_free : (o : Option ℕ) → least_free w ≡ o →
        Does_all piece (deeds_new f p kind c o)
        (code.Goes (code.Here f (suc p) (put_register regs to (new_at w kind c o).0) below
        (new_at w kind c o).1 v.ticks))
    by_free None is = none_left (least_is s shapes v.heap w fits stands ∙ ap number_of is)
    by_free (Some zero) is = let slot = (least_free-some w 0 is).0 in absurd (omega (arith, slot.0))
    by_free (Some (suc r)) is = let slot = (least_free-some w (suc r) is).0 in
        one_made r slot.1 (least_is s shapes v.heap w fits stands ∙ ap number_of is)

    code_does : Does_all piece (deeds_new f p kind c (least_free w))
        (code.Goes (code.Here f (suc p) (put_register regs to (new_at w kind c (least_free w)).0)
        below (new_at w kind c (least_free w)).1 v.ticks))
    code_does = by_free (least_free w) refl

  pub new_does : (to kind : ℕ) (b : Bool) → IsKind shapes kind → logged (site f p true) ≡ b →
      Does_all (make_code s shapes to kind b)
      (deeds_new f p kind (words_of (fields_of shapes kind)) (least_free w))
      (code.Goes (code.Here f (suc p) (put_register regs to (new_in shapes w kind).0) below
      (new_in shapes w kind).1 v.ticks))
  new_does to zero b is marked = absurd (omega (arith, is.0))
  new_does to (suc k) b is marked = ⊎_elim
      (λ g. subst Made (sym g.2) (subst (λ (o : Option ℕ). Made_words o g.0)
      (sym (words_is (room s) 0 g.0.fields (omega (arith, fit.short k g.0 g.2))))
      (with_words g.0 (fit.short k g.0 g.2))))
      (λ g. absurd (omega (arith, is.1, g.0)))
      (slice_get_cases shapes.structs k).1
    where
      Made_words : Option ℕ → StructShape → Type 0
      Made_words o u = Does_all (make_words s to (suc k) b o)
          (deeds_new f p (suc k) (words_of u.fields) (least_free w))
          (code.Goes (code.Here f (suc p)
          (put_register regs to (new_at w (suc k) (words_of u.fields) (least_free w)).0) below
          (new_at w (suc k) (words_of u.fields) (least_free w)).1 v.ticks))

      fields_in : Option StructShape → List FieldShape
      fields_in o = option_map_or (λ (u : StructShape). u.fields) o []

      Made : Option StructShape → Type 0
      Made o = Does_all (make_words s to (suc k) b
          (option_and_then (λ (u : StructShape). words_from (room s) 0 u.fields) o))
          (deeds_new f p (suc k) (words_of (fields_in o)) (least_free w))
          (code.Goes (code.Here f (suc p)
          (put_register regs to (new_at w (suc k) (words_of (fields_in o)) (least_free w)).0) below
          (new_at w (suc k) (words_of (fields_in o)) (least_free w)).1 v.ticks))

      with_words : (u : StructShape) → words_of u.fields < slot_words s
          → Made_words (Some (0 + words_of u.fields)) u
      with_words u short =
          let zero_on : 0 + words_of u.fields ≡ words_of u.fields = omega arith in
          let test : leb (slot_words s) (words_of u.fields) ≡ false =
          lt-leb (slot_words s) (words_of u.fields) short in
          subst (λ (n : ℕ). Made_words (Some n) u) (sym zero_on)
          (subst (λ (t : Bool). Does_all (if t then Trap 2 ∷ []
          else new_code s to (suc k) (words_of u.fields) b)
          (deeds_new f p (suc k) (words_of u.fields) (least_free w))
          (code.Goes (code.Here f (suc p)
          (put_register regs to (new_at w (suc k) (words_of u.fields) (least_free w)).0) below
          (new_at w (suc k) (words_of u.fields) (least_free w)).1 v.ticks))) (sym test)
          (code_does to (suc k) (words_of u.fields) b marked short))
