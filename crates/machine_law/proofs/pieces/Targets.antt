-- The code of a target leads to the word that the target names, or traps as the code does.
use Rattle.std.proofs.Common.{◌≡◌, ℕ, zero, suc, ◌+◌, ◌*◌, ◌<◌, ◌≤◌, Bool, List, [], ◌∷◌, ◌++◌}
use Rattle.std.proofs.Common.{length, Option, None, Some, IfSome, Result, Ok, Err, ℤ, pos, refl}
use Rattle.std.proofs.Common.{sym, ap, ◌∙◌, subst, arith, mul_comm}
use Rattle.std.specs.Prelude.{◌+ℤ◌, slice_get, IsSomeAnd, option_map, option_and_then}
use Rattle.std.specs.Int.{w64, int_wrap}
use Rattle.std.specs.Option.{option_map_or}
use Rattle.pool_layout.specs.declared.limits.Sizes.{Sizes}
use Rattle.pool_layout.specs.Sizes.{slot_words, slot_word}
use Rattle.pool_map.specs.declared.object.Object.{Object}
use Rattle.pool_map.specs.declared.shapes.StructShape.{StructShape}
use Rattle.pool_map.specs.declared.shapes.Shapes.{Shapes}
use Rattle.pool_map.specs.declared.trap.TrapKind.{TrapKind}
use Rattle.pool_map.specs.Trap.{trap_number}
use Rattle.pool_map.specs.PoolFits.{PoolFits, ObjectFits, words_of, struct_at}
use Rattle.pool_map.specs.PoolMap.{PoolMap}
use Rattle.ir.specs.declared.site.Site.{Site}
use Rattle.ir.specs.declared.instruction.Target.{Target}
use Rattle.ir.specs.declared.instruction.Target.TheVariants.{Root, Field}
use Rattle.ir.specs.WellFormed.{IsIndexed, IsTarget, struct_of}
use Rattle.pool_map.specs.Checks.{then_on, element_in}
use Rattle.code_meaning.specs.Code.{Spot, InRoot, InSlot, register_at, slot_of}
use Rattle.code_meaning.specs.Code.{words_before, word_in_shape, spot_of, base_in, index_in}
use Rattle.pm_machine.specs.declared.effect.Effect.{Effect}
use Rattle.pm_alloc.specs.declared.local.Reg.TheVariants.{Temp}
use Rattle.pm_alloc.specs.declared.local.Local.{Local}
use Rattle.pm_alloc.specs.declared.local.Local.TheVariants.{Const}
use Rattle.pm_alloc.specs.Pieces.{offset, pointer_check, index_check}
use Rattle.pm_alloc.specs.Placing.{sum}
use Rattle.pm_alloc.specs.Runs.{Goes, Traps, local_run}
use Rattle.pm_alloc.specs.LocalRun.{World, local_step}
use Rattle.pm_alloc.specs.Free.{local_start}
use Rattle.pm_alloc.proofs.Runs.{run_on}
use Rattle.pm_alloc.proofs.Search.{address_is}
use Rattle.pm_alloc.proofs.Slots.{slot_few}
use Rattle.codegen.specs.declared.fields.Reach.{Reach}
use Rattle.codegen.specs.Fields.{reach, field_at, root_reach, room}
use Rattle.codegen.specs.Emit.{root_code, root_offset, object_code, object_offset, address_code}
use Rattle.codegen.specs.Emit.{address_offset}
use Rattle.machine_law.specs.pieces.Stands.{Stands, HasWord, heap_word}
use Rattle.machine_law.specs.pieces.Fits.{IsFit}
use Rattle.machine_law.specs.pieces.Shows.{ShowsDeeds, done}
use Rattle.machine_law.specs.pieces.Law.{onward}
use Rattle.pm_alloc.proofs.Fills.{Here}
use Rattle.machine_law.proofs.emitted.Placed.{sum_is}
use Rattle.machine_law.proofs.pieces.Addresses.{root_address}
use Rattle.machine_law.proofs.pieces.Changes.{object_fits}
use Rattle.machine_law.specs.pieces.Words.{HoldWords}
use Rattle.machine_law.proofs.pieces.Checks.{IsObject, rest_of, Pointed, pointer_runs, Indexes}
use Rattle.machine_law.proofs.pieces.Checks.{index_runs}
use Rattle.machine_law.proofs.pieces.Fields.{Reaches, word, element, reaches}

-- after the checks, whose length is n, temporary 0 plus the offset is the word's address
pub record IsReached (s : Sizes) (w : PoolMap) (piece : List Local) (own x : ℕ → ℤ) (v : World)
    (n : ℕ) (o : Option ℤ) (k : ℕ) (es : List Effect) (y : Spot) : Type 0 where
  pub has : HasWord w y
  pub a : ℤ
  pub t1 : ℤ
  pub t2 : ℤ
  pub path : local_run (local_step s piece) k (local_start own x v)
      ≡ Goes (record {
        at = n;
        own = own;
        temp = a ∷ t1 ∷ t2 ∷ rest_of x;
        world = onward v es v.ticks;
      })
  pub by : ℤ
  pub is : o ≡ Some by
  pub address : int_wrap w64 (a +ℤ by) ≡ pos (heap_word s y)

abbrev pub Leads : Sizes → PoolMap → List Local → (own x : ℕ → ℤ) → World → ℕ → Option ℤ → ℕ
    → List Effect → Result Spot TrapKind → Type 0
Leads s w piece own x v n o k es (Err e) = local_run (local_step s piece) k (local_start own x v)
    ≡ Traps (trap_number e) (onward v es v.ticks)
Leads s w piece own x v n o k es (Ok y) = IsReached s w piece own x v n o k es y

abbrev pub Led : Sizes → (Site → Bool) → PoolMap → List Local → (own x : ℕ → ℤ) → World → ℕ
    → Option ℤ → Result Spot TrapKind → Type 0
Led s logged w piece own x v n o r =
    (k : ℕ) × (k ≤ 16) × ((es : List Effect)
    × (ShowsDeeds s logged [] es × Leads s w piece own x v n o k es r))

pub struct_same : (shapes : Shapes) (kind : ℕ)
    → struct_at shapes.structs kind ≡ struct_of shapes kind
struct_same shapes zero = refl
struct_same shapes (suc k) = refl

pub short_of : (s : Sizes) (shapes : Shapes) (kind : ℕ) (u : StructShape) → IsFit s shapes
    → struct_of shapes kind ≡ Some u → words_of u.fields < slot_words s
short_of s shapes zero u fit e = absurd (cc)
short_of s shapes (suc k) u fit e = fit.short k u e

pub some_of : (shapes : Shapes) (kind : ℕ) (u : StructShape) → struct_of shapes kind ≡ Some u
    → 0 < kind
some_of shapes zero u e = absurd (cc)
some_of shapes (suc k) u e = omega arith

module _ (s : Sizes) (logged : Site → Bool) (shapes : Shapes) (regs : List ℤ) (x : ℕ → ℤ)
    (v : World) (w : PoolMap) (fit : IsFit s shapes) (fits : PoolFits shapes w)
    (stands : Stands s v.heap w) (words : HoldWords regs) where
  -- the root
  root_led : (f : ℕ) (index : Option ℕ) (o : Option Reach) (rest : List Local)
      → Reaches shapes.root f index o →
      Led s logged w (root_code o ++ rest) (register_at regs) x v (length (root_code o))
      (root_offset o) (then_on (word_in_shape shapes.root f (option_map (register_at regs) index))
      (λ i. Ok (InRoot i)))
  root_led f index o rest (word first is few) =
      let has : first < length w.root = let e = fits.0 in omega arith in
      let lines = fit.pool.lines in
      let sized = fit.root in
      let zero_on : 0 + first ≡ first = omega arith in
      let zero_by : first + 0 ≡ first = omega arith in
      subst (λ (i : ℕ). Led s logged w (root_code o ++ rest) (register_at regs) x v 1
      (Some (pos first)) (Ok (InRoot i))) (sym is) (
        1,
        omega arith,
        (
          [],
          (
            done,
            record {
              has = has;
              a = pos 0;
              t1 = x 1;
              t2 = x 2;
              path = refl;
              by = pos first;
              is = refl;
              address = root_address 0 first (omega arith) ∙ ap pos zero_by;
            },
          ),
        ),
      )
  root_led f index o rest (element i first len is long few) =
      subst (λ (n : ℕ). Led s logged w piece own x v 7 (Some (pos first))
      (then_on (then_on (element_in n (register_at regs i))
      (λ j. Ok (words_before f shapes.root + j))) (λ j. Ok (InRoot j)))) (sym long)
      (subst (λ (n : ℕ). Led s logged w piece own x v 7 (Some (pos first))
      (then_on (then_on (element_in len (register_at regs i)) (λ j. Ok (n + j)))
      (λ j. Ok (InRoot j)))) (sym is)
      (by (element_in len (register_at regs i))
      (index_runs s piece 1 i len here own v 0 (x 1) (x 2) (register_at regs i) (rest_of x)
      (omega (arith, fit.root, fit.pool.lines)) refl (words i))))
    where
      piece : List Local
      piece = Const (Temp 0) (pos 0) ∷ (index_check 1 i len ++ rest)

      own : ℕ → ℤ
      own = register_at regs

      here : Here piece 1 (index_check 1 i len)
      here = (refl, (refl, (refl, (refl, (refl, (refl, tt))))))

      first_step : local_run (local_step s piece) 1 (local_start own x v)
          ≡ Goes (record { at = 1; own = own; temp = pos 0 ∷ x 1 ∷ x 2 ∷ rest_of x; world = v })
      first_step = refl

      by : (r : Result ℕ TrapKind) → (n : ℕ) × (n ≤ 5) × Indexes s piece 1 i len here own v 0 n
          (x 1) (x 2) (rest_of x) r → Led s logged w piece own x v 7 (Some (pos first))
          (then_on (then_on r (λ j. Ok (first + j))) (λ j. Ok (InRoot j)))
      by (Err e) c = (
        1 + c.0,
        omega (arith, c.1),
        ([], (done, run_on (local_step s piece) 1 c.0 (local_start own x v) _ _ first_step c.2)),
      )
      by (Ok j) c =
          let less : j < len = c.2.0 in
          let sized = fits.0 in (
            1 + c.0,
            omega (arith, c.1),
            (
              [],
              (
                done,
                record {
                  has = omega arith;
                  a = pos (0 + j);
                  t1 = c.2.1.0;
                  t2 = c.2.1.1;
                  path = run_on (local_step s piece) 1 c.0 (local_start own x v) _ _
                      first_step c.2.1.2;
                  by = pos first;
                  is = refl;
                  address = root_address (0 + j) first (omega (arith, fit.root, fit.pool.lines))
                      ∙ ap pos (let e : first + (0 + j) ≡ first + j = omega arith in e);
                },
              ),
            ),
          )

  -- the object's words are those of its struct
  object_has : (kind q i : ℕ) (u : StructShape) → struct_of shapes kind ≡ Some u
      → IsObject s w kind q → i < words_of u.fields → HasWord w (InSlot q i)
  object_has kind q i u there is few =
      let fits_in : ObjectFits shapes.structs is.object =
      subst (λ (o : Option Object). IfSome o (ObjectFits shapes.structs)) is.is
      (object_fits shapes w q fits) in
      let at_kind : struct_at shapes.structs is.object.kind ≡ Some u =
      ap (struct_at shapes.structs) is.kind_is ∙ struct_same shapes kind ∙ there in
      let long : length is.object.fields ≡ words_of u.fields =
      subst (λ (o : Option StructShape).
      IsSomeAnd o (λ shape. length is.object.fields ≡ words_of shape.fields)) at_kind fits_in in
      subst (λ (o : Option Object). IsSomeAnd o (λ object. i < length object.fields)) (sym is.is)
      (omega arith)

  address_in : (q first i : ℕ) → 1 ≤ q → q ≤ s.slots → first + i + 1 < slot_words s
      → int_wrap w64 (pos (q * slot_words s + i) +ℤ offset s (sum first 1))
      ≡ pos (heap_word s (InSlot q (first + i)))
  address_in q first i low high few =
      let one : sum first 1 ≡ first + 1 = sum_is first 1 (omega arith) in
      let word : slot_word s q + (first + 1) + i ≡ heap_word s (InSlot q (first + i)) =
      omega arith in
      ap (λ (m : ℕ). int_wrap w64 (pos (q * slot_words s + i) +ℤ offset s m)) one
      ∙ address_is s q (q * slot_words s) i (first + 1) fit.pool (mul_comm q (slot_words s)) low
      high (omega arith) ∙ ap pos word

  module _ (p kind f : ℕ) (u : StructShape) (some : 0 < kind)
      (there : struct_of shapes kind ≡ Some u) where
    word_led : (first : ℕ) (rest : List Local) → first < words_of u.fields →
        Led s logged w (pointer_check s p kind ++ rest) (register_at regs) x v 12
        (Some (offset s (sum first 1)))
        (then_on (slot_of w kind (register_at regs p)) (λ q. Ok (InSlot q first)))
    word_led first rest few = by (slot_of w kind (register_at regs p))
        (pointer_runs s logged p kind rest (register_at regs) x v w some stands fit.pool
        (words p))
      where
        piece : List Local
        piece = pointer_check s p kind ++ rest

        by : (r : Result ℕ TrapKind) → Pointed s logged (pointer_check s p kind ++ rest)
            (register_at regs) x v w kind r
            → Led s logged w (pointer_check s p kind ++ rest) (register_at regs) x v 12
            (Some (offset s (sum first 1))) (then_on r (λ q. Ok (InSlot q first)))
        by (Err e) c = (c.0, omega (arith, c.1), c.2)
        by (Ok q) c =
            let obj = c.2.1.1.0 in
            let short = short_of s shapes kind u fit there in
            let base : q * slot_words s + 0 ≡ q * slot_words s = omega arith in
            let zero_on : first + 0 ≡ first = omega arith in (
              c.0,
              omega (arith, c.1),
              (
                c.2.0,
                (
                  c.2.1.0,
                  record {
                    has = object_has kind q first u there obj few;
                    a = pos (q * slot_words s);
                    t1 = c.2.1.1.1.0;
                    t2 = c.2.1.1.1.1;
                    path = c.2.1.1.1.2;
                    by = offset s (sum first 1);
                    is = refl;
                    address = ap (λ (m : ℕ). int_wrap w64 (pos m +ℤ offset s (sum first 1)))
                        (sym base) ∙ address_in q first 0 obj.low obj.high (omega arith)
                        ∙ ap (λ (m : ℕ). pos (heap_word s (InSlot q m))) zero_on;
                  },
                ),
              ),
            )

    element_led : (i first len : ℕ) (rest : List Local) → first + len ≤ words_of u.fields →
        Led s logged w (pointer_check s p kind ++ (index_check 12 i len ++ rest)) (register_at regs)
        x v 18 (Some (offset s (sum first 1)))
        (then_on (slot_of w kind (register_at regs p))
        (λ q. then_on (then_on (element_in len (register_at regs i)) (λ j. Ok (first + j)))
        (λ j. Ok (InSlot q j))))
    element_led i first len rest few =
        by (slot_of w kind (register_at regs p))
        (pointer_runs s logged p kind (index_check 12 i len ++ rest) (register_at regs) x v w some
        stands fit.pool (words p))
      where
        piece : List Local
        piece = pointer_check s p kind ++ (index_check 12 i len ++ rest)

        own : ℕ → ℤ
        own = register_at regs

        here : Here piece 12 (index_check 12 i len)
        here = (refl, (refl, (refl, (refl, (refl, (refl, tt))))))

        indexed : (q n : ℕ) (es : List Effect) (t1 t2 : ℤ) → n ≤ 11 → ShowsDeeds s logged [] es
            → IsObject s w kind q → local_run (local_step s piece) n (local_start own x v)
            ≡ Goes (record {
              at = 12;
              own = own;
              temp = pos (q * slot_words s) ∷ t1 ∷ t2 ∷ rest_of x;
              world = onward v es v.ticks;
            }) →
            (r : Result ℕ TrapKind) → (m : ℕ) × (m ≤ 5) × Indexes s piece 12 i len here own
            (onward v es v.ticks) (q * slot_words s) m t1 t2 (rest_of x) r
            → Led s logged w piece own x v 18 (Some (offset s (sum first 1)))
            (then_on (then_on r (λ j. Ok (first + j))) (λ j. Ok (InSlot q j)))
        indexed q n es t1 t2 small shows obj path (Err e) c = (
          n + c.0,
          omega (arith, c.1),
          (
            es,
            (shows, run_on (local_step s piece) n c.0 (local_start own x v) _ _ path c.2),
          ),
        )
        indexed q n es t1 t2 small shows obj path (Ok j) c =
            let less : j < len = c.2.0 in
            let short = short_of s shapes kind u fit there in (
              n + c.0,
              omega (arith, c.1),
              (
                es,
                (
                  shows,
                  record {
                    has = object_has kind q (first + j) u there obj (omega arith);
                    a = pos (q * slot_words s + j);
                    t1 = c.2.1.0;
                    t2 = c.2.1.1;
                    path = run_on (local_step s piece) n c.0 (local_start own x v) _ _ path c.2.1.2;
                    by = offset s (sum first 1);
                    is = refl;
                    address = address_in q first j obj.low obj.high (omega arith);
                  },
                ),
              ),
            )

        by : (r : Result ℕ TrapKind) → Pointed s logged piece own x v w kind r
            → Led s logged w piece own x v 18 (Some (offset s (sum first 1)))
            (then_on r (λ q. then_on (then_on (element_in len (register_at regs i))
            (λ j. Ok (first + j))) (λ j. Ok (InSlot q j))))
        by (Err e) c = (c.0, omega (arith, c.1), c.2)
        by (Ok q) c =
            let obj = c.2.1.1.0 in
            let short = short_of s shapes kind u fit there in
            indexed q c.0 c.2.0 c.2.1.1.1.0 c.2.1.1.1.1 c.1 c.2.1.0 obj c.2.1.1.1.2
            (element_in len (register_at regs i))
            (index_runs s piece 12 i len here own (onward v c.2.0 v.ticks) (q * slot_words s)
            c.2.1.1.1.0 c.2.1.1.1.1 (register_at regs i) (rest_of x)
            (omega (arith, mul_comm q (slot_words s), slot_few s q obj.high))
            refl (words i))

    field_led : (index : Option ℕ) (o : Option Reach) (rest : List Local)
        → Reaches u.fields f index o →
        Led s logged w (object_code s p kind o ++ rest) (register_at regs) x v
        (length (object_code s p kind o)) (object_offset s o)
        (then_on (slot_of w kind (register_at regs p))
        (λ q. then_on (word_in_shape u.fields f (option_map (register_at regs) index))
        (λ i. Ok (InSlot q i))))
    field_led index o rest (word first is few) =
        subst (λ (n : ℕ). Led s logged w (object_code s p kind o ++ rest) (register_at regs) x v 12
        (object_offset s o) (then_on (slot_of w kind (register_at regs p))
        (λ q. Ok (InSlot q n)))) (sym is)
        (word_led first rest few)
    field_led index o rest (element i first len is long few) =
        subst (λ (n : ℕ). Led s logged w (object_code s p kind o ++ rest) (register_at regs) x v 18
        (object_offset s o) (then_on (slot_of w kind (register_at regs p))
        (λ q. then_on (then_on (element_in n (register_at regs i))
        (λ j. Ok (words_before f u.fields + j))) (λ j. Ok (InSlot q j))))) (sym long)
        (subst (λ (n : ℕ). Led s logged w (object_code s p kind o ++ rest) (register_at regs) x v 18
        (object_offset s o) (then_on (slot_of w kind (register_at regs p))
        (λ q. then_on (then_on (element_in len (register_at regs i)) (λ j. Ok (n + j)))
        (λ j. Ok (InSlot q j))))) (sym is)
        (element_led i first len rest few))

  -- a target
  pub target_led : (r : ℕ) (y : Target) (rest : List Local) → IsTarget shapes r y →
      Led s logged w (address_code s shapes y ++ rest) (register_at regs) x v
      (length (address_code s shapes y)) (address_offset s shapes y)
      (spot_of shapes w y (base_in regs y) (index_in regs y))
  target_led r (Root f index) rest is =
      root_led f index (root_reach s shapes f index) rest
      (reaches r s.root_words shapes.root f index (omega (arith, fit.root)) is)
  target_led r (Field p kind f index) rest is =
      subst (λ (o : Option StructShape). FieldLed (reached_at o) (struct_of shapes kind))
      (sym (struct_same shapes kind)) (by (struct_of shapes kind) refl is.1)
    where
      reached_at : Option StructShape → Option Reach
      reached_at o =
          reach (option_and_then (λ (u : StructShape). field_at (room s) 0 u.fields f) o) index

      FieldLed : Option Reach → Option StructShape → Type 0
      FieldLed a o = Led s logged w (object_code s p kind a ++ rest) (register_at regs) x v
          (length (object_code s p kind a)) (object_offset s a)
          (then_on (slot_of w kind (register_at regs p))
          (λ q. then_on (word_in_shape (option_map_or (λ (u : StructShape). u.fields) o []) f
          (option_map (register_at regs) index)) (λ i. Ok (InSlot q i))))

      by : (o : Option StructShape) → struct_of shapes kind ≡ o
          → IsIndexed r (option_and_then (λ (u : StructShape). slice_get u.fields f) o) index
          → FieldLed (reached_at o) o
      by None e is = absurd is
      by (Some u) e is = field_led p kind f u (some_of shapes kind u e) e index
          (reached_at (Some u)) rest (reaches r (room s) u.fields f index
          (omega (arith, short_of s shapes kind u fit e)) is)
