-- A compiled program agrees with its source.
use Rattle.std.proofs.Common.{◌≡◌, ℕ, zero, suc, ◌+◌, ◌-◌, ◌*◌, ◌<◌, ◌≤◌, ◌^◌, ℤ, Bool, true}
use Rattle.std.proofs.Common.{false, List, [], ◌∷◌, ◌++◌, length, Option, Some, None, refl, sym, ap}
use Rattle.std.proofs.Common.{◌∙◌, subst, arith, ⊎_elim}
use Rattle.std.specs.Option.{option_map_or}
use Rattle.std.specs.Prelude.{slice_get, option_map, if◌then◌else◌, Ok}
use Rattle.std.proofs.lemmas.List.{length-map}
use Rattle.std.proofs.lemmas.Option.{slice_get-map, slice_get_within, none-some}
use Rattle.cache_model.specs.Cache.{Words}
use Rattle.pool_layout.proofs.Apart.{same_heap_place}
use Rattle.pool_layout.specs.declared.limits.Sizes.{Sizes}
use Rattle.pool_map.specs.PoolFits.{words_of}
use Rattle.pool_map.specs.PoolMap.{PoolMap}
use Rattle.nvm_base.specs.Wrap.{IsWord}
use Rattle.nvm_base.proofs.Lists.{all_at}
use Rattle.c_lexer.specs.TokenList.{Tokens}
use Rattle.c_tree.specs.ItemTree.{FunctionTree}
use Rattle.c_tree.specs.Program as parser
use Rattle.c_types.specs.Tables.{Tables, tables_of}
use Rattle.c_types.specs.Shapes.{shapes_of, transactions_in}
use Rattle.c_types.specs.Looking.{storing}
use Rattle.c_meaning.specs.Meaning.{Out, Got, Stops, function_value, calls_of}
use Rattle.c_meaning.specs.Transaction.{Outcome, outcome, run_transaction}
use Rattle.ir.specs.declared.instruction.Target.{Target}
use Rattle.ir.specs.declared.instruction.Instruction.{Instruction}
use Rattle.ir.specs.declared.instruction.Instruction.TheVariants.{Const, Copy, Bin, Jump, Branch}
use Rattle.ir.specs.declared.instruction.Instruction.TheVariants.{Load, Store, New, Free, Call}
use Rattle.ir.specs.declared.instruction.Instruction.TheVariants.{Return, Tick, Trap, Log}
use Rattle.ir.specs.declared.function.IrFunction.{IrFunction}
use Rattle.ir.specs.declared.function.Ir.{Ir}
use Rattle.ir.specs.declared.site.Site.{Site}
use Rattle.ir.specs.Clobber.{IsLogged}
use Rattle.ir.specs.Places.{IsTransaction}
use Rattle.ir.specs.Short.{IsShort}
use Rattle.ir.specs.WellFormed.{IsFunction, IsWellFormed}
use Rattle.lower.specs.Program.{lowered_function, lowered}
use Rattle.lower_law.specs.Law as lower
use Rattle.lower_law.proofs.Laws as lowering
use Rattle.lower_law.proofs.runs.Functions.{whole_le}
use Rattle.code_meaning.specs.Calls.{CallsNoTransaction}
use Rattle.code_meaning.specs.Constants.{HasWordConstants}
use Rattle.code_meaning.specs.Whole.{whole}
use Rattle.tree_law.proofs.sizes.ProgramShort.{allowed}
use Rattle.tree_law.proofs.checked.Laws.{shapes, calls, limits, constants, logs}
use Rattle.tree_law.proofs.checked.Tokens.{left_few}
use Rattle.clobber_pass.specs.declared.marking.MarkTable.{MarkTable}
use Rattle.clobber_pass.specs.Logged as table
use Rattle.instrument.specs.Insert.{flagged, led, logged_function, logged_program}
use Rattle.instrument.proofs.LoggedCode.{answer_well_formed, functions_length}
use Rattle.log_law.specs.inserted.Law.{HasResult}
use Rattle.log_law.specs.inserted.Moved.{places_of}
use Rattle.log_law.proofs.inserted.Standing.{function_at}
use Rattle.log_law.proofs.inserted.Origins.{origin}
use Rattle.code_meaning.specs.Code.{CodeEnd, code_start, exec}
use Rattle.code_meaning.specs.Code.{load_spot}
use Rattle.code_meaning.specs.Code as code
use Rattle.code_meaning.specs.Deeds.{Deed}
use Rattle.code_meaning.proofs.Registers.{register_at-is}
use Rattle.pm_machine.specs.declared.effect.End as machine_end
use Rattle.pm_machine.specs.declared.image.ImageParts.{ImageParts}
use Rattle.pm_machine.specs.declared.op.TxEntry.{TxEntry}
use Rattle.pm_machine.specs.Effects.{heap_end}
use Rattle.codegen.specs.Emit.{txs_from}
use Rattle.rules_law.proofs.rules.Storing.{storing_settled}
use Rattle.look_law.specs.Code.{looking_by}
use Rattle.look_law.proofs.Compiled.{compiled_looks}
use Rattle.machine_law.specs.emitted.Standing.{HasRoom}
use Rattle.machine_law.specs.emitted.TidyCode.{HasCode}
use Rattle.machine_law.specs.pieces.Fits.{IsFit}
use Rattle.pool_layout.specs.Headers.{HasHeaders}
use Rattle.machine_law.specs.pieces.Stands.{Stands}
use Rattle.machine_law.specs.pieces.Words as words
use Rattle.machine_law.proofs.pieces.Kept.{stays_fit}
use Rattle.machine_law.proofs.pieces.Piece.{piece_does}
use Rattle.machine_law.proofs.pieces.PoolIn.{pool_is, headers_are}
use Rattle.machine_law.proofs.pieces.Shown.{shown}
use Rattle.machine_law.proofs.pieces.WordState.{words_stay}
use Rattle.log_law.proofs.covered.Cover.{covered}
use Rattle.machine_law.specs.matching.Compiled.{IsCodeOf}
use Rattle.machine_law.specs.matching.Law.{KeepLaw}
use Rattle.machine_law.specs.matching.Match.{most}
use Rattle.machine_law.proofs.matching.Keep.{kept_all}
use Rattle.cnvm_session.specs.declared.program.Program.{Program}
use Rattle.cnvm_session.specs.Commands.{tx_parameters}
use Rattle.code_meaning.specs.Logged.{stores_in, TakeRecords}
use Rattle.session_law.specs.Source.{source_parameters, means, deeds_in, LogsBy}
use Rattle.session_law.specs.Source.{outcome_with, ComesBy, source_pool, HasSourceHeaders}
use Rattle.session_law.specs.Words.{AreWords, HasPoolWords}
use Rattle.session_law.specs.Agrees.{Matches, RunsAs, Agrees}
use Rattle.compiled_law.specs.inside.Runs.{EndsAs}
use Rattle.compiled_law.specs.inside.Records.{asked_of, fresh}
use Rattle.compiled_law.specs.Law.{IsCompiledFrom, CompiledLaw, ComesLaw}
use Rattle.compiled_law.proofs.Looking.{named_const, only_looks}
use Rattle.compiled_law.proofs.Marked.{all_stores}
use Rattle.compiled_law.proofs.Recording.{they_take}
use Rattle.compiled_law.proofs.Entering.{code_of, parameters_same, entries_same, entry_is}
use Rattle.compiled_law.proofs.Numbers.{all_below, logged_long}
use Rattle.compiled_law.proofs.Numbers.{is_pool, enough_steps}
use Rattle.compiled_law.proofs.Room.{has_room_for}
use Rattle.compiled_law.proofs.Widths.{fits_slot}
use Rattle.compiled_law.proofs.Sounding.{compiled_run}

-- an instruction of the code is the same one in the code with its logs
led_const : (table : List ℕ) (flag : Bool) (i : Instruction) (to : ℕ) (v : ℤ)
    → Const to v ≡ led table flag i → i ≡ Const to v
led_const table flag (Const t x) to v e = sym e
led_const table flag (Copy t from) to v e = absurd (cc)
led_const table flag (Bin o t a b) to v e = absurd (cc)
led_const table flag (Jump q) to v e = absurd (cc)
led_const table flag (Branch on q) to v e = absurd (cc)
led_const table flag (Load t x) to v e = absurd (cc)
led_const table flag (Store x from line) to v e = absurd (cc)
led_const table flag (New t kind fill line) to v e = absurd (cc)
led_const table flag (Free from kind line) to v e = absurd (cc)
led_const table flag (Call t g args) to v e = absurd (cc)
led_const table flag (Return from) to v e = absurd (cc)
led_const table flag Tick to v e = absurd (cc)
led_const table flag (Trap k) to v e = absurd (cc)
led_const table flag (Log x) to v e = absurd (cc)

led_call : (table : List ℕ) (flag : Bool) (i : Instruction) (to g : ℕ) (args : List ℕ)
    → Call to g args ≡ led table flag i → i ≡ Call to g args
led_call table flag (Call t h others) to g args e = sym e
led_call table flag (Const t x) to g args e = absurd (cc)
led_call table flag (Copy t from) to g args e = absurd (cc)
led_call table flag (Bin o t a b) to g args e = absurd (cc)
led_call table flag (Jump q) to g args e = absurd (cc)
led_call table flag (Branch on q) to g args e = absurd (cc)
led_call table flag (Load t x) to g args e = absurd (cc)
led_call table flag (Store x from line) to g args e = absurd (cc)
led_call table flag (New t kind fill line) to g args e = absurd (cc)
led_call table flag (Free from kind line) to g args e = absurd (cc)
led_call table flag (Return from) to g args e = absurd (cc)
led_call table flag Tick to g args e = absurd (cc)
led_call table flag (Trap k) to g args e = absurd (cc)
led_call table flag (Log x) to g args e = absurd (cc)

hold_words : (args : List ℤ) → AreWords args → words.HoldWords args
hold_words args are r = subst IsWord (sym (register_at-is args r)) (are r)

word_in : (w : PoolMap) → HasPoolWords w → (x : code.Spot) → IsWord (load_spot w x)
word_in w has (code.InRoot i) = has.root i
word_in w has (code.InSlot q i) = has.objects q i

have_words : (w : PoolMap) → length w.slots < 2 ^ 63 → HasPoolWords w → words.HasWords w
have_words w few has = record { word = word_in w has; slots = few }

words_had : (w : PoolMap) → words.HasWords w → HasPoolWords w
words_had w has = record {
  root = λ i. has.word (code.InRoot i);
  objects = λ q i.
      has.word (code.InSlot q i);
}

-- there are no more transactions than functions
txs_few : (k : ℕ) (us : List IrFunction) → length (txs_from k us) ≤ length us
txs_few k [] = omega arith
txs_few k (u ∷ us) = by_test u.tx (txs_few (k + 1) us)
  where
    by_test : (b : Bool) → length (txs_from (k + 1) us) ≤ length us
        → length ((if b then record { function = k; parameters = u.parameters } ∷ [] else [])
        ++ txs_from (k + 1) us) ≤ suc (length us)
    by_test true le = omega (arith, le)
    by_test false le = omega (arith, le)

one_less : (i : ℕ) → suc i - 1 ≡ i
one_less i = omega arith

done_end : (o : Out ℤ) → HasResult (lower.call_end o)
done_end (Got v w t) = tt
done_end (Stops stop) = tt

module _ (text : List ℕ) (list : Tokens) (program : Program)
    (c : IsCompiledFrom text list program) where
  abbrev marks : MarkTable
  marks = c.marks

  abbrev tree : parser.Program
  tree = program.typed

  abbrev t : Tables
  t = tables_of (parser.tree_of tree)

  abbrev plain : Ir
  plain = lowered tree

  abbrev L : Ir
  L = logged_program marks plain

  abbrev s : Sizes
  s = program.image.parts.sizes

  long : whole plain.functions ≤ 64 * length tree.lines + 256
  long = allowed tree list.tokens c.spelled c.lines

  few : length tree.lines ≤ 16384
  few =
      let same : length tree.lines ≡ length list.tokens = ap (λ (ls : List ℕ). length ls) c.lines
      ∙ length-map list.tokens (λ placed. placed.line) in
      omega (arith, same, left_few text list c.left)

  short : IsShort plain
  short = all_below (2 ^ 30) plain.functions (omega (arith, long, few))

  formed : IsWellFormed L
  formed = answer_well_formed {E = ℕ} marks plain (Ok L) c.formed short refl

  fit : IsFit s (shapes_of tree)
  fit = record {
    pool = is_pool s;
    root = sym c.root;
    short = λ k shape is.
        subst (λ (n : ℕ). words_of shape.fields < n) (sym c.width)
        (fits_slot (shapes_of tree).structs k shape is
        ((shapes tree c.checked).short k shape is));
    few = (shapes tree c.checked).few;
  }

  functions_few : length L.functions < 2 ^ 32
  functions_few =
      omega (arith, functions_length marks 0 plain.functions, (limits tree c.checked).few)

  source_few : length t.functions < 2 ^ 32
  source_few =
      let same : length plain.functions ≡ length t.functions =
      length-map t.functions (lowered_function t tree) in
      omega (arith, same, (limits tree c.checked).few)

  has_code : HasCode program.image s L
  has_code = record {
    functions = ap (λ (p : ImageParts). p.functions) c.made;
    txs = ap (λ (p : ImageParts). p.txs) c.made;
  }

  found_logged : (f : ℕ) (v : IrFunction) → slice_get L.functions f ≡ Some v → (u : IrFunction)
      × (slice_get plain.functions f ≡ Some u) × (v ≡ logged_function marks f u)
  found_logged f v e = by_option (slice_get plain.functions f) refl
      (sym (function_at marks 0 plain.functions f) ∙ e)
    where
      by_option : (o : Option IrFunction) → slice_get plain.functions f ≡ o
          → option_map (logged_function marks (0 + f)) o ≡ Some v → (u : IrFunction)
          × (slice_get plain.functions f ≡ Some u) × (v ≡ logged_function marks f u)
      by_option None found h = absurd (cc)
      by_option (Some u) found h =
          let same : logged_function marks (0 + f) u ≡ v = cc in
          let zero_f : 0 + f ≡ f = omega arith in
          (u, found, sym same ∙ ap (λ (n : ℕ). logged_function marks n u) zero_f)

  room : (f : ℕ) (v : IrFunction) → slice_get L.functions f ≡ Some v → HasRoom s L.shapes v
  room f v e =
      let u = found_logged f v e in
      let registers : v.registers ≡ u.0.registers = ap (λ (x : IrFunction). x.registers) u.2 in
      let code_long : length v.code ≤ 2 * length u.0.code =
      subst (λ (x : IrFunction). length x.code ≤ 2 * length u.0.code) (sym u.2)
      (logged_long marks f u.0.code) in
      let part = whole_le plain.functions f u.0 u.1 in
      has_room_for s L v (all_at (IsFunction L) L.functions f v formed.1 e)
      (omega (
        arith,
        registers,
        (limits tree c.checked).registers f u.0 u.1,
        (limits tree c.checked).parameters f u.0 u.1,
        part,
        long,
        few,
      ))
      (omega (arith, code_long, part, long, few))

  calls_logged : CallsNoTransaction L.functions
  calls_logged f p to g args v call found =
      let v_is = found_logged g v found in
      ⊎_elim (λ log. absurd (no_log to g args log.1 log.4))
      (λ from. let i : from.1 ≡ Call to g args = led_call
      (places_of marks plain.functions f) (flagged marks f from.0 from.1) from.1 to g args from.5 in
      ap (λ (x : IrFunction). x.tx) v_is.2 ∙ calls tree c.checked f from.0 to g args v_is.0
      (from.2 ∙ ap (λ (x : Instruction). Some x) i) v_is.1)
      (origin marks plain f p (Call to g args) call)
    where
      no_log : (to g : ℕ) (args : List ℕ) (x : Target) → Call to g args ≡ Log x → ⊥
      no_log to g args x e = cc

  constants_plain : HasWordConstants plain.functions
  constants_plain = constants text list tree c.left c.spelled

  constants_logged : HasWordConstants L.functions
  constants_logged f p to v e =
      ⊎_elim (λ log. absurd (no_log to v log.1 log.4))
      (λ from. let i : from.1 ≡ Const to v = led_const
      (places_of marks plain.functions f) (flagged marks f from.0 from.1) from.1 to v from.5 in
      constants_plain f from.0 to v (from.2 ∙ ap (λ (x : Instruction). Some x) i))
      (origin marks plain f p (Const to v) e)
    where
      no_log : (to : ℕ) (v : ℤ) (x : Target) → Const to v ≡ Log x → ⊥
      no_log to v x e = cc

  is_compiled : IsCodeOf program.image L
  is_compiled = record {
    code = has_code;
    well = formed;
    room = room;
    calls = calls_logged;
    constants = constants_logged;
    fits = fit;
  }

  -- the image's transactions are those of the code with its logs
  txs_are : program.image.parts.txs ≡ txs_from 0 (code_of marks t tree 0 t.functions)
  txs_are = has_code.txs

  parameters_are : (tx : ℕ) → tx_parameters program.image tx ≡ source_parameters program tx
  parameters_are zero = refl
  parameters_are (suc i) =
      ap (λ (es : List TxEntry). option_map (λ (e : TxEntry). e.parameters) (slice_get es i))
      txs_are
      ∙ parameters_same marks t tree 0 0 t.functions i

  keep : KeepLaw
  keep = kept_all piece_does stays_fit shown words_stay

  -- how a run matches its outcome, from what the code does
  matched : (o : Out ℤ) (end : machine_end.End) (h : Words)
      → EndsAs program.image L (lower.call_end o) end h → Matches program (outcome o) end h
  matched (Got v w k) end h e =
      let head = headers_are s (shapes_of tree) h w fit e.2 e.1 in
      let pool : source_pool program h ≡ w = sym head.1 in
      subst (λ (x : machine_end.End). Matches program (outcome (Got v w k)) x h) (sym e.0)
      (refl, head.0, pool, words_had w e.3)
  matched (Stops stop) end h e =
      subst (λ (x : machine_end.End). Matches program (outcome (Stops stop)) x h) (sym e) refl

  -- each site for which the walks call is marked
  all_marked : (a : Site) → IsLogged plain.functions a → table.is_logged marks a ≡ true
  all_marked a logged = (c.exact a).1 logged

  -- what the run of a function does; nothing if there is none
  abbrev deeds_by : PoolMap → List ℤ → Option ℕ → List Deed
  deeds_by w args o = option_map_or (deeds_in plain s.ticks w args) o []

  -- the number of words that take a record in it
  abbrev number_by : Bool → PoolMap → List ℤ → Option ℕ → ℕ
  number_by r w args o = fresh [] (asked_of r (table.is_logged marks) s (deeds_by w args o))

  takes_by : (r : Bool) (w : PoolMap) (args : List ℤ) (o : Option ℕ) →
      TakeRecords r plain.functions [] (stores_in s (deeds_by w args o)) (number_by r w args o)
  takes_by r w args None = refl
  takes_by r w args (Some g) =
      they_take marks plain c.exact r s (deeds_in plain s.ticks w args g)
      (all_stores plain ((s.ticks + 1) * whole plain.functions) (code_start g args w s.ticks)) []

  pub comes : (marked : Bool) (w : PoolMap) (tx : ℕ) (args : List ℤ) →
      (logged : ℕ) × (o : Outcome) × ComesBy marked program w tx args logged o
  comes marked w tx args =
      let number : ℕ = number_by marked w args (lower.entry_in tx plain.functions) in (
        number,
        outcome_with program w tx args number,
        record { logs = takes_by marked w args (lower.entry_in tx plain.functions); is = refl },
      )

  -- those of the run of a transaction that the image has
  counted : (i : ℕ) (args : List ℤ) (w : PoolMap) (entry : TxEntry) →
      slice_get program.image.parts.txs i ≡ Some entry → (r : Bool) →
      LogsBy r program w (suc i) args (number_by r w args (Some entry.function))
  counted i args w entry found r =
      let function : slice_get (lower.entries_from 0 plain.functions) i ≡ Some entry.function =
      sym (entries_same marks t tree 0 0 t.functions i)
      ∙ ap (λ (es : List TxEntry). option_map (λ (e : TxEntry). e.function) (slice_get es i))
      (sym txs_are) ∙ ap (option_map (λ (e : TxEntry). e.function)) found in
      subst (λ (o : Option ℕ). TakeRecords r plain.functions [] (stores_in s (deeds_by w args o))
      (number_by r w args (Some entry.function))) (sym function)
      (takes_by r w args (Some entry.function))

  runs : (h : Words) (tx : ℕ) (args : List ℤ) → HasSourceHeaders program h
      → HasPoolWords (source_pool program h) → AreWords args
      → tx_parameters program.image tx ≡ Some (length args)
      → RunsAs program h tx args
  runs h zero args head pool are takes = absurd (cc)
  runs h (suc i) args head pool are takes =
      by_entry (slice_get program.image.parts.txs i) refl
    where
      by_entry : (o : Option TxEntry) → slice_get program.image.parts.txs i ≡ o
          → RunsAs program h (suc i) args
      by_entry None found = absurd (none-some (length args)
          (sym (ap (option_map (λ (e : TxEntry). e.parameters)) found) ∙ takes))
      by_entry (Some entry) found =
          let e = entry_is marks t tree 0 0 t.functions i entry
          (sym (ap (λ (es : List TxEntry). slice_get es i) txs_are) ∙ found) in
          let g : ℕ = e.g in
          let function : entry.function ≡ g = e.function ∙ (let z : 0 + g ≡ g = omega arith in z) in
          let n : ℕ = s.ticks in
          let k : ℕ = (n + 1) * whole plain.functions in
          let valid : HasHeaders s (length (shapes_of tree).structs) h = head in
          let stood = pool_is s (shapes_of tree) h fit valid in
          let w : PoolMap = source_pool program h in
          let stands : Stands s h w = stood.0 in
          let slots_few : length w.slots < 2 ^ 63 = omega (arith, stands.slots, s.slots_fit.1) in
          let o : Out ℤ = function_value t (calls_of t 255) e.f args w n in
          let ends : exec plain k (code_start entry.function args w n) ≡ lower.call_end o =
          ap (λ (x : ℕ). exec plain k (code_start x args w n)) function
          ∙ (lowering.lower tree c.checked).ends g e.f args w n e.found in
          let transaction_is : IsTransaction plain.functions entry.function = (
            lowered_function t tree e.f,
            ap (slice_get plain.functions) function ∙ slice_get-map (lowered_function t tree)
                t.functions g ∙ ap (option_map (lowered_function t tree)) e.found,
            e.marked,
          ) in
          let enough : 2 * k * most s ≤ program.image.parts.most =
          subst (λ (x : ℕ). 2 * k * most s ≤ x)
          (sym (ap (λ (p : ImageParts). p.most) c.made))
          (enough_steps s (length tree.lines) (whole plain.functions) long) in
          let ran = compiled_run same_heap_place covered keep words_stay marks plain c.formed
          (lowering.parameters tree c.checked) all_marked constants_plain (logs tree c.checked)
          program.image is_compiled (suc i) entry
          (ap (slice_get program.image.parts.txs) (one_less i) ∙ found) transaction_is args h w
          (hold_words args are) (have_words w slots_few pool)
          stands stood.1 k program.image.parts.most
          (subst HasResult (sym ends) (done_end o)) enough in
          let means_is : means program w (suc i) args ≡ outcome o =
          ap (λ (x : Option FunctionTree). outcome (run_transaction t x w args n)) e.named in
          record {
            end = ran.end;
            effects = ran.effects;
            ran = ran.is;
            sound = ran.sound;
            matches = subst (λ (x : Outcome). Matches program x ran.end (heap_end h ran.effects))
                (sym means_is) (matched o ran.end (heap_end h ran.effects)
                (subst (λ (x : CodeEnd). EndsAs program.image L x ran.end (heap_end h ran.effects))
                ends ran.ends));
            logs = λ r. subst (LogsBy r program w (suc i) args) (sym (ran.records r))
                (counted i args w entry found r);
            looks = λ is. compiled_looks program.image s tree marks (storing t)
                program.image.parts.most h (suc i) entry args ran.end ran.effects
                has_code.functions (storing_settled t) source_few
                (ap (slice_get program.image.parts.txs) (one_less i) ∙ found)
                (subst (λ (n : ℕ). looking_by (storing t) n ≡ true) (sym function)
                (only_looks tree g e.f c.checked e.found
                (named_const (slice_get (transactions_in t.functions) i) e.f e.named is))) ran.is;
          }

  few_are : (tx n : ℕ) → tx_parameters program.image tx ≡ Some n → (tx < 2 ^ 63) × (n ≤ 22)
  few_are zero n takes = absurd (cc)
  few_are (suc i) n takes = by_entry (slice_get program.image.parts.txs i) refl
    where
      by_entry : (o : Option TxEntry) → slice_get program.image.parts.txs i ≡ o → (suc i < 2 ^ 63)
          × (n ≤ 22)
      by_entry None found = absurd (none-some n
          (sym (ap (option_map (λ (e : TxEntry). e.parameters)) found) ∙ takes))
      by_entry (Some entry) found =
          let in_order : slice_get (txs_from 0 (code_of marks t tree 0 t.functions)) i
          ≡ Some entry = sym (ap (λ (es : List TxEntry). slice_get es i) txs_are) ∙ found in
          let e = entry_is marks t tree 0 0 t.functions i entry in_order in
          let taken : Some entry.parameters ≡ Some n =
          sym (ap (option_map (λ (e : TxEntry). e.parameters)) found) ∙ takes in
          let same : entry.parameters ≡ n = cc in
          let lowered_is : slice_get plain.functions e.g ≡ Some (lowered_function t tree e.f) =
          slice_get-map (lowered_function t tree) t.functions e.g
          ∙ ap (option_map (lowered_function t tree)) e.found in
          let inside = slice_get_within (txs_from 0 (code_of marks t tree 0 t.functions)) i entry
          in_order in (
            omega (arith, inside, txs_few 0 L.functions, functions_few),
            omega (
              arith,
              same,
              e.parameters,
              (limits tree c.checked).parameters e.g (lowered_function t tree e.f) lowered_is,
            ),
          )

  pub agrees : Agrees program
  agrees = record {
    root = fit.root;
    width = c.width;
    parameters = parameters_are;
    few = few_are;
    runs = runs;
  }

pub compiled : CompiledLaw
compiled = agrees

pub compiled_comes : ComesLaw
compiled_comes = comes
