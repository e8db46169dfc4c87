-- The machine's run of a compiled transaction is sound, and ends as its code does.
use Rattle.std.proofs.Common.{◌≡◌, ℕ, zero, suc, ◌*◌, ◌-◌, ◌≤◌, Bool, ℤ, true}
use Rattle.std.proofs.Common.{List, [], Some, refl, subst}
use Rattle.std.specs.Prelude.{slice_get}
use Rattle.cache_model.specs.Cache.{Words}
use Rattle.pool_map.specs.PoolFits.{PoolFits}
use Rattle.pool_map.specs.PoolMap.{PoolMap}
use Rattle.pool_layout.specs.Places.{HeapApart}
use Rattle.ir.specs.declared.function.Ir.{Ir}
use Rattle.ir.specs.declared.site.Site.{Site}
use Rattle.ir.specs.Clobber.{IsLogged}
use Rattle.ir.specs.declared.instruction.Target.{Target}
use Rattle.ir.specs.declared.instruction.Instruction.TheVariants.{Log}
use Rattle.ir.specs.Places.{instruction_at, IsTransaction}
use Rattle.ir.specs.WellFormed.{IsWellFormed}
use Rattle.clobber_pass.specs.declared.marking.MarkTable.{MarkTable}
use Rattle.clobber_pass.specs.Logged as table
use Rattle.instrument.specs.Insert.{logged_program}
use Rattle.code_meaning.specs.Code.{Spot, code_start, exec}
use Rattle.code_meaning.specs.Code as code
use Rattle.code_meaning.specs.Deeds.{Deed, deeds}
use Rattle.code_meaning.specs.Constants.{HasWordConstants}
use Rattle.code_meaning.specs.Parameters.{KeepsParameters}
use Rattle.log_law.specs.inserted.Law.{HasResult}
use Rattle.log_law.proofs.inserted.Follows.{same_end, same_deeds}
use Rattle.log_law.specs.covered.Covered.{IsInput, FirstStore}
use Rattle.log_law.specs.covered.Law.{CoverLaw}
use Rattle.pm_machine.specs.declared.effect.Effect.{Effect}
use Rattle.pm_machine.specs.declared.effect.End.{End}
use Rattle.pm_machine.specs.declared.effect.End.TheVariants.{Halted, Trapped}
use Rattle.pm_machine.specs.declared.image.Image.{Image}
use Rattle.pm_machine.specs.declared.op.TxEntry.{TxEntry}
use Rattle.pm_machine.specs.Machine.{Finished, mrun}
use Rattle.pm_machine.specs.Machine as machine
use Rattle.pm_machine.specs.Effects.{heap_end}
use Rattle.pm_machine.specs.Logging.{blank, takes}
use Rattle.pm_machine.proofs.Fuel.{more_fuel}
use Rattle.cnvm_session.specs.Marks.{policy_of}
use Rattle.machine_law.proofs.emitted.SoundRun.{sound_run}
use Rattle.machine_law.specs.pieces.Stands.{Stands}
use Rattle.machine_law.specs.pieces.Words.{HoldWords, HasWords, IsWordState, IsWordEnd, IsWordMove}
use Rattle.machine_law.specs.pieces.Words.{WordsLaw}
use Rattle.machine_law.specs.pieces.Shows.{ShowsDeeds}
use Rattle.machine_law.specs.matching.Accesses.{accesses}
use Rattle.machine_law.specs.matching.Compiled.{IsCodeOf, is_logged_in_code}
use Rattle.machine_law.specs.matching.Law.{RunMatches, KeepLaw}
use Rattle.machine_law.specs.matching.Match.{most}
use Rattle.compiled_law.specs.inside.Records.{asked_of, fresh}
use Rattle.compiled_law.specs.inside.Runs.{EndsAs, RunIs}
use Rattle.compiled_law.proofs.Recording.{records_are}
use Rattle.compiled_law.proofs.Covering.{covered_run}
use Rattle.compiled_law.proofs.Marked.{inputs_logged}

module _ (apart : HeapApart) (image : Image) (L : Ir) (compiled : IsCodeOf image L) (tx : ℕ)
    (entry : TxEntry) (found : slice_get image.parts.txs (tx - 1) ≡ Some entry) (args : List ℤ)
    (heap : Words) (m : ℕ) (ds : List Deed) (need : (x : Spot) (a : Site) → IsInput ds x
    → FirstStore ds x a → is_logged_in_code L a ≡ true)
    (n : Bool → ℕ) (count : (r : Bool) (es : List Effect)
    → ShowsDeeds image.parts.sizes (is_logged_in_code L) ds (accesses es)
    → takes (blank (policy_of r)) es ≡ n r) where
  run_with : (e : code.CodeEnd) (end : End) (es : List Effect)
      → mrun image m heap tx args ≡ Finished end es
      → ShowsDeeds image.parts.sizes (is_logged_in_code L) ds (accesses es)
      → EndsAs image L e end (heap_end heap es)
      → RunIs image L heap e n (mrun image m heap tx args)
  run_with e end es is shows ends =
      let shape = sound_run image image.parts.sizes L m heap tx entry args end es compiled.code
      found is in
      record {
        end = end;
        effects = es;
        is = is;
        sound = record {
          covered = covered_run apart image.parts.sizes (is_logged_in_code L) ds es shows need;
          paired = shape.0;
          tidy = shape.1;
        };
        ends = ends;
        records = λ r. count r es shows;
      }

  run_is : (e : code.CodeEnd) → HasResult e → IsWordEnd e
      → RunMatches image L heap ds e (mrun image m heap tx args)
      → RunIs image L heap e n (mrun image m heap tx args)
  run_is (code.Ended w v t) over words r =
      run_with (code.Ended w v t) (Halted v) r.effects r.is r.shows
      (refl, r.stands, r.fits, words.0)
  run_is (code.Trapped k) over words r =
      run_with (code.Trapped k) (Trapped k) r.effects r.is r.shows refl
  run_is code.Unfinished over words r = absurd over
  run_is code.Stuck over words r = absurd over

-- a larger bound on steps changes nothing
run_more : (image : Image) (L : Ir) (heap : Words) (e : code.CodeEnd) (n : Bool → ℕ) (k m tx : ℕ)
    (args : List ℤ) → k ≤ m → RunIs image L heap e n (mrun image k heap tx args)
    → RunIs image L heap e n (mrun image m heap tx args)
run_more image L heap e n k m tx args le r = record {
  end = r.end;
  effects = r.effects;
  is = more_fuel image k m (machine.start image tx args) heap r.end r.effects le r.is;
  sound = r.sound;
  ends = r.ends;
  records = r.records;
}

-- a run on words ends with words
words_on : (ir : Ir) (k : ℕ) (v : code.Move)
    → ((c : code.CodeState) → IsWordState c → IsWordEnd (exec ir k c)) → IsWordMove v
    → IsWordEnd (code.go_on (exec ir k) v)
words_on ir k (code.Goes c) next h = next c h
words_on ir k (code.Ends e) next h = h

words_end : WordsLaw → (ir : Ir) → HasWordConstants ir.functions → (k : ℕ) (c : code.CodeState)
    → IsWordState c → IsWordEnd (exec ir k c)
words_end law ir constants zero c h = tt
words_end law ir constants (suc k) c h =
    words_on ir k (code.instruction_step ir c) (λ d. words_end law ir constants k d)
    (law ir c constants h)

pub compiled_run : HeapApart → CoverLaw → KeepLaw → WordsLaw → (marks : MarkTable) (ir : Ir)
    → IsWellFormed ir → KeepsParameters ir.functions
    → ((a : Site) → IsLogged ir.functions a → table.is_logged marks a ≡ true)
    → HasWordConstants ir.functions
    → ((f p : ℕ) (x : Target) → instruction_at ir.functions f p ≡ Some (Log x) → ⊥) →
    (image : Image) → IsCodeOf image (logged_program marks ir) → (tx : ℕ) (entry : TxEntry)
    → slice_get image.parts.txs (tx - 1) ≡ Some entry → IsTransaction ir.functions entry.function
    →
    (args : List ℤ) (heap : Words) (w : PoolMap) → HoldWords args → HasWords w →
    Stands image.parts.sizes heap w → PoolFits ir.shapes w → (k m : ℕ) →
    HasResult (exec ir k (code_start entry.function args w image.parts.sizes.ticks))
    → 2 * k * most image.parts.sizes ≤ m →
    RunIs image (logged_program marks ir) heap
    (exec ir k (code_start entry.function args w image.parts.sizes.ticks))
    (λ r. fresh [] (asked_of r (table.is_logged marks) image.parts.sizes
    (deeds ir k (code_start entry.function args w image.parts.sizes.ticks))))
    (mrun image m heap tx args)
compiled_run apart cover keep law marks ir formed keeps whole constants bare image compiled tx entry
    found transaction args heap w words pool stands fits k m over enough =
    let L : Ir = logged_program marks ir in
    let t : ℕ = image.parts.sizes.ticks in
    let same = same_end marks ir entry.function args w t k over in
    let kept = keep image L (2 * k) tx entry args heap w compiled found words pool stands fits in
    let n : Bool → ℕ = λ r. fresh [] (asked_of r (table.is_logged marks) image.parts.sizes
    (deeds ir k (code_start entry.function args w t))) in
    let count : (r : Bool) (es : List Effect)
    → ShowsDeeds image.parts.sizes (is_logged_in_code L)
    (deeds L (2 * k) (code_start entry.function args w t)) (accesses es)
    → takes (blank (policy_of r)) es ≡ n r =
    λ r es shows.
    records_are marks ir bare r image.parts.sizes k (code_start entry.function args w t) es
    (subst (λ (ds : List Deed). ShowsDeeds image.parts.sizes (is_logged_in_code L) ds
    (accesses es)) (same_deeds marks ir entry.function args w t k over) shows) in
    run_more image L heap (exec ir k (code_start entry.function args w t)) n
    (2 * k * most image.parts.sizes) m tx
    args enough
    (run_is apart image L compiled tx entry found args heap (2 * k * most image.parts.sizes)
    (deeds L (2 * k) (code_start entry.function args w t))
    (inputs_logged cover marks ir formed keeps whole entry.function transaction args w t k over) n
    count
    (exec ir k (code_start entry.function args w t)) over
    (words_end law ir constants k (code_start entry.function args w t) (words, tt, pool))
    (subst (λ (e : code.CodeEnd). RunMatches image L heap
    (deeds L (2 * k) (code_start entry.function args w t)) e
    (mrun image (2 * k * most image.parts.sizes) heap tx args)) same kept))
