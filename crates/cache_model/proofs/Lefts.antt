-- A power cut on lists of lines: first the picked lines keep the versions that the picks name, then
-- all other lines keep their oldest or newest version.
use Rattle.std.proofs.Common.{◌≡◌, ◌≢◌, ⊎_elim, ℕ, zero, suc, ◌+◌, ◌<◌, nat_lt, ◌&&◌, cond, Bool}
use Rattle.std.proofs.Common.{true, false, List, [], ◌∷◌, ◌++◌, map, length, set, get_or, Option}
use Rattle.std.proofs.Common.{Some, None, ℤ, refl, sym, ap, ◌∙◌, subst, arith, eq-eqb, ne_eqb}
use Rattle.std.proofs.Common.{length-set}
use Rattle.std.proofs.lemmas.Bool.{cases_eq, ltb-true, lt-ltb}
use Rattle.std.proofs.lemmas.List.{length-map, get_or-set_same, get_or-set_other}
use Rattle.std.proofs.Math.ListN.{get_or-map}
use Rattle.cache_model.specs.Cache.{Memory, versions}
use Rattle.cache_model.specs.Collapse.{picked, left_line, left_cache, is_good_pick, version_count}
use Rattle.cache_model.specs.Collapse.{bad, collapse}
use Rattle.cache_model.specs.Collapse.{Rises, RisesFrom}
use Rattle.cache_model.specs.Lists.{ListLine, blank_list, IsWhole, version_words, line_from}
use Rattle.cache_model.specs.Lists.{cache_from, memory_from}
use Rattle.cache_model.specs.inside.Lists.{list_keep, list_rest, list_picked, AreIn}
use Rattle.cache_model.specs.declared.choice.Rest.{Rest}
use Rattle.cache_model.specs.declared.choice.Rest.TheVariants.{Old, New}
use Rattle.cache_model.specs.declared.choice.Pick.{Pick}
use Rattle.cache_model.specs.declared.choice.Choice.{Choice}
use Rattle.cache_model.proofs.Lists.{at_any}

pub whole_set : (ls : List ListLine) (k : ℕ) (y : ListLine) → IsWhole ls → length y.newest ≡ 8
    → IsWhole (set ls k y)
whole_set ls k y whole is l lt =
    let n = length-set ls k y in
    let here : l < length ls = omega arith in
    ⊎_elim
    (λ (e : l ≡ k).
    ap (λ (j : ℕ). length (get_or (set ls k y) j blank_list).newest) e
    ∙ ap (λ (z : ListLine). length z.newest) (get_or-set_same ls k y blank_list (omega arith)) ∙ is)
    (λ (ne : l ≢ k). ap (λ (z : ListLine). length z.newest)
    (get_or-set_other ls k l y blank_list ne) ∙ whole l here)
    (cases_eq l k)

versions_count : (l : ℕ) (us : List (List ℤ)) (n : List ℤ)
    → length (map (version_words l) us ++ version_words l n ∷ []) ≡ length us + 1
versions_count l [] n = omega arith
versions_count l (u ∷ us) n = ap suc (versions_count l us n) ∙ omega arith

line_of : (a b : Bool) (p n : ℕ) → a ≡ nat_lt p n → (a && b) ≡ true → p < n
line_of true b p n is e = ltb-true p n (sym is)
line_of false b p n is e = absurd (cc)

good_step : (b : Bool) (m : Memory) (p : Pick) (ps : List Pick) → b ≡ is_good_pick m p
    → (bad m ps ≡ None → AreIn m.lines ps) → cond b (bad m ps) (Some p.line) ≡ None
    → AreIn m.lines (p ∷ ps)
good_step true m p ps is next e = (
  line_of (nat_lt p.line m.lines) (nat_lt p.version (length (versions (m.cache p.line)))) p.line
      m.lines refl (sym is),
  next e,
)
good_step false m p ps is next e = absurd (cc)

-- good picks are in range
good_in : (m : Memory) (ps : List Pick) → bad m ps ≡ None → AreIn m.lines ps
good_in m [] e = tt
good_in m (p ∷ ps) e = good_step (is_good_pick m p) m p ps refl (λ f. good_in m ps f) e

pub good_within : (ls m : List ListLine) (ps : List Pick) (o : Option ℕ) → ls ≡ m → o ≡ None
    → o ≡ bad (memory_from m) ps → AreIn (length ls) ps
good_within ls m ps o same none is =
    subst (λ (n : ℕ). AreIn n ps) (sym (ap length same))
    (good_in (memory_from m) ps (sym is ∙ none))

picked_none : (ps : List Pick) (n l : ℕ) → RisesFrom n ps → l < n → picked ps l ≡ None
picked_none [] n l rises lt = refl
picked_none (p ∷ ps) n l rises lt =
    let over = rises.0 in
    ap (λ (b : Bool). cond b (Some p.version) (picked ps l))
    (ne_eqb p.line l (λ e. absurd (let h : ⊥ = omega arith in h)))
    ∙ picked_none ps (p.line + 1) l rises.1 (omega arith)

abbrev kept_list : Option ℕ → ListLine → ListLine
kept_list None y = y
kept_list (Some k) y = list_keep k y

picked_at : (ps : List Pick) (ls : List ListLine) (n l : ℕ) → RisesFrom n ps → AreIn (length ls) ps
    → get_or (list_picked ls ps) l blank_list ≡ kept_list (picked ps l) (get_or ls l blank_list)
picked_at [] ls n l rises within = refl
picked_at (p ∷ ps) ls n l rises within =
    let y : ListLine = list_keep p.version (get_or ls p.line blank_list) in
    let next : AreIn (length (set ls p.line y)) ps =
    subst (λ (m : ℕ). AreIn m ps) (sym (length-set ls p.line y)) within.1 in
    picked_at ps (set ls p.line y) (p.line + 1) l rises.1 next
    ∙ ⊎_elim
    (λ (e : p.line ≡ l).
    ap (λ (o : Option ℕ). kept_list o (get_or (set ls p.line y) l blank_list))
    (picked_none ps (p.line + 1) l rises.1 (omega arith))
    ∙ ap (λ (j : ℕ). get_or (set ls p.line y) j blank_list) (sym e)
    ∙ get_or-set_same ls p.line y blank_list within.0
    ∙ ap (λ (j : ℕ). list_keep p.version (get_or ls j blank_list)) e
    ∙ ap (λ (b : Bool). kept_list (cond b (Some p.version) (picked ps l)) (get_or ls l blank_list))
    (sym (eq-eqb p.line l e)))
    (λ (ne : p.line ≢ l).
    ap (kept_list (picked ps l)) (get_or-set_other ls p.line l y blank_list (λ e. ne (sym e)))
    ∙ ap (λ (b : Bool). kept_list (cond b (Some p.version) (picked ps l)) (get_or ls l blank_list))
    (sym (ne_eqb p.line l ne)))
    (cases_eq p.line l)

length_picked : (ps : List Pick) (ls : List ListLine) → length (list_picked ls ps) ≡ length ls
length_picked [] ls = refl
length_picked (p ∷ ps) ls = length_picked ps
    (set ls p.line (list_keep p.version (get_or ls p.line blank_list)))
    ∙ length-set ls p.line (list_keep p.version (get_or ls p.line blank_list))

at_map : (l : ℕ) (us : List (List ℤ)) (n : List ℤ) (k : ℕ)
    → version_words l (get_or us k n) ≡ get_or (map (version_words l) us ++ version_words l n ∷ [])
    k
    (version_words l n)
at_map l [] n zero = refl
at_map l [] n (suc k) = refl
at_map l (u ∷ us) n zero = refl
at_map l (u ∷ us) n (suc k) = at_map l us n k

left_at : (rest : Rest) (pick : Option ℕ) (l : ℕ) (y : ListLine)
    → line_from l (list_rest rest (kept_list pick y)) ≡ left_line rest pick (line_from l y)
left_at Old None l y = λ i. record {
  older = [];
  newest = at_map l y.older y.newest 0 i;
  mark = None;
}
left_at New None l y = refl
left_at Old (Some k) l y = λ i.
    record { older = []; newest = at_map l y.older y.newest k i; mark = None }
left_at New (Some k) l y = λ i.
    record { older = []; newest = at_map l y.older y.newest k i; mark = None }

rest_at : (rest : Rest) (ls : List ListLine) (l : ℕ) → get_or (map (list_rest rest) ls) l blank_list
    ≡ list_rest rest (get_or ls l blank_list)
rest_at Old ls l = get_or-map (list_rest Old) ls l blank_list
rest_at New ls l = get_or-map (list_rest New) ls l blank_list

left_cache_at : (rest : Rest) (ps : List Pick) (ls : List ListLine) (l : ℕ) → Rises ps
    → AreIn (length ls) ps → cache_from (map (list_rest rest) (list_picked ls ps)) l
    ≡ left_cache (cache_from ls) rest ps l
unfolding cache_from left_cache
left_cache_at rest ps ls l rises within =
    ap (line_from l) (rest_at rest (list_picked ls ps) l)
    ∙ ap (λ (y : ListLine). line_from l (list_rest rest y)) (picked_at ps ls 0 l rises within)
    ∙ left_at rest (picked ps l) l (get_or ls l blank_list)

pub collapse_memory : (choice : Choice) (ls m : List ListLine) → ls ≡ m → Rises choice.picks
    → AreIn (length ls) choice.picks
    → memory_from (map (list_rest choice.rest) (list_picked ls choice.picks))
    ≡ collapse (memory_from m) choice
collapse_memory choice ls m same rises within =
    (λ i. record {
      lines = (length-map (list_picked ls choice.picks) (list_rest choice.rest)
          ∙ length_picked choice.picks ls) i;
      cache = λ l. left_cache_at choice.rest choice.picks ls l rises within i;
    })
    ∙ ap (λ (z : List ListLine). collapse (memory_from z) choice) same

has_of : (m : List ListLine) (p : Pick) → length (versions (cache_from m p.line))
    ≡ length (get_or m p.line blank_list).older + 1
unfolding cache_from
has_of m p = versions_count p.line (get_or m p.line blank_list).older
    (get_or m p.line blank_list).newest

pub has_good : (ls m : List ListLine) (p : Pick) (v : ListLine) (n : ℕ) → ls ≡ m → p.line < length m
    → v ≡ get_or ls p.line v → n ≡ length v.older + 1
    → nat_lt p.version n ≡ is_good_pick (memory_from m) p
has_good ls m p v n same below found is =
    let count : length ls ≡ length m = ap length same in
    let lt : p.line < length ls = omega arith in
    let old : v ≡ get_or ls p.line blank_list = found ∙ at_any ls p.line v blank_list lt in
    ap (λ (k : ℕ). nat_lt p.version k) (is ∙ ap (λ (z : ListLine). length z.older + 1) old
    ∙ sym (has_of ls p))
    ∙ ap (λ (b : Bool). b && nat_lt p.version (length (versions (cache_from ls p.line))))
    (sym (lt-ltb p.line (length ls) lt))
    ∙ ap (λ (z : List ListLine). is_good_pick (memory_from z) p) same

pub count_is : (ls : List ListLine) (l : ℕ) → l < length ls
    → length (get_or ls l blank_list).older + 1 ≡ version_count (memory_from ls) l
count_is ls l lt =
    sym (has_of ls (record { line = l; version = 0 }))
    ∙ sym (ap (λ (b : Bool). cond b (length (versions (cache_from ls l))) 0)
    (lt-ltb l (length ls) lt))
