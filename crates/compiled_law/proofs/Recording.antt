-- The words that take a record in the machine's run are those of the code's stores that ask for
-- one.
use Rattle.std.proofs.Common.{◌≡◌, ◌||◌, inl, inr, ℕ, suc, ◌+◌, if◌then◌else◌, nat_eq, Bool}
use Rattle.std.proofs.Common.{true, false, Option, Some, None, List, [], ◌∷◌, ◌++◌, refl, sym, ap}
use Rattle.std.proofs.Common.{◌∙◌, subst, eq-eqb, arith}
use Rattle.std.specs.List.{list_any}
use Rattle.std.proofs.lemmas.List.Folds.{list_any-append}
use Rattle.nvm_base.specs.Listed.{is_listed}
use Rattle.pool_layout.specs.declared.limits.Sizes.{Sizes}
use Rattle.ir.specs.declared.function.Ir.{Ir}
use Rattle.ir.specs.declared.instruction.Instruction.TheVariants.{Log}
use Rattle.ir.specs.declared.instruction.Target.{Target}
use Rattle.ir.specs.declared.site.Site.{Site}
use Rattle.ir.specs.Places.{instruction_at}
use Rattle.instrument.specs.Insert.{logged_program}
use Rattle.log_law.specs.inserted.Moved.{moved_site, moved_deeds}
use Rattle.clobber_pass.specs.declared.marking.MarkTable.{MarkTable}
use Rattle.clobber_pass.specs.Logged as table
use Rattle.code_meaning.specs.Code.{CodeState, InRoot, InSlot}
use Rattle.code_meaning.specs.Deeds.{Deed, Reads, Writes, Heads, deeds}
use Rattle.code_meaning.specs.Logged.{StoreAt, stores_in, Asks, TakeRecords}
use Rattle.pm_machine.specs.declared.effect.Effect.{Effect}
use Rattle.pm_machine.specs.declared.effect.Effect.TheVariants.{Loads, Scans, Stores, Logs, Flushes}
use Rattle.pm_machine.specs.declared.effect.Effect.TheVariants.{Fences, Quiet}
use Rattle.pm_machine.specs.declared.records.Policy.{Policy}
use Rattle.pm_machine.specs.Logging.{Logging, asks, rolled, unlisted, noted, one_if, takes, blank}
use Rattle.machine_law.specs.pieces.Stands.{heap_word, header_word}
use Rattle.machine_law.specs.pieces.Shows.{ShowsDeeds, done, looks, scans, reads, plain, logs}
use Rattle.machine_law.specs.pieces.Shows.{heads}
use Rattle.machine_law.specs.matching.Accesses.{accesses}
use Rattle.machine_law.specs.matching.Compiled.{is_logged_in_code}
use Rattle.cnvm_session.specs.Marks.{policy_of}
use Rattle.compiled_law.specs.inside.Records.{asked_of, fresh}
use Rattle.compiled_law.proofs.Marked.{AreStores, all_stores}
use Rattle.compiled_law.proofs.Sites.{logged_same}

-- the words that a run's effects ask a record of, in order
abbrev asked_before : Option ℕ → List ℕ → List ℕ
asked_before None ws = ws
asked_before (Some w) ws = w ∷ ws

abbrev asked_in : Policy → List Effect → List ℕ
asked_in p [] = []
asked_in p (e ∷ es) = asked_before (asks p e) (asked_in p es)

-- two lists with the same words
abbrev AreSame : (ws ls : List ℕ) → Type 0
AreSame ws ls = (u : ℕ) → list_any (nat_eq u) ws ≡ is_listed u ls

-- a new word is added at the end of the one list and at the front of the other
same_more : (ws ls : List ℕ) (w : ℕ) → AreSame ws ls → AreSame (ws ++ w ∷ []) (w ∷ ls)
same_more ws ls w same u =
    list_any-append (nat_eq u) ws (w ∷ []) ∙ turned (list_any (nat_eq u) ws) (nat_eq u w)
    ∙ ap (λ (b : Bool). nat_eq u w || b) (same u)
  where
    turned : (a b : Bool) → (a || (b || false)) ≡ (b || a)
    turned true true = refl
    turned true false = refl
    turned false true = refl
    turned false false = refl

none_more : (n : ℕ) → 0 + n ≡ n
none_more n = omega arith

one_first : (n : ℕ) → 1 + n ≡ suc n
one_first n = omega arith

module _ (p : Policy) where
  abbrev logging : ℕ → List ℕ → Logging
  logging n ws = record { policy = p; count = n; words = ws }

  -- the words that take a record are the different ones
  abbrev Counts : List Effect → Type 0
  Counts es = (n : ℕ) (ws ls : List ℕ) → AreSame ws ls
      → takes (logging n ws) es ≡ fresh ls (asked_in p es)

  -- a step that asks for this record, before the rest
  counts_more : (es : List Effect) (o : Option ℕ) (n : ℕ) (ws ls : List ℕ) → AreSame ws ls
      → Counts es → one_if (unlisted ws o) + takes (noted (logging n ws) (unlisted ws o)) es
      ≡ fresh ls (asked_before o (asked_in p es))
  counts_more es None n ws ls same rest =
      none_more (takes (logging n ws) es) ∙ rest n ws ls same
  counts_more es (Some w) n ws ls same rest =
      by_test (list_any (nat_eq w) ws) refl
      ∙ ap (λ (b : Bool). if b then fresh ls (asked_in p es)
      else suc (fresh (w ∷ ls) (asked_in p es))) (same w)
    where
      by_test : (b : Bool) → list_any (nat_eq w) ws ≡ b →
          one_if (if b then None else Some w)
          + takes (noted (logging n ws) (if b then None else Some w)) es
          ≡ (if b then fresh ls (asked_in p es) else suc (fresh (w ∷ ls) (asked_in p es)))
      by_test true is = none_more (takes (logging n ws) es) ∙ rest n ws ls same
      by_test false is =
          ap (λ (b : Bool). 1 + takes (logging (suc n) (if b then ws else ws ++ w ∷ [])) es) is
          ∙ one_first (takes (logging (suc n) (ws ++ w ∷ [])) es)
          ∙ ap suc (rest (suc n) (ws ++ w ∷ []) (w ∷ ls) (same_more ws ls w same))

  takes_asked : (es : List Effect) → Counts es
  takes_asked [] n ws ls same = refl
  takes_asked (e ∷ es) n ws ls same =
      counts_more es (asks p e) n ws ls same (takes_asked es)

  asked_accesses : (es : List Effect) → asked_in p (accesses es) ≡ asked_in p es
  asked_accesses [] = refl
  asked_accesses (Loads w ∷ es) = asked_accesses es
  asked_accesses (Scans w apart many ∷ es) = asked_accesses es
  asked_accesses (Stores w x ∷ es) = ap (asked_before (rolled p w)) (asked_accesses es)
  asked_accesses (Logs w ∷ es) = ap (λ (ws : List ℕ). w ∷ ws) (asked_accesses es)
  asked_accesses (Flushes l ∷ es) = asked_accesses es
  asked_accesses (Fences ∷ es) = asked_accesses es
  asked_accesses (Quiet ∷ es) = asked_accesses es

-- lists with as many different words, whatever there is already
abbrev AsMany : (xs ys : List ℕ) → Type 0
AsMany xs ys = (ls : List ℕ) → fresh ls xs ≡ fresh ls ys

one_more : (w : ℕ) (xs ys : List ℕ) → AsMany xs ys → AsMany (w ∷ xs) (w ∷ ys)
one_more w xs ys same ls = by_test (is_listed w ls)
  where
    by_test : (b : Bool) → (if b then fresh ls xs else suc (fresh (w ∷ ls) xs))
        ≡ (if b then fresh ls ys else suc (fresh (w ∷ ls) ys))
    by_test true = same ls
    by_test false = ap suc (same (w ∷ ls))

-- the same word twice counts once
twice : (w : ℕ) (xs : List ℕ) → AsMany (w ∷ w ∷ xs) (w ∷ xs)
twice w xs ls = by_test (is_listed w ls) refl
  where
    here : is_listed w (w ∷ ls) ≡ true
    here = ap (λ (b : Bool). b || is_listed w ls) (eq-eqb w w refl)

    by_test : (b : Bool) → is_listed w ls ≡ b →
        (if b then fresh ls (w ∷ xs) else suc (fresh (w ∷ ls) (w ∷ xs)))
        ≡ (if b then fresh ls xs else suc (fresh (w ∷ ls) xs))
    by_test true is = ap (λ (b : Bool). if b then fresh ls xs else suc (fresh (w ∷ ls) xs)) is
    by_test false is =
        ap (λ (b : Bool). suc (if b then fresh (w ∷ ls) xs else suc (fresh (w ∷ w ∷ ls) xs))) here

-- a store without a LOG before it, and one with a LOG
plain_store : (r : Bool) (w : ℕ) (b : Bool) (xs ys : List ℕ) → b ≡ false → AsMany xs ys →
    AsMany (asked_before (rolled (policy_of r) w) xs) (if r || b then w ∷ ys else ys)
plain_store false w b xs ys off same ls =
    same ls ∙ ap (λ (c : Bool). fresh ls (if c then w ∷ ys else ys)) (sym off)
plain_store true w b xs ys off same ls = one_more w xs ys same ls

with_log : (r : Bool) (w : ℕ) (xs ys : List ℕ) → AsMany xs ys →
    AsMany (w ∷ asked_before (rolled (policy_of r) w) xs) (w ∷ ys)
with_log false w xs ys same ls = one_more w xs ys same ls
with_log true w xs ys same ls = twice w xs ls ∙ one_more w xs ys same ls

logged_store : (r : Bool) (w : ℕ) (b : Bool) (xs ys : List ℕ) → b ≡ true → AsMany xs ys →
    AsMany (w ∷ asked_before (rolled (policy_of r) w) xs) (if r || b then w ∷ ys else ys)
logged_store r w b xs ys on same ls =
    with_log r w xs ys same ls
    ∙ ap (λ (c : Bool). fresh ls (if c then w ∷ ys else ys)) (sym (asked r b on))
  where
    asked : (r b : Bool) → b ≡ true → (r || b) ≡ true
    asked false b is = is
    asked true b is = refl

module _ (r : Bool) (s : Sizes) (logged : Site → Bool) where
  abbrev asked : List Deed → List ℕ
  asked ds = asked_of r logged s ds

  abbrev asking : List Effect → List ℕ
  asking es = asked_in (policy_of r) es

  asked_shown : (ds : List Deed) (es : List Effect) → ShowsDeeds s logged ds es
      → AsMany (asking es) (asked ds)
  asked_shown ds es done ls = refl
  asked_shown ds es (looks {ds = a} {es = b} q there rest) ls = asked_shown a b rest ls
  asked_shown ds es (scans {ds = a} {es = b} k few rest) ls = asked_shown a b rest ls
  asked_shown ds es (reads {ds = a} {es = b} x there rest) ls = asked_shown a b rest ls
  asked_shown ds es (plain {ds = a} {es = b} site x v there off rest) ls =
      plain_store r (heap_word s x) (logged site) (asking b) (asked a) off
      (asked_shown a b rest) ls
  asked_shown ds es (logs {ds = a} {es = b} site x v there on rest) ls =
      logged_store r (heap_word s x) (logged site) (asking b) (asked a) on
      (asked_shown a b rest) ls
  asked_shown ds es (heads {ds = a} {es = b} site q v there rest) ls =
      with_log r (header_word s q) (asking b) (asked a) (asked_shown a b rest) ls

module _ (marks : MarkTable) (ir : Ir) (bare : (f p : ℕ) (x : Target)
    → instruction_at ir.functions f p ≡ Some (Log x) → ⊥) where
  abbrev L : Ir
  L = logged_program marks ir

  asked_moved : (r : Bool) (s : Sizes) (ds : List Deed) → AreStores ir ds
      → asked_of r (is_logged_in_code L) s (moved_deeds marks ir.functions ds)
      ≡ asked_of r (table.is_logged marks) s ds
  asked_moved r s [] are = refl
  asked_moved r s (Reads x ∷ ds) are = asked_moved r s ds are
  asked_moved r s (Writes a x v ∷ ds) are =
      let w : ℕ = heap_word s x in
      ap (λ (ws : List ℕ). if r || is_logged_in_code L (moved_site marks ir.functions a)
      then w ∷ ws else ws) (asked_moved r s ds are.1)
      ∙ ap (λ (b : Bool). if r || b then w ∷ asked_of r (table.is_logged marks) s ds
      else asked_of r (table.is_logged marks) s ds)
      (logged_same marks ir bare a.fill a.function a.place are.0)
  asked_moved r s (Heads a q v ∷ ds) are =
      ap (λ (ws : List ℕ). header_word s q ∷ ws) (asked_moved r s ds are.1)

  -- a run that shows the code's deeds has as many records as the marks say
  pub records_are : (r : Bool) (s : Sizes) (k : ℕ) (c : CodeState) (es : List Effect)
      → ShowsDeeds s (is_logged_in_code L) (moved_deeds marks ir.functions (deeds ir k c))
      (accesses es)
      → takes (blank (policy_of r)) es
      ≡ fresh [] (asked_of r (table.is_logged marks) s (deeds ir k c))
  records_are r s k c es shown =
      takes_asked (policy_of r) es 0 [] [] (λ u. refl)
      ∙ ap (fresh []) (sym (asked_accesses (policy_of r) es))
      ∙ asked_shown r s (is_logged_in_code L) (moved_deeds marks ir.functions (deeds ir k c))
      (accesses es) shown []
      ∙ ap (fresh []) (asked_moved r s (deeds ir k c) (all_stores ir k c))

-- marks that are exact count the words that take a record
module _ (marks : MarkTable) (ir : Ir) (exact : table.IsExact ir.functions marks) (r : Bool) where
  asks_if : (r : Bool) (a : Site) → (r || table.is_logged marks a) ≡ true → Asks r ir.functions a
  asks_if true a is = tt
  asks_if false a is = (exact a).0 is

  if_asks : (r : Bool) (a : Site) → Asks r ir.functions a → (r || table.is_logged marks a) ≡ true
  if_asks true a is = refl
  if_asks false a is = (exact a).1 is

  abbrev number : Sizes → List ℕ → List Deed → ℕ
  number s ls ds = fresh ls (asked_of r (table.is_logged marks) s ds)

  at_store : (a : Site) (w : ℕ) (ls : List ℕ) (stores : List StoreAt) (ws : List ℕ)
      → ((ks : List ℕ) → TakeRecords r ir.functions ks stores (fresh ks ws)) →
      TakeRecords r ir.functions ls (record { site = a; word = w } ∷ stores)
      (fresh ls (if r || table.is_logged marks a then w ∷ ws else ws))
  at_store a w ls stores ws next = by_test (r || table.is_logged marks a) (is_listed w ls) refl refl
    where
      by_test : (b c : Bool) → (r || table.is_logged marks a) ≡ b → is_listed w ls ≡ c →
          TakeRecords r ir.functions ls (record { site = a; word = w } ∷ stores)
          (fresh ls (if b then w ∷ ws else ws))
      by_test true true on old =
          subst (λ (c : Bool). TakeRecords r ir.functions ls
          (record { site = a; word = w } ∷ stores)
          (if c then fresh ls ws else suc (fresh (w ∷ ls) ws))) (sym old)
          (inr ((λ does. old), next ls))
      by_test true false on new =
          subst (λ (c : Bool). TakeRecords r ir.functions ls
          (record { site = a; word = w } ∷ stores)
          (if c then fresh ls ws else suc (fresh (w ∷ ls) ws))) (sym new)
          (inl (fresh (w ∷ ls) ws, refl, asks_if r a on, new, next (w ∷ ls)))
      by_test false c off is =
          inr (
            (λ does. let clash : true ≡ false = sym (if_asks r a does) ∙ off in absurd cc),
            next ls,
          )

  at_header : (a : Site) (w : ℕ) (ls : List ℕ) (stores : List StoreAt) (ws : List ℕ)
      → Asks r ir.functions a
      → ((ks : List ℕ) → TakeRecords r ir.functions ks stores (fresh ks ws)) →
      TakeRecords r ir.functions ls (record { site = a; word = w } ∷ stores) (fresh ls (w ∷ ws))
  at_header a w ls stores ws does next =
      subst (λ (b : Bool). TakeRecords r ir.functions ls (record { site = a; word = w } ∷ stores)
      (fresh ls (if b then w ∷ ws else ws))) (if_asks r a does) (at_store a w ls stores ws next)

  header_asks : (r : Bool) (a : Site) → Asks false ir.functions a → Asks r ir.functions a
  header_asks true a is = tt
  header_asks false a is = is

  pub they_take : (s : Sizes) (ds : List Deed) → AreStores ir ds → (ls : List ℕ)
      → TakeRecords r ir.functions ls (stores_in s ds) (number s ls ds)
  they_take s [] are ls = refl
  they_take s (Reads x ∷ ds) are ls = they_take s ds are ls
  they_take s (Writes a (InRoot i) v ∷ ds) are ls =
      at_store a (heap_word s (InRoot i)) ls (stores_in s ds)
      (asked_of r (table.is_logged marks) s ds) (they_take s ds are.1)
  they_take s (Writes a (InSlot q i) v ∷ ds) are ls =
      at_store a (heap_word s (InSlot q i)) ls (stores_in s ds)
      (asked_of r (table.is_logged marks) s ds) (they_take s ds are.1)
  they_take s (Heads a q v ∷ ds) are ls =
      at_header a (header_word s q) ls (stores_in s ds)
      (asked_of r (table.is_logged marks) s ds) (header_asks r a are.0) (they_take s ds are.1)
