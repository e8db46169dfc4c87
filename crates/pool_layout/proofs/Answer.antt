-- The words of an image that was read hold what a recovery needs.
use Rattle.std.proofs.Common.{◌≡◌, ◌≢◌, ℕ, suc, ◌+◌, ◌*◌, ◌^◌, ◌≤◌, ◌==◌, cond, Result, Ok, Err}
use Rattle.std.proofs.Common.{IfOk, List, length, true, false, ℤ, pos}
use Rattle.std.proofs.Common.{refl, sym, ap, ◌∙◌, subst, arith}
use Rattle.cache_model.specs.Cache.{Words}
use Rattle.pool_layout.specs.declared.places.Version.{Version}
use Rattle.pool_layout.specs.declared.places.Version.TheVariants.{First, Second}
use Rattle.pool_layout.specs.declared.places.Place.TheVariants.{Super, Done, Mark, Seal}
use Rattle.pool_layout.specs.declared.places.Place.TheVariants.{Heap}
use Rattle.pool_layout.specs.declared.rules.Rules.{Rules}
use Rattle.pool_layout.specs.declared.wanted.Wanted.{Wanted}
use Rattle.pool_layout.specs.Sizes.{pool_lines, slot_word}
use Rattle.pool_layout.specs.Places.{at, log_line, pool_of}
use Rattle.pool_layout.specs.Bytes.{word_in}
use Rattle.pool_layout.specs.Image.{image_words, is_next, is_sealed, IsUpTo}
use Rattle.pool_layout.specs.Good.{HasSuper, Good}
use Rattle.pool_layout.specs.Opens.{IsOpenable}
use Rattle.pool_layout.specs.Moved.{moved, first_layout, AreMoved}
use Rattle.pool_layout.specs.Fault.{Accepts, rules_of, version_of, needed}
use Rattle.pool_layout.specs.Opened.{IsOpened, wanted_rules, image_pool}
use Rattle.pool_layout.proofs.Moving.{moved_keeps, moved_unsealed}
use Rattle.pool_layout.proofs.Kept.{slot_inside, is_valid_of}
use Rattle.pool_layout.proofs.Opening.{kept_opens}
use Rattle.pool_layout.proofs.Superblock.{HasHead, has_head, digest_word, sizes_word, second_word}

-- second version: the words that are answered are the image's

rules_second : (wanted : Wanted) (bytes : List ℕ) → version_of bytes ≡ Second
    → rules_of wanted bytes ≡ wanted_rules wanted
rules_second wanted bytes is =
    ap (λ (v : Version). let r : Rules =
    record {
      layout = record { version = v; sizes = wanted.sizes };
      txs = wanted.txs;
      structs = wanted.structs;
    } in r) is

opened_second : (wanted : Wanted) (bytes : List ℕ) (all : List ℤ) → Accepts wanted bytes
    → version_of bytes ≡ Second → length all ≡ 8 * pool_lines wanted.sizes → 16 ≤ length bytes
    → image_words all ≡ word_in bytes → IsOpened wanted all
opened_second wanted bytes all accepts is len long agree =
    let head : HasHead wanted bytes = has_head wanted bytes accepts.early in
    let super : HasSuper wanted.sizes wanted.digest (word_in bytes) = record {
      sizes_are = sizes_word wanted bytes (word_in bytes) head
          (second_word wanted bytes head long is) (λ k lt ne. refl);
      digest_is = digest_word wanted bytes head;
    } in
    let opens : IsOpenable (wanted_rules wanted) (word_in bytes) =
    subst (λ (r : Rules). IsOpenable r (word_in bytes)) (rules_second wanted bytes is)
    (kept_opens (rules_of wanted bytes) (word_in bytes) accepts.content) in
    record {
      whole = len;
      super = subst (λ (i : Words). HasSuper wanted.sizes wanted.digest i) (sym agree) super;
      opens = subst (λ (i : Words). IsOpenable (wanted_rules wanted) i) (sym agree) opens;
    }

pub opened_read : (wanted : Wanted) (bytes : List ℕ) (all : List ℤ) → Accepts wanted bytes
    → version_of bytes ≡ Second → length bytes ≡ needed wanted bytes
    → 8 * length all ≡ length bytes → image_words all ≡ word_in bytes → IsOpened wanted all
opened_read wanted bytes all accepts is whole len agree =
    let lines : log_line (version_of bytes) ≡ 6 = ap log_line is in
    let long : 16 ≤ length bytes = omega arith in
    let room : length all ≡ 8 * pool_lines wanted.sizes = omega arith in
    opened_second wanted bytes all accepts is room long agree

-- first version: the words that are answered are the moved pool's

rules_first : (wanted : Wanted) (bytes : List ℕ) → version_of bytes ≡ First
    → IsOpenable (rules_of wanted bytes) (word_in bytes) → (r : Rules)
    → r ≡ record { layout = first_layout wanted.sizes; txs = wanted.txs; structs = wanted.structs }
    → IsOpenable r (word_in bytes)
rules_first wanted bytes is opens r e =
    subst (λ (q : Rules). IsOpenable q (word_in bytes))
    (ap (λ (v : Version). let q : Rules =
    record {
      layout = record { version = v; sizes = wanted.sizes };
      txs = wanted.txs;
      structs = wanted.structs;
    } in q) is ∙ sym e) opens

moved_super : (wanted : Wanted) (bytes : List ℕ) (all : List ℤ) → HasHead wanted bytes
    → AreMoved wanted.sizes (word_in bytes) all
    → HasSuper wanted.sizes wanted.digest (image_words all)
unfolding moved
moved_super wanted bytes all head are = record {
  sizes_are = sizes_word wanted bytes (image_words all) head (are.each (Super 1) (omega arith))
      (λ k lt ne. are.each (Super k) (omega arith) ∙ other k ne);
  digest_is = λ k lt. are.each (Super (8 + k)) (omega arith) ∙ other (8 + k) (omega arith)
      ∙ digest_word wanted bytes head k lt;
}
  where
    other : (k : ℕ) → k ≢ 1 → cond (k == 1) (pos 2) (word_in bytes k) ≡ word_in bytes k
    other k ne = grind (arith)

pub opened_first : (wanted : Wanted) (bytes : List ℕ) (all : List ℤ) → Accepts wanted bytes
    → version_of bytes ≡ First → AreMoved wanted.sizes (word_in bytes) all → IsOpened wanted all
opened_first wanted bytes all accepts is are =
    let s = wanted.sizes in
    let was = rules_first wanted bytes is
    (kept_opens (rules_of wanted bytes) (word_in bytes) accepts.content)
    (record { layout = first_layout s; txs = wanted.txs; structs = wanted.structs }) refl in
    let keeps = moved_keeps s (word_in bytes) all are in
    let unsealed = moved_unsealed s (word_in bytes) all was.done.0 are was.done.2 in
    let opens : IsOpenable (wanted_rules wanted) (image_words all) = record {
      mark = subst (IsUpTo 8) (sym keeps.mark) was.mark;
      done = subst (IsUpTo (2 ^ 62)) (sym keeps.done) was.done;
      attempt = 0;
      attempt_is = keeps.attempt;
      attempt_fits = omega arith;
      log = keeps.log;
      headers = λ slot low high. subst (IsUpTo wanted.structs)
          (sym (keeps.heap (slot_word s slot) (slot_inside s slot low high)))
          (was.headers slot low high);
      sealed = λ sealed. let clash : true ≡ false = sym sealed ∙ unsealed in absurd cc;
      first_unsealed = λ first. unsealed;
    } in
    record {
      whole = are.whole;
      super = moved_super wanted bytes all
          (has_head wanted bytes accepts.early) are;
      opens = opens;
    }

pub opened_moved : {E : Type 0} (wanted : Wanted) (bytes : List ℕ) (r : Result (List ℤ) E)
    → Accepts wanted bytes → version_of bytes ≡ First
    → IfOk r (λ all. AreMoved wanted.sizes (word_in bytes) all)
    → IfOk r (λ all. IsOpened wanted all)
opened_moved wanted bytes (Ok all) accepts is are = opened_first wanted bytes all accepts is are
opened_moved wanted bytes (Err e) accepts is are = tt

-- an image at rest

not_sealed : (x y : ℤ) (d : ℕ) → y ≡ pos d → is_next x y ≡ false → x ≡ pos (suc d) → ⊥
not_sealed x y d is unsealed e =
    let next : is_next x y ≡ true = is_valid_of x y d is e in
    let clash : true ≡ false = sym next ∙ unsealed in
    absurd cc

up_to_is : (n d : ℕ) (x : ℤ) → IsUpTo n x → x ≡ pos d → d ≤ n
up_to_is n d x up is = let e : up.0 ≡ d = inj up.0 d (sym up.2 ∙ is) in omega (arith, up.1)
  where
    inj : (a b : ℕ) → pos a ≡ pos b → a ≡ b
    inj a b e = cc

pub opened_rests : (wanted : Wanted) (all : List ℤ) (d : ℕ) → IsOpened wanted all
    → image_words all (at (pool_of wanted.sizes) Mark) ≡ pos 0
    → image_words all (at (pool_of wanted.sizes) Done) ≡ pos d
    → is_sealed (image_words all) ≡ false
    → Good (image_pool wanted.sizes (image_words all)) d
    (λ w. image_words all (at (pool_of wanted.sizes) (Heap w))) (image_words all)
opened_rests wanted all d opened mark done unsealed =
    let image : Words = image_words all in
    let o = opened.opens in
    let done_fits : d ≤ 2 ^ 62 = up_to_is (2 ^ 62) d (image (at (pool_of wanted.sizes) Done))
    o.done done in
    record {
      super = λ k lt. refl;
      mark = mark;
      done = done;
      done_fits = omega arith;
      unsealed = λ e. not_sealed (image (at (pool_of wanted.sizes) Seal))
          (image (at (pool_of wanted.sizes) Done)) d done unsealed e;
      attempt = o.attempt;
      attempt_is = o.attempt_is;
      attempt_fits = omega (arith, o.attempt_fits);
      log = o.log;
      heap = λ w lt. refl;
    }
