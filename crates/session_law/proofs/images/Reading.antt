-- What a recovery reads of an image, given what the crash law says of it.
use Rattle.std.proofs.Common.{◌≡◌, ◌≢◌, ℕ, zero, suc, ◌+◌, ◌-◌, ◌^◌, ◌<◌, ◌≤◌, Bool, true, false}
use Rattle.std.proofs.Common.{◌&&◌, ltb, leb, min, List, [], ◌∷◌, length, slice_get, slice_index_or}
use Rattle.std.proofs.Common.{option_map, Option, Some, None, ℤ, pos, ◌+ℤ◌, int_eq, refl, sym, ap}
use Rattle.std.proofs.Common.{◌∙◌, arith}
use Rattle.std.proofs.lemmas.Bool.{ltb-true, leb-false, lt-ltb, le-leb, and_parts}
use Rattle.std.proofs.lemmas.Bool.Decides.{Decides-int_eq}
use Rattle.std.proofs.lemmas.Option.{slice_get_within}
use Rattle.cache_model.specs.Cache.{Words}
use Rattle.pool_layout.specs.declared.places.TheConstants.{DONE, ATTEMPT, MARK, SEAL}
use Rattle.pool_layout.proofs.Records.{pos_inj}
use Rattle.pool_layout.specs.Image.{is_sealed}
use Rattle.pool_map.specs.declared.trap.TrapKind.{TrapKind}
use Rattle.pool_map.specs.declared.trap.TrapKind.TheVariants as trap
use Rattle.pool_map.specs.Trap.{trap_number}
use Rattle.pm_machine.specs.declared.image.Image.{Image}
use Rattle.pm_machine.specs.declared.op.TxEntry.{TxEntry}
use Rattle.tx_run.specs.declared.standing.Standing.TheVariants as stands
use Rattle.tx_run.specs.Standing.{trap_of_mark, is_number, standing_of}
use Rattle.pm_machine.specs.HeapPool.{words_from}
use Rattle.recovery.specs.Found.{has_numbers, names_tx, entry_words, recorded}
use Rattle.cnvm_session.specs.Commands.{tx_parameters}

-- the mark's trap

pub kind_read : (x : ℤ) (kind : TrapKind) → x ≡ pos (trap_number kind) → trap_of_mark x ≡ kind
kind_read x kind is = ap trap_of_mark is ∙ go kind
  where
    go : (k : TrapKind) → trap_of_mark (pos (trap_number k)) ≡ k
    go trap.Null = refl
    go trap.Stale = refl
    go trap.Index = refl
    go trap.Divide = refl
    go trap.Steps = refl
    go trap.Abort = refl
    go trap.LogFull = refl
    go trap.Depth = refl

pub is_marked : (x : ℤ) (n : ℕ) → x ≡ pos n → 0 < n → x ≢ pos 0
is_marked x n is more none = let zero_is : n ≡ 0 = pos_inj n 0 (sym is ∙ none) in
    absurd (omega arith)

-- the seal's number is one more than the number done

pub next_done : (x : ℤ) (d : ℕ) → x ≡ pos d → x +ℤ pos 1 ≡ pos (suc d)
next_done x d is = ap (λ (y : ℤ). y +ℤ pos 1) is ∙ ap pos (let e : d + 1 ≡ suc d = omega arith in e)

pub is_unsealed : (image : Words) (d : ℕ) → image DONE ≡ pos d → (image SEAL ≡ pos (suc d) → ⊥)
    → is_sealed image ≡ false
is_unsealed image d done none = go (int_eq (image SEAL) (image DONE +ℤ pos 1)) refl
  where
    go : (b : Bool) → int_eq (image SEAL) (image DONE +ℤ pos 1) ≡ b → b ≡ false
    go true e = absurd (none ((Decides-int_eq (image SEAL) (image DONE +ℤ pos 1)).0 e
        ∙ next_done (image DONE) d done))
    go false e = refl

pub is_owed : (image : Words) (d : ℕ) → image DONE ≡ pos d → image SEAL ≡ pos (suc d)
    → is_sealed image ≡ true
is_owed image d done seal = (Decides-int_eq (image SEAL) (image DONE +ℤ pos 1)).1
    (seal ∙ sym (next_done (image DONE) d done))

-- if a valid record exists and the numbers aren't out, the attempt is below 2^62

pub room_of : (n a : ℕ) → has_numbers n a ≡ false → 0 < n → a < 2 ^ 62
room_of n a none some = go (leb (2 ^ 62) a) refl
  where
    go : (b : Bool) → leb (2 ^ 62) a ≡ b → a < 2 ^ 62
    go false e = leb-false (2 ^ 62) a e
    go true e =
        let full : has_numbers n a ≡ true = λ i. lt-ltb 0 n some i && e i in
        let clash : true ≡ false = sym full ∙ none in
        absurd cc

number_small : (n : ℕ) → is_number (pos n) ≡ true → n < 2 ^ 62
number_small n is = go (ltb n (2 ^ 62)) refl
  where
    go : (b : Bool) → ltb n (2 ^ 62) ≡ b → n < 2 ^ 62
    go true e = ltb-true n (2 ^ 62) e
    go false e = let clash : true ≡ false = sym is ∙ e in absurd cc

pub numbers_small : (image : Words) (d a : ℕ) → image DONE ≡ pos d → image ATTEMPT ≡ pos a
    → (is_number (image DONE) && is_number (image ATTEMPT)) ≡ true → (d < 2 ^ 62) × (a < 2 ^ 62)
numbers_small image d a done attempt both =
    let is : (is_number (pos d) && is_number (pos a)) ≡ true =
    (λ i. is_number (sym done i) && is_number (sym attempt i)) ∙ both in (
      number_small d (and_parts (is_number (pos d)) (is_number (pos a)) is).0,
      number_small a (and_parts (is_number (pos d)) (is_number (pos a)) is).1,
    )

-- a pool without a mark is ready if its numbers are in range
pub stands_ready : (image : Words) → image MARK ≡ pos 0
    → (is_number (image DONE) && is_number (image ATTEMPT)) ≡ true
    → standing_of image ≡ stands.Ready
stands_ready image mark numbers = rw (mark, numbers) refl

pub stands_numbers : (image : Words) → image MARK ≡ pos 0
    → (is_number (image DONE) && is_number (image ATTEMPT)) ≡ false
    → standing_of image ≡ stands.Numbers
stands_numbers image mark numbers = rw (mark, numbers) refl

-- the record's transaction is in the image

pub names_one : (image : Image) (tx n : ℕ) → tx_parameters image tx ≡ Some n
    → names_tx image tx ≡ true
names_one image zero n is = absurd cc
names_one image (suc i) n is = go (slice_get image.parts.txs i) refl is
  where
    go : (o : Option TxEntry) → slice_get image.parts.txs i ≡ o
        → option_map (λ (e : TxEntry). e.parameters) o ≡ Some n → names_tx image (suc i) ≡ true
    go None e none = absurd cc
    go (Some entry) e some =
        let less : i < length image.parts.txs = slice_get_within image.parts.txs i entry e in
        λ j. le-leb 1 (suc i) (omega arith) j && le-leb (suc i) (length image.parts.txs)
        (omega arith) j

words_listed : (args : List ℤ) (p : ℕ) (w : Words)
    → ((j : ℕ) → j < length args → w (p + j) ≡ slice_index_or args j (pos 0))
    → words_from w p (length args) ≡ args
words_listed [] p w is = refl
words_listed (x ∷ args) p w is =
    let head : w p ≡ x = ap w (let e : p ≡ p + 0 = omega arith in e) ∙ is 0 (omega arith) in
    λ i. head i ∷ words_listed args (suc p) w (λ j less.
    ap w (let e : suc p + j ≡ p + suc j = omega arith in e) ∙ is (suc j) (omega arith)) i

taken_of : (o : Option TxEntry) (n : ℕ) → option_map (λ (e : TxEntry). e.parameters) o ≡ Some n
    → n ≤ 22 → entry_words o ≡ n
taken_of None n is few = absurd cc
taken_of (Some entry) n is few =
    let count : entry.parameters ≡ n = cc in
    ap (λ (m : ℕ). min m 22) count ∙ (let e : min n 22 ≡ n = omega arith in e)

pub taken_is : (image : Image) (tx n : ℕ) → tx_parameters image tx ≡ Some n → n ≤ 22
    → entry_words (slice_get image.parts.txs (tx - 1)) ≡ n
taken_is image zero n is few = absurd cc
taken_is image (suc i) n is few =
    ap (λ (j : ℕ). entry_words (slice_get image.parts.txs j))
    (let e : suc i - 1 ≡ i = omega arith in e) ∙ taken_of (slice_get image.parts.txs i) n is few

pub recorded_is : (image : Image) (tx : ℕ) (args : List ℤ) (w : Words)
    → tx_parameters image tx ≡ Some (length args) → length args ≤ 22
    → ((k : ℕ) → k ≤ length args → w (24 + k) ≡ slice_index_or (pos tx ∷ args) k (pos 0))
    → recorded image tx w ≡ args
recorded_is image tx args w takes few is =
    ap (λ (n : ℕ). words_from w 25 n) (taken_is image tx (length args) takes few)
    ∙ words_listed args 25 w (λ j less. ap w (let e : 25 + j ≡ 24 + suc j = omega arith in
    e) ∙ is (suc j) (omega arith))
