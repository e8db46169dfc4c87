-- Whose pool an image is, as its readers find it.
use Rattle.std.proofs.Common.{◌≡◌, ◌≢◌, ◌+◌, ◌*◌, ◌<◌, ◌≤◌, ◌⊎◌, inl, inr, ⊎_elim, ℕ, ℤ, List, []}
use Rattle.std.proofs.Common.{Bool, true, false, Option, Some, None, Result, Ok, Err, length, refl}
use Rattle.std.proofs.Common.{◌-◌, ◌++◌, take, IfSome, sym, ap, subst, ◌∙◌, arith, length-append}
use Rattle.std.proofs.lemmas.Bool.{cases_lt}
use Rattle.std.proofs.lemmas.Bool.Decides.{Decides-int_eq}
use Rattle.std.specs.Prelude.{option_map}
use Rattle.std.specs.Ordering.{int_eq}
use Rattle.std.specs.Cmp.Lexicographic.{pointwise, pointwise_decides}
use Rattle.std.specs.Io.KnownBytes.{Consumes, IsAtEnd}
use Rattle.pool_layout.specs.Fault.{digest_in, IsFirstFault}
use Rattle.pool_layout.specs.Sizes.{pool_lines}
use Rattle.pool_layout.specs.Taken.{ReadOnto}
use Rattle.pool_layout.specs.declared.wanted.ImageFault.TheVariants.{Digest}
use Rattle.cnvm_session.specs.Former.{first_other}
use Rattle.cnvm_session.specs.Pool.{sizes_of, wanted_of}
use Rattle.cnvm_session.specs.declared.program.Program.{Program}
use Rattle.cnvm_compile.specs.declared.asked.Asked.{Asked}
use Rattle.cnvm_compile.specs.declared.compiling.Compiled.{Compiled}
use Rattle.cnvm_compile.specs.Compilation.{IsCompiled}
use Rattle.cnvm_cli.specs.declared.former.FormerPool.{FormerPool}
use Rattle.cnvm_cli.specs.declared.former.Owned.{Owned}
use Rattle.cnvm_cli.specs.declared.former.Owned.TheVariants.{Own, Former}
use Rattle.cnvm_cli.specs.declared.refused.Refused.{Refused}
use Rattle.cnvm_cli.specs.declared.refused.Refused.TheVariants as refused
use Rattle.cnvm_cli.specs.Former.{IsOwn, IsOther, is_between, is_move_cut, owes_cut, unmoved}
use Rattle.cnvm_cli.specs.Opened.{AreImageWords, ImageRefuses, ImageGives}
use Rattle.cnvm_cli.specs.Verdict.{OfBytes, ProgramRefuses}
use Rattle.cnvm_cli.specs.inside.FormerEnds.{IsUnsaid, RestReadAs, OwnReadAs, mended_head}
use Rattle.cnvm_cli.specs.inside.FormerEnds.{IsPoolRead, PoolReadAs, FormerReadAs, OtherReadAs}
use Rattle.cnvm_cli.specs.inside.FormerEnds.{IsTakenAsOwn, IsFormerImage, IsFormerPool}
use Rattle.cnvm_cli.specs.inside.FormerEnds.{RefusesStart, StartReadAs}
use Rattle.cnvm_cli.specs.inside.Opened.{ImageIs}
use Rattle.cnvm_cli.proofs.texts.Heads.{of_rest, of_digest, digest_append, length_mended}
use Rattle.cnvm_cli.proofs.texts.Heads.{unmoved_consumes}
use Rattle.cnvm_cli.proofs.texts.Sources.{known_bytes, of_map, of_part}

-- of a source that failed, and of want of memory, nothing is said
pub unsaid_image : (program : Program) (image : Option (List ℕ)) (why : Refused) → IsUnsaid why
    → ImageRefuses program image why
unsaid_image program image why (inl is) =
    subst (λ (y : Refused). ImageRefuses program image y) (sym is) tt
unsaid_image program image why (inr is) =
    subst (λ (y : Refused). ImageRefuses program image y) (sym is) tt

unsaid_program : (former : Option (List ℕ)) (why : Refused) → IsUnsaid why
    → ProgramRefuses former why
unsaid_program former why (inl is) =
    subst (λ (y : Refused). ProgramRefuses former y) (sym is) tt
unsaid_program former why (inr is) =
    subst (λ (y : Refused). ProgramRefuses former y) (sym is) tt

-- what is made of the first bytes and of the rest that was read
rest_read : (program : Program) (head : List ℕ) (left : Option (List ℕ))
    (r : Result (List ℤ) Refused) (rest bytes : List ℕ) → bytes ≡ head ++ rest
    → IfSome left (λ all. rest ≡ take (64 * pool_lines (sizes_of program) + 1 - 96) all)
    → length rest ≤ 64 * pool_lines (sizes_of program) + 1 - 96 → ImageIs program r bytes
    → RestReadAs program head left r
rest_read program head left (Ok words) rest bytes whole first within is =
    of_part (64 * pool_lines (sizes_of program) + 1 - 96) left
    (λ part. ImageIs program (Ok words) (head ++ part)) rest first within
    (subst (ImageIs program (Ok words)) whole is)
rest_read program head left (Err why) rest bytes whole first within is =
    inr (of_part (64 * pool_lines (sizes_of program) + 1 - 96) left
    (λ part. ImageIs program (Err why) (head ++ part)) rest first within
    (subst (ImageIs program (Err why)) whole is))

-- the rest was taken from the source, from the first bytes on
pub rest_taken : (program : Program) (head : List ℕ) (left : Option (List ℕ))
    (r : Result (List ℤ) Refused) (none begun bytes : List ℕ) → none ≡ [] → begun ≡ none ++ head
    → ReadOnto left (64 * pool_lines (sizes_of program) + 1 - 96) begun bytes
    → ImageIs program r bytes → RestReadAs program head left r
rest_taken program head left r none begun bytes empty start read is =
    rest_read program head left r read.bytes bytes
    (read.grown ∙ ap (λ (l : List ℕ). l ++ read.bytes)
    (start ∙ ap (λ (l : List ℕ). l ++ head) empty))
    read.first read.within is

-- the program's image, whose first bytes are these
own_image : (program : Program) (image left : Option (List ℕ)) (head : List ℕ)
    → Consumes image left head → (length head < 96 → IsAtEnd left)
    → (96 ≤ length head → digest_in head ≡ program.digest) → OfBytes image (IsOwn program)
own_image program None left head consumes end same = (head, same)
own_image program (Some all) None head consumes end same = absurd consumes
own_image program (Some all) (Some more) head consumes end same = λ (long : 96 ≤ length all).
    ⊎_elim
    (λ (lt : length head < 96).
    let count : length all ≡ length head + length more =
    ap (λ (l : List ℕ). length l) consumes ∙ length-append head more in
    let none : length more ≡ 0 = ap (λ (l : List ℕ). length l) (end lt) in
    absurd (omega arith))
    (λ (ge : 96 ≤ length head).
    ap digest_in consumes ∙ digest_append head more ge ∙ same ge)
    (cases_lt (length head) 96)

-- an image of another program, whose first bytes are these
other_image : (program : Program) (image left : Option (List ℕ)) (head : List ℕ)
    → 96 ≤ length head → Consumes image left head → digest_in head ≢ program.digest
    → OfBytes image (IsOther program)
other_image program image left head long consumes other =
    of_digest image left head (IsOther program) long consumes
    (λ bytes le same. (le, λ (e : digest_in bytes ≡ program.digest). other (sym same ∙ e)))

-- the digest of an image whose first bytes are these passes this test
between_image : (former new : Program) (image left : Option (List ℕ)) (head : List ℕ) (b : Bool)
    → 96 ≤ length head → Consumes image left head
    → is_between (digest_in head) former.digest new.digest ≡ b
    → OfBytes image (λ bytes. is_between (digest_in bytes) former.digest new.digest ≡ b)
between_image former new image left head b long consumes is =
    of_digest image left head
    (λ bytes. is_between (digest_in bytes) former.digest new.digest ≡ b) long consumes
    (λ bytes le same.
    ap (λ (found : List ℤ). is_between found former.digest new.digest) same ∙ is)

module _ (program : Program) (image left : Option (List ℕ)) (head : List ℕ)
    (within : length head ≤ 96) (consumes : Consumes image left head)
    (end : length head < 96 → IsAtEnd left) where
  enough : 96 ≤ 64 * pool_lines (sizes_of program) + 1
  enough = omega arith

  rest_gives : (words : List ℤ) → RestReadAs program head left (Ok words)
      → ImageGives program image words
  rest_gives words is =
      let some = known_bytes left _ is in (
        some.1.0,
        some.1.1,
        of_rest (64 * pool_lines (sizes_of program) + 1) image left head
            (λ part. AreImageWords program part words) within enough consumes end
            (of_map left _ _ (λ bytes read. read.2) is),
      )

  rest_refuses : (why : Refused) → RestReadAs program head left (Err why)
      → ImageRefuses program image why
  rest_refuses why (inl unsaid) = unsaid_image program image why unsaid
  rest_refuses (refused.Image fault) (inr is) =
      of_rest (64 * pool_lines (sizes_of program) + 1) image left head
      (λ part. IsFirstFault (wanted_of program) part fault) within enough consumes end is
  rest_refuses refused.ReadFault (inr is) = tt
  rest_refuses refused.NoMemory (inr is) = tt
  rest_refuses refused.Usage (inr is) = absurd (known_bytes left _ is).1
  rest_refuses refused.LongProgram (inr is) = absurd (known_bytes left _ is).1
  rest_refuses (refused.Program line complaint) (inr is) = absurd (known_bytes left _ is).1
  rest_refuses refused.LongScript (inr is) = absurd (known_bytes left _ is).1
  rest_refuses (refused.Script number) (inr is) = absurd (known_bytes left _ is).1
  rest_refuses refused.Busy (inr is) = absurd (known_bytes left _ is).1

  taken_start : (asked : Asked) (former : Option (List ℕ)) (r : Result Owned Refused)
      → IsTakenAsOwn asked program former image → OwnReadAs program head left r
      → StartReadAs asked program former image r
  taken_start asked former (Ok (Own words)) taken is = (taken, rest_gives words is)
  taken_start asked former (Ok (Former pool)) taken is = absurd is
  taken_start asked former (Err why) taken is = inl (taken, rest_refuses why is)

module _ (asked : Asked) (program : Program) (former image left : Option (List ℕ))
    (head : List ℕ) (long : length head ≡ 96) (consumes : Consumes image left head)
    (other : digest_in head ≢ program.digest) (old : Compiled)
    (compiled : OfBytes former (λ text. IsCompiled asked text old)) where
  full : 96 ≤ length head
  full = omega arith

  others : OfBytes image (IsOther program)
  others = other_image program image left head full consumes other

  mended_long : length (mended_head old.program head) ≡ 96
  mended_long =
      let from = known_bytes former (λ text. IsCompiled asked text old) compiled in
      length_mended head old.program.digest long
      (ap (λ (d : List ℤ). length d) from.1.digest)

  mended_consumes : Consumes (option_map (unmoved old.program) image) left
      (mended_head old.program head)
  mended_consumes = unmoved_consumes old.program.digest image left head long consumes

  former_gives : (words : List ℤ)
      → RestReadAs old.program (mended_head old.program head) left (Ok words)
      → ImageGives old.program (option_map (unmoved old.program) image) words
  former_gives words is =
      rest_gives old.program (option_map (unmoved old.program) image) left
      (mended_head old.program head) (omega (arith, mended_long)) mended_consumes
      (λ (lt : length (mended_head old.program head) < 96).
      absurd (omega (arith, mended_long))) words is

  former_refuses : (why : Refused)
      → RestReadAs old.program (mended_head old.program head) left (Err why)
      → ImageRefuses old.program (option_map (unmoved old.program) image) why
  former_refuses why is =
      rest_refuses old.program (option_map (unmoved old.program) image) left
      (mended_head old.program head) (omega (arith, mended_long)) mended_consumes
      (λ (lt : length (mended_head old.program head) < 96).
      absurd (omega (arith, mended_long))) why is

  module _ (between : is_between (digest_in head) old.program.digest program.digest ≡ true) where
    betweens : OfBytes image
        (λ bytes. is_between (digest_in bytes) old.program.digest program.digest ≡ true)
    betweens = between_image old.program program image left head true full consumes between

    pool_image : (words : List ℤ) (pool : FormerPool)
        → IsPoolRead program old (digest_in head) words pool → (bytes : List ℕ)
        → 96 ≤ length bytes → digest_in bytes ≡ digest_in head → IsFormerImage program pool bytes
    pool_image words pool is bytes le same = record {
      other = (le, λ (e : digest_in bytes ≡ program.digest). other (sym same ∙ e));
      between =
          ap
          (λ (c : Compiled). is_between (digest_in bytes) c.program.digest program.digest)
          is.compiled
          ∙ ap (λ (d : List ℤ). is_between d old.program.digest program.digest) same ∙ between;
      cut =
          ap (λ (c : Compiled). is_move_cut c.program (digest_in bytes)) is.compiled
          ∙ ap (λ (d : List ℤ). is_move_cut old.program d) same ∙ is.cut;
      unowed =
          ap (λ (c : Compiled). owes_cut c.program (digest_in bytes) pool.words) is.compiled
          ∙ ap (λ (ws : List ℤ). owes_cut old.program (digest_in bytes) ws) is.words_are
          ∙ ap (λ (d : List ℤ). owes_cut old.program d words) same ∙ is.unowed;
    }

    pool_is : (words : List ℤ) (pool : FormerPool)
        → IsPoolRead program old (digest_in head) words pool
        → ImageGives old.program (option_map (unmoved old.program) image) words
        → IsFormerPool asked program former image pool
    pool_is words pool is gives = record {
      compiled =
          subst (λ (c : Compiled). OfBytes former (λ text. IsCompiled asked text c))
          (sym is.compiled) compiled;
      is =
          of_digest image left head (IsFormerImage program pool) full consumes
          (pool_image words pool is);
      gives =
          subst
          (λ (c : Compiled). ImageGives c.program (option_map (unmoved c.program) image)
          pool.words)
          (sym is.compiled)
          (subst
          (λ (ws : List ℤ). ImageGives old.program (option_map (unmoved old.program) image) ws)
          (sym is.words_are) gives);
      other =
          is.other
          ∙ ap (λ (c : Compiled). first_other c.program.typed program.typed) (sym is.compiled);
    }

    pool_start : (words : List ℤ)
        → ImageGives old.program (option_map (unmoved old.program) image) words
        → (r : Result Owned Refused) → PoolReadAs program old (digest_in head) words r
        → StartReadAs asked program former image r
    pool_start words gives (Ok (Own own)) is = absurd is
    pool_start words gives (Ok (Former pool)) is = pool_is words pool is gives
    pool_start words gives (Err why) (inl unsaid) =
        inr (
          others,
          inr (
            old,
            compiled,
            betweens,
            inl (unsaid_image old.program (option_map (unmoved old.program) image) why unsaid),
          ),
        )
    pool_start words gives (Err why) (inr (owes, is)) =
        inr (
          others,
          inr (
            old,
            compiled,
            betweens,
            inr (
              words,
              gives,
              of_digest image left head
                  (λ bytes. (owes_cut old.program (digest_in bytes) words ≡ true)
                  × (why ≡ refused.Image (Digest (digest_in bytes) program.digest)))
                  full consumes
                  (λ bytes le same. (
                    ap (λ (d : List ℤ). owes_cut old.program d words) same ∙ owes,
                    is ∙ ap (λ (d : List ℤ). refused.Image (Digest d program.digest)) (sym same),
                  )),
            ),
          ),
        )

    former_start : (r : Result Owned Refused)
        → FormerReadAs program old (digest_in head) head left r
        → StartReadAs asked program former image r
    former_start r (inl (why, is, refuses)) =
        subst (λ (s : Result Owned Refused). StartReadAs asked program former image s) (sym is)
        (inr (others, inr (old, compiled, betweens, inl (former_refuses why refuses))))
    former_start r (inr (words, rest, pool)) =
        pool_start words (former_gives words rest) r pool

-- the image has the program's digest
pub own_start : (asked : Asked) (program : Program) (former image left : Option (List ℕ))
    (head : List ℕ) (r : Result Owned Refused) → length head ≤ 96 → Consumes image left head
    → (length head < 96 → IsAtEnd left) → (96 ≤ length head → digest_in head ≡ program.digest)
    → OwnReadAs program head left r → StartReadAs asked program former image r
own_start asked program former image left head r within consumes end same is =
    taken_start program image left head within consumes end asked former r
    (inl (own_image program image left head consumes end same)) is

-- the image has another digest
pub other_start : (asked : Asked) (program : Program) (former image left : Option (List ℕ))
    (head : List ℕ) (found : List ℤ) (r : Result Owned Refused) → length head ≡ 96
    → Consumes image left head → found ≡ digest_in head → found ≢ program.digest
    → OtherReadAs asked program former found head left r → StartReadAs asked program former image r
other_start asked program former image left head found r long consumes is other read =
    others_start r (λ (e : digest_in head ≡ program.digest). other (is ∙ e))
    (subst (λ (d : List ℤ). OtherReadAs asked program former d head left r) is read)
  where
    others_start : (s : Result Owned Refused) → digest_in head ≢ program.digest
        → OtherReadAs asked program former (digest_in head) head left s
        → StartReadAs asked program former image s
    others_start s not_own (inl (why, same, refuses)) =
        subst (λ (t : Result Owned Refused). StartReadAs asked program former image t) (sym same)
        (inr (other_image program image left head (omega arith) consumes not_own, inl refuses))
    others_start s not_own (inr (old, compiled, inl (neither, own))) =
        taken_start program image left head (omega arith) consumes
        (λ (lt : length head < 96). absurd (omega arith)) asked former s
        (inr (
          other_image program image left head (omega arith) consumes not_own,
          old,
          compiled,
          between_image old.program program image left head false (omega arith) consumes neither,
        ))
        own
    others_start s not_own (inr (old, compiled, inr (between, read))) =
        former_start asked program former image left head long consumes not_own old compiled between
        s read

-- each image has the program's digest or another
whose : (program : Program) (bytes : List ℕ) → IsOwn program bytes ⊎ IsOther program bytes
whose program bytes =
    ⊎_elim
    (λ (lt : length bytes < 96). inl (λ (le : 96 ≤ length bytes). absurd (omega arith)))
    (λ (ge : 96 ≤ length bytes).
    same_or ge (pointwise int_eq (digest_in bytes) program.digest) refl)
    (cases_lt (length bytes) 96)
  where
    same_or : 96 ≤ length bytes → (b : Bool)
        → pointwise int_eq (digest_in bytes) program.digest ≡ b
        → IsOwn program bytes ⊎ IsOther program bytes
    same_or ge true is =
        inl (λ le. (pointwise_decides Decides-int_eq (digest_in bytes) program.digest).0 is)
    same_or ge false is = inr (
      ge,
      λ (e : digest_in bytes ≡ program.digest).
          let both : true ≡ false =
          sym ((pointwise_decides Decides-int_eq (digest_in bytes) program.digest).1 e) ∙ is in
          cc,
    )

-- no part of the image was read
pub unread_start : (asked : Asked) (program : Program) (former image : Option (List ℕ))
    (why : Refused) → IsUnsaid why → RefusesStart asked program former image why
unread_start asked program former None why unsaid =
    inl (
      inl ([], λ (le : 96 ≤ length {A = ℕ} []). absurd (omega arith)),
      unsaid_image program None why unsaid,
    )
unread_start asked program former (Some bytes) why unsaid =
    ⊎_elim
    (λ (own : IsOwn program bytes). inl (inl own, unsaid_image program (Some bytes) why unsaid))
    (λ (other : IsOther program bytes). inr (other, inl (unsaid_program former why unsaid)))
    (whose program bytes)
