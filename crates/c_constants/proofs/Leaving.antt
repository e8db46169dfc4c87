-- The tokens that are left of a list whose numbers are words: they are at most 16,384, and their
-- numbers are words.
use Rattle.std.proofs.Common.{◌≡◌, ℕ, zero, suc, ◌+◌, ◌-◌, ◌^◌, ℤ, pos, negsuc, Bool, true, false}
use Rattle.std.proofs.Common.{List, [], ◌∷◌, ◌++◌, length, refl, subst, arith, length-append}
use Rattle.std.specs.Prelude.{nat_lt, ◌==◌, if◌then◌else◌, slice_get, Option, None, Some, Result}
use Rattle.std.specs.Prelude.{Ok, Err}
use Rattle.std.proofs.lemmas.Bool.{ltb-true, eqb-false}
use Rattle.std.proofs.lemmas.Int.{ints}
use Rattle.nvm_base.specs.Wrap.{IsWord}
use Rattle.nvm_base.proofs.Lists.{all_append}
use Rattle.c_lexer.specs.declared.token.Mark.TheVariants as mark
use Rattle.c_lexer.specs.declared.token.Placed.{Placed}
use Rattle.c_lexer.specs.declared.token.Token.{Token}
use Rattle.c_lexer.specs.declared.token.Token.TheVariants as token
use Rattle.c_lexer.specs.TokenList.{Tokens}
use Rattle.c_constants.specs.declared.declaration.Base.{Base}
use Rattle.c_constants.specs.declared.declaration.Base.TheVariants as base
use Rattle.c_constants.specs.declared.declaration.Stand.{Stand}
use Rattle.c_constants.specs.declared.declaration.Stand.TheVariants as stand
use Rattle.c_constants.specs.declared.entry.Entry.{Entry}
use Rattle.c_constants.specs.declared.fault.ConstFault.{ConstFault}
use Rattle.c_constants.specs.declared.fault.ConstFault.TheVariants.{TooLong}
use Rattle.c_constants.specs.declared.name.Constant.{Constant}
use Rattle.c_constants.specs.declared.part.Part.{Part}
use Rattle.c_constants.specs.declared.part.Part.TheVariants as part
use Rattle.c_constants.specs.declared.pass.Pass.{Pass}
use Rattle.c_constants.specs.Declarations.{these, base_tokens, left_by, base_ended, left_of}
use Rattle.c_constants.specs.Declarations.{one_each_from, one_name_each, seen_of, stand_after}
use Rattle.c_constants.specs.Entries as entries
use Rattle.c_constants.specs.Laws.{IsWordToken, AreWordTokens, AreInRange, TokensLeftLaw}
use Rattle.c_constants.specs.Parts.{part_at, name_at, next_place, token_part}
use Rattle.c_constants.specs.Passes as passes
use Rattle.c_constants.specs.Passes.{pass_run}
use Rattle.c_constants.specs.StandIns as stand_ins
use Rattle.c_constants.proofs.Words.{small_word, zero_word, IsWordOr, AreWords, named_word}
use Rattle.c_constants.proofs.Words.{HoldsEntry, entry_word}

abbrev HoldsInRange : Result Tokens ConstFault → Type 0
HoldsInRange (Ok list) = AreInRange list.tokens
HoldsInRange (Err fault) = Unit {0}

put_good : (out : Tokens) (p : Placed) → AreInRange out.tokens → IsWordToken p
    → HoldsInRange (stand_ins.put_one out p)
put_good out p good w = by_test (nat_lt (length out.tokens) 16384) refl
  where
    by_test : (b : Bool) → nat_lt (length out.tokens) 16384 ≡ b → HoldsInRange (if b
        then Ok (record { tokens = out.tokens ++ p ∷ []; last = out.last; size = out.size })
        else Err TooLong)
    by_test true less = record {
      words = all_append IsWordToken out.tokens (p ∷ []) good.words (w, tt);
      few =
          let room = ltb-true (length out.tokens) 16384 less in
          omega (arith, room, length-append out.tokens (p ∷ []));
    }
    by_test false less = tt

then_good : (r : Result Tokens ConstFault) (go : Tokens → Result Tokens ConstFault)
    → HoldsInRange r → ((out : Tokens) → AreInRange out.tokens → HoldsInRange (go out))
    → HoldsInRange (stand_ins.then_put r go)
then_good (Ok out) go good h = h out good
then_good (Err fault) go good h = tt

put_all_good : (out : Tokens) (ps : List Placed) → AreInRange out.tokens → AreWordTokens ps
    → HoldsInRange (stand_ins.put_all out ps)
put_all_good out [] good w = good
put_all_good out (p ∷ ps) good w =
    then_good (stand_ins.put_one out p) (λ more. stand_ins.put_all more ps)
    (put_good out p good w.0) (λ more h. put_all_good more ps h w.1)

value_words : (line start : ℕ) (v : ℤ) → IsWord v
    → AreWordTokens (stand_ins.placed_all line start (stand_ins.word_tokens v))
value_words line start (pos n) w = (w, tt)
value_words line start (negsuc n) w = by_test (n == 2 ^ 63 - 1) refl
  where
    by_test : (b : Bool) → (n == 2 ^ 63 - 1) ≡ b
        → AreWordTokens (stand_ins.placed_all line start (if b
        then stand_ins.in_brackets mark.Tilde (pos (2 ^ 63 - 1))
        else stand_ins.in_brackets mark.Minus (pos (suc n))))
    by_test true e =
        (zero_word, (zero_word, (small_word (2 ^ 63 - 1) (omega arith), (zero_word, tt))))
    by_test false e =
        let other = eqb-false n (2 ^ 63 - 1) e in
        let low = w.0 in
        (zero_word, (zero_word, (small_word (suc n) (omega (arith, ints)), (zero_word, tt))))

stand_in_words : (names : List Constant) (p : Placed) → AreWords names → IsWordToken p
    → AreWordTokens (stand_ins.stand_ins names p)
stand_in_words names p known w = by_word (stand_ins.constant_word names p.token) (of_token p.token)
  where
    of_token : (t : Token) → IsWordOr (stand_ins.constant_word names t)
    of_token (token.Name text) = named_word names text known
    of_token _ = tt

    by_word : (o : Option ℤ) → IsWordOr o → AreWordTokens (stand_ins.stand_ins_by p o)
    by_word None h = (w, tt)
    by_word (Some v) h = value_words p.line p.start v h

abbrev IsWordGot : Option Placed → Type 0
IsWordGot None = Unit {0}
IsWordGot (Some placed) = IsWordToken placed

got_word : (ts : List Placed) (i : ℕ) → AreWordTokens ts → IsWordGot (slice_get ts i)
got_word [] i h = tt
got_word (t ∷ ts) zero h = h.0
got_word (t ∷ ts) (suc i) h = got_word ts i h.1

-- a pass so far
record IsGoodPass (p : Pass) : Type 0 where
  pub constants : AreWords p.constants
  pub next : IsWordOr p.next
  pub out : AreInRange p.out.tokens

abbrev HoldsPass : Result Pass ConstFault → Type 0
HoldsPass (Ok p) = IsGoodPass p
HoldsPass (Err fault) = Unit {0}

module _ (list : Tokens) (numbers : AreWordTokens list.tokens) where
  opened_good : (p : Pass) (brace : ℕ) (t : Part) → IsGoodPass p
      → HoldsPass (passes.opened_by list p brace t)
  opened_good p brace part.OpenBrace good =
      record { constants = good.constants; next = zero_word; out = good.out }
  opened_good p brace _ good = tt

  defined_good : (p : Pass) (r : Result Entry ConstFault) → IsGoodPass p → HoldsEntry r
      → HoldsPass (passes.defined_by list p r)
  defined_good p (Ok e) good h = record {
    constants = all_append (λ (c : Constant). IsWord c.word) p.constants
        (record { name = name_at list p.place; word = e.word } ∷ []) good.constants (h.0, tt);
    next = h.1;
    out = good.out;
  }
  defined_good p (Err fault) good h = tt

  kept_good : (p : Pass) → IsGoodPass p → HoldsPass (passes.keeps_token list p)
  kept_good p good = by_got (slice_get list.tokens p.place) (got_word list.tokens p.place numbers)
    where
      by_out : (t : Part) (r : Result Tokens ConstFault) → HoldsInRange r
          → HoldsPass (passes.kept_with list p t r)
      by_out t (Ok out) h = record { constants = good.constants; next = tt; out = h }
      by_out t (Err fault) h = tt

      by_got : (o : Option Placed) → IsWordGot o → HoldsPass (passes.kept_by list p o)
      by_got None h = good
      by_got (Some placed) h = by_out (token_part placed.token)
          (stand_ins.put_all p.out (stand_ins.stand_ins p.constants placed))
          (put_all_good p.out (stand_ins.stand_ins p.constants placed) good.out
          (stand_in_words p.constants placed good.constants h))

  either_good : (b : Bool) (x y : Result Pass ConstFault) → HoldsPass x → HoldsPass y
      → HoldsPass (if b then x else y)
  either_good true x y hx hy = hx
  either_good false x y hx hy = hy

  step_good : (p : Pass) → IsGoodPass p → (o : Option ℤ) → IsWordOr o
      → HoldsPass (passes.step_by list p o)
  step_good p good (Some next) w = defined_good p
      (entries.entry_at list p.constants next p.place) good
      (entry_word list numbers p.constants good.constants next p.place
      (part_at list p.place) w)
  step_good p good None w = either_good (passes.begins_definition p (part_at list p.place))
      (passes.opens_definition list p) (passes.keeps_token list p)
      (opened_good p (next_place list p.place) (part_at list (next_place list p.place)) good)
      (kept_good p good)

  abbrev Runs : (steps : ℕ) → Type 0
  Runs steps = (p : Pass) → IsGoodPass p → HoldsInRange (pass_run steps list p)

  stepped_good : (steps : ℕ) (r : Result Pass ConstFault) → HoldsPass r → Runs steps
      → HoldsInRange (passes.then_run r (pass_run steps list))
  stepped_good steps (Ok q) h more = more q h
  stepped_good steps (Err fault) h more = tt

  done_good : (steps : ℕ) (p : Pass) (b : Bool) → IsGoodPass p → Runs steps → HoldsInRange (if b
      then Ok p.out else passes.then_run (passes.pass_step list p) (pass_run steps list))
  done_good steps p true good more = good.out
  done_good steps p false good more =
      stepped_good steps (passes.pass_step list p) (step_good p good p.next good.next) more

  run_good : (steps : ℕ) → Runs steps
  unfolding pass_run
  run_good zero p good = good.out
  run_good (suc steps) p good = done_good steps p (passes.is_done list p) good (run_good steps)

constants_good : (list : Tokens) → AreWordTokens list.tokens
    → HoldsInRange (passes.constants_left list)
constants_good list numbers =
    run_good list numbers (suc (length list.tokens)) (passes.first_pass list) (record {
      constants = tt;
      next = tt;
      out = record { few = omega arith; words = tt };
    })

module _ (list : Tokens) (numbers : AreWordTokens list.tokens) where
  these_words : (place : ℕ) → AreWordTokens (these (slice_get list.tokens place))
  these_words place = by_got (slice_get list.tokens place) (got_word list.tokens place numbers)
    where
      by_got : (o : Option Placed) → IsWordGot o → AreWordTokens (these o)
      by_got None h = tt
      by_got (Some p) h = (h, tt)

  base_words : (b : Base) → AreWordTokens (base_tokens list b)
  base_words (base.Ints word) = these_words word
  base_words (base.Struct word name) = all_append IsWordToken (these (slice_get list.tokens word))
      (these (slice_get list.tokens name)) (these_words word) (these_words name)

  left_words : (p : Placed) (o : Option Base) → IsWordToken p → AreWordTokens (left_by list p o)
  left_words p None w = (w, tt)
  left_words p (Some b) w = (zero_word, base_words b)

  each_words : (t : Stand) (place : ℕ) (ts : List Placed) → AreWordTokens ts
      → AreWordTokens (one_each_from list t place ts)
  each_words t place [] h = tt
  each_words t place (p ∷ ts) h = all_append IsWordToken (left_of list t p)
      (one_each_from list (stand_after t place (seen_of p.token)) (place + 1) ts)
      (left_words p (base_ended t (seen_of p.token)) h.0)
      (each_words (stand_after t place (seen_of p.token)) (place + 1) ts h.1)

each_good : (list : Tokens) → AreWordTokens list.tokens → HoldsInRange (one_name_each list)
each_good list numbers =
    put_all_good (record { tokens = []; last = list.last; size = list.size })
    (one_each_from list stand.Elsewhere 0 list.tokens)
    (record { few = omega arith; words = tt })
    (each_words list numbers stand.Elsewhere 0 list.tokens numbers)

pub left : TokensLeftLaw
left all list numbers is = subst HoldsInRange is
    (then_good (passes.constants_left all) one_name_each (constants_good all numbers)
    (λ out good. each_good out good.words))
