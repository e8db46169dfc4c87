-- The classes of a program's stores.
use Rattle.std.proofs.Common.{◌≡◌, ◌<◌, ◌≤◌, ◌+◌, ◌-◌, ℕ, zero, suc, List, [], ◌∷◌, ◌++◌, Some}
use Rattle.std.proofs.Common.{length}
use Rattle.std.proofs.Common.{refl, sym, ◌∙◌, subst, arith, slice_get}
use Rattle.std.specs.Prelude.{◌%◌}
use Rattle.std.proofs.lemmas.Option.{slice_get_within}
use Rattle.nvm_base.proofs.Lists.{get_last}
use Rattle.ir.specs.declared.function.IrFunction.{IrFunction}
use Rattle.ir.specs.declared.instruction.Instruction.{Instruction}
use Rattle.ir.specs.declared.instruction.Instruction.TheVariants.{Store}
use Rattle.ir.specs.declared.instruction.Target.{Target}
use Rattle.ir.specs.declared.instruction.Target.TheVariants.{Root, Field}
use Rattle.clobber_pass.specs.declared.classes.Stored.{Stored}
use Rattle.clobber_pass.specs.inside.Classes.{Has, Keeps, HasTarget, KeepsStored, HasIn, HasAll}
use Rattle.clobber_pass.specs.inside.Classes.{HasStore}
use Rattle.clobber_pass.proofs.bits.Rounds.{below_next}

last_of : {T : Type 0} (items : List T) (item : T) → Has (items ++ item ∷ []) item
last_of items item = record { at = length items; is = get_last items item }

get_more : {T : Type 0} (items more : List T) (k : ℕ) (item : T) → slice_get items k ≡ Some item
    → slice_get (items ++ more) k ≡ Some item
get_more [] more k item is = absurd cc
get_more (i ∷ is) more zero item same = same
get_more (i ∷ is) more (suc k) item same = get_more is more k item same

pub has_last : {T : Type 0} (items new : List T) (item : T) → new ≡ items ++ item ∷ []
    → Has new item
has_last items new item is = subst (λ l. Has l item) (sym is) (last_of items item)

pub keeps_more : {T : Type 0} (items new more : List T) → new ≡ items ++ more → Keeps items new
keeps_more items new more is = record {
  keeps = λ item has. subst (λ l. Has l item) (sym is)
      (record { at = has.at; is = get_more items more has.at item has.is });
}

pub keeps_none : {T : Type 0} (items : List T) → Keeps items items
keeps_none items = record { keeps = λ item has. has }

pub keeps_roots : (stored new : Stored) → Keeps stored.roots new.roots → new.fields ≡ stored.fields
    → KeepsStored stored new
keeps_roots stored new kept same = record { keeps = each }
  where
    each : (target : Target) → HasTarget stored target → HasTarget new target
    each (Root y i) has = kept.keeps (y - y % 16) has
    each (Field b t y i) has = subst (λ l. Has l (record { kind = t; field = y })) (sym same) has

pub keeps_fields : (stored new : Stored) → Keeps stored.fields new.fields → new.roots ≡ stored.roots
    → KeepsStored stored new
keeps_fields stored new kept same = record { keeps = each }
  where
    each : (target : Target) → HasTarget stored target → HasTarget new target
    each (Root y i) has = subst (λ l. Has l (y - y % 16)) (sym same) has
    each (Field b t y i) has = kept.keeps (record { kind = t; field = y }) has

pub keeps_all : (stored : Stored) → KeepsStored stored stored
keeps_all stored = record { keeps = λ target has. has }

pub keeps_two : (one two three : Stored) → KeepsStored one two → KeepsStored two three
    → KeepsStored one three
keeps_two one two three first second =
    record { keeps = λ target has. second.keeps target (first.keeps target has) }

abbrev pub Below : Stored → List Instruction → ℕ → Type 0
Below stored code n = (p : ℕ) → p < n → (i : Instruction) → slice_get code p ≡ Some i
    → HasStore stored i

store_keeps : (one two : Stored) (i : Instruction) → KeepsStored one two → HasStore one i
    → HasStore two i
store_keeps one two i kept has =
    record {
      store = λ target from line is.
          kept.keeps target (has.store target from line is);
    }

pub more_below : (one two : Stored) (code : List Instruction) (n : ℕ) (j : Instruction)
    → slice_get code n ≡ Some j → KeepsStored one two → HasStore two j → Below one code n
    → Below two code (n + 1)
more_below one two code n j there kept has below =
    below_next (λ p. (i : Instruction) → slice_get code p ≡ Some i → HasStore two i) n
    (λ p less i is. store_keeps one two i kept (below p less i is))
    (λ i is. let both : Some j ≡ Some i = sym there ∙ is in let same : j ≡ i = cc in
    subst (HasStore two) same has)

pub all_below : (stored : Stored) (code : List Instruction) (n : ℕ) → length code ≤ n
    → Below stored code n → HasIn stored code
all_below stored code n past below = record {
  stores = λ p target from line is.
      let less : p < n = omega (arith, slice_get_within code p (Store target from line) is) in
      (below p less (Store target from line) is).store target from line refl;
}

abbrev pub BelowAll : Stored → List IrFunction → ℕ → Type 0
BelowAll stored functions n = (f : ℕ) → f < n → (u : IrFunction) → slice_get functions f ≡ Some u
    → HasIn stored u.code

in_keeps : (one two : Stored) (code : List Instruction) → KeepsStored one two → HasIn one code
    → HasIn two code
in_keeps one two code kept has =
    record {
      stores = λ p target from line is.
          kept.keeps target (has.stores p target from line is);
    }

pub more_functions : (one two : Stored) (functions : List IrFunction) (n : ℕ) (v : IrFunction)
    → slice_get functions n ≡ Some v → KeepsStored one two → HasIn two v.code
    → BelowAll one functions n → BelowAll two functions (n + 1)
more_functions one two functions n v there kept has below =
    below_next (λ f. (u : IrFunction) → slice_get functions f ≡ Some u → HasIn two u.code) n
    (λ f less u is. in_keeps one two u.code kept (below f less u is))
    (λ u is. let both : Some v ≡ Some u = sym there ∙ is in let same : v ≡ u = cc in
    subst (λ (w : IrFunction). HasIn two w.code) same has)

pub all_functions : (stored : Stored) (functions : List IrFunction) (n : ℕ)
    → length functions ≤ n → BelowAll stored functions n → HasAll functions stored
all_functions stored functions n past below = record {
  stores = λ f u is. let less : f < n = omega (arith, slice_get_within functions f u is) in
      below f less u is;
}
