-- The command is one of which clap tells the matches and the faults.
use Rattle.std.proofs.Common.{◌≡◌, suc, List, [], ◌∷◌, length, true, false, inl, inr, subst, refl}
use Rattle.std.proofs.Common.{ne_eqb, arith}
use Rattle.clap.specs.declared.error.Error.{Error}
use Rattle.clap.specs.declared.error.kind.ErrorKind.TheVariants.{OutOfMemory}
use Rattle.clap.specs.Walk.{is_empty}
use Rattle.clap.specs.Words.{App, Text, Kinds, HasKind, is_simple, is_simple_and_free, fault_of}
use Rattle.clap.specs.Words.{kind_of}
use Rattle.cnvm_words.specs.App.{cnvm_app}

pub simple : is_simple cnvm_app ≡ true
unfolding cnvm_app
simple = refl

pub simple_and_free : is_simple_and_free cnvm_app ≡ true
unfolding cnvm_app
simple_and_free = refl

any_told : (kinds : Kinds) (e : Error) → HasKind kinds e → (kind_of e ≡ OutOfMemory → ⊥)
    → is_empty kinds ≡ false
any_told [] e (inl memory) other = absurd (other memory)
any_told [] e (inr none) other = absurd none
any_told (k ∷ ks) e has other = ne_eqb (suc (length ks)) 0 (λ e. omega arith)

-- an error of another cause than memory has a kind that is among the faults
pub fault_told : (app : App) (words : List Text) (e : Error) → app ≡ cnvm_app
    → (is_simple_and_free app ≡ true → HasKind (fault_of app words) e)
    → (kind_of e ≡ OutOfMemory → ⊥) → is_empty (fault_of cnvm_app words) ≡ false
fault_told app words e same has other =
    any_told (fault_of cnvm_app words) e
    (subst (λ (a : App). is_simple_and_free a ≡ true → HasKind (fault_of a words) e) same has
    simple_and_free) other
