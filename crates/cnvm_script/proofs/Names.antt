-- What the lexer answers of a word says whether it is a name.
use Rattle.std.proofs.Common.{◌≡◌, ℕ, List, Bool, true, false, ◌⊎◌, ⊎_elim, refl, sym, ap}
use Rattle.std.specs.Prelude.{Result, Ok, Err, Some, None, if◌then◌else◌}
use Rattle.c_lexer.specs.declared.fault.LexFault.{LexFault}
use Rattle.c_lexer.specs.declared.fault.LexFault.TheVariants.{NoMemory}
use Rattle.c_lexer.specs.Cuts.{answer}
use Rattle.c_lexer.specs.TokenList.{Tokens}
use Rattle.cnvm_script.specs.Name.{is_name, is_read}
use Rattle.cnvm_script.specs.inside.Name.{name_in}

abbrev Answer : Type 0
Answer = Result Tokens LexFault

pub read_tokens : (word : List ℕ) (list : Tokens) → (◌≡◌ {A = Answer} (Ok list) (Err NoMemory))
    ⊎ (Ok list ≡ answer word) → is_read (answer word) word ≡ is_read (Ok list) word
read_tokens word list exact = ⊎_elim
    (λ (e : ◌≡◌ {A = Answer} (Ok list) (Err NoMemory)). absurd (ok_err e))
    (λ (e : Ok list ≡ answer word). ap (λ (r : Answer). is_read r word) (sym e)) exact
  where
    ok_err : ◌≡◌ {A = Answer} (Ok list) (Err NoMemory) → ⊥
    ok_err e = cc

pub read_fault : (word : List ℕ) (fault : LexFault)
    → (◌≡◌ {A = Answer} (Err fault) (Err NoMemory) → ⊥)
    → (◌≡◌ {A = Answer} (Err fault) (Err NoMemory)) ⊎ (Err fault ≡ answer word)
    → is_read (answer word) word ≡ false
read_fault word fault other exact = ⊎_elim
    (λ (e : ◌≡◌ {A = Answer} (Err fault) (Err NoMemory)). absurd (other e))
    (λ (e : Err fault ≡ answer word). ap (λ (r : Answer). is_read r word) (sym e)) exact

-- what a word is read as is a name
pub named : (word name : List ℕ) → name_in word ≡ Some name → is_name name ≡ true
named word name is = by (is_name word) refl is
  where
    by : (b : Bool) → is_name word ≡ b → (if b then Some word else None) ≡ Some name
        → is_name name ≡ true
    by true e given = cc
    by false e given = cc

pub ruleset read = (read_tokens, read_fault)
