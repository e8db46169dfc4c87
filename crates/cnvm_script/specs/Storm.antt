-- The generator of storms is a number x. A draw replaces x by (1103515245 x + 12345) mod 2^31 and
-- gives that number divided by 65536, rounded down. A round draws twice for its choice: it is cut
-- if the first draw mod 4 is 2, and the second draw chooses one of the transactions, from 1 on. It
-- draws once for each parameter; the argument is the draw mod 16. A plain round is just the call. A
-- cut round draws twice more: the power goes off after as many events as the first draw mod the
-- reach, and comes back by `power old` if the second is even, else by `power new`. A draw is below
-- 32768; where the reach is above that, the new x divided by 1024 stands in place of the first.
use Rattle.c_tree.specs.ItemTree.{FunctionTree}
use Rattle.std.specs.Prelude.{ℕ, zero, suc, ◌+◌, ◌-◌, length, slice_get, Option, option_map, ◌*◌}
use Rattle.std.specs.Prelude.{◌/◌, ◌%◌, ◌^◌, ◌==◌, Bool, true, false, List, [], ◌∷◌, ℤ, pos}
use Rattle.std.specs.Prelude.{if◌then◌else◌, nat_le}
use Rattle.cache_model.specs.declared.choice.Rest.TheVariants.{Old, New}
use Rattle.cnvm_script.specs.declared.command.Command.{Command}
use Rattle.cnvm_script.specs.declared.command.Command.TheVariants.{Call, Stop, Power}

abbrev pub next_draw : ℕ → ℕ
next_draw x = (1103515245 * x + 12345) % 2 ^ 31

abbrev pub drawn : ℕ → ℕ
drawn x = next_draw x / 65536

-- the number after n draws
abbrev pub after_draws : ℕ → (n : ℕ) → ℕ
after_draws x zero = x
after_draws x (suc n) = after_draws (next_draw x) n

abbrev pub is_cut : ℕ → Bool
is_cut x = drawn x % 4 == 2

abbrev pub chosen : ℕ → (transactions : ℕ) → ℕ
chosen x transactions = 1 + drawn (next_draw x) % transactions

abbrev pub arguments : ℕ → (parameters : ℕ) → List ℤ
arguments x zero = []
arguments x (suc n) = pos (drawn x % 16) ∷ arguments (next_draw x) n

-- after how many events the power goes off
abbrev pub cut_at : (reach : ℕ) → ℕ → ℕ
cut_at reach x = (if nat_le reach 32768 then drawn x else next_draw x / 1024) % reach

abbrev pub power : ℕ → Command
power x = Power (record { rest = (if drawn x % 2 == 0 then Old else New); picks = [] })

-- the commands of a cut round with this call, where x is the number after the call's draws
abbrev pub cut_round : (reach : ℕ) → ℕ → Command → List Command
cut_round reach x call = Stop (cut_at reach x) ∷ call ∷ Stop 4294967295 ∷ power (next_draw x) ∷ []

-- the commands of a round, where x is the number after the two draws of its choice, and the number
-- after the round
abbrev pub round : (reach : ℕ) → ℕ → (cut : Bool) → (name : List ℕ) → (parameters : ℕ)
    → List Command
round reach x false name parameters = Call name (arguments x parameters) ∷ []
round reach x true name parameters =
    cut_round reach (after_draws x parameters) (Call name (arguments x parameters))

abbrev pub after_round : ℕ → (cut : Bool) → (parameters : ℕ) → ℕ
after_round x false parameters = after_draws x parameters
after_round x true parameters = next_draw (next_draw (after_draws x parameters))

-- the round for a program's transactions from the number x, and the number after it
abbrev pub storm_round : (reach : ℕ) → ℕ → List FunctionTree → Option (List Command)
storm_round reach x txs =
    option_map
    (λ f. round reach (next_draw (next_draw x)) (is_cut x) f.name.text (length f.parameters))
    (slice_get txs (chosen x (length txs) - 1))

abbrev pub storm_after : ℕ → List FunctionTree → Option ℕ
storm_after x txs =
    option_map (λ f. after_round (next_draw (next_draw x)) (is_cut x) (length f.parameters))
    (slice_get txs (chosen x (length txs) - 1))
