-- What the words ask for: they are read by clap, and then each number is read, which has 1 to 10
-- digits and lies within its limits.
use Rattle.std.specs.Prelude.{ℕ, ◌≤◌, List, Option, None, Some, nat_le, ◌&&◌, if◌then◌else◌}
use Rattle.std.specs.Prelude.{Bool, false}
use Rattle.std.specs.Prelude.{codes, option_and_then, option_map}
use Rattle.std.specs.Str.{bytes_eq}
use Rattle.clap.specs.Walk.{is_empty}
use Rattle.clap.specs.Words.{Text, Row, first_of, fault_of, subcommand_of}
use Rattle.cnvm_script.specs.Number.{bounded_numeral}
use Rattle.cnvm_words.specs.App.{cnvm_app}
use Rattle.cnvm_words.specs.Prefix.{asked_prefix}
use Rattle.cnvm_words.specs.declared.plan.Plan.{Plan}
use Rattle.cnvm_words.specs.declared.plan.Plan.TheVariants.{Run, List as Listing, Storm, Why}
use Rattle.cnvm_words.specs.declared.plan.Plan.TheVariants.{Workers, Emit, RunPool, Serve}
use Rattle.cnvm_words.specs.declared.plan.Plan.TheVariants.{ServePool, WorkersPool, Code}
use Rattle.pool_map.specs.declared.limits.TheConstants.{RECORDS, SLOTS, TICKS}

abbrev pub in_limits : (least most n : ℕ) → Option ℕ
in_limits least most n = if nat_le least n && nat_le n most then Some n else None

-- a required number
abbrev pub number_between : (least most : ℕ) → List ℕ → Option ℕ
number_between least most text = option_and_then (in_limits least most) (bounded_numeral 10 text)

-- an optional number
abbrev pub number_or : (default least most : ℕ) → Option (List ℕ) → Option ℕ
number_or default least most None = Some default
number_or default least most (Some text) = number_between least most text

-- the slots, records and ticks
abbrev pub asked_pool : List Row → Option (ℕ × ℕ × ℕ)
asked_pool rows =
    option_and_then (λ slots. option_and_then (λ records.
    option_map (λ ticks. (slots, records, ticks))
    (number_or 100000 1 TICKS (first_of (codes "ticks") rows)))
    (number_or 256 1 RECORDS (first_of (codes "log") rows)))
    (number_or 1024 1 SLOTS (first_of (codes "slots") rows))

-- a pool's file isn't named together with an image, and a former text only with a pool's file
abbrev pub run_on : (program script : List ℕ) → (slots records ticks : ℕ)
    → (opened saved pool former : Option (List ℕ)) → (strict : Bool) → Option Plan
run_on program script slots records ticks opened saved None None strict =
    Some (Run program script slots records ticks opened saved strict)
run_on program script slots records ticks opened saved None (Some former) strict = None
run_on program script slots records ticks None None (Some pool) former strict =
    Some (RunPool program script slots records ticks pool former strict)
run_on program script slots records ticks _ _ (Some pool) former strict = None

-- a flag's value is a word of clap's
abbrev pub is_set : Option (List ℕ) → Bool
is_set None = false
is_set (Some text) = bytes_eq text (codes "true")

abbrev pub run_plan : List Row → Option Plan
run_plan rows =
    option_and_then (λ program. option_and_then (λ script. option_and_then (λ sizes.
    run_on program script sizes.0 sizes.1 sizes.2 (first_of (codes "open") rows)
    (first_of (codes "save") rows) (first_of (codes "pool") rows) (first_of (codes "from") rows)
    (is_set (first_of (codes "strict") rows)))
    (asked_pool rows))
    (first_of (codes "script") rows))
    (first_of (codes "program") rows)

abbrev pub list_plan : List Row → Option Plan
list_plan rows = option_map (λ program. Listing program) (first_of (codes "program") rows)

abbrev pub storm_plan : List Row → Option Plan
storm_plan rows =
    option_and_then (λ program. option_and_then
    (λ start. option_and_then (λ count. option_and_then (λ reach. option_map (λ pool.
    Storm program start count reach (is_set (first_of (codes "plain") rows)) pool.0 pool.1 pool.2)
    (asked_pool rows))
    (number_or 32 1 1000000 (first_of (codes "reach") rows)))
    (option_and_then (number_between 0 20000) (first_of (codes "count") rows)))
    (option_and_then (number_between 0 2147483647) (first_of (codes "start") rows)))
    (first_of (codes "program") rows)

abbrev pub why_plan : List Row → Option Plan
why_plan rows = option_map (λ program. Why program) (first_of (codes "program") rows)

-- the compartments are those of a file, or are in memory
abbrev pub workers_on : (program script : List ℕ) → (workers slots records ticks : ℕ)
    → (pool : Option (List ℕ)) → Plan
workers_on program script workers slots records ticks None =
    Workers program script workers slots records ticks
workers_on program script workers slots records ticks (Some pool) =
    WorkersPool program script workers slots records ticks pool

abbrev pub workers_plan : List Row → Option Plan
workers_plan rows =
    option_and_then (λ program. option_and_then (λ script. option_and_then (λ workers. option_map
    (λ sizes. workers_on program script workers sizes.0 sizes.1 sizes.2
    (first_of (codes "pool") rows))
    (asked_pool rows))
    (number_or 2 1 8 (first_of (codes "workers") rows)))
    (first_of (codes "script") rows))
    (first_of (codes "program") rows)

-- a pool's file is named, or the pool is in memory
abbrev pub serve_on : (program : List ℕ) → (slots records ticks : ℕ)
    → (pool former : Option (List ℕ)) → Option Plan
serve_on program slots records ticks None None = Some (Serve program slots records ticks)
serve_on program slots records ticks None (Some former) = None
serve_on program slots records ticks (Some pool) former =
    Some (ServePool program slots records ticks pool former)

abbrev pub serve_plan : List Row → Option Plan
serve_plan rows =
    option_and_then (λ program. option_and_then (λ sizes.
    serve_on program sizes.0 sizes.1 sizes.2 (first_of (codes "pool") rows)
    (first_of (codes "from") rows))
    (asked_pool rows))
    (first_of (codes "program") rows)

abbrev pub emit_plan : List Row → Option Plan
emit_plan rows =
    option_and_then (λ program. option_and_then (λ prefix. option_map (λ pool.
    Emit program prefix (is_set (first_of (codes "header") rows)) pool.0 pool.1 pool.2)
    (asked_pool rows))
    (asked_prefix program (first_of (codes "prefix") rows)))
    (first_of (codes "program") rows)

abbrev pub code_plan : List Row → Option Plan
code_plan rows = option_map (λ program. Code program) (first_of (codes "program") rows)

-- the plan of a subcommand with these rows
abbrev pub subcommand_plan : Text → List Row → Option Plan
subcommand_plan name rows =
    if bytes_eq name (codes "run") then run_plan rows
    else (if bytes_eq name (codes "list") then list_plan rows
    else (if bytes_eq name (codes "why") then why_plan rows
    else (if bytes_eq name (codes "workers") then workers_plan rows
    else (if bytes_eq name (codes "serve") then serve_plan rows
    else (if bytes_eq name (codes "emit") then emit_plan rows
    else (if bytes_eq name (codes "code") then code_plan rows
    else storm_plan rows))))))

-- the plan of the words; none if they ask for nothing that exists
abbrev pub plan_of : List Text → Option Plan
plan_of words =
    if is_empty (fault_of cnvm_app words) then option_and_then (λ p. subcommand_plan p.0 p.1)
    (subcommand_of cnvm_app words) else None

-- a plan of workers has from 1 to 8, and one of a storm reaches 1 event at least
abbrev pub HasLimits : Plan → Type 0
HasLimits (Workers program script workers slots records ticks) = (1 ≤ workers) × (workers ≤ 8)
HasLimits (WorkersPool program script workers slots records ticks pool) =
    (1 ≤ workers) × (workers ≤ 8)
HasLimits (Storm program start count reach plain slots records ticks) = 1 ≤ reach
HasLimits _ = Unit {0}
