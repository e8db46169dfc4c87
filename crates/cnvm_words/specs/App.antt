-- The words in clap's terms: one command with the subcommands run, list, storm, why, workers,
-- serve, emit and code. Each option is named in full, takes one value, but for a flag, and is given
-- at most once; help and version are off.
use Rattle.std.specs.Prelude.{Some, true, codes}
use Rattle.clap.specs.Words.{App, Rule, Text, new_app, new_rule, with_rule, with_subcommand}
use Rattle.clap.specs.declared.builder.action.ArgAction.TheVariants.{Set, SetTrue}

abbrev pub option_rule : Text → Rule
option_rule name = record (new_rule name) { long = Some name; action = Some Set }

-- an option without a value
abbrev pub flag_rule : Text → Rule
flag_rule name = record (new_rule name) { long = Some name; action = Some SetTrue }

abbrev pub place_rule : Text → Rule
place_rule name = record (new_rule name) { action = Some Set; required = true }

-- a command with the options for the sizes of a pool
abbrev pub sized : App → App
sized app = with_rule (with_rule (with_rule app (option_rule (codes "slots")))
    (option_rule (codes "log"))) (option_rule (codes "ticks"))

-- a command with the options for a pool's own file, and for the former text of its program
abbrev pub pooled : App → App
pooled app = with_rule (with_rule app (option_rule (codes "pool"))) (option_rule (codes "from"))

-- a command with the options for the files of a pool
abbrev pub filed : App → App
filed app =
    pooled (with_rule (with_rule app (option_rule (codes "open"))) (option_rule (codes "save")))

-- a command with the options for how a storm cuts and counts
abbrev pub counting : App → App
counting app =
    with_rule (with_rule app (option_rule (codes "reach"))) (flag_rule (codes "plain"))

abbrev pub run_app : App
run_app =
    sized
    (filed
    (with_rule
    (with_rule (with_rule (new_app (codes "run")) (place_rule (codes "program")))
    (place_rule (codes "script")))
    (flag_rule (codes "strict"))))

abbrev pub list_app : App
list_app = with_rule (new_app (codes "list")) (place_rule (codes "program"))

abbrev pub storm_app : App
storm_app =
    sized
    (counting
    (with_rule
    (with_rule (with_rule (new_app (codes "storm")) (place_rule (codes "program")))
    (place_rule (codes "start")))
    (place_rule (codes "count"))))

abbrev pub why_app : App
why_app = with_rule (new_app (codes "why")) (place_rule (codes "program"))

abbrev pub workers_app : App
workers_app =
    sized
    (with_rule
    (with_rule
    (with_rule (with_rule (new_app (codes "workers")) (place_rule (codes "program")))
    (place_rule (codes "script")))
    (option_rule (codes "workers")))
    (option_rule (codes "pool")))

abbrev pub serve_app : App
serve_app =
    sized (pooled (with_rule (new_app (codes "serve")) (place_rule (codes "program"))))

abbrev pub emit_app : App
emit_app =
    sized
    (with_rule
    (with_rule (with_rule (new_app (codes "emit")) (place_rule (codes "program")))
    (option_rule (codes "prefix")))
    (flag_rule (codes "header")))

abbrev pub code_app : App
code_app = with_rule (new_app (codes "code")) (place_rule (codes "program"))

-- the words have no program name, and a subcommand is required
abbrev pub bare_app : App
bare_app = let a = new_app (codes "cnvm") in record a {
  top = record a.top {
    no_binary_name = true;
    disable_help_flag = true;
    disable_help_subcommand = true;
    disable_version_flag = true;
    subcommand_required = true;
  };
}

-- a command with the subcommands why, workers, serve, emit and code
abbrev pub with_others : App → App
with_others app =
    with_subcommand
    (with_subcommand
    (with_subcommand
    (with_subcommand (with_subcommand app why_app.top) workers_app.top) serve_app.top) emit_app.top)
    code_app.top

unfoldable pub cnvm_app : App
cnvm_app =
    with_others
    (with_subcommand
    (with_subcommand (with_subcommand bare_app run_app.top) list_app.top) storm_app.top)
