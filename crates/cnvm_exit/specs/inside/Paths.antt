-- Which path is whose: the program's and that of its former text, the script's, that of the image
-- that is opened or of the pool's file, and that of the image that is saved. Where the words name
-- none, the path is empty. A script comes from standard input where its path is `-`, and so do
-- lines that are served.
use Rattle.std.specs.Prelude.{ℕ, List, [], Option, Some, None, codes, if◌then◌else◌}
use Rattle.std.specs.Str.{bytes_eq}
use Rattle.nvm_base.specs.Path.{path_of_source}
use Rattle.cnvm_words.specs.declared.plan.Plan.{Plan}
use Rattle.cnvm_words.specs.declared.plan.Plan.TheVariants as plan
use Rattle.cnvm_exit.specs.declared.exit.Paths.{Paths}
use Rattle.cnvm_exit.specs.declared.script_source.Origin.{Origin}
use Rattle.cnvm_exit.specs.declared.script_source.Origin.TheVariants.{File, Input, Lines}
use Rattle.cnvm_exit.specs.declared.script_source.ScriptSource.{ScriptSource}

abbrev pub path_or_none : Option (List ℕ) → List ℕ
path_or_none None = []
path_or_none (Some path) = path

abbrev pub program_alone : List ℕ → Paths
program_alone path =
    record {
      program = path;
      origin = File;
      script = [];
      image_in = [];
      image_out = [];
      former = [];
    }

abbrev pub served_paths : (program pool : List ℕ) → (former : Option (List ℕ)) → Paths
served_paths program pool former =
    record {
      program = program;
      origin = Lines;
      script = [];
      image_in = pool;
      image_out = [];
      former = path_or_none former;
    }

abbrev pub origin_of : (path : List ℕ) → Origin
origin_of path = if bytes_eq path (codes "-") then Input else File

abbrev pub paths_in : Option Plan → Paths
paths_in None = program_alone []
paths_in (Some (plan.Run program script slots records ticks opened saved strict)) = record {
  program = program;
  origin = origin_of script;
  script = script;
  image_in = path_or_none opened;
  image_out = path_or_none saved;
  former = [];
}
paths_in (Some (plan.RunPool program script slots records ticks pool former strict)) = record {
  program = program;
  origin = origin_of script;
  script = script;
  image_in = pool;
  image_out = [];
  former = path_or_none former;
}
paths_in (Some (plan.Serve program slots records ticks)) = served_paths program [] None
paths_in (Some (plan.ServePool program slots records ticks pool former)) =
    served_paths program pool former
paths_in (Some (plan.List program)) = program_alone program
paths_in (Some (plan.Storm program start count reach plain slots records ticks)) =
    program_alone program
paths_in (Some (plan.Why program)) = program_alone program
paths_in (Some (plan.Workers program script workers slots records ticks)) = record {
  program = program;
  origin = File;
  script = script;
  image_in = [];
  image_out = [];
  former = [];
}
paths_in (Some (plan.WorkersPool program script workers slots records ticks pool)) = record {
  program = program;
  origin = File;
  script = script;
  image_in = pool;
  image_out = [];
  former = [];
}
paths_in (Some (plan.Emit program prefix header slots records ticks)) = program_alone program
paths_in (Some (plan.Code program)) = program_alone program

abbrev pub path_of_script : {R F E A : Type 0} → ScriptSource R F E A → List ℕ
path_of_script source = path_of_source source.file
