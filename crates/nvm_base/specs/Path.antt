-- The path of the file that a source or a sink stands for, and what a kept one stands over.
use Rattle.std.specs.Prelude.{ℕ, List, Option, option_map}
use Rattle.nvm_base.specs.declared.kept_source.KeptSource.{KeptSource}
use Rattle.nvm_base.specs.declared.saved_file.SavedFile.{SavedFile}
use Rattle.nvm_base.specs.declared.std_sink.StdSink.{StdSink}
use Rattle.nvm_base.specs.declared.std_source.StdSource.{StdSource}

abbrev pub path_of_source : {R F A : Type 0} → StdSource R F A → List ℕ
path_of_source source = source.path.now

-- None for standard output
abbrev pub path_of_sink : {R F A : Type 0} → StdSink R F A → Option (List ℕ)
path_of_sink sink = option_map (λ path. path.now) sink.path

abbrev pub path_of_saved : {R F A : Type 0} → SavedFile R F A → List ℕ
path_of_saved saved = saved.path.now

-- the source or the sink below
abbrev pub source_below : {S : Type 0} → KeptSource S → S
source_below kept = kept.source
