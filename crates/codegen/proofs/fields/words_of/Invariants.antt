use Rattle.std.proofs.Common.{◌≡◌, drop}
use Rattle.codegen.specs.Fields.{words_from}
use Rattle.codegen.proofs.fields.words_of.Given as goal

abbrev pub invariant-loop-field : goal.invariant-loop-field
invariant-loop-field l = words_from l.limit l.words (drop l.field-index l.fields)
    ≡ words_from l.limit 0 l.fields
