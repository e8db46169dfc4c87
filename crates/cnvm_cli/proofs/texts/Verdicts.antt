-- What a text is refused for.
use Rattle.std.proofs.Common.{◌≡◌, ℕ, ◌<◌, List, Some, Err, length, refl, ap, subst}
use Rattle.std.proofs.lemmas.Bool.{lt-ltb}
use Rattle.nvm_base.specs.declared.input.ReadAllFault.{ReadAllFault}
use Rattle.nvm_base.specs.declared.input.ReadAllFault.TheVariants as all
use Rattle.c_lexer.specs.declared.fault.LexFault.TheVariants as lex
use Rattle.cnvm_compile.specs.declared.front_end.ProgramFault.{ProgramFault}
use Rattle.cnvm_compile.specs.declared.front_end.ProgramFault.TheVariants.{Lex}
use Rattle.cnvm_compile.specs.declared.told.Told.{Told}
use Rattle.cnvm_compile.specs.declared.told.Told.TheVariants as told
use Rattle.cnvm_compile.specs.FrontEnd.{RefusesText}
use Rattle.cnvm_compile.specs.Told.{told_of}
use Rattle.cnvm_cli.specs.declared.refused.Refused.TheVariants as refused
use Rattle.cnvm_cli.specs.inside.Texts.{TextIs}
use Rattle.cnvm_cli.specs.Verdict.{refused_by, IsTextRefused, ProgramRefuses}

pub text_long : (limit : ℕ) (why : ReadAllFault) (text : List ℕ) → why ≡ all.Long
    → TextIs limit (Err why) text → limit < length text
text_long limit why text is told = subst (λ (k : ReadAllFault). TextIs limit (Err k) text) is told

-- a text with more bytes than a program may have is refused
pub long_refused : (text : List ℕ) → 262144 < length text → IsTextRefused text refused.LongProgram
long_refused text long = (
  Lex lex.TooLong,
  (rw (lt-ltb 262144 (length text) long) refl, λ no. let e = no in cc),
  refl,
)

-- what is reported of a refused text is why it is refused
pub told_refuses : (text : List ℕ) (fault : ProgramFault) (tells : Told) → told_of fault ≡ tells
    → RefusesText text fault → ProgramRefuses (Some text) (refused_by tells)
told_refuses text fault told.Long is refuses = (fault, refuses, ap refused_by is)
told_refuses text fault (told.At line complaint) is refuses = (fault, refuses, ap refused_by is)
told_refuses text fault told.NoMemory is refuses = tt
