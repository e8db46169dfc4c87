-- Of each call of `cnvm` with the words of a run on a new pool, of which its clause `source` holds:
-- what it is to its user, by the one meaning of the program's text.
use Rattle.std.specs.Prelude.{ℕ, List, Bool, Option, Some, None, ◌⊎◌}
use Rattle.user_law.specs.Run.{TextMeaning}
use Rattle.text_law.specs.Law.{IsMeaningOf}
use Rattle.cnvm_words.specs.declared.plan.Plan.TheVariants as plan
use Rattle.session_run.specs.declared.status.Status.{Status}
use Rattle.session_run.specs.declared.status.Status.TheVariants as status
use Rattle.session_run.specs.Strict.{IsAnswered}
use Rattle.cnvm_compile.specs.declared.asked.Asked.{Asked}
use Rattle.cnvm_compile.specs.declared.compiling.Compiled.{Compiled}
use Rattle.cnvm_compile.specs.Compilation.{IsCompiled}
use Rattle.cnvm_cli.specs.declared.refused.Refused.{Refused}
use Rattle.cnvm_cli.specs.Meant.{CallMeant}
use Rattle.cnvm_cli.specs.Verdict.{OfBytes, asked_by, IsAccepted, TextsRefuse}
use Rattle.cnvm_cli.specs.World.{Sources, Outside}
use Rattle.call_law.specs.Call.{IsUserCall, IsUserPart}

-- the meaning is that of the text, whichever of its programs is asked, for pools of any sizes
abbrev pub IsTextMeaning : (text : List ℕ) → TextMeaning text → Type 0
IsTextMeaning text meaning =
    (given : Asked) (first : Compiled) → IsCompiled given text first →
    IsMeaningOf text first.program meaning

-- A text that is accepted has a meaning, for all of its calls.
abbrev pub MeaningLaw : Type 0
MeaningLaw = (given : Asked) (text : List ℕ) → IsAccepted given text →
    (meaning : TextMeaning text) × IsTextMeaning text meaning

-- The program's text is accepted, and by its meaning this holds of it and of the script.
abbrev pub ByMeaning : Asked → (program script : Option (List ℕ))
    → ((text script : List ℕ) → TextMeaning text → Type 0) → Type 0
ByMeaning asked program script P =
    OfBytes program (λ text. IsAccepted asked text × OfBytes script (λ commands.
    (meaning : TextMeaning text) → IsTextMeaning text meaning → P text commands meaning))

-- With status 0 or 10 the whole script was run.
abbrev pub UserCallLaw : Type 0
UserCallLaw =
    (p s : List ℕ) (slots records ticks : ℕ) (strict : Bool) (told : Sources) (result : Status)
    (before after : Outside) → IsAnswered result →
    CallMeant (Some (plan.Run p s slots records ticks None None strict)) told result before after →
    ByMeaning (asked_by slots records ticks) told.program told.script
    (λ text script meaning.
    IsUserCall (asked_by slots records ticks) text script meaning before after)

-- Where the writing failed, a text was refused, or a part of the script was run.
abbrev pub UserPartLaw : Type 0
UserPartLaw =
    (p s : List ℕ) (slots records ticks : ℕ) (strict : Bool) (told : Sources)
    (before after : Outside) →
    CallMeant (Some (plan.Run p s slots records ticks None None strict)) told status.WriteFault
    before after →
    ((why : Refused) × TextsRefuse (asked_by slots records ticks) told.program told.script why)
    ⊎ ByMeaning (asked_by slots records ticks) told.program told.script
    (λ text script meaning.
    IsUserPart (asked_by slots records ticks) text script meaning before after)
