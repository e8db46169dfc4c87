-- The bytes of a source, told or not.
use Rattle.std.proofs.Common.{◌≡◌, ℕ, zero, suc, ◌+◌, ◌*◌, ◌<◌, ◌≤◌, ℤ, List, [], ◌∷◌, length, take}
use Rattle.std.proofs.Common.{Result, Ok, Err, Option, Some, None, IfSome, refl, sym, ap, subst}
use Rattle.std.proofs.Common.{arith, ◌++◌, ◌∙◌}
use Rattle.pool_layout.specs.Sizes.{pool_lines}
use Rattle.pool_layout.specs.Fault.{IsFirstFault}
use Rattle.pool_layout.specs.Taken.{ReadOnto}
use Rattle.cnvm_compile.specs.declared.asked.Asked.{Asked}
use Rattle.cnvm_compile.specs.declared.compiling.Compiled.{Compiled}
use Rattle.cnvm_compile.specs.Compilation.{IsCompiled}
use Rattle.cnvm_session.specs.declared.program.Program.{Program}
use Rattle.cnvm_session.specs.Pool.{wanted_of, sizes_of}
use Rattle.cnvm_cli.specs.declared.refused.Refused.{Refused}
use Rattle.cnvm_cli.specs.declared.refused.Refused.TheVariants as refused
use Rattle.cnvm_cli.specs.inside.Opened.{ImageIs, ImageReadAs}
use Rattle.cnvm_cli.specs.inside.Texts.{ProgramReadAs, ReadIn}
use Rattle.cnvm_cli.specs.Opened.{read_part, AreImageWords}
use Rattle.cnvm_cli.specs.Verdict.{OfBytes, IsTextRefused, IsLongScript, Grammar, IsBadIn, SpellsIn}

-- what holds of a source's bytes holds of some bytes
pub known_bytes : (w : Option (List ℕ)) (P : List ℕ → Type 0) → OfBytes w P
    → (text : List ℕ) × P text
known_bytes None P is = is
known_bytes (Some text) P is = (text, is)

pub of_map : (w : Option (List ℕ)) (P Q : List ℕ → Type 0) → ((text : List ℕ) → P text → Q text)
    → OfBytes w P → OfBytes w Q
of_map None P Q so is = (is.0, so is.0 is.1)
of_map (Some text) P Q so is = so text is

-- what holds of the bytes that were read
pub of_read : (w : Option (List ℕ)) (P : List ℕ → Type 0) (bytes : List ℕ)
    → ((text : List ℕ) → w ≡ Some text → bytes ≡ text) → P bytes → OfBytes w P
of_read None P bytes same is = (bytes, is)
of_read (Some text) P bytes same is = subst P (same text refl) is

zeros : ℕ → List ℕ
zeros zero = []
zeros (suc n) = 0 ∷ zeros n

length_zeros : (n : ℕ) → length (zeros n) ≡ n
unfolding zeros
length_zeros zero = refl
length_zeros (suc n) = ap (λ k. suc k) (length_zeros n)

many : (n : ℕ) → n < length (zeros (suc n))
many n = let same = length_zeros (suc n) in omega (arith, same)

-- what holds of each text with more bytes than a limit
pub of_long : (w : Option (List ℕ)) (limit : ℕ) (P : List ℕ → Type 0)
    → ((text : List ℕ) → limit < length text → P text)
    → ((text : List ℕ) → w ≡ Some text → limit < length text) → OfBytes w P
of_long None limit P so is = (zeros (suc limit), so (zeros (suc limit)) (many limit))
of_long (Some text) limit P so is = so text (is text refl)

take_all : (n : ℕ) (bytes : List ℕ) → length bytes ≤ n → take n bytes ≡ bytes
take_all zero [] within = refl
take_all (suc n) [] within = refl
take_all zero (x ∷ xs) within = let no : ⊥ = omega (arith, within) in absurd no
take_all (suc n) (x ∷ xs) within =
    ap (λ (l : List ℕ). x ∷ l) (take_all n xs (omega (arith, within)))

-- what holds of the first bytes of a source
pub of_part : (n : ℕ) (w : Option (List ℕ)) (P : List ℕ → Type 0) (bytes : List ℕ)
    → IfSome w (λ all. bytes ≡ take n all) → length bytes ≤ n → P bytes
    → OfBytes w (λ all. P (take n all))
of_part n None P bytes first within is = (bytes, subst P (sym (take_all n bytes within)) is)
of_part n (Some all) P bytes first within is = subst P first is

pub program_read : (asked : Asked) (w : Option (List ℕ)) (r : Result Compiled Refused)
    (bytes : List ℕ) → ((text : List ℕ) → w ≡ Some text → bytes ≡ text)
    → ProgramReadAs asked r (Some bytes) → ProgramReadAs asked r w
program_read asked w (Ok compiled) bytes same is =
    of_read w (λ text. IsCompiled asked text compiled) bytes same is
program_read asked w (Err refused.LongProgram) bytes same is =
    of_read w (λ text. IsTextRefused text refused.LongProgram) bytes same is
program_read asked w (Err (refused.Program line complaint)) bytes same is =
    of_read w (λ text. IsTextRefused text (refused.Program line complaint)) bytes same is
program_read asked w (Err refused.ReadFault) bytes same is = tt
program_read asked w (Err refused.NoMemory) bytes same is = tt
program_read asked w (Err refused.Usage) bytes same is = absurd is
program_read asked w (Err refused.LongScript) bytes same is = absurd is
program_read asked w (Err (refused.Script number)) bytes same is = absurd is
program_read asked w (Err (refused.Image fault)) bytes same is = absurd is
program_read asked w (Err refused.Busy) bytes same is = absurd is

pub script_read : {C : Type 0} (means : Grammar C) (w : Option (List ℕ))
    (r : Result (List C) Refused) (bytes : List ℕ)
    → ((text : List ℕ) → w ≡ Some text → bytes ≡ text)
    → ReadIn means r (Some bytes) → ReadIn means r w
script_read {C} means w (Ok commands) bytes same is =
    of_read w (SpellsIn means commands) bytes same is
script_read {C} means w (Err refused.LongScript) bytes same is =
    of_read w IsLongScript bytes same is
script_read {C} means w (Err (refused.Script number)) bytes same is =
    of_read w (IsBadIn means number) bytes same is
script_read {C} means w (Err refused.ReadFault) bytes same is = tt
script_read {C} means w (Err refused.NoMemory) bytes same is = tt
script_read {C} means w (Err refused.Usage) bytes same is = absurd is
script_read {C} means w (Err refused.LongProgram) bytes same is = absurd is
script_read {C} means w (Err (refused.Program line complaint)) bytes same is = absurd is
script_read {C} means w (Err (refused.Image fault)) bytes same is = absurd is
script_read {C} means w (Err refused.Busy) bytes same is = absurd is

pub image_read : (program : Program) (w : Option (List ℕ)) (r : Result (List ℤ) Refused)
    (bytes : List ℕ) → IfSome w (λ all. bytes ≡ read_part program all)
    → length bytes ≤ 64 * pool_lines (sizes_of program) + 1
    → ImageIs program r bytes → ImageReadAs program r w
image_read program w (Ok words) bytes first within is = (
  is.0,
  is.1,
  of_part (64 * pool_lines (sizes_of program) + 1) w
      (λ part. AreImageWords program part words) bytes first within is.2,
)
image_read program w (Err (refused.Image fault)) bytes first within is =
    of_part (64 * pool_lines (sizes_of program) + 1) w
    (λ part. IsFirstFault (wanted_of program) part fault) bytes first within is
image_read program w (Err refused.ReadFault) bytes first within is = tt
image_read program w (Err refused.NoMemory) bytes first within is = tt
image_read program w (Err refused.Usage) bytes first within is = absurd is
image_read program w (Err refused.LongProgram) bytes first within is = absurd is
image_read program w (Err (refused.Program line complaint)) bytes first within is = absurd is
image_read program w (Err refused.LongScript) bytes first within is = absurd is
image_read program w (Err (refused.Script number)) bytes first within is = absurd is
image_read program w (Err refused.Busy) bytes first within is = absurd is

-- an image whose bytes were taken from a source, from none on
pub image_taken : (program : Program) (w : Option (List ℕ)) (r : Result (List ℤ) Refused)
    (none bytes : List ℕ) → none ≡ []
    → ReadOnto w (64 * pool_lines (sizes_of program) + 1) none bytes
    → ImageIs program r bytes → ImageReadAs program r w
image_taken program w r none bytes empty read is =
    let all : bytes ≡ read.bytes =
    read.grown ∙ ap (λ (l : List ℕ). l ++ read.bytes) empty in
    image_read program w r read.bytes read.first read.within (subst (ImageIs program r) all is)
