-- Which bytes are an image of a pool with the wanted sizes and digest, and which fault applies if
-- they aren't: the first of short, magic, version, sizes, digest and content.
use Rattle.std.specs.Prelude.{ℕ, ◌*◌, ◌≡◌, ◌&&◌, ◌||◌, not, nat_lt, nat_le, cond, Bool, true, false}
use Rattle.std.specs.Prelude.{List, [], ◌∷◌, length, Option, Some, None, ℤ, pos}
use Rattle.std.specs.Ordering.{int_eq}
use Rattle.std.specs.Cmp.Lexicographic.{pointwise}
use Rattle.pool_layout.specs.declared.places.Version.{Version}
use Rattle.pool_layout.specs.declared.places.Version.TheVariants.{First, Second}
use Rattle.pool_layout.specs.declared.rules.Rules.{Rules}
use Rattle.pool_layout.specs.declared.wanted.Wanted.{Wanted}
use Rattle.pool_layout.specs.declared.wanted.ImageFault.{ImageFault}
use Rattle.pool_layout.specs.declared.wanted.ImageFault.TheVariants.{Short, Magic, Content}
use Rattle.pool_layout.specs.declared.wanted.ImageFault.TheVariants.{NoMemory, Version as OfVersion}
use Rattle.pool_layout.specs.declared.wanted.ImageFault.TheVariants.{Sizes as OfSizes}
use Rattle.pool_layout.specs.declared.wanted.ImageFault.TheVariants.{Digest as OfDigest}
use Rattle.pool_layout.specs.Places.{layout_words}
use Rattle.pool_layout.specs.Bytes.{word_in}
use Rattle.pool_layout.specs.Good.{magic}
use Rattle.pool_layout.specs.Content.{KeepsRules, IsFirstBreak}

-- the first version if there are at least 16 bytes and word 1 is 1, else the second
abbrev pub version_of : List ℕ → Version
version_of bytes = cond (nat_le 16 (length bytes) && int_eq (word_in bytes 1) (pos 1)) First Second

abbrev pub rules_of : Wanted → List ℕ → Rules
rules_of wanted bytes = record {
  layout = record { version = version_of bytes; sizes = wanted.sizes };
  txs = wanted.txs;
  structs = wanted.structs;
}

-- the length in bytes of an image of that version
abbrev pub needed : Wanted → List ℕ → ℕ
needed wanted bytes = 8 * layout_words (rules_of wanted bytes).layout

abbrev pub when : Bool → ImageFault → Option ImageFault
when true fault = Some fault
when false fault = None

-- the first fault that applies
abbrev pub first_fault : List (Option ImageFault) → Option ImageFault
first_fault [] = None
first_fault (None ∷ faults) = first_fault faults
first_fault (Some fault ∷ faults) = Some fault

-- fewer bytes than needed
abbrev pub short_fault : Wanted → List ℕ → Option ImageFault
short_fault wanted bytes = when (nat_lt (length bytes) (needed wanted bytes))
    (Short (length bytes) (needed wanted bytes))

abbrev pub magic_fault : List ℕ → Option ImageFault
magic_fault bytes = when (not (int_eq (word_in bytes 0) magic)) (Magic (word_in bytes 0) magic)

abbrev pub version_fault : List ℕ → Option ImageFault
version_fault bytes =
    when (not (int_eq (word_in bytes 1) (pos 1) || int_eq (word_in bytes 1) (pos 2)))
    (OfVersion (word_in bytes 1) (pos 2))

abbrev pub size_fault : List ℕ → ℕ → ℕ → Option ImageFault
size_fault bytes k wanted = when (not (int_eq (word_in bytes k) (pos wanted)))
    (OfSizes (word_in bytes k) (pos wanted))

-- more bytes than needed
abbrev pub length_fault : Wanted → List ℕ → Option ImageFault
length_fault wanted bytes = when (nat_lt (needed wanted bytes) (length bytes))
    (OfSizes (pos (length bytes)) (pos (needed wanted bytes)))

-- slots, records, root words, ticks, and then the length, in this order
abbrev pub sizes_fault : Wanted → List ℕ → Option ImageFault
sizes_fault wanted bytes = first_fault (
    size_fault bytes 2 wanted.sizes.slots
    ∷ size_fault bytes 3 wanted.sizes.records
    ∷ size_fault bytes 4 wanted.sizes.root_words
    ∷ size_fault bytes 5 wanted.sizes.ticks
    ∷ length_fault wanted bytes
    ∷ [])

-- words 8 to 11
abbrev pub digest_in : List ℕ → List ℤ
digest_in bytes = word_in bytes 8 ∷ word_in bytes 9 ∷ word_in bytes 10 ∷ word_in bytes 11 ∷ []

abbrev pub digest_fault : Wanted → List ℕ → Option ImageFault
digest_fault wanted bytes = when (not (pointwise int_eq (digest_in bytes) wanted.digest))
    (OfDigest (digest_in bytes) wanted.digest)

-- the faults before Content
unfoldable pub early_fault : Wanted → List ℕ → Option ImageFault
early_fault wanted bytes =
    first_fault (short_fault wanted bytes ∷ magic_fault bytes ∷ version_fault bytes
    ∷ sizes_fault wanted bytes ∷ digest_fault wanted bytes ∷ [])

-- no fault applies
pub record Accepts (wanted : Wanted) (bytes : List ℕ) : Type 0 where
  pub early : early_fault wanted bytes ≡ None
  pub content : KeepsRules (rules_of wanted bytes) (word_in bytes)

-- a fault of content applies, at the least word that breaks a rule
pub record BreaksContent (wanted : Wanted) (bytes : List ℕ) (word : ℕ) (value : ℤ) : Type 0 where
  pub early : early_fault wanted bytes ≡ None
  pub first : IsFirstBreak (rules_of wanted bytes) (word_in bytes) word
  pub value_is : value ≡ word_in bytes word

-- this fault is the first that applies; want of memory comes last
abbrev pub IsFirstFault : Wanted → List ℕ → ImageFault → Type 0
IsFirstFault wanted bytes NoMemory = Accepts wanted bytes
IsFirstFault wanted bytes (Content word value) = BreaksContent wanted bytes word value
IsFirstFault wanted bytes fault = early_fault wanted bytes ≡ Some fault
