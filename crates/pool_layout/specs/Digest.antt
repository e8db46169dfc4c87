-- The digest of a text: SHA-256 in four words, each of eight bytes in order, the lowest first.
use Rattle.std.specs.Prelude.{ℕ, List, [], ◌∷◌, ℤ}
use Rattle.sha2.specs.Sha256.{sha256}
use Rattle.pool_layout.specs.Bytes.{word_in}

abbrev pub digest_of : List ℕ → List ℤ
digest_of text = word_in (sha256 text) 0 ∷ word_in (sha256 text) 1 ∷ word_in (sha256 text) 2
    ∷ word_in (sha256 text) 3 ∷ []
