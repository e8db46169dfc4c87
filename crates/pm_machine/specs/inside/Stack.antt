-- What only bodies and proofs need beside `Stack`.
use Rattle.std.specs.Prelude.{ℕ, ◌+◌, ◌≤◌, List, [], ◌∷◌}
use Rattle.pm_machine.specs.declared.frames.Waiting.{Waiting}

-- how many words these frames keep
abbrev pub words_of : List Waiting → ℕ
words_of [] = 0
words_of (w ∷ ws) = w.used + words_of ws

-- none of these frames keeps more than n words
abbrev pub AreSized : ℕ → List Waiting → Type 0
AreSized n [] = Unit {0}
AreSized n (w ∷ ws) = (w.used ≤ n) × AreSized n ws
