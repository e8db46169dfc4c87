-- A stack is a list that begins with its top.
use Rattle.std.specs.Prelude.{◌≡◌, List, [], ◌∷◌, Option, None, Some}

-- the top was popped, if there was one
abbrev pub Popped : {A : Type 0} → Option A → (new old : List A) → Type 0
Popped None new old = (old ≡ []) × (new ≡ [])
Popped (Some a) new old = old ≡ a ∷ new
