-- The promise of a builder function. If the tokens from its place on spell some tree, the answer is
-- that tree and the place after it; so they spell no other tree there. If they spell none, it
-- promises nothing.
use Rattle.std.specs.Prelude.{ℕ, ◌≡◌, ◌≢◌, ◌<◌, List}
use Rattle.c_lexer.specs.declared.token.Placed.{Placed}
use Rattle.c_tree.specs.declared.kind.Kind.{Kind}
use Rattle.c_tree.specs.declared.kind.Kind.TheVariants as kind
use Rattle.c_tree.specs.Kinds.{kind_at}
use Rattle.c_tree.specs.Operators.{level_of}

-- no other place and no other value is possible
pub record Fixes {A : Type 0} (P : ℕ → A → Type 0) (end : ℕ) (value : A) : Type 0 where
  pub same : (k : ℕ) (t : A) → P k t → (end ≡ k) × (value ≡ t)

-- everything derived by the first is derived by the second
pub record DerivesFrom {A : Type 0} (P Q : ℕ → A → Type 0) : Type 0 where
  pub on : (k : ℕ) (t : A) → P k t → Q k t

-- derived, and the next token satisfies the condition
pub record IsFollowed {A : Type 0} (ts : List Placed) (Following : Kind → Type 0) (P : ℕ
    → A → Type 0)
    (k : ℕ) (t : A) : Type 0 where
  pub spelled : P k t
  pub following : Following (kind_at ts k)

-- a token that doesn't continue an operand of levels 1 to l; a `?` is of level 11
abbrev pub Over : ℕ → Kind → Type 0
Over l (kind.Operator o) = l < level_of o
Over l kind.Question = l < 11
Over l kind.Arrow = ⊥
Over l kind.OpenSquare = ⊥
Over l kind.OpenRound = ⊥
Over l _ = Unit {0}

-- a token after which a name is no call
abbrev pub Uncalled : Kind → Type 0
Uncalled k = k ≢ kind.OpenRound

-- the token has that kind
abbrev pub IsOfKind : Kind → Kind → Type 0
IsOfKind wanted k = k ≡ wanted

-- the tokens that may follow a simple statement
abbrev pub ClosesSimple : Kind → Type 0
ClosesSimple kind.Semicolon = Unit {0}
ClosesSimple kind.CloseRound = Unit {0}
ClosesSimple _ = ⊥

-- the tokens that begin a function's result
abbrev pub BeginsResult : Kind → Type 0
BeginsResult kind.Void = Unit {0}
BeginsResult (kind.Int n) = Unit {0}
BeginsResult kind.Struct = Unit {0}
BeginsResult _ = ⊥
