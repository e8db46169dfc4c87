-- A row that grows leaves less room.
use Rattle.std.proofs.Common.{◌≡◌, ◌<◌, ◌≤◌, ◌*◌, ◌^◌, ℕ, zero, suc, List, [], ◌∷◌, length}
use Rattle.std.proofs.Common.{slice_set, refl, sym, ◌∙◌, ap, subst, arith, map}
use Rattle.std.proofs.Common.{get_or, Vec, Global}
use Rattle.std.specs.Prelude.{bit_or, slice_index_or}
use Rattle.std.proofs.lemmas.List.{get_or-map, map-set, length-set}
use Rattle.clobber_pass.specs.Row.{word}
use Rattle.clobber_pass.specs.Sweep.{row_in}
use Rattle.clobber_pass.specs.inside.Sweep.{or_from}
use Rattle.clobber_pass.specs.inside.Room.{words_room, row_room, room, all_room}

-- a word that grows
pub words_room_less : (row : List ℕ) (s w : ℕ) → s < length row → word row s < w
    → word row s < 2 ^ 16 → words_room (slice_set row s w) < words_room row
words_room_less [] s w inside more fits = absurd (omega arith)
words_room_less (v ∷ row) zero w inside more fits = omega arith
words_room_less (v ∷ row) (suc s) w inside more fits =
    let less : words_room (slice_set row s w) < words_room row =
    words_room_less row s w (omega arith) more fits in
    omega arith

-- writing the word that is already there
pub set_again : (row : List ℕ) (s w : ℕ) → w ≡ word row s → slice_set row s w ≡ row
set_again [] s w is = refl
set_again (v ∷ row) zero w is = ap (λ x. x ∷ row) is
set_again (v ∷ row) (suc s) w is = ap (λ rest. v ∷ rest) (set_again row s w is)

pub words_room_most : (row : List ℕ) (s w : ℕ) → s < length row → word row s < w
    → words_room (slice_set row s w) ≤ words_room row
words_room_most [] s w inside more = absurd (omega arith)
words_room_most (v ∷ row) zero w inside more = omega arith
words_room_most (v ∷ row) (suc s) w inside more =
    let less : words_room (slice_set row s w) ≤ words_room row =
    words_room_most row s w (omega arith) more in
    omega arith

pub ruleset raising = (words_room_less, words_room_most, set_again)

-- a row of a table that leaves less room
pub room_less : (rows : List (List ℕ)) (p : ℕ) (row : List ℕ) → p < length rows
    → row_room row < row_room (row_in rows p) → room (slice_set rows p row) < room rows
room_less [] p row inside less = absurd (omega arith)
room_less (r ∷ rows) zero row inside less = omega arith
room_less (r ∷ rows) (suc p) row inside less =
    let rest : room (slice_set rows p row) < room rows = room_less rows p row (omega arith) less in
    omega arith

pub room_most : (rows : List (List ℕ)) (p : ℕ) (row : List ℕ)
    → row_room row ≤ row_room (row_in rows p) → room (slice_set rows p row) ≤ room rows
room_most [] p row less = omega arith
room_most (r ∷ rows) zero row less = omega arith
room_most (r ∷ rows) (suc p) row less =
    let rest : room (slice_set rows p row) ≤ room rows = room_most rows p row less in
    omega arith

-- joining words to a row that isn't empty
pub or_room_less : (more row : List ℕ) → words_room (or_from more 0 row) < words_room row
    → row_room (or_from more 0 row) < row_room row
or_room_less more [] less = absurd (omega arith)
or_room_less more (w ∷ ws) less = less

pub or_room_most : (more row : List ℕ) → words_room (or_from more 0 row) ≤ words_room row
    → row_room (or_from more 0 row) ≤ row_room row
or_room_most more [] less = omega arith
or_room_most more (w ∷ ws) less = less

words_few : (row : List ℕ) → words_room row ≤ length row * 2 ^ 16
words_few [] = omega arith
words_few (w ∷ ws) = let rest : words_room ws ≤ length ws * 2 ^ 16 = words_few ws in omega arith

-- any row leaves less room than an empty one
pub filled_less : (row : List ℕ) → 0 < length row → length row < 2 ^ 64 → row_room row < row_room []
filled_less [] some few = absurd (omega arith)
filled_less (w ∷ ws) some few = let all : words_room (w ∷ ws) ≤ length (w ∷ ws) * 2 ^ 16 =
    words_few (w ∷ ws) in omega arith

row_again : (rows : List (List ℕ)) (p : ℕ) (row : List ℕ) → row ≡ row_in rows p
    → slice_set rows p row ≡ rows
row_again [] p row is = refl
row_again (r ∷ rows) zero row is = ap (λ x. x ∷ rows) is
row_again (r ∷ rows) (suc p) row is = ap (λ rest. r ∷ rest) (row_again rows p row is)

-- the tables of all functions
pub all_room_less : (tables : List (List (List ℕ))) (g : ℕ) (rows : List (List ℕ))
    (old : List (List ℕ)) → g < length tables → old ≡ slice_index_or tables g []
    → room rows < room old → all_room (slice_set tables g rows) < all_room tables
all_room_less [] g rows old inside is less = absurd (omega arith)
all_room_less (t ∷ tables) zero rows old inside is less = let e : room old ≡ room t = ap room is in
    omega arith
all_room_less (t ∷ tables) (suc g) rows old inside is less =
    let rest : all_room (slice_set tables g rows) < all_room tables =
    all_room_less tables g rows old (omega arith) is less in
    omega arith

pub all_room_most : (tables : List (List (List ℕ))) (g : ℕ) (rows : List (List ℕ))
    (old : List (List ℕ)) → old ≡ slice_index_or tables g [] → room rows ≤ room old
    → all_room (slice_set tables g rows) ≤ all_room tables
all_room_most [] g rows old is less = omega arith
all_room_most (t ∷ tables) zero rows old is less = let e : room old ≡ room t = ap room is in
    omega arith
all_room_most (t ∷ tables) (suc g) rows old is less =
    let rest : all_room (slice_set tables g rows) ≤ all_room tables =
    all_room_most tables g rows old is less in
    omega arith

-- the table after a row was written
pub written : (rows : List (Vec ℕ Global)) (table : List (List ℕ))
    → map (λ (v : Vec ℕ Global). v.items) rows ≡ table → (p : ℕ) (new : Vec ℕ Global)
    → map (λ (v : Vec ℕ Global). v.items) (slice_set rows p new) ≡ slice_set table p new.items
written rows table view p new =
    map-set (λ (v : Vec ℕ Global). v.items) rows p new
    ∙ ap (λ (t : List (List ℕ)). slice_set t p new.items) view

size : (vs : List (Vec ℕ Global)) → length (map (λ (v : Vec ℕ Global). v.items) vs) ≡ length vs
size [] = refl
size (v ∷ vs) = ap suc (size vs)

-- writing the row of a place that has none
pub filled_room : (rows : List (Vec ℕ Global)) (table : List (List ℕ))
    → map (λ (v : Vec ℕ Global). v.items) rows ≡ table → (p : ℕ) (row : List ℕ)
    → p < length rows → row_in table p ≡ [] → 0 < length row → length row < 2 ^ 64
    → room (slice_set table p row) < room table
filled_room rows table view p row inside none some few =
    let inside_table : p < length table =
    subst (λ (t : List (List ℕ)). p < length t) view
    (subst (λ n. p < n) (sym (size rows)) inside) in
    room_less table p row inside_table
    (subst (λ r. row_room row < row_room r) (sym none) (filled_less row some few))

-- a row of a table, as the code has it
row_stands : (rows : List (Vec ℕ Global)) (table : List (List ℕ))
    → map (λ (v : Vec ℕ Global). v.items) rows ≡ table → (p : ℕ) → p < length rows
    → (was : Vec ℕ Global) → was ≡ get_or rows p was → was.items ≡ row_in table p
row_stands rows table view p inside was was_is =
    ap (λ (v : Vec ℕ Global). v.items) was_is
    ∙ sym (get_or-map (λ (v : Vec ℕ Global). v.items) rows p was [] inside)
    ∙ ap (λ t. row_in t p) view

row_room_most : (row old : List ℕ) → length row ≡ length old → words_room row ≤ words_room old
    → row_room row ≤ row_room old
row_room_most [] [] same most = omega arith
row_room_most (w ∷ ws) [] same most = absurd (omega (arith, same))
row_room_most [] (v ∷ vs) same most = absurd (omega (arith, same))
row_room_most (w ∷ ws) (v ∷ vs) same most = most

-- a row of a table after bits were added to one of its words
module _ (rows : List (Vec ℕ Global)) (table : List (List ℕ))
    (view : map (λ (v : Vec ℕ Global). v.items) rows ≡ table) (p : ℕ) (inside : p < length rows)
    (was : Vec ℕ Global) (was_is : was ≡ get_or rows p was) (s bits : ℕ) (row : List ℕ)
    (more : row ≡ slice_set was.items s (bit_or (word was.items s) bits)) where
  pub raised_row : row ≡ slice_set (row_in table p) s (bit_or (word (row_in table p) s) bits)
  raised_row = more ∙ ap (λ r. slice_set r s (bit_or (word r s) bits))
      (row_stands rows table view p inside was was_is)

  pub raised_length : length row ≡ length was.items
  raised_length = ap (λ (r : List ℕ). length r) more ∙ length-set was.items s _

  pub raised_most : words_room row ≤ words_room was.items
      → room (slice_set table p row) ≤ room table
  raised_most most = room_most table p row
      (subst (λ r. row_room row ≤ row_room r) (row_stands rows table view p inside was was_is)
      (row_room_most row was.items raised_length most))

-- a row of a table that was joined in place, as the code has it
module _ (rows : List (Vec ℕ Global)) (table : List (List ℕ))
    (view : map (λ (v : Vec ℕ Global). v.items) rows ≡ table) (p : ℕ) (inside : p < length rows)
    (was : Vec ℕ Global) (was_is : was ≡ get_or rows p was) (more row : List ℕ)
    (joined : row ≡ or_from more 0 was.items) where
  inside_table : p < length table
  inside_table = subst (λ t. p < length t) view (subst (λ n. p < n) (sym (size rows)) inside)

  stands : was.items ≡ row_in table p
  stands = row_stands rows table view p inside was was_is

  pub joined_row : row ≡ or_from more 0 (row_in table p)
  joined_row = joined ∙ ap (or_from more 0) stands

  pub joined_same : row ≡ was.items → slice_set table p row ≡ table
  joined_same same = row_again table p row (same ∙ stands)

  pub joined_less : words_room row < words_room was.items
      → room (slice_set table p row) < room table
  joined_less less =
      let rises : words_room (or_from more 0 (row_in table p)) < words_room (row_in table p) =
      subst (λ r. words_room r < words_room (row_in table p)) joined_row
      (subst (λ r. words_room row < words_room r) stands less) in
      room_less table p row inside_table
      (subst (λ r. row_room r < row_room (row_in table p)) (sym joined_row)
      (or_room_less more (row_in table p) rises))

  pub joined_most : words_room row ≤ words_room was.items
      → room (slice_set table p row) ≤ room table
  joined_most most =
      let rises : words_room (or_from more 0 (row_in table p)) ≤ words_room (row_in table p) =
      subst (λ r. words_room r ≤ words_room (row_in table p)) joined_row
      (subst (λ r. words_room row ≤ words_room r) stands most) in
      room_most table p row (subst (λ r. row_room r ≤ row_room (row_in table p)) (sym joined_row)
      (or_room_most more (row_in table p) rises))

pub ruleset all_rooms = (all_room_less, all_room_most)
