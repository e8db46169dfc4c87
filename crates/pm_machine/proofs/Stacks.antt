-- The frames of a stack whose registers are in one list.
use Rattle.std.proofs.Common.{◌≡◌, ℕ, ◌+◌, ◌-◌, ◌*◌, ◌<◌, ◌≤◌, suc, List, [], ◌∷◌, ◌++◌, length}
use Rattle.std.proofs.Common.{take, drop, replicate, ℤ, pos, Some, refl, sym, ap, ◌∙◌}
use Rattle.std.proofs.Common.{arith}
use Rattle.std.specs.Prelude.{slice_get}
use Rattle.std.proofs.lemmas.List.{length-drop, length-take-le, length_push, take-append-drop}
use Rattle.std.proofs.lemmas.List.{take-append-le, drop-append-le, take_all, take_at}
use Rattle.std.proofs.lemmas.List.{get_or_push, nil_from_length}
use Rattle.std.proofs.lemmas.Option.{slice_get_read}
use Rattle.std.proofs.lemmas.Nat.{mul-le}
use Rattle.pm_machine.specs.declared.frame.Frame.{Frame}
use Rattle.pm_machine.specs.declared.frames.Waiting.{Waiting}
use Rattle.pm_machine.specs.Stack.{frame_of, frames_of}
use Rattle.pm_machine.specs.inside.Stack.{words_of, AreSized}

times_suc : (n k : ℕ) → n * suc k ≡ n + n * k
times_suc n k = omega arith

pub frames_length : (n : ℕ) (ws : List Waiting) (words : List ℤ)
    → length (frames_of n ws words) ≡ length ws
frames_length n [] words = refl
frames_length n (w ∷ ws) words = ap suc (frames_length n ws (drop w.used words))

pub words_push : (ws : List Waiting) (w : Waiting)
    → words_of (ws ++ w ∷ []) ≡ words_of ws + w.used
words_push [] w = omega arith
words_push (v ∷ vs) w = let rest = words_push vs w in omega (arith, rest)

pub sized_push : (n : ℕ) (ws : List Waiting) (w : Waiting) → AreSized n ws → w.used ≤ n
    → AreSized n (ws ++ w ∷ [])
sized_push n [] w sized le = (le, tt)
sized_push n (v ∷ vs) w sized le = (sized.0, sized_push n vs w sized.1 le)

pub sized_before : (n : ℕ) (ws : List Waiting) (w : Waiting) → AreSized n (ws ++ w ∷ [])
    → AreSized n ws × (w.used ≤ n)
sized_before n [] w sized = (tt, sized.0)
sized_before n (v ∷ vs) w sized =
    let rest = sized_before n vs w sized.1 in ((sized.0, rest.0), rest.1)

-- frames of at most n words each keep at most n words for each frame
pub words_fit : (n : ℕ) (ws : List Waiting) → AreSized n ws → words_of ws ≤ n * length ws
words_fit n [] sized = omega arith
words_fit n (w ∷ ws) sized =
    let rest = words_fit n ws sized.1 in
    let more : n * suc (length ws) ≡ n + n * length ws = times_suc n (length ws) in
    omega (arith, rest, more, sized.0)

pub frames_push : (n : ℕ) (ws : List Waiting) (words : List ℤ) (w : Waiting) (r : List ℤ)
    → length words ≡ words_of ws → length r ≡ w.used → frames_of n (ws ++ w ∷ []) (words ++ r)
    ≡ frames_of n ws words ++ frame_of n w r ∷ []
frames_push n [] words w r size whole =
    let none : words ≡ [] = nil_from_length words (omega (arith, size)) in
    rw none (ap (λ (ys : List ℤ). frame_of n w ys ∷ []) (take_all w.used r (omega (arith, whole))))
frames_push n (v ∷ vs) words w r size whole =
    let first : v.used ≤ length words = omega (arith, size) in
    let rest : length (drop v.used words) ≡ words_of vs =
    omega (arith, size, length-drop v.used words) in
    rw (take-append-le v.used words r first, drop-append-le v.used words r first)
    (ap (λ (fs : List Frame). frame_of n v (take v.used words) ∷ fs)
    (frames_push n vs (drop v.used words) w r rest whole))

-- the frame that is pushed last is the last of the list
module _ (fs : List Frame) (f : Frame) where
  last_of : slice_get (fs ++ f ∷ []) (length (fs ++ f ∷ []) - 1) ≡ Some f
  last_of =
      let more : length (fs ++ f ∷ []) ≡ length fs + 1 = length_push fs f in
      let at : length fs ≡ length (fs ++ f ∷ []) - 1 = omega (arith, more) in
      slice_get_read (fs ++ f ∷ []) (length (fs ++ f ∷ [])) (length (fs ++ f ∷ []) - 1) f refl
      (omega (arith, more)) (sym (get_or_push fs f f (length (fs ++ f ∷ []) - 1) at))

  others_of : take (length (fs ++ f ∷ []) - 1) (fs ++ f ∷ []) ≡ fs
  others_of =
      let more : length (fs ++ f ∷ []) ≡ length fs + 1 = length_push fs f in
      take_at fs (f ∷ []) (length (fs ++ f ∷ []) - 1) (omega (arith, more))

-- the last words are those of the frame on top
module _ (n from : ℕ) (all ws : List Waiting) (w : Waiting) (words : List ℤ)
    (is : all ≡ ws ++ w ∷ []) (size : length words ≡ words_of all)
    (at : from ≡ length words - w.used) where
  pub words_are : length words ≡ words_of ws + w.used
  words_are = size ∙ ap words_of is ∙ words_push ws w

  pub words_before : length (take from words) ≡ words_of ws
  words_before = length-take-le from words (omega (arith, at)) ∙ omega (arith, at, words_are)

  pub words_last : length (drop from words) ≡ w.used
  words_last = length-drop from words ∙ omega (arith, at, words_are)

  frames_pop : frames_of n all words ≡ frames_of n ws (take from words)
      ++ frame_of n w (drop from words) ∷ []
  frames_pop =
      ap (λ (l : List Waiting). frames_of n l words) is
      ∙ ap (λ (l : List ℤ). frames_of n (ws ++ w ∷ []) l) (sym (take-append-drop from words))
      ∙ frames_push n ws (take from words) w (drop from words) words_before words_last

  top_is : slice_get (frames_of n all words) (length (frames_of n all words) - 1)
      ≡ Some (frame_of n w (drop from words))
  top_is = rw frames_pop
      (last_of (frames_of n ws (take from words)) (frame_of n w (drop from words)))

  -- the frame on top, if its words were put into registers that are 0 past them
  pub popped_top : (kept old registers : List ℤ) → kept ≡ drop from words → length old ≡ n
      → length kept ≤ length old
      → registers ≡ kept ++ replicate (length old - length kept) (pos 0)
      → slice_get (frames_of n all words) (length (frames_of n all words) - 1)
      ≡ Some (record { function = w.function; place = w.place; to = w.to; registers = registers })
  popped_top kept old registers same long few is =
      let count : length kept ≡ w.used = ap (λ (l : List ℤ). length l) same ∙ words_last in
      let all_words : registers ≡ drop from words ++ replicate (n - w.used) (pos 0) =
      is
      ∙ ap (λ (l : List ℤ). l ++ replicate (length old - length kept) (pos 0)) same
      ∙ ap (λ (k : ℕ). drop from words ++ replicate (k - length kept) (pos 0)) long
      ∙ ap (λ (k : ℕ). drop from words ++ replicate (n - k) (pos 0)) count in
      top_is ∙ ap (λ (l : List ℤ). Some (record {
        function = w.function;
        place = w.place;
        to = w.to;
        registers = l;
      })) (sym all_words)

  pub popped_rest : (rest : List ℤ) → rest ≡ take from words
      → frames_of n ws rest ≡ take (length (frames_of n all words) - 1) (frames_of n all words)
  popped_rest rest same = rw (frames_pop, same)
      (sym (others_of (frames_of n ws (take from words)) (frame_of n w (drop from words))))

-- there is room for one more frame's words
pub room_for : (n k m r room : ℕ) → k < 255 → m ≤ n * k → r ≤ n → 255 * n ≤ room → m + r ≤ room
room_for n k m r room few words size fits =
    let most : n * (k + 1) ≤ n * 255 = mul-le n (k + 1) n 255 (omega arith) (omega arith) in
    let more : n * (k + 1) ≡ n * k + n = omega arith in
    omega (arith, most, more, fits, words, size)
