-- A text is read byte by byte: the pieces of the rest, after those read so far.
use Rattle.std.proofs.Common.{◌≡◌, ℕ, ◌+◌, ◌<◌, suc, Bool, if◌then◌else◌, List, [], ◌∷◌, ◌++◌, true}
use Rattle.std.proofs.Common.{false, length, take, drop, slice_index, refl, ap, append_assoc, sym}
use Rattle.std.proofs.Common.{add-one, append-nil, arith, None}
use Rattle.std.proofs.Math.Seq.{take-suc, drop-cons, take-length, drop-length}
use Rattle.cnvm_script.specs.Lines.{lines_ended, without_cr}
use Rattle.cnvm_script.specs.Number.{pick_of}
use Rattle.cnvm_script.specs.Pieces.{is_one_of, fronted, pieces}

fronted-fronted : (front : List ℕ) (b : ℕ) (ps : List (List ℕ))
    → fronted front (fronted (b ∷ []) ps) ≡ fronted (front ++ b ∷ []) ps
fronted-fronted front b [] = refl
fronted-fronted front b (p ∷ ps) = ap (λ q. q ∷ ps) (sym (append_assoc front (b ∷ []) p))

fronted-stop : (front : List ℕ) (ps : List (List ℕ)) → fronted front ([] ∷ ps) ≡ front ∷ ps
fronted-stop front ps = simp append-nil

fronted-end : (stops front : List ℕ) → fronted front (pieces stops []) ≡ front ∷ []
fronted-end stops front = simp append-nil

step : (stops front bs : List ℕ) (b : ℕ) → is_one_of stops b ≡ false
    → fronted front (pieces stops (b ∷ bs)) ≡ fronted (front ++ b ∷ []) (pieces stops bs)
step stops front bs b e = rw e (fronted-fronted front b (pieces stops bs))

stop : (stops front bs : List ℕ) (b : ℕ) → is_one_of stops b ≡ true
    → fronted front (pieces stops (b ∷ bs)) ≡ front ∷ pieces stops bs
stop stops front bs b e = rw e (fronted-stop front (pieces stops bs))

begun : (b : ℕ) (bs : List ℕ) (ps : List (List ℕ)) (stopped : Bool)
    → (if stopped then [] ∷ ps else fronted (b ∷ []) ps) ≡ fronted [] (if stopped then [] ∷ ps
    else fronted (b ∷ []) ps)
begun b bs ps true = refl
begun b bs ps false = sym (fronted-fronted [] b ps)

pub cut_start : (stops text : List ℕ) → pieces stops text ≡ fronted [] (pieces stops text)
cut_start stops [] = refl
cut_start stops (b ∷ bs) = begun b bs (pieces stops bs) (is_one_of stops b)

pub cut_step : (stops text : List ℕ) (i : ℕ) → i < length text
    → is_one_of stops (slice_index text i) ≡ false
    → fronted (take i text) (pieces stops (drop i text)) ≡ fronted (take (i + 1) text)
    (pieces stops (drop (i + 1) text))
cut_step stops text i within e =
    rw (add-one, take-suc text i 0, drop-cons text i 0)
    (step stops (take i text) (drop (suc i) text) (slice_index text i) e)

pub cut_stop : (stops text : List ℕ) (i : ℕ) → i < length text
    → is_one_of stops (slice_index text i) ≡ true
    → fronted (take i text) (pieces stops (drop i text)) ≡ take i text
    ∷ pieces stops (drop (i + 1) text)
cut_stop stops text i within e =
    rw (add-one, drop-cons text i 0)
    (stop stops (take i text) (drop (suc i) text) (slice_index text i) e)

pub cut_end : (stops text : List ℕ) (i : ℕ) → length text ≡ i
    → fronted (take i text) (pieces stops (drop i text)) ≡ text ∷ []
cut_end stops text i e = rw (← e, take-length, drop-length) (fronted-end stops text)

ended_fronted : (line front : List ℕ) (ps : List (List ℕ)) → lines_ended (line ∷ fronted front ps)
    ≡ without_cr line ∷ lines_ended (fronted front ps)
ended_fronted line front [] = refl
ended_fronted line front (p ∷ ps) = refl

ended_either : (line : List ℕ) (b : ℕ) (ps : List (List ℕ)) (stopped : Bool)
    → lines_ended (line ∷ (if stopped then [] ∷ ps else fronted (b ∷ []) ps))
    ≡ without_cr line ∷ lines_ended (if stopped then [] ∷ ps else fronted (b ∷ []) ps)
ended_either line b ps true = refl
ended_either line b ps false = ended_fronted line (b ∷ []) ps

-- a line that a stop ends isn't the last one
pub ended_cut : (stops line rest : List ℕ) → lines_ended (line ∷ pieces stops rest)
    ≡ without_cr line ∷ lines_ended (pieces stops rest)
ended_cut stops line [] = refl
ended_cut stops line (b ∷ bs) = ended_either line b (pieces stops bs) (is_one_of stops b)

pub ended_last : (line : List ℕ) → 0 < length line → lines_ended (line ∷ []) ≡ line ∷ []
ended_last [] some = absurd (omega arith)
ended_last (b ∷ bs) some = refl

pick_of_fronted : (line version front : List ℕ) (ps : List (List ℕ))
    → pick_of (line ∷ version ∷ fronted front ps) ≡ None
pick_of_fronted line version front [] = refl
pick_of_fronted line version front (p ∷ ps) = refl

pick_of_either : (line version : List ℕ) (b : ℕ) (ps : List (List ℕ)) (stopped : Bool)
    → pick_of (line ∷ version ∷ (if stopped then [] ∷ ps else fronted (b ∷ []) ps)) ≡ None
pick_of_either line version b ps true = refl
pick_of_either line version b ps false = pick_of_fronted line version (b ∷ []) ps

-- three pieces or more are no pick
pub pick_of_more : (stops line version rest : List ℕ)
    → pick_of (line ∷ version ∷ pieces stops rest) ≡ None
pick_of_more stops line version [] = refl
pick_of_more stops line version (b ∷ bs) =
    pick_of_either line version b (pieces stops bs) (is_one_of stops b)
