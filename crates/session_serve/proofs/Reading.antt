-- The first line of a text, and of a text that is read piece by piece.
use Rattle.std.proofs.Common.{◌≡◌, ℕ, suc, ◌+◌, ◌-◌, ◌<◌, ◌≤◌, ◌==◌, Bool, true, false}
use Rattle.std.proofs.Common.{if◌then◌else◌}
use Rattle.std.proofs.Common.{List, [], ◌∷◌, ◌++◌, length, take, drop, Option, Some, None, Result}
use Rattle.std.proofs.Common.{refl, sym, ap, ◌∙◌, arith, add-one, slice_index, Ok, Err, drop-cons}
use Rattle.std.proofs.Common.{eq-eqb, append_assoc, subst}
use Rattle.std.proofs.lemmas.Bool.{ltb-false, ltb-true, ne_eqb}
use Rattle.std.proofs.lemmas.List.{drop_all, length-take, take-append-drop, take-append-le}
use Rattle.std.proofs.Math.Seq.{take-append-add}
use Rattle.std.specs.Prelude.{codes, IfSome, IfOk, OnOk, slice_get, nat_lt}
use Rattle.std.specs.Io.KnownBytes.{Consumes, IsAtEnd, Keeps, prepend_known}
use Rattle.std.specs.List.{All}
use Rattle.std.proofs.lemmas.Grind.{common_steps}
use Rattle.cnvm_script.specs.Lines.{lines, without_cr, lines_ended}
use Rattle.cnvm_script.specs.Pieces.{pieces, is_one_of, fronted}
use Rattle.cnvm_script.proofs.Cuts.{ended_cut, ended_last}
use Rattle.session_serve.specs.LineSize.{line_size, after_line}

pub size_by : (b : ℕ) (bs : List ℕ) (c : Bool) → (b == 10) ≡ c
    → line_size (b ∷ bs) ≡ (if c then 0 else suc (line_size bs))
size_by b bs c is = rw is refl

pub size_within : (t : List ℕ) → line_size t ≤ length t
size_within [] = omega arith
size_within (b ∷ bs) = by (b == 10) refl (size_within bs)
  where
    by : (c : Bool) → (b == 10) ≡ c → line_size bs ≤ length bs
        → line_size (b ∷ bs) ≤ length (b ∷ bs)
    by true is rest = omega (arith, size_by b bs true is)
    by false is rest = omega (arith, size_by b bs false is, rest)

-- the line ends in the first part
pub size_front : (xs ys : List ℕ) → line_size xs < length xs → line_size (xs ++ ys) ≡ line_size xs
size_front [] ys less = absurd (omega (arith, less))
size_front (b ∷ bs) ys less = by (b == 10) refl less (size_front bs ys)
  where
    by : (c : Bool) → (b == 10) ≡ c → line_size (b ∷ bs) < length (b ∷ bs)
        → (line_size bs < length bs → line_size (bs ++ ys) ≡ line_size bs)
        → line_size (b ∷ bs ++ ys) ≡ line_size (b ∷ bs)
    by true is some rest = size_by b (bs ++ ys) true is ∙ sym (size_by b bs true is)
    by false is some rest =
        size_by b (bs ++ ys) false is
        ∙ ap suc (rest (omega (arith, some, size_by b bs false is)))
        ∙ sym (size_by b bs false is)

-- no line ends in the first part
pub size_whole : (xs ys : List ℕ) → line_size xs ≡ length xs
    → line_size (xs ++ ys) ≡ length xs + line_size ys
size_whole [] ys all = omega arith
size_whole (b ∷ bs) ys all = by (b == 10) refl all (size_whole bs ys)
  where
    by : (c : Bool) → (b == 10) ≡ c → line_size (b ∷ bs) ≡ length (b ∷ bs)
        → (line_size bs ≡ length bs → line_size (bs ++ ys) ≡ length bs + line_size ys)
        → line_size (b ∷ bs ++ ys) ≡ length (b ∷ bs) + line_size ys
    by true is whole rest = absurd (omega (arith, whole, size_by b bs true is))
    by false is whole rest =
        let inner : line_size bs ≡ length bs = omega (arith, whole, size_by b bs false is) in
        omega (arith, size_by b (bs ++ ys) false is, rest inner)

stop_by : (b : ℕ) (c : Bool) → (b == 10) ≡ c → is_one_of (codes "\n") b ≡ c
stop_by b true is = grind (arith, is)
stop_by b false is = grind (arith, is)

fronted_by : (b : ℕ) (bs : List ℕ) (c : Bool) → (b == 10) ≡ c → pieces (codes "\n") (b ∷ bs)
    ≡ (if c then [] ∷ pieces (codes "\n") bs else fronted (b ∷ []) (pieces (codes "\n") bs))
fronted_by b bs c is = rw (stop_by b c is) refl

pub pieces_cut : (t : List ℕ) → line_size t < length t → pieces (codes "\n") t
    ≡ take (line_size t) t ∷ pieces (codes "\n") (drop (suc (line_size t)) t)
pieces_cut [] less = absurd (omega (arith, less))
pieces_cut (b ∷ bs) less = by (b == 10) refl less (pieces_cut bs)
  where
    by : (c : Bool) → (b == 10) ≡ c → line_size (b ∷ bs) < length (b ∷ bs)
        → (line_size bs < length bs → pieces (codes "\n") bs
        ≡ take (line_size bs) bs ∷ pieces (codes "\n") (drop (suc (line_size bs)) bs))
        → pieces (codes "\n") (b ∷ bs) ≡ take (line_size (b ∷ bs)) (b ∷ bs)
        ∷ pieces (codes "\n") (drop (suc (line_size (b ∷ bs))) (b ∷ bs))
    by true is some rest = rw (size_by b bs true is) (fronted_by b bs true is)
    by false is some rest =
        rw (size_by b bs false is) (fronted_by b bs false is
        ∙ ap (fronted (b ∷ [])) (rest (omega (arith, some, size_by b bs false is))))

pub pieces_one : (t : List ℕ) → line_size t ≡ length t → pieces (codes "\n") t ≡ t ∷ []
pieces_one [] all = refl
pieces_one (b ∷ bs) all = by (b == 10) refl all (pieces_one bs)
  where
    by : (c : Bool) → (b == 10) ≡ c → line_size (b ∷ bs) ≡ length (b ∷ bs)
        → (line_size bs ≡ length bs → pieces (codes "\n") bs ≡ bs ∷ [])
        → pieces (codes "\n") (b ∷ bs) ≡ (b ∷ bs) ∷ []
    by true is whole rest = absurd (omega (arith, whole, size_by b bs true is))
    by false is whole rest =
        fronted_by b bs false is
        ∙ ap (fronted (b ∷ [])) (rest (omega (arith, whole, size_by b bs false is)))

pub lines_cut : (t : List ℕ) → line_size t < length t
    → lines t ≡ without_cr (take (line_size t) t) ∷ lines (after_line t)
lines_cut t less =
    ap lines_ended (pieces_cut t less)
    ∙ ended_cut (codes "\n") (take (line_size t) t) (drop (suc (line_size t)) t)
    ∙ ap (λ n. without_cr (take (line_size t) t) ∷ lines (drop n t)) (sym (add-one (line_size t)))

pub lines_one : (t : List ℕ) → line_size t ≡ length t → 0 < length t → lines t ≡ t ∷ []
lines_one t all some = ap lines_ended (pieces_one t all) ∙ ended_last t some

-- a text is searched from place i on
pub size_here : (t : List ℕ) (i : ℕ) → i < length t → slice_index t i ≡ 10
    → line_size (drop i t) ≡ 0
size_here t i less is =
    rw (drop-cons t i 0 less) (size_by (slice_index t i) (drop (suc i) t) true (eq-eqb _ _ is))

pub size_on : (t : List ℕ) (i : ℕ) → i < length t → (slice_index t i ≡ 10 → ⊥)
    → line_size (drop i t) ≡ suc (line_size (drop (i + 1) t))
size_on t i less not =
    rw (add-one, drop-cons t i 0 less)
    (size_by (slice_index t i) (drop (suc i) t) false (ne_eqb _ _ not))

pub size_end : (t : List ℕ) (i : ℕ) → length t ≤ i → line_size (drop i t) ≡ 0
size_end t i over = ap line_size (drop_all i t over)

-- no line ends before place k
pub size_resumed : (t : List ℕ) (k : ℕ) → k ≤ length t → line_size (take k t) ≡ k
    → line_size t ≡ k + line_size (drop k t)
size_resumed t k within clean =
    let long : length (take k t) ≡ k = grind (arith, common_steps) in
    ap line_size (sym (take-append-drop k t))
    ∙ size_whole (take k t) (drop k t) (clean ∙ sym long)
    ∙ ap (λ n. n + line_size (drop k t)) long

pub size_more : (xs ys : List ℕ) → line_size xs ≤ line_size (xs ++ ys)
size_more xs ys = by (nat_lt (line_size xs) (length xs)) refl
  where
    by : (c : Bool) → nat_lt (line_size xs) (length xs) ≡ c → line_size xs ≤ line_size (xs ++ ys)
    by true is = omega (arith, size_front xs ys (ltb-true _ _ is))
    by false is =
        let all : line_size xs ≡ length xs = omega (arith, size_within xs, ltb-false _ _ is) in
        omega (arith, size_whole xs ys all, all)

pub keeps_on : (a b c : Option (List ℕ)) → Keeps a b → Keeps b c → Keeps a c
keeps_on None b c first next = tt
keeps_on (Some xs) None c first next = absurd first
keeps_on (Some xs) (Some ys) None first next = absurd next
keeps_on (Some xs) (Some ys) (Some zs) first next = next ∙ first

-- bytes move from the source to those that were read
pub moved_kept : (old new : Option (List ℕ)) (ahead got : List ℕ) → Consumes old new got
    → Keeps (prepend_known ahead old) (prepend_known (ahead ++ got) new)
moved_kept None new ahead got moved = tt
moved_kept (Some xs) None ahead got moved = absurd moved
moved_kept (Some xs) (Some ys) ahead got moved =
    append_assoc ahead got ys ∙ ap (λ zs. ahead ++ zs) (sym moved)

cut_twice : (xs : List ℕ) (n m : ℕ) → n ≤ m → take n (take m xs) ≡ take n xs
cut_twice xs n m less = grind (arith, common_steps)

-- bytes that were read to the end of a longer buffer, which is cut after them
pub read_front : (d p post more : List ℕ) (k n m : ℕ) → k ≤ length d → n ≤ length p → k + n ≤ m
    → take (k + n) (take m ((take k d ++ (p ++ post)) ++ more)) ≡ take k d ++ take n p
read_front d p post more k n m inside some within =
    let long : length (take k d) ≡ k = grind (arith, common_steps) in
    let all : k + n ≤ m = within in
    let cut : take (k + n) (take m ((take k d ++ (p ++ post)) ++ more))
    ≡ take (k + n) ((take k d ++ (p ++ post)) ++ more) = cut_twice _ (k + n) m all in
    cut ∙ ap (λ z. take (k + n) z) (append_assoc (take k d) (p ++ post) more)
    ∙ ap (λ z. take (z + n) (take k d ++ ((p ++ post) ++ more))) (sym long)
    ∙ take-append-add (take k d) ((p ++ post) ++ more) n
    ∙ ap (λ z. take k d ++ take n z) (append_assoc p post more)
    ∙ ap (λ z. take k d ++ z) (take-append-le n p (post ++ more) some)

pub resized_front : (a z r : List ℕ) (k n : ℕ) → k ≡ length a → r ≡ take (k + n) a ++ z
    → take k r ≡ a
resized_front a z r k n long is = grind (arith, common_steps)

-- the size that a search gives, which began at place k
pub size_found : (x y : List ℕ) (k n : ℕ) → k ≤ length x → line_size (take k x) ≡ k → y ≡ x
    → n ≡ line_size (take (length y - k) (drop k y)) → k + n ≡ line_size x
size_found x y k n within clean same found =
    let whole : take (length x - k) (drop k x) ≡ drop k x = grind (arith, common_steps) in
    let size : n ≡ line_size (drop k x) =
    found ∙ ap (λ z. line_size (take (length z - k) (drop k z))) same ∙ ap line_size whole in
    ap (λ m. k + m) size ∙ sym (size_resumed x k within clean)

on_ok : {A E : Type 0} (r : Result A E) (P : Type 0) → P → OnOk r P
on_ok (Ok a) P p = p
on_ok (Err e) P p = tt

-- the line ends in what was read, and the source has more left
first_by : (x more text : List ℕ) → line_size x < length x → x ++ more ≡ text
    → line_size text ≡ line_size x
first_by x more text less is = ap line_size (sym is) ∙ size_front x more less

pub long_left : (all src : Option (List ℕ)) (x : List ℕ) (n limit : ℕ)
    → Keeps all (prepend_known x src) → n ≡ line_size x → limit < n
    → IfSome all (λ text. limit < line_size text)
long_left None src x n limit kept size long = tt
long_left (Some text) None x n limit kept size long = absurd kept
long_left (Some text) (Some more) x n limit kept size long =
    omega (arith, size_more x more, size, long, ap line_size kept)

pub within_left : {A E : Type 0} (r : Result A E) (all src : Option (List ℕ)) (x : List ℕ)
    (n limit : ℕ) → Keeps all (prepend_known x src) → n ≡ line_size x → n < length x → n ≤ limit
    → OnOk r (IfSome all (λ text. line_size text ≤ limit))
within_left r None src x n limit kept size less within = on_ok r _ tt
within_left r (Some text) None x n limit kept size less within = absurd kept
within_left r (Some text) (Some more) x n limit kept size less within =
    on_ok r _ (omega (arith, first_by x more text (omega (arith, size, less)) kept, size, within))

line_here : (x more text : List ℕ) → line_size x < length x → x ++ more ≡ text
    → slice_get (lines (take (line_size x + 1) x)) 0 ≡ slice_get (lines text) 0
line_here x more text less is =
    let front : take (line_size x + 1) x ++ drop (line_size x + 1) x ≡ x =
    take-append-drop (line_size x + 1) x in
    let long : length (take (line_size x + 1) x) ≡ line_size x + 1 = grind (arith, common_steps) in
    let short : line_size (take (line_size x + 1) x) < length (take (line_size x + 1) x) =
    by (nat_lt (line_size (take (line_size x + 1) x)) (length (take (line_size x + 1) x))) refl
    front long in
    let same : line_size (take (line_size x + 1) x) ≡ line_size x =
    sym (size_front (take (line_size x + 1) x) (drop (line_size x + 1) x) short)
    ∙ ap line_size front in
    let size : line_size text ≡ line_size x = first_by x more text less is in
    let inside : line_size text < length text = grind (arith, common_steps) in
    let first : take (line_size (take (line_size x + 1) x)) (take (line_size x + 1) x)
    ≡ take (line_size x) x =
    ap (λ n. take n (take (line_size x + 1) x)) same
    ∙ cut_twice x (line_size x) (line_size x + 1) (omega arith) in
    let whole : take (line_size text) text ≡ take (line_size x) x =
    ap (λ n. take n text) size ∙ ap (λ z. take (line_size x) z) (sym is)
    ∙ take-append-le (line_size x) x more (omega (arith, less)) in
    ap (λ ls. slice_get ls 0) (lines_cut (take (line_size x + 1) x) short)
    ∙ ap (λ z. Some (without_cr z)) (first ∙ sym whole)
    ∙ sym (ap (λ ls. slice_get ls 0) (lines_cut text inside))
  where
    by : (c : Bool) → nat_lt (line_size (take (line_size x + 1) x))
        (length (take (line_size x + 1) x)) ≡ c
        → take (line_size x + 1) x ++ drop (line_size x + 1) x ≡ x
        → length (take (line_size x + 1) x) ≡ line_size x + 1
        → line_size (take (line_size x + 1) x) < length (take (line_size x + 1) x)
    by true is front long = ltb-true _ _ is
    by false is front long =
        let within = size_within (take (line_size x + 1) x) in
        let all : line_size (take (line_size x + 1) x) ≡ length (take (line_size x + 1) x) =
        omega (arith, within, ltb-false _ _ is) in
        absurd (omega (
          arith,
          long,
          ap line_size front,
          size_whole (take (line_size x + 1) x) (drop (line_size x + 1) x) all,
        ))

pub line_left : {E : Type 0} (r : Result (Option (List ℕ)) E) (all src : Option (List ℕ))
    (x : List ℕ) (n : ℕ) → Keeps all (prepend_known x src) → n ≡ line_size x → n < length x
    → IfOk r (λ line. line ≡ slice_get (lines (take (n + 1) x)) 0)
    → IfOk r (λ line. IfSome all (λ text. line ≡ slice_get (lines text) 0))
line_left (Err e) all src x n kept size less given = tt
line_left (Ok line) None src x n kept size less given = tt
line_left (Ok line) (Some text) None x n kept size less given = absurd kept
line_left (Ok line) (Some text) (Some more) x n kept size less given =
    given ∙ ap (λ m. slice_get (lines (take (m + 1) x)) 0) size
    ∙ line_here x more text (omega (arith, size, less)) kept

pub rest_left : {A E : Type 0} (r : Result A E) (all src src' : Option (List ℕ))
    (x x' : List ℕ) (n : ℕ) → Keeps all (prepend_known x src) → n ≡ line_size x → n < length x
    → src' ≡ src → OnOk r (x' ≡ drop (n + 1) x)
    → OnOk r (IfSome all (λ text. prepend_known x' src' ≡ Some (after_line text)))
rest_left (Err e) all src src' x x' n kept size less same given = tt
rest_left (Ok a) None src src' x x' n kept size less same given = tt
rest_left (Ok a) (Some text) None src' x x' n kept size less same given = absurd kept
rest_left (Ok a) (Some text) (Some more) src' x x' n kept size less same given =
    let line : line_size text ≡ n =
    first_by x more text (omega (arith, size, less)) kept ∙ sym size in
    let split : drop (n + 1) (x ++ more) ≡ drop (n + 1) x ++ more = grind (arith, common_steps) in
    ap (prepend_known x') same ∙ ap (λ z. Some (z ++ more)) given ∙ ap Some (sym split)
    ∙ ap (λ z. Some (drop (n + 1) z)) kept ∙ ap (λ m. Some (drop (m + 1) text)) (sym line)

-- the source has nothing left, and no line ends in what was read
pub last_within : {A E : Type 0} (r : Result A E) (all src : Option (List ℕ)) (x : List ℕ)
    (n limit : ℕ) → Keeps all (prepend_known x src) → IsAtEnd src → n ≡ line_size x → n ≤ limit
    → OnOk r (IfSome all (λ text. line_size text ≤ limit))
last_within r None src x n limit kept end size within = on_ok r _ tt
last_within r (Some text) None x n limit kept end size within = absurd kept
last_within r (Some text) (Some more) x n limit kept end size within =
    let same : x ≡ text = grind (arith, common_steps) in
    on_ok r _ (omega (arith, size, within, ap line_size same))

pub last_rest : {A E : Type 0} (r : Result A E) (all src src' : Option (List ℕ))
    (x x' : List ℕ) (n : ℕ) → Keeps all (prepend_known x src) → IsAtEnd src → n ≡ line_size x
    → length x ≤ n → src' ≡ src → OnOk r (x' ≡ drop n x)
    → OnOk r (IfSome all (λ text. prepend_known x' src' ≡ Some (after_line text)))
last_rest (Err e) all src src' x x' n kept end size over same given = tt
last_rest (Ok a) None src src' x x' n kept end size over same given = tt
last_rest (Ok a) (Some text) None src' x x' n kept end size over same given = absurd kept
last_rest (Ok a) (Some text) (Some more) src' x x' n kept end size over same given =
    let whole : x ≡ text = grind (arith, common_steps) in
    let far : length x ≤ line_size x + 1 = omega (arith, over, size) in
    let none : x' ≡ [] = given ∙ drop_all n x over in
    let left : after_line text ≡ [] =
    ap after_line (sym whole) ∙ drop_all (line_size x + 1) x far in
    ap (prepend_known x') same ∙ ap (λ z. Some (z ++ more)) none ∙ ap Some end
    ∙ ap Some (sym left)

-- a whole line would have ended the search
pub no_whole : (x0 x : List ℕ) (n : ℕ) {P : Type 0} → x ≡ x0 → n ≡ line_size x → length x ≤ n
    → line_size x0 < length x0 → P
no_whole x0 x n same size over less =
    absurd (omega (arith, over, size, less, ap line_size same, ap length same))

-- more was read after bytes in which no line ends
pub clean_more : (x x' : List ℕ) (n : ℕ) → n ≡ line_size x → length x ≤ n
    → take (length x) x' ≡ x → line_size (take n x') ≡ n
clean_more x x' n size over front =
    let whole : n ≡ length x = omega (arith, size, over, size_within x) in
    ap (λ m. line_size (take m x')) whole ∙ ap line_size front ∙ sym size

-- a read failed after bytes in which no line ends
pub clean_whole : (x x' : List ℕ) (n : ℕ) → n ≡ line_size x → length x ≤ n → x' ≡ x
    → line_size x' ≡ length x'
clean_whole x x' n size over same =
    subst (λ y. line_size y ≡ length y) (sym same) (omega (arith, size, over, size_within x))

-- a CR that is dropped is one byte
cr_short : (line : List ℕ) (n : ℕ) → length (without_cr line) < n → length line ≤ n
cr_short line n short = by (slice_index line (length line - 1) == 13) refl short
  where
    by : (c : Bool) → (slice_index line (length line - 1) == 13) ≡ c
        → length (if c then take (length line - 1) line else line) < n → length line ≤ n
    by true is short = omega (arith, short, length-take (length line - 1) line)
    by false is short = omega (arith, short)

-- where each line is short, so is the first with its CR
pub size_short : (t : List ℕ) (n : ℕ) → All (λ (line : List ℕ). length line < n) (lines t)
    → line_size t ≤ n
size_short [] n all = omega arith
size_short (b ∷ bs) n all = by (nat_lt (line_size (b ∷ bs)) (length (b ∷ bs))) refl
  where
    by : (c : Bool) → nat_lt (line_size (b ∷ bs)) (length (b ∷ bs)) ≡ c
        → line_size (b ∷ bs) ≤ n
    by true is =
        let less : line_size (b ∷ bs) < length (b ∷ bs) = ltb-true _ _ is in
        let first : length (without_cr (take (line_size (b ∷ bs)) (b ∷ bs))) < n =
        subst (All (λ (line : List ℕ). length line < n)) (lines_cut (b ∷ bs) less) all 0 []
        (omega arith) in
        let long : length (take (line_size (b ∷ bs)) (b ∷ bs)) ≡ line_size (b ∷ bs) =
        grind (arith, common_steps) in
        omega (arith, long, cr_short (take (line_size (b ∷ bs)) (b ∷ bs)) n first)
    by false is =
        let whole : line_size (b ∷ bs) ≡ length (b ∷ bs) =
        omega (arith, size_within (b ∷ bs), ltb-false _ _ is) in
        let first : length (b ∷ bs) < n =
        subst (All (λ (line : List ℕ). length line < n))
        (lines_one (b ∷ bs) whole (omega arith)) all 0 [] (omega arith) in
        omega (arith, whole, first)
