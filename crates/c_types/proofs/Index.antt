-- One more name at the end of a list, and its effect on what a name means.
use Rattle.std.proofs.Common.{Bor, ◌≡◌, ℕ, suc, List, [], ◌∷◌, ◌++◌, length, Bool, true, false}
use Rattle.std.proofs.Common.{cond, refl, sym, ap, ◌∙◌}
use Rattle.std.specs.Prelude.{map, Option, Some, None, is_some, option_map, bytes_eq}
use Rattle.std.proofs.lemmas.Slice.Eq.{bytes_eq-Decides}
use Rattle.c_types.specs.Tables.{index_of}

abbrev pushed : Option ℕ → Bool → ℕ → Option ℕ
pushed (Some i) b n = Some i
pushed None true n = Some n
pushed None false n = None

push_first : (b : Bool) → cond b (Some 0) None ≡ pushed None b 0
push_first true = refl
push_first false = refl

push_next : (b c : Bool) (x y : Option ℕ) (n : ℕ) → y ≡ pushed x c n
    → cond b (Some 0) (option_map suc y) ≡ pushed (cond b (Some 0) (option_map suc x)) c (suc n)
push_next true c x y n e = refl
push_next false c (Some i) y n e = ap (option_map suc) e
push_next false true None y n e = ap (option_map suc) e
push_next false false None y n e = ap (option_map suc) e

index_of_push : (q name : List ℕ) (ns : List (List ℕ))
    → index_of q (ns ++ name ∷ []) ≡ pushed (index_of q ns) (bytes_eq q name) (length ns)
index_of_push q name [] = push_first (bytes_eq q name)
index_of_push q name (n ∷ ns) =
    push_next (bytes_eq q n) (bytes_eq q name) (index_of q ns) (index_of q (ns ++ name ∷ []))
    (length ns) (index_of_push q name ns)

known_case : (x : Option ℕ) (b : Bool) (n : ℕ) → (b ≡ true → is_some x ≡ true) → pushed x b n ≡ x
known_case (Some i) b n h = refl
known_case None true n h = absurd (cc (h refl))
known_case None false n h = refl

-- a name that was there already changes no meaning
pub index_of_push_known : (q name : List ℕ) (ns : List (List ℕ)) → is_some (index_of name ns) ≡ true
    → index_of q (ns ++ name ∷ []) ≡ index_of q ns
index_of_push_known q name ns known =
    index_of_push q name ns ∙ known_case (index_of q ns) (bytes_eq q name) (length ns)
    (λ e. rw ((bytes_eq-Decides q name).0 e) known)

same : (b c : Bool) → (b ≡ true → c ≡ true) → (c ≡ true → b ≡ true) → b ≡ c
same true c f g = sym (f refl)
same false true f g = g refl
same false false f g = refl

new_case : (x : Option ℕ) (b : Bool) (n : ℕ) → (b ≡ true → x ≡ None)
    → pushed x b n ≡ cond b (Some n) x
new_case None true n h = refl
new_case None false n h = refl
new_case (Some i) true n h = absurd (cc (h refl))
new_case (Some i) false n h = refl

bytes_eq_swap : (x y : List ℕ) → bytes_eq x y ≡ bytes_eq y x
bytes_eq_swap x y = same (bytes_eq x y) (bytes_eq y x)
    (λ e. (bytes_eq-Decides y x).1 (sym ((bytes_eq-Decides x y).0 e)))
    (λ e. (bytes_eq-Decides x y).1 (sym ((bytes_eq-Decides y x).0 e)))

-- a new name means its place at the end
pub index_of_push_new : (q name : List ℕ) (ns : List (List ℕ)) → index_of name ns ≡ None
    → index_of q (ns ++ name ∷ []) ≡ cond (bytes_eq name q) (Some (length ns)) (index_of q ns)
index_of_push_new q name ns new =
    index_of_push q name ns ∙ (new_case (index_of q ns) (bytes_eq q name) (length ns)
    (λ e. rw ((bytes_eq-Decides q name).0 e) new)
    ∙ ap (λ b. cond b (Some (length ns)) (index_of q ns)) (bytes_eq_swap q name))

pub is_some_None : (x : Option ℕ) → is_some x ≡ false → x ≡ None
is_some_None None e = refl
is_some_None (Some i) e = absurd (cc e)

pub length_names : (xs : List (Bor (List ℕ))) → length (map (λ (s : Bor (List ℕ)). s.now) xs)
    ≡ length xs
length_names [] = refl
length_names (x ∷ xs) = ap suc (length_names xs)
