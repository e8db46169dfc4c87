-- Lines are answered one after another: what was answered before is put before what follows.
use Rattle.std.proofs.Common.{◌≡◌, ℕ, ◌+◌, ◌<◌, ◌≤◌, Bool, true, false, List, [], ◌∷◌, ◌++◌, length}
use Rattle.std.proofs.Common.{Option, Some, None, inl, inr, refl, sym, ap, ◌∙◌, subst, arith}
use Rattle.std.proofs.Common.{append_assoc, length-append, append-nil, ◌-◌, take}
use Rattle.std.specs.Prelude.{IfSome, slice_get, nat_lt}
use Rattle.std.specs.Io.KnownBytes.{Appends, Keeps, IsAtEnd, prepend_known}
use Rattle.std.proofs.lemmas.Bool.{ltb-false, ltb-true}
use Rattle.std.proofs.lemmas.List.{drop_all}
use Rattle.nvm_base.specs.Parts.{AppendsPart}
use Rattle.pmem.specs.Device.{Device}
use Rattle.cnvm_script.specs.declared.read.TheConstants.{SCRIPT_BYTES}
use Rattle.cnvm_script.specs.Commands.{line_meaning}
use Rattle.cnvm_script.specs.Lines.{lines, without_cr}
use Rattle.cnvm_session.specs.declared.mode.Mode.{Mode}
use Rattle.cnvm_session.specs.declared.program.Program.{Program}
use Rattle.session_serve.specs.LineSize.{line_size, after_line}
use Rattle.session_serve.specs.declared.serving.Served.{Served}
use Rattle.session_serve.specs.declared.serving.Served.TheVariants as served
use Rattle.session_serve.specs.Serves.{DoesMeaning, Serves, ServesTo, ServesPart, TakesLines}
use Rattle.session_serve.specs.Serves.{EndsInLine, ServedAs}
use Rattle.session_serve.specs.inside.Next.{StaysSo, NextPart, NextAs}
use Rattle.session_serve.proofs.Reading.{size_within, lines_cut, lines_one}

pub serves_append : (p : Program) (xs ys : List (List ℕ)) (m m1 m' : Mode) (d d1 d' : Device)
    (w w1 w' : Option (List ℕ)) (k k1 k' : ℕ) → Serves p xs m d w k m1 d1 w1 k1
    → Serves p ys m1 d1 w1 k1 m' d' w' k' → Serves p (xs ++ ys) m d w k m' d' w' k'
serves_append p [] ys m m1 m' d d1 d' w w1 w' k k1 k' first next =
    rw (← first.0, ← first.1, ← first.2, ← first.3) next
serves_append p (x ∷ xs) ys m m1 m' d d1 d' w w1 w' k k1 k' first next = (
  first.0,
  first.1,
  first.2,
  first.3,
  first.4,
  first.5,
  first.6,
  serves_append p xs ys first.1 m1 m' first.2 d1 d' first.3 w1 w' first.4 k1 k' first.7 next,
)

pub serves_one : (p : Program) (line text : List ℕ) (m m' : Mode) (d d' : Device)
    (w w' : Option (List ℕ)) (k k' : ℕ) → DoesMeaning (line_meaning line) p m d k text m' d' k'
    → Appends w w' text → Serves p (line ∷ []) m d w k m' d' w' k'
serves_one p line text m m' d d' w w' k k' does told =
    (text, m', d', w', k', does, told, (refl, refl, refl, refl))

pub takes_more : (l l1 l2 : Option (List ℕ)) (xs ys : List (List ℕ)) → TakesLines l xs l1
    → TakesLines l1 ys l2 → TakesLines l (xs ++ ys) l2
takes_more None l1 l2 xs ys first next = tt
takes_more (Some t) None l2 xs ys first next = absurd first
takes_more (Some t) (Some t1) None xs ys first next = absurd next
takes_more (Some t) (Some t1) (Some t2) xs ys first next =
    first ∙ ap (λ ls. xs ++ ls) next ∙ sym (append_assoc xs ys (lines t2))

takes_kept : (l l1 : Option (List ℕ)) → Keeps l l1 → TakesLines l [] l1
takes_kept None l1 kept = tt
takes_kept (Some text) None kept = absurd kept
takes_kept (Some text) (Some same) kept = ap lines (sym kept)

takes_still : (l l1 l2 : Option (List ℕ)) (xs : List (List ℕ)) → TakesLines l xs l1
    → Keeps l1 l2 → TakesLines l xs l2
takes_still None l1 l2 xs takes kept = tt
takes_still (Some t) None l2 xs takes kept = absurd takes
takes_still (Some t) (Some t1) None xs takes kept = absurd kept
takes_still (Some t) (Some t1) (Some t2) xs takes kept =
    takes ∙ ap (λ z. xs ++ lines z) (sym kept)

-- no line is left after the given ones
all_after : (l l1 : Option (List ℕ)) (xs : List (List ℕ)) → TakesLines l xs l1
    → IfSome l1 (λ text. lines text ≡ []) → IfSome l (λ text. xs ≡ lines text)
all_after None l1 xs takes none = tt
all_after (Some t) None xs takes none = absurd takes
all_after (Some t) (Some t1) xs takes none =
    sym (takes ∙ ap (λ ls. xs ++ ls) none ∙ append-nil xs)

-- a long line is left after them
long_after : (l l1 : Option (List ℕ)) (xs : List (List ℕ)) → TakesLines l xs l1
    → IfSome l1 (λ text. SCRIPT_BYTES < line_size text)
    → IfSome l (λ text. (more : List ℕ) × (lines text ≡ xs ++ lines more)
    × (SCRIPT_BYTES < line_size more))
long_after None l1 xs takes long = tt
long_after (Some t) None xs takes long = absurd takes
long_after (Some t) (Some t1) xs takes long = (t1, takes, long)

left_at_end : (ahead : List ℕ) (l : Option (List ℕ)) → IsAtEnd (prepend_known ahead l) → IsAtEnd l
left_at_end ahead None end = tt
left_at_end [] (Some xs) end = end
left_at_end (b ∷ bs) (Some xs) end = absurd (cc)

serves_same : (p : Program) (xs : List (List ℕ)) (m m1 m' : Mode) (d d1 d' : Device)
    (w w1 w' : Option (List ℕ)) (k k1 k' : ℕ) → Serves p xs m d w k m1 d1 w1 k1
    → StaysSo m1 d1 w1 k1 m' d' w' k' → Serves p xs m d w k m' d' w' k'
serves_same p xs m m1 m' d d1 d' w w1 w' k k1 k' serves (a, b, c, e) = rw (a, b, c, e) serves

-- Some lines were answered, and then serving ends.
module _ (p : Program) (l l1 : Option (List ℕ)) (xs : List (List ℕ)) (m m1 m' : Mode)
    (d d1 d' : Device) (w w1 w' : Option (List ℕ)) (k k1 k' : ℕ) (takes : TakesLines l xs l1)
    (before : Serves p xs m d w k m1 d1 w1 k1) (ahead : List ℕ) (left : Option (List ℕ)) where
  to_same : StaysSo m1 d1 w1 k1 m' d' w' k' → ServesTo p m d w k d' w' k' xs
  to_same same = (m', serves_same p xs m m1 m' d d1 d' w w1 w' k k1 k' before same)

  part_end : NextPart l1 (prepend_known ahead left) p m1 d1 w1 k1 m' d' w' k'
      → EndsInLine l left (ServesPart p m d w k d' w' k')
  part_end (line, taken, text, does, part) = (
    xs,
    line,
    ahead,
    takes_more l l1 (prepend_known ahead left) xs (line ∷ []) takes taken,
    (m1, d1, w1, k1, before, text, m', does, part),
  )

  pub served_end : (end : Served) → (end ≡ served.Done → IsAtEnd (prepend_known ahead left))
      → (end ≡ served.ReadFault → line_size ahead ≡ length ahead)
      → NextAs (Some end) l1 (prepend_known ahead left) p m1 d1 w1 k1 m' d' w' k'
      → ServedAs end l left p m d w k d' w' k'
  served_end served.Done at clean (none, same) =
      (xs, all_after l l1 xs takes none, left_at_end ahead left (at refl), to_same same)
  served_end served.ReadFault at clean (kept, same) = (
    xs,
    ahead,
    clean refl,
    takes_still l l1 (prepend_known ahead left) xs takes kept,
    to_same same,
  )
  served_end served.LongLine at clean (kept, long, same) =
      (xs, long_after l l1 xs takes long, to_same same)
  served_end served.ManyLines at clean next = absurd next
  served_end served.NoMemory at clean (inl (kept, same)) = inl (
    xs,
    [],
    ahead,
    omega arith,
    takes_more l l1 (prepend_known ahead left) xs [] takes
        (takes_kept l1 (prepend_known ahead left) kept),
    to_same same,
  )
  served_end served.NoMemory at clean (inr (inl (line, taken, same))) = inl (
    xs,
    line ∷ [],
    ahead,
    omega arith,
    takes_more l l1 (prepend_known ahead left) xs (line ∷ []) takes taken,
    to_same same,
  )
  served_end served.NoMemory at clean (inr (inr next)) = inr (part_end next)
  served_end served.WriteFault at clean next = part_end next
  served_end served.GivenUp at clean next = absurd next

-- serving ends after lines that were answered
pub given_end : (p : Program) (l left : Option (List ℕ)) (ahead : List ℕ)
    (given : List (List ℕ)) (least : ℕ) (m m' : Mode) (d d' : Device) (w w' : Option (List ℕ))
    (k k' : ℕ) → least ≤ length given → TakesLines l given (prepend_known ahead left)
    → Serves p given m d w k m' d' w' k'
    → (xs : List (List ℕ)) × (rest : List ℕ) × (least ≤ length xs)
    × TakesLines l xs (prepend_known rest left) × ServesTo p m d w k d' w' k' xs
given_end p l left ahead given least m m' d d' w w' k k' enough takes serves =
    (given, ahead, enough, takes, (m', serves))

-- the first line of a text, and the lines after it
pub lines_first : (text line : List ℕ) → Some line ≡ slice_get (lines text) 0
    → lines text ≡ line ∷ lines (after_line text)
lines_first [] line is = absurd (cc)
lines_first (b ∷ bs) line is = by (nat_lt (line_size (b ∷ bs)) (length (b ∷ bs))) refl
  where
    by : (c : Bool) → nat_lt (line_size (b ∷ bs)) (length (b ∷ bs)) ≡ c
        → lines (b ∷ bs) ≡ line ∷ lines (after_line (b ∷ bs))
    by true less =
        let cut = lines_cut (b ∷ bs) (ltb-true _ _ less) in
        let same : Some line ≡ Some (without_cr (take (line_size (b ∷ bs)) (b ∷ bs))) =
        is ∙ ap (λ ls. slice_get ls 0) cut in
        let same_line : without_cr (take (line_size (b ∷ bs)) (b ∷ bs)) ≡ line = cc in
        cut ∙ ap (λ x. x ∷ lines (after_line (b ∷ bs))) same_line
    by false over =
        let all : line_size (b ∷ bs) ≡ length (b ∷ bs) =
        omega (arith, size_within (b ∷ bs), ltb-false _ _ over) in
        let one = lines_one (b ∷ bs) all (omega arith) in
        let same : Some line ≡ Some (b ∷ bs) = is ∙ ap (λ ls. slice_get ls 0) one in
        let same_line : b ∷ bs ≡ line = cc in
        let none : after_line (b ∷ bs) ≡ [] =
        drop_all (line_size (b ∷ bs) + 1) (b ∷ bs) (omega (arith, all)) in
        one ∙ ap (λ x. x ∷ []) same_line ∙ ap (λ t. line ∷ lines t) (sym none)

pub first_is : (l first : Option (List ℕ)) (line given : List ℕ) → first ≡ Some given
    → line ≡ given → IfSome l (λ text. first ≡ slice_get (lines text) 0)
    → IfSome l (λ text. Some line ≡ slice_get (lines text) 0)
first_is None first line given same line_same is = tt
first_is (Some text) first line given same line_same is = ap Some line_same ∙ sym same ∙ is

pub none_is : (l first : Option (List ℕ)) → first ≡ None
    → IfSome l (λ text. first ≡ slice_get (lines text) 0)
    → IfSome l (λ text. None ≡ slice_get (lines text) 0)
none_is None first same is = tt
none_is (Some text) first same is = sym same ∙ is

pub takes_line : (l l' : Option (List ℕ)) (line : List ℕ)
    → IfSome l (λ text. Some line ≡ slice_get (lines text) 0)
    → IfSome l (λ text. l' ≡ Some (after_line text)) → TakesLines l (line ∷ []) l'
takes_line None l' line is left = tt
takes_line (Some text) l' line is left =
    subst (TakesLines (Some text) (line ∷ [])) (sym left) (lines_first text line is)

no_first : (ls : List (List ℕ)) → None ≡ slice_get ls 0 → ls ≡ []
no_first [] none = refl
no_first (x ∷ xs) none = absurd (cc)

-- the input is at its end
pub no_line : (l : Option (List ℕ)) → IfSome l (λ text. None ≡ slice_get (lines text) 0)
    → IfSome l (λ text. lines text ≡ [])
no_line None none = tt
no_line (Some text) none = no_first (lines text) none

appends_none : (w : Option (List ℕ)) → Appends w w []
appends_none None = tt
appends_none (Some xs) = sym (append-nil xs)

pub untold_part : (w w' : Option (List ℕ)) (text : List ℕ) → w' ≡ w → AppendsPart w w' text
untold_part w w' text same = record {
  part = [];
  rest = text;
  split = refl;
  appended = subst (λ v. Appends w v []) (sym same) (appends_none w);
}

-- one more line is taken and answered
pub one_more : (n : ℕ) (p : Program) (l l1 l' : Option (List ℕ)) (given : List (List ℕ))
    (line text : List ℕ) (m m1 m' : Mode) (d d1 d' : Device) (w w1 w' : Option (List ℕ))
    (k k1 k' : ℕ) → length given ≡ n → TakesLines l given l1
    → Serves p given m d w k m1 d1 w1 k1 → TakesLines l1 (line ∷ []) l'
    → DoesMeaning (line_meaning line) p m1 d1 k1 text m' d' k' → Appends w1 w' text
    → (all : List (List ℕ)) × (length all ≡ n + 1) × TakesLines l all l'
    × Serves p all m d w k m' d' w' k'
one_more n p l l1 l' given line text m m1 m' d d1 d' w w1 w' k k1 k' many takes serves next does
    told = (
      given ++ line ∷ [],
      omega (arith, length-append given (line ∷ []), many),
      takes_more l l1 l' given (line ∷ []) takes next,
      serves_append p given (line ∷ []) m m1 m' d d1 d' w w1 w' k k1 k' serves
          (serves_one p line text m1 m' d1 d' w1 w' k1 k' does told),
    )
