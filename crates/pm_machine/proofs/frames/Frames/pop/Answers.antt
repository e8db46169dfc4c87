use Rattle.std.proofs.Common.{◌≡◌, ◌∙◌, ◌-◌, ◌≤◌, ℕ, ℤ, List, [], ◌∷◌, ◌++◌, ap, refl, sym}
use Rattle.std.proofs.Common.{subst, arith, length, drop, take, vec_len}
use Rattle.std.proofs.lemmas.List.{take_rest, length_push}
use Rattle.pm_machine.specs.Stack.{Stack}
use Rattle.pm_machine.specs.declared.frames.Waiting.{Waiting}
use Rattle.pm_machine.specs.inside.Stack.{words_of, AreSized}
use Rattle.pm_machine.proofs.Stacks.{popped_top, popped_rest, words_are, words_before, words_last}
use Rattle.pm_machine.proofs.Stacks.{sized_before}
use Rattle.pm_machine.proofs.frames.Frames.pop.Goals as goal

-- what is known of the frame on top and of the words, of which the last are its own
kept_fits : (n from : ℕ) (all ws : List Waiting) (w : Waiting) (words kept : List ℤ)
    → all ≡ ws ++ w ∷ [] → length words ≡ words_of all → from ≡ length words - w.used
    → AreSized n all → kept ≡ drop from words → length kept ≤ n
kept_fits n from all ws w words kept is size at sized same =
    let count : length kept ≡ w.used =
    ap (λ (l : List ℤ). length l) same ∙ words_last n from all ws w words is size at in
    let few = (sized_before n ws w (subst (AreSized n) is sized)).1 in
    omega (arith, count, few)

pub overflow_sub-from : goal.overflow_sub-from
overflow_sub-from c =
    let long : vec_len c.self.inside.words ≡ length c.self.inside.words.items =
    cc c.self.inside.words.ok.0 in
    let words = c.self.inside.words.items in
    let whole = words_are c.self.inside.size (length words - c.in-Some.waiting.used)
    c.self.inside.waiting.items c.pop.new.self.items c.in-Some.waiting words
    c.in-Some.ensures.items c.self.invariant.3 refl in
    omega (arith, whole, long, c.len.ensures)

pub refill-requires : goal.refill-requires
refill-requires c =
    let long : vec_len c.self.inside.words ≡ length c.self.inside.words.items =
    cc c.self.inside.words.ok.0 in
    let from : ℕ = c.len.result - c.in-Some.waiting.used in
    let at = ap (λ (m : ℕ). m - c.in-Some.waiting.used) (c.len.ensures ∙ long) in
    let same = take_rest c.deref.result.now from
    ∙ ap (λ (l : List ℤ). drop from l) c.deref.ensures.value in
    let sized = c.requires.size ∙ ap (λ (t : Stack). t.size) (sym c.self.view_is) in
    let fits = kept_fits c.self.inside.size from c.self.inside.waiting.items c.pop.new.self.items
    c.in-Some.waiting c.self.inside.words.items _ c.in-Some.ensures.items c.self.invariant.3 at
    c.self.invariant.4 same in
    omega (arith, fits, sized)

pub returns-clause-some : goal.returns-clause-some
returns-clause-some c =
    let long : vec_len c.self.inside.words ≡ length c.self.inside.words.items =
    cc c.self.inside.words.ok.0 in
    let w = c.in-Some.waiting in
    let from : ℕ = c.len.result - c.in-Some.waiting.used in
    let at = ap (λ (m : ℕ). m - c.in-Some.waiting.used) (c.len.ensures ∙ long) in
    let same = take_rest c.deref.result.now from
    ∙ ap (λ (l : List ℤ). drop from l) c.deref.ensures.value in
    let sized = c.requires.size ∙ ap (λ (t : Stack). t.size) (sym c.self.view_is) in
    let fits = kept_fits c.self.inside.size from c.self.inside.waiting.items c.pop.new.self.items w
    c.self.inside.words.items _ c.in-Some.ensures.items c.self.invariant.3 at c.self.invariant.4
    same in
    let kept : List ℤ = take (length c.deref.result.now - from) (drop from c.deref.result.now) in
    let few : length kept ≤ length c.args.frame.now.registers = omega (arith, fits, sized) in
    λ yes. rw (← c.self.view_is) (popped_top c.self.inside.size from c.self.inside.waiting.items
    c.pop.new.self.items w c.self.inside.words.items c.in-Some.ensures.items c.self.invariant.3
    at _ c.args.frame.now.registers c.refill.new.self same sized few
    c.refill.ensures.words)

pub returns-clause-others : goal.returns-clause-others
returns-clause-others c =
    let long : vec_len c.self.inside.words ≡ length c.self.inside.words.items =
    cc c.self.inside.words.ok.0 in
    λ yes. rw (← c.self.view_is) (popped_rest c.self.inside.size
    (c.len.result - c.in-Some.waiting.used) c.self.inside.waiting.items c.pop.new.self.items
    c.in-Some.waiting c.self.inside.words.items c.in-Some.ensures.items c.self.invariant.3
    (ap (λ (m : ℕ). m - c.in-Some.waiting.used) (c.len.ensures ∙ long)) c.truncate.new.self.items
    c.truncate.ensures.items)

pub returns-clause-sized : goal.returns-clause-sized
returns-clause-sized c = c.refill.ensures.size ∙ c.requires.size

pub invariant_of-self-2 : goal.invariant_of-self-2
invariant_of-self-2 c =
    let long : vec_len c.self.inside.words ≡ length c.self.inside.words.items =
    cc c.self.inside.words.ok.0 in
    let is = c.in-Some.ensures.items in
    let one = ap (λ (l : List Waiting). length l) is
    ∙ length_push c.pop.new.self.items c.in-Some.waiting in (
      omega (arith, c.self.invariant.0, c.pop.ensures.capacity),
      omega (arith, c.self.invariant.1, one),
      omega (arith, c.self.invariant.2, c.truncate.ensures.capacity),
      ap (λ (l : List ℤ). length l) c.truncate.ensures.items
          ∙ words_before c.self.inside.size (c.len.result - c.in-Some.waiting.used)
          c.self.inside.waiting.items c.pop.new.self.items c.in-Some.waiting
          c.self.inside.words.items is c.self.invariant.3
          (ap (λ (m : ℕ). m - c.in-Some.waiting.used) (c.len.ensures ∙ long)),
      (sized_before c.self.inside.size c.pop.new.self.items c.in-Some.waiting
          (subst (AreSized c.self.inside.size) is c.self.invariant.4)).0,
    )
