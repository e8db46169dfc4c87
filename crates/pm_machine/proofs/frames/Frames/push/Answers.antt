use Rattle.std.proofs.Common.{◌≡◌, ◌≤◌, ◌∙◌, ◌+◌, ◌-◌, ◌<◌, ◌++◌, refl, sym, ap, length, replicate}
use Rattle.std.proofs.Common.{arith, length-append, List, ◌∷◌, [], ℕ, ℤ, pos}
use Rattle.std.specs.Prelude.{vec_capacity}
use Rattle.pm_machine.specs.Stack.{Stack, frames_of}
use Rattle.pm_machine.specs.inside.Stack.{words_of}
use Rattle.pm_machine.specs.declared.frame.Frame.{Frame}
use Rattle.pm_machine.specs.declared.frames.Waiting.{Waiting}
use Rattle.pm_machine.proofs.Stacks.{frames_length, frames_push, room_for, words_fit, words_push}
use Rattle.pm_machine.proofs.Stacks.{sized_push}
use Rattle.pm_machine.proofs.frames.Frames.push.Goals as goal

-- how many frames wait, and how many words the new one keeps
few : (n : ℕ) (ws : List Waiting) (words r : List ℤ) (s : Stack) (f : Frame)
    → record { frames = frames_of n ws words; size = n } ≡ s → length s.frames < 255
    → length f.registers ≡ s.size → length r ≤ length f.registers
    → (length ws < 255) × (length r ≤ n) × (length f.registers ≡ n)
few n ws words r s f is room size within =
    let count : length s.frames ≡ length ws = ap (λ (t : Stack). length t.frames) (sym is)
    ∙ frames_length n ws words in
    let same : s.size ≡ n = ap (λ (t : Stack). t.size) (sym is) in (
      omega (arith, count, room),
      omega (arith, size, same, within),
      size ∙ same,
    )

pub push_words-requires : goal.push_words-requires
push_words-requires c =
    let known = few c.self.inside.size c.self.inside.waiting.items c.self.inside.words.items
    c.used-words.result.now c.args.self.now c.args.frame.now c.self.view_is c.requires.room
    c.requires.size c.used-words.ensures.few in
    let words = words_fit c.self.inside.size c.self.inside.waiting.items c.self.invariant.4 in
    let fits = room_for c.self.inside.size (length c.self.inside.waiting.items)
    (words_of c.self.inside.waiting.items) (length c.used-words.result.now)
    (vec_capacity c.self.inside.words) known.0 words known.1 c.self.invariant.2 in
    omega (arith, fits, c.self.invariant.3)

pub push_waiting-requires : goal.push_waiting-requires
push_waiting-requires c = let known =
    (few c.self.inside.size c.self.inside.waiting.items c.self.inside.words.items
    c.used-words.result.now c.args.self.now c.args.frame.now c.self.view_is c.requires.room
    c.requires.size c.used-words.ensures.few).0 in omega (arith, known, c.self.invariant.0)

pub invariant_of-self : goal.invariant_of-self
invariant_of-self c =
    let known = few c.self.inside.size c.self.inside.waiting.items c.self.inside.words.items
    c.used-words.result.now c.args.self.now c.args.frame.now c.self.view_is c.requires.room
    c.requires.size c.used-words.ensures.few in
    let size = c.self.inside.size in
    let ws = c.self.inside.waiting.items in
    let words = c.self.inside.words.items in
    let new : Waiting = record {
      function = c.args.frame.now.function;
      place = c.args.frame.now.place;
      to = c.args.frame.now.to;
      used = length c.used-words.result.now;
    } in
    let one : length c.push_waiting.new.to.items ≡ length ws + 1 =
    ap (λ l. length l) c.push_waiting.ensures.items ∙ length-append ws _ in
    let all : length c.push_words.new.to.items ≡ length words + length c.used-words.result.now =
    ap (λ l. length l) c.push_words.ensures.items ∙ length-append words c.used-words.result.now in (
      omega (arith, c.self.invariant.0, c.push_waiting.ensures.capacity),
      omega (arith, known.0, one),
      omega (arith, c.self.invariant.2, c.push_words.ensures.capacity),
      all ∙ ap (λ (k : ℕ). k + length c.used-words.result.now) c.self.invariant.3
          ∙ sym (ap words_of c.push_waiting.ensures.items ∙ words_push ws new),
      rw c.push_waiting.ensures.items (sized_push size ws new c.self.invariant.4 known.1),
    )

pub returns-clause-frames : goal.returns-clause-frames
returns-clause-frames c =
    let known = few c.self.inside.size c.self.inside.waiting.items c.self.inside.words.items
    c.used-words.result.now c.args.self.now c.args.frame.now c.self.view_is c.requires.room
    c.requires.size c.used-words.ensures.few in
    let new : Waiting = record {
      function = c.args.frame.now.function;
      place = c.args.frame.now.place;
      to = c.args.frame.now.to;
      used = length c.used-words.result.now;
    } in
    let whole : c.args.frame.now.registers
    ≡ c.used-words.result.now
    ++ replicate (c.self.inside.size - length c.used-words.result.now) (pos 0) =
    c.used-words.ensures.words ∙ ap (λ (n : ℕ).
    c.used-words.result.now ++ replicate (n - length c.used-words.result.now) (pos 0)) known.2 in
    let same = ap (λ (r : List ℤ).
    record {
      function = c.args.frame.now.function;
      place = c.args.frame.now.place;
      to = c.args.frame.now.to;
      registers = r;
    } ∷ []) (sym whole) in
    rw (c.push_waiting.ensures.items, c.push_words.ensures.items, ← c.self.view_is) (
    frames_push c.self.inside.size c.self.inside.waiting.items c.self.inside.words.items new
    c.used-words.result.now c.self.invariant.3 refl
    ∙ ap (λ (fs : List Frame). frames_of c.self.inside.size c.self.inside.waiting.items
    c.self.inside.words.items ++ fs) same)
