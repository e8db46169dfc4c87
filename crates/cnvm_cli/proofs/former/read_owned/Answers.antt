use Rattle.std.proofs.Common.{◌≡◌, ◌≤◌, ℕ, List, length, arith, sym, ap, ◌∙◌}
use Rattle.pool_layout.specs.Fault.{digest_in}
use Rattle.cnvm_cli.proofs.Owning.{own_start, other_start, unread_start}
use Rattle.cnvm_cli.proofs.former.read_owned.Goals as goal

pub returns-in-Err-clause-told : goal.returns-in-Err-clause-told
returns-in-Err-clause-told g c =
    unread_start c.args.asked c.args.program.now _ _ c.in-Err.why c.in-Err.ensures.refused

pub returns-then-as_slice-lt-HEAD-clause-told : goal.returns-then-as_slice-lt-HEAD-clause-told
returns-then-as_slice-lt-HEAD-clause-told g c =
    let short = c.if-as_slice-lt-HEAD.true in
    let same = ap (λ (l : List ℕ). length l) c.as_slice.ensures in
    own_start c.args.asked c.args.program.now _ _ _ c.in-Ok.head c.own_words.result
    c.in-Ok.ensures.within c.in-Ok.ensures.taken c.in-Ok.ensures.end
    (λ (le : 96 ≤ length c.in-Ok.head). absurd (omega arith)) c.own_words.ensures.told

pub returns-then-are_same-clause-told : goal.returns-then-are_same-clause-told
returns-then-are_same-clause-told g c =
    let found : digest_in c.in-Ok.head ≡ c.args.program.now.digest =
    ap digest_in (sym c.as_slice-2.ensures) ∙ sym c.digest_in-found.ensures
    ∙ c.are_same.ensures.same c.if-are_same.true in
    own_start c.args.asked c.args.program.now _ _ _ c.in-Ok.head c.own_words-then-are_same.result
    c.in-Ok.ensures.within c.in-Ok.ensures.taken c.in-Ok.ensures.end
    (λ (le : 96 ≤ length c.in-Ok.head). found) c.own_words-then-are_same.ensures.told

pub returns-clause-told : goal.returns-clause-told
returns-clause-told g c =
    let long = c.if-as_slice-lt-HEAD.false in
    let same = ap (λ (l : List ℕ). length l) c.as_slice.ensures in
    let within : length c.in-Ok.head ≤ 96 = c.in-Ok.ensures.within in
    let whole : length c.in-Ok.head ≡ 96 = omega arith in
    other_start c.args.asked c.args.program.now _ _ _ c.in-Ok.head c.digest_in-found.result
    c.read_other.result whole c.in-Ok.ensures.taken
    (c.digest_in-found.ensures ∙ ap digest_in c.as_slice-2.ensures)
    (c.are_same.ensures.other c.if-are_same.false) c.read_other.ensures.told
