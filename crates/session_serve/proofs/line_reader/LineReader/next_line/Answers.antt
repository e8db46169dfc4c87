use Rattle.std.proofs.Common.{◌+◌, ◌∙◌, ap, sym, refl, length, Ok, arith, ◌≤◌}
use Rattle.session_serve.specs.LineSize.{line_size}
use Rattle.session_serve.proofs.Reading.{size_found, long_left, within_left, line_left, rest_left}
use Rattle.session_serve.proofs.Reading.{last_within, last_rest, keeps_on, size_within, no_whole}
use Rattle.session_serve.proofs.Reading.{clean_more, clean_whole}
use Rattle.session_serve.proofs.line_reader.LineReader.next_line.Goals as goal

pub returns-then-size-gt-SCRIPT_BYTES-clause-long :
    goal.returns-then-size-gt-SCRIPT_BYTES-clause-long
returns-then-size-gt-SCRIPT_BYTES-clause-long g c is =
    let v = c.reads.invariant in
    let size = size_found c.reads.self.ahead.items c.deref.result.now c.reads.size
    c.line_size.result v.within v.clean c.deref.ensures.value c.line_size.ensures in
    long_left _ (g.S.Source.left c.reads.source) c.reads.self.ahead.items _ _ v.kept size
    c.if-size-gt-SCRIPT_BYTES.true

pub returns-then-size-len-clause-line : goal.returns-then-size-len-clause-line
returns-then-size-len-clause-line g c =
    let v = c.reads.invariant in
    let size = size_found c.reads.self.ahead.items c.deref.result.now c.reads.size
    c.line_size.result v.within v.clean c.deref.ensures.value c.line_size.ensures in
    line_left c.give.result _ (g.S.Source.left c.reads.source) c.reads.self.ahead.items _
    v.kept size (grind arith) c.give.ensures.line

pub returns-then-size-len-clause-rest : goal.returns-then-size-len-clause-rest
returns-then-size-len-clause-rest g c =
    let v = c.reads.invariant in
    let size = size_found c.reads.self.ahead.items c.deref.result.now c.reads.size
    c.line_size.result v.within v.clean c.deref.ensures.value c.line_size.ensures in
    rest_left c.give.result _ (g.S.Source.left c.reads.source) _ c.reads.self.ahead.items
    c.give.new.self.ahead.items _ v.kept size (grind arith)
    refl c.give.ensures.rest

pub returns-then-size-len-clause-within : goal.returns-then-size-len-clause-within
returns-then-size-len-clause-within g c =
    let v = c.reads.invariant in
    let size = size_found c.reads.self.ahead.items c.deref.result.now c.reads.size
    c.line_size.result v.within v.clean c.deref.ensures.value c.line_size.ensures in
    within_left c.give.result _ (g.S.Source.left c.reads.source) c.reads.self.ahead.items _ _
    v.kept size (grind arith) c.if-size-gt-SCRIPT_BYTES.false

pub give-requires-then-not-branch : goal.give-requires-then-not-branch
give-requires-then-not-branch g c =
    let v = c.reads.invariant in
    let size = size_found c.reads.self.ahead.items c.deref.result.now c.reads.size
    c.line_size.result v.within v.clean c.deref.ensures.value c.line_size.ensures in
    let end = c.read_more.ensures.end (c.in_ok-read_more.was ∙ ap Ok c.if-not-branch.true) in
    omega (arith, size, size_within c.reads.self.ahead.items, ap length end.0)

pub returns-then-not-branch-clause-rest : goal.returns-then-not-branch-clause-rest
returns-then-not-branch-clause-rest g c =
    let v = c.reads.invariant in
    let left = g.S.Source.left in
    let size = size_found c.reads.self.ahead.items c.deref.result.now c.reads.size
    c.line_size.result v.within v.clean c.deref.ensures.value c.line_size.ensures in
    let end = c.read_more.ensures.end (c.in_ok-read_more.was ∙ ap Ok c.if-not-branch.true) in
    last_rest c.give-then-not-branch.result _ (left c.read_more.new.source) _
    c.read_more.new.self.ahead.items c.give-then-not-branch.new.self.ahead.items _
    (keeps_on _ _ _ v.kept c.read_more.ensures.kept) end.1 (size ∙ ap line_size (sym end.0))
    (grind arith) refl
    c.give-then-not-branch.ensures.rest

pub returns-then-not-branch-clause-within : goal.returns-then-not-branch-clause-within
returns-then-not-branch-clause-within g c =
    let v = c.reads.invariant in
    let left = g.S.Source.left in
    let size = size_found c.reads.self.ahead.items c.deref.result.now c.reads.size
    c.line_size.result v.within v.clean c.deref.ensures.value c.line_size.ensures in
    let end = c.read_more.ensures.end (c.in_ok-read_more.was ∙ ap Ok c.if-not-branch.true) in
    last_within c.give-then-not-branch.result _ (left c.read_more.new.source)
    c.read_more.new.self.ahead.items _ _ (keeps_on _ _ _ v.kept c.read_more.ensures.kept) end.1
    (size ∙ ap line_size (sym end.0)) c.if-size-gt-SCRIPT_BYTES.false

pub returns-then-not-branch-clause-unread : goal.returns-then-not-branch-clause-unread
returns-then-not-branch-clause-unread g c less =
    let v = c.reads.invariant in
    let size = size_found c.reads.self.ahead.items c.deref.result.now c.reads.size
    c.line_size.result v.within v.clean c.deref.ensures.value c.line_size.ensures in
    no_whole c.args.self.now.ahead.items c.reads.self.ahead.items _ (v.unread less).1 size
    (grind arith) less

pub returns-in_err-read_more-clause-unread : goal.returns-in_err-read_more-clause-unread
returns-in_err-read_more-clause-unread g c less =
    let v = c.reads.invariant in
    let size = size_found c.reads.self.ahead.items c.deref.result.now c.reads.size
    c.line_size.result v.within v.clean c.deref.ensures.value c.line_size.ensures in
    no_whole c.args.self.now.ahead.items c.reads.self.ahead.items _ (v.unread less).1 size
    (grind arith) less

pub returns-in_err-read_more-clause-partial : goal.returns-in_err-read_more-clause-partial
returns-in_err-read_more-clause-partial g c = λ failed.
    let v = c.reads.invariant in
    let x = c.reads.self.ahead.items in
    let size = size_found x c.deref.result.now c.reads.size c.line_size.result v.within v.clean
    c.deref.ensures.value c.line_size.ensures in
    let over : length x ≤ c.reads.size + c.line_size.result = grind arith in
    clean_whole x c.read_more.new.self.ahead.items _ size over c.in_err-read_more.ensures.same

pub overflow_add-size : goal.overflow_add-size
overflow_add-size g c =
    let v = c.reads.invariant in
    let size = size_found c.reads.self.ahead.items c.deref.result.now c.reads.size
    c.line_size.result v.within v.clean c.deref.ensures.value c.line_size.ensures in
    let within = size_within c.reads.self.ahead.items in
    let ok = c.reads.self.ahead.ok in
    grind (arith, size, within, ok.0, ok.1, c.reads.self.ahead.small)

pub reads-preserved : goal.reads-preserved
reads-preserved g c =
    let v = c.reads.invariant in
    let left = g.S.Source.left in
    let x = c.reads.self.ahead.items in
    let size = size_found c.reads.self.ahead.items c.deref.result.now c.reads.size
    c.line_size.result v.within v.clean c.deref.ensures.value c.line_size.ensures in
    let more = c.read_more.ensures.some (c.in_ok-read_more.was ∙ ap Ok c.if-not-branch.false) in
    let over : length x ≤ c.reads.size + c.line_size.result = grind arith in record {
      within = omega (arith, size, size_within x, more);
      clean = clean_more x _ _ size over c.read_more.ensures.front;
      kept = keeps_on _ _ _ v.kept c.read_more.ensures.kept;
      unread = λ less.
          no_whole c.args.self.now.ahead.items x _ (v.unread less).1 size over less;
      count = grind arith;
    }
