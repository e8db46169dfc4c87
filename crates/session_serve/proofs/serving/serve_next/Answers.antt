use Rattle.std.proofs.Common.{inl, inr, refl}
use Rattle.session_serve.specs.Left.{left_of}
use Rattle.session_serve.proofs.LineByLine.{first_is, none_is, no_line, takes_line, untold_part}
use Rattle.session_serve.proofs.serving.serve_next.Goals as goal

pub returns-in-Ok-None-clause-next : goal.returns-in-Ok-None-clause-next
returns-in-Ok-None-clause-next g c =
    let left = left_of g.S.Source.left c.args.reader.now c.args.source.now in (
      no_line left (none_is _ c.in-Ok-None.field-0 c.in-Ok-None.field-0-is
          c.in-Ok-None.ensures.line),
      (refl, refl, refl, refl),
    )

pub returns-in-Ok-clause-next : goal.returns-in-Ok-clause-next
returns-in-Ok-clause-next g c =
    let told = c.in-Ok.ensures.answered in
    let left = left_of g.S.Source.left c.args.reader.now c.args.source.now in
    let is = first_is left c.in-Ok-Some.field-0 c.as_slice-line.result.now c.in-Ok-Some.line
    c.in-Ok-Some.field-0-is c.as_slice-line.ensures c.in-Ok-Some.ensures.line in (
      c.as_slice-line.result.now,
      takes_line left _ c.as_slice-line.result.now is c.in-Ok-Some.ensures.rest,
      told.0,
      told.1,
      told.2,
    )

pub returns-in-Err-Unread-clause-next : goal.returns-in-Err-Unread-clause-next
returns-in-Err-Unread-clause-next g c =
    let same = (rw c.in-Err-Unread.field-0-is at c.in-Err-Unread.ensures.answered) in
    let left = left_of g.S.Source.left c.args.reader.now c.args.source.now in
    let is = first_is left c.in-Ok-Some.field-0 c.as_slice-line.result.now c.in-Ok-Some.line
    c.in-Ok-Some.field-0-is c.as_slice-line.ensures c.in-Ok-Some.ensures.line in
    inr (inl (
      c.as_slice-line.result.now,
      takes_line left _ c.as_slice-line.result.now is c.in-Ok-Some.ensures.rest,
      same,
    ))

pub returns-in-Err-Untold-clause-next : goal.returns-in-Err-Untold-clause-next
returns-in-Err-Untold-clause-next g c =
    let told = (rw c.in-Err-Untold.field-0-is at c.in-Err-Untold.ensures.answered) in
    let left = left_of g.S.Source.left c.args.reader.now c.args.source.now in
    let is = first_is left c.in-Ok-Some.field-0 c.as_slice-line.result.now c.in-Ok-Some.line
    c.in-Ok-Some.field-0-is c.as_slice-line.ensures c.in-Ok-Some.ensures.line in
    inr (inr (
      c.as_slice-line.result.now,
      takes_line left _ c.as_slice-line.result.now is c.in-Ok-Some.ensures.rest,
      told.0,
      told.1,
      untold_part _ _ told.0 told.2,
    ))

pub returns-clause-next : goal.returns-clause-next
returns-clause-next g c =
    let told = (rw c.in-Err-Unwritten.field-0-is at c.in-Err-Unwritten.ensures.answered) in
    let left = left_of g.S.Source.left c.args.reader.now c.args.source.now in
    let is = first_is left c.in-Ok-Some.field-0 c.as_slice-line.result.now c.in-Ok-Some.line
    c.in-Ok-Some.field-0-is c.as_slice-line.ensures c.in-Ok-Some.ensures.line in (
      c.as_slice-line.result.now,
      takes_line left _ c.as_slice-line.result.now is c.in-Ok-Some.ensures.rest,
      told.0,
      told.1,
      told.2,
    )
