use Rattle.std.proofs.Common.{◌≡◌, ◌∙◌, sym, subst, Bool, List, IfOk}
use Rattle.c_file.specs.Header.{header_text}
use Rattle.c_file.specs.declared.entry.Entry.{Entry}
use Rattle.cnvm_emit.specs.Emitted.{emitted}
use Rattle.cnvm_emit.proofs.Listed.{made}
use Rattle.cnvm_emit.proofs.emitting.emit_text.Goals as goal

pub returns-then-header : goal.returns-then-header
returns-then-header c =
    let program = c.args.compiled.now.program in
    let prefix = c.args.prefix.now in
    let same = c.deref.ensures.value ∙ c.in_ok-entries.ensures
    ∙ made c.args.compiled.now c.requires in
    subst (λ (h : Bool). IfOk c.print_header.result (λ text. text ≡ emitted program prefix h))
    (sym c.if-header.true)
    (subst (λ (es : List Entry). IfOk c.print_header.result (λ text. text ≡ header_text prefix es))
    same c.print_header.ensures)
