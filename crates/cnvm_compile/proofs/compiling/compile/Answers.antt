use Rattle.std.proofs.Common.{rules, ◌≡◌, length}
use Rattle.pool_layout.specs.Digest.{digest_of}
use Rattle.c_types.specs.Shapes.{shapes_of}
use Rattle.lower.specs.Program.{lowered}
use Rattle.cnvm_compile.specs.FrontEnd.{AcceptsText, IsOnlyTreeOf}
use Rattle.cnvm_compile.specs.Made.{image_of}
use Rattle.cnvm_compile.specs.SizesAsked.{HasWidth, HasRoot, HasSizes}
use Rattle.cnvm_compile.proofs.Agreeing.{agreed}
use Rattle.cnvm_compile.proofs.compiling.compile.Goals as goal
use Rattle.cnvm_session.specs.Pool.{sizes_of}

pub returns-in-Ok-clause-compiled : goal.returns-in-Ok-clause-compiled
returns-in-Ok-clause-compiled c =
    let made = c.in-Ok.ensures in
    let p = c.in-Ok.compiled.program in
    let ir = c.in-Ok.compiled.ir in
    let marks = c.in-Ok.compiled.marks in
    let asked = c.args.asked in
    let accepted : AcceptsText c.args.text.now p.typed = search rules in
    let only : IsOnlyTreeOf c.args.text.now p.typed = search rules in
    let is : ir ≡ lowered p.typed = search rules in
    let root : HasRoot (shapes_of p.typed) (sizes_of p) = search rules in
    let width : HasWidth (shapes_of p.typed) (sizes_of p) = search rules in
    let code : p.image.parts ≡ image_of marks ir (sizes_of p) (length p.typed.lines) =
    search rules in
    let sizes : HasSizes asked.slots asked.records asked.ticks (sizes_of p) = search rules in
    let digest : p.digest ≡ digest_of c.args.text.now = search rules in record {
      accepted = accepted;
      only = only;
      ir = is;
      well_formed = made.well_formed;
      marks = made.marks;
      code = code;
      sizes = sizes;
      root = root;
      width = width;
      digest = digest;
      agrees = agreed c.args.text.now marks p ir accepted is made.marks made.well_formed root
          width code;
    }
