use Rattle.std.specs.Prelude.{codes}
use Rattle.c_file.specs.Pieces.{twice}
use Rattle.c_file.specs.Header.{using_declared}
use Rattle.c_file.proofs.Added.{step}
use Rattle.c_file.proofs.header.push_using.Goals as goal

pub returns : goal.returns
unfolding using_declared
returns c =
    step c.args.text.now _ _
    (twice (codes "void ")
    (codes "_pool_close(struct ") (codes "_pool *pool);\n") c.args.prefix.now) _
    c.in_ok-push_twice.ensures
    (step c.push_twice.new.text _ _
    (twice (codes "uint64_t ")
    (codes "_pool_done(struct ") (codes "_pool *pool);\n") c.args.prefix.now) _
    c.in_ok-push_twice-2.ensures
    (step c.push_twice-2.new.text _ _
    (twice (codes "int64_t ")
    (codes "_pool_last(struct ") (codes "_pool *pool);\n") c.args.prefix.now) _
    c.in_ok-push_twice-3.ensures
    (c.in_ok-push_twice-4.ensures)))
