use Rattle.std.proofs.Common.{◌≡◌, ◌++◌, drop, map}
use Rattle.c_tree.proofs.ast.Ast.new.Given as goal

abbrev pub invariant-loop-place : goal.invariant-loop-place
invariant-loop-place l = l.lines.items ++ map (λ placed. placed.line) (drop l.place l.tokens.tokens)
    ≡ map (λ placed. placed.line) l.tokens.tokens
