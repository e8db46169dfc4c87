use Rattle.std.proofs.Common.{rules, ◌≡◌, ◌++◌, List, ℕ, length, take, ap, ◌∙◌}
use Rattle.pool_layout.specs.Bytes.{bytes_of}
use Rattle.cnvm_cli.proofs.texts.Heads.{length_mended}
use Rattle.cnvm_cli.proofs.former.with_digest.Goals as goal

pub returns-clause-length : goal.returns-clause-length
returns-clause-length c =
    let bytes : c.extend-2.new.self ≡ take 64 c.args.head.now ++ bytes_of c.args.digest.now =
    search rules in
    ap (λ (l : List ℕ). length l) bytes
    ∙ length_mended c.args.head.now c.args.digest.now c.requires c.told-digest
