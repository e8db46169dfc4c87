use Rattle.std.proofs.Common.{◌≡◌, sym, ap, ap₂, ◌∙◌, cond, true, false, List, ℕ, length, Bor}
use Rattle.std.specs.Prelude.{map, is_some, None, Some, bytes_eq}
use Rattle.std.proofs.lemmas.List.{map-append}
use Rattle.std.proofs.lemmas.Map.Text.{btree_map_updates_str}
use Rattle.c_types.specs.Tables.{index_of}
use Rattle.c_types.proofs.Index.{index_of_push_known, index_of_push_new, is_some_None, length_names}
use Rattle.c_types.proofs.names.Names.push.Goals as goal

pub invariant_of-self-then-known : goal.invariant_of-self-then-known
invariant_of-self-then-known c = λ q.
    let names : List (List ℕ) = map (λ (s : Bor (List ℕ)). s.now) c.self.inside.all.items in
    let known : is_some (index_of c.args.name.now names) ≡ true =
    ap is_some (sym (c.self.invariant c.args.name.now)) ∙ sym c.contains_key-known.ensures
    ∙ c.if-known.true in
    rw (c.in_ok-push.ensures.items, map-append)
    (c.self.invariant q ∙ sym (index_of_push_known q c.args.name.now names known))

pub invariant_of-self-in-Ok : goal.invariant_of-self-in-Ok
invariant_of-self-in-Ok c = λ q.
    let names : List (List ℕ) = map (λ (s : Bor (List ℕ)). s.now) c.self.inside.all.items in
    let unknown : is_some (index_of c.args.name.now names) ≡ false =
    ap is_some (sym (c.self.invariant c.args.name.now)) ∙ sym c.contains_key-known.ensures
    ∙ c.if-known.false in
    let new : index_of c.args.name.now names ≡ None = is_some_None _ unknown in
    let up = btree_map_updates_str c.args.name.now c.self.inside.first c.insert.new.self _
    c.in-Ok.ensures.updates q in
    let len : length names ≡ c.len-at.result = length_names c.self.inside.all.items
    ∙ (cc (c.len-at.ensures, c.self.inside.all.ok.0)) in
    rw (c.in_ok-push.ensures.items, map-append)
    (up ∙ sym (index_of_push_new q c.args.name.now names new
    ∙ ap₂ (λ n x. cond (bytes_eq c.args.name.now q) (Some n) x) len (sym (c.self.invariant q))))
