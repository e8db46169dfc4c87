-- The parser refuses at most one token of a list, and none of a list that has a tree.
use Rattle.std.proofs.Common.{◌≡◌, ℕ, zero, suc, ◌+◌, ◌<◌, ◌≤◌, List, [], ◌∷◌, Option, Some, None}
use Rattle.std.proofs.Common.{Result, Ok, Err, length, slice_get, option_map, ⊎_elim, refl, sym, ap}
use Rattle.std.proofs.Common.{◌∙◌, subst, arith}
use Rattle.std.proofs.lemmas.Bool.{cases_order}
use Rattle.c_lexer.specs.Cuts.{answer}
use Rattle.c_lexer.specs.TokenList.{Tokens, line_at}
use Rattle.c_lexer.specs.declared.fault.LexFault.{LexFault}
use Rattle.c_lexer.specs.declared.token.Placed.{Placed}
use Rattle.c_constants.specs.declared.fault.ConstFault.{ConstFault}
use Rattle.c_constants.specs.Left.{LeavesTokens}
use Rattle.c_constants.specs.Passes as passes
use Rattle.c_parser.specs.declared.fault.ParseFault.{ParseFault}
use Rattle.c_parser.specs.declared.fault.ParseFault.TheVariants as parse
use Rattle.c_parser.specs.declared.want.Want.{Want}
use Rattle.c_parser.specs.declared.want.Want.TheVariants.{Items}
use Rattle.c_tree.specs.Kinds.{token_kind}
use Rattle.c_tree.specs.Program.{Program, source_line, tree_of}
use Rattle.c_parser.specs.inside.Wants.{parser_step}
use Rattle.c_parser.specs.Exact.{LightBefore, Agree, NoneBegins, SomeBegins, SomeSinks}
use Rattle.c_parser.specs.inside.Stacks.{weigh, weights_from, weights}
use Rattle.c_parser.proofs.Weighs.{light_counted, heavy_counted}
use Rattle.c_types.specs.declared.broken.Broken.{Broken}
use Rattle.c_types.specs.declared.fault.TypeFault.{TypeFault}
use Rattle.c_types.specs.Broken.{least_broken}
use Rattle.c_types.specs.Fault.{fault_of, breaks, refusal}
use Rattle.cnvm_compile.specs.declared.front_end.ProgramFault.{ProgramFault}
use Rattle.cnvm_compile.specs.declared.front_end.ProgramFault.TheVariants.{Lex, Constants}
use Rattle.cnvm_compile.specs.declared.front_end.ProgramFault.TheVariants.{Parse, Types, NoMemory}
use Rattle.cnvm_compile.specs.FrontEnd.{IsTree, HasTree, AcceptsText, RefusesToken, RefusesText}
use Rattle.cnvm_compile.specs.OneAnswer.{IsSame, IsOfTree, OneAnswer}
use Rattle.cnvm_compile.proofs.Refusing.{weighed_within}

-- a token's weight is the same in every list that is the same up to it
weights_alike : (ts us : List Placed) (k : List Want) (i : ℕ)
    → ((j : ℕ) → j ≤ i → slice_get us j ≡ slice_get ts j)
    → slice_get (weights_from us k) i ≡ slice_get (weights_from ts k) i
weights_alike [] [] k i same = refl
weights_alike [] (u ∷ us) k i same = let e : Some u ≡ None = same 0 (omega arith) in
    let no : ⊥ = cc in absurd no
weights_alike (t ∷ ts) [] k i same = let e : None ≡ Some t = same 0 (omega arith) in
    let no : ⊥ = cc in absurd no
weights_alike (t ∷ ts) (u ∷ us) k i same =
    let first : Some u ≡ Some t = same 0 (omega arith) in
    let head : u ≡ t = cc in
    ap (λ (x : Placed). slice_get (weigh (parser_step k (token_kind x.token))
    (λ s. weights_from us s)) i) head
    ∙ go (parser_step k (token_kind t.token)) i same (λ s j alike. weights_alike ts us s j alike)
  where
    go : (o : Option (List Want)) (i : ℕ)
        → ((j : ℕ) → j ≤ i → slice_get (u ∷ us) j ≡ slice_get (t ∷ ts) j)
        → ((s : List Want) (j : ℕ) → ((l : ℕ) → l ≤ j → slice_get us l ≡ slice_get ts l)
        → slice_get (weights_from us s) j ≡ slice_get (weights_from ts s) j)
        → slice_get (weigh o (λ s. weights_from us s)) i
        ≡ slice_get (weigh o (λ s. weights_from ts s)) i
    go None i same more = refl
    go (Some s) zero same more = refl
    go (Some s) (suc i) same more = more s i (λ l below. same (suc l) (omega arith))

weight_of : (ts us : List Placed) (n t : ℕ) → Agree ts us n → t < n
    → slice_get (weights us) t ≡ slice_get (weights ts) t
unfolding weights
weight_of ts us n t same less = weights_alike ts us (Items ∷ []) t (λ j below. same j (omega arith))

-- if one list has a heavy token, no other list that is the same up to it has a light one there
heavy_and_light : (ts us : List Placed) (t n m : ℕ) → SomeSinks ts t → Agree ts us n
    → LightBefore (weights us) m → t < n → t < m → ⊥
heavy_and_light ts us t n m heavy same light inside below =
    let there : slice_get (weights us) t ≡ Some heavy.5 =
    weight_of ts us n t same inside ∙ (sym (weight_of ts heavy.0 (t + 1) t heavy.2 (omega arith))
    ∙ heavy_counted ts t heavy) in
    let few : heavy.5 ≤ 64 = light t heavy.5 below there in
    let much : 64 < heavy.5 = heavy.7 in
    omega (arith, few, much)

syntax_once : (ts : List Placed) (t u : ℕ) → NoneBegins ts (t + 1) → SomeBegins ts u → u ≤ t
syntax_once ts t u none some =
    ⊎_elim (λ e. omega arith)
    (⊎_elim (λ less. absurd (none some.0 some.1 (λ i below. some.2 i (omega arith)) some.3))
    (λ more. omega arith))
    (cases_order t u)

deep_once : (ts : List Placed) (t u : ℕ) → SomeSinks ts t → SomeSinks ts u → u ≤ t
deep_once ts t u one two =
    ⊎_elim (λ e. omega arith)
    (⊎_elim (λ less. absurd (heavy_and_light ts two.0 t (u + 1) u one two.2
    (light_counted two.3 u two.4) (omega arith) less)) (λ more. omega arith))
    (cases_order t u)

not_both : (ts : List Placed) (t u : ℕ) → NoneBegins ts (t + 1) → SomeBegins ts t
    → SomeSinks ts u → ⊥
not_both ts t u none some deep =
    let early : u < t = ⊎_elim (λ e.
    absurd (none deep.0 deep.1 (λ i below. deep.2 i (omega arith)) deep.3))
    (⊎_elim (λ less. absurd (none deep.0 deep.1 (λ i below. deep.2 i (omega arith)) deep.3))
    (λ more. more)) (cases_order t u) in
    heavy_and_light ts some.0 u t t deep some.2 (light_counted some.3 t some.4) early early

one_token : (list : Tokens) (f g : ParseFault) (m n : ℕ) → RefusesToken list f m
    → RefusesToken list g n → (f ≡ g) × (m ≡ n)
one_token list (parse.Syntax t) (parse.Syntax u) m n a b =
    let le = syntax_once list.tokens t u a.0 b.1 in
    let ge = syntax_once list.tokens u t b.0 a.1 in
    let e : t ≡ u = omega (arith, le, ge) in
    (ap parse.Syntax e, a.2 ∙ (ap (line_at list) e ∙ sym b.2))
one_token list (parse.TooDeep t) (parse.TooDeep u) m n a b =
    let le = deep_once list.tokens t u a.0 b.0 in
    let ge = deep_once list.tokens u t b.0 a.0 in
    let e : t ≡ u = omega (arith, le, ge) in
    (ap parse.TooDeep e, a.1 ∙ (ap (line_at list) e ∙ sym b.1))
one_token list (parse.Syntax t) (parse.TooDeep u) m n a b =
    absurd (not_both list.tokens t u a.0 a.1 b.0)
one_token list (parse.TooDeep t) (parse.Syntax u) m n a b =
    absurd (not_both list.tokens u t b.0 b.1 a.0)
one_token list (parse.Syntax t) parse.NoMemory m n a b = absurd b
one_token list (parse.TooDeep t) parse.NoMemory m n a b = absurd b
one_token list parse.NoMemory g m n a b = absurd a

none_refused : (list : Tokens) (tree : Program) (f : ParseFault) (line : ℕ) → IsTree list tree
    → RefusesToken list f line → ⊥
none_refused list tree (parse.Syntax t) line is a =
    a.0 list.tokens (tree_of tree) (λ i below. refl) is.spelled
none_refused list tree (parse.TooDeep t) line is a =
    let some = a.0 in
    let here = sym (weight_of list.tokens some.0 (t + 1) t some.2 (omega arith))
    ∙ heavy_counted list.tokens t some in
    heavy_and_light list.tokens list.tokens t (t + 1) (length list.tokens) some (λ i below. refl)
    (light_counted is.spelled (length list.tokens) is.light) (omega arith)
    (weighed_within list.tokens t some.5 here)
none_refused list tree parse.NoMemory line is a = a

-- the lexer and the constants each give one list of tokens, or one refusal
same_list : {F : Type 0} (one two : Tokens) → (let a : Result Tokens F = Ok one in
    let b : Result Tokens F = Ok two in a ≡ b) → one ≡ two
same_list one two is = cc

same_fault : {F : Type 0} (f g : F) → (let a : Result Tokens F = Err f in
    let b : Result Tokens F = Err g in a ≡ b) → f ≡ g
same_fault f g is = cc

apart : {F : Type 0} (f : F) (list : Tokens) → (let a : Result Tokens F = Err f in
    let b : Result Tokens F = Ok list in a ≡ b) → ⊥
apart f list is = cc

-- a tree has at most one refusal
same_rule : (f g : TypeFault) → (let a : Option TypeFault = Some f in
    let b : Option TypeFault = Some g in a ≡ b) → f ≡ g
same_rule f g is = cc

no_rule : (f : TypeFault) → (let a : Option TypeFault = None in let b : Option TypeFault = Some f in
    a ≡ b) → ⊥
no_rule f is = cc

-- a text has one list of tokens, and its constants leave one list
pub lists_same : (text : List ℕ) (one two : Tokens) → LeavesTokens text one → LeavesTokens text two
    → one ≡ two
lists_same text one two a b =
    let all : a.all ≡ b.all = same_list a.all b.all (sym a.cut ∙ b.cut) in
    same_list one two (sym a.left ∙ (ap passes.tokens_left all ∙ b.left))

not_lexed : (text : List ℕ) (fault : LexFault) (list : Tokens) → answer text ≡ Err fault
    → answer text ≡ Ok list → ⊥
not_lexed text fault list a b = apart fault list (sym a ∙ b)

not_left : (text : List ℕ) (fault : ConstFault) (all list : Tokens) → answer text ≡ Ok all
    → passes.tokens_left all ≡ Err fault → LeavesTokens text list → ⊥
not_left text fault all list cut told is =
    let same : all ≡ is.all = same_list all is.all (sym cut ∙ is.cut) in
    apart fault list (sym told ∙ (ap passes.tokens_left same ∙ is.left))

refused_same : (text : List ℕ) (f g : ProgramFault) → RefusesText text f → RefusesText text g
    → IsSame f g
refused_same text (Lex f) (Lex g) a b = ap Lex (same_fault f g (sym a.0 ∙ b.0))
refused_same text (Lex f) (Constants g) a b = absurd (not_lexed text f b.0 a.0 b.1)
refused_same text (Lex f) (Parse g n) a b = absurd (not_lexed text f b.1.all a.0 b.1.cut)
refused_same text (Lex f) (Types g) a b =
    absurd (not_lexed text f b.has.1.all a.0 b.has.1.cut)
refused_same text (Constants f) (Lex g) a b = absurd (not_lexed text g a.0 b.0 a.1)
refused_same text (Constants f) (Constants g) a b =
    let same : a.0 ≡ b.0 = same_list a.0 b.0 (sym a.1 ∙ b.1) in
    ap Constants (same_fault f g (sym a.2 ∙ (ap passes.tokens_left same ∙ b.2)))
refused_same text (Constants f) (Parse g n) a b = absurd (not_left text f a.0 b.0 a.1 a.2 b.1)
refused_same text (Constants f) (Types g) a b =
    absurd (not_left text f a.0 b.has.0 a.1 a.2 b.has.1)
refused_same text (Parse f m) (Lex g) a b = absurd (not_lexed text g a.1.all b.0 a.1.cut)
refused_same text (Parse f m) (Constants g) a b = absurd (not_left text g b.0 a.0 b.1 b.2 a.1)
refused_same text (Parse f m) (Parse g n) a b =
    let list : b.0 ≡ a.0 = lists_same text b.0 a.0 b.1 a.1 in
    let p = one_token a.0 f g m n a.2 (subst (λ (l : Tokens). RefusesToken l g n) list b.2) in
    ap (λ f. Parse f m) p.0 ∙ ap (Parse g) p.1
refused_same text (Parse f m) (Types g) a b =
    absurd (none_refused a.0 b.tree f m
    (subst (λ (l : Tokens). IsTree l b.tree) (lists_same text b.has.0 a.0 b.has.1 a.1) b.has.2)
    a.2)
refused_same text (Types f) (Lex g) a b =
    absurd (not_lexed text g a.has.1.all b.0 a.has.1.cut)
refused_same text (Types f) (Constants g) a b =
    absurd (not_left text g b.0 a.has.0 b.1 b.2 a.has.1)
refused_same text (Types f) (Parse g n) a b =
    absurd (none_refused b.0 a.tree g n
    (subst (λ (l : Tokens). IsTree l a.tree) (lists_same text a.has.0 b.0 a.has.1 b.1) a.has.2)
    b.2)
refused_same text (Types f) (Types g) a b =
    ap Types (same_rule f g (sym (a.each a.tree a.has) ∙ b.each a.tree a.has))
refused_same text (Lex f) NoMemory a b = tt
refused_same text (Constants f) NoMemory a b = tt
refused_same text (Parse f m) NoMemory a b = tt
refused_same text (Types f) NoMemory a b = tt
refused_same text NoMemory g a b = tt

tree_refused : (text : List ℕ) (tree : Program) (f : ProgramFault) → HasTree text tree
    → RefusesText text f → IsOfTree f
tree_refused text tree (Lex f) has a = absurd (not_lexed text f has.1.all a.0 has.1.cut)
tree_refused text tree (Constants f) has a = absurd (not_left text f a.0 has.0 a.1 a.2 has.1)
tree_refused text tree (Parse f m) has a =
    none_refused a.0 tree f m (subst (λ (l : Tokens). IsTree l tree)
    (lists_same text has.0 a.0 has.1 a.1) has.2) a.2
tree_refused text tree (Types f) has a = tt
tree_refused text tree NoMemory has a = tt

kept_told : (tree : Program) → breaks tree ≡ [] → refusal tree ≡ None
kept_told tree kept = ap (λ (bs : List Broken).
    option_map (λ b. fault_of b (source_line tree b.place)) (least_broken bs)) kept

kept_refused : (text : List ℕ) (tree : Program) (f : ProgramFault) → AcceptsText text tree
    → RefusesText text f → f ≡ NoMemory
kept_refused text tree (Lex f) kept a = absurd (tree_refused text tree (Lex f) kept.0 a)
kept_refused text tree (Constants f) kept a =
    absurd (tree_refused text tree (Constants f) kept.0 a)
kept_refused text tree (Parse f m) kept a = absurd (tree_refused text tree (Parse f m) kept.0 a)
kept_refused text tree (Types f) kept a =
    absurd (no_rule f (sym (kept_told tree kept.1) ∙ a.each tree kept.0))
kept_refused text tree NoMemory kept a = refl

pub once : OneAnswer
once = record { refused = refused_same; tree = tree_refused; accepted = kept_refused }
