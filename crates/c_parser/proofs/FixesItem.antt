-- The derivations of an item from a place on, by production: what remains to derive.
use Rattle.std.proofs.Common.{ℕ, ◌+◌, ◌≡◌, ◌≢◌, ◌≤◌, ◌<◌, ℤ, List, [], ◌∷◌, ◌++◌, length, map}
use Rattle.std.proofs.Common.{Option, Some, None, Bool, true, false, refl, sym, ap, ◌∙◌, subst}
use Rattle.std.proofs.Common.{arith, Result, Ok, Err, IfOk}
use Rattle.c_lexer.specs.declared.token.Placed.{Placed}
use Rattle.c_tree.specs.declared.expr.BinaryOp.TheVariants as op
use Rattle.c_tree.specs.declared.item.Field.{Field}
use Rattle.c_tree.specs.declared.item.Parameter.{Parameter}
use Rattle.c_tree.specs.declared.item.Item.{Item}
use Rattle.c_tree.specs.declared.kind.Kind.{Kind}
use Rattle.c_tree.specs.declared.kind.Kind.TheVariants as kind
use Rattle.c_tree.specs.Kinds.{kind_at, ident_at, value_at}
use Rattle.c_tree.specs.ExprTree.{Ident}
use Rattle.c_tree.specs.StmtTree.{TypeTree, Statements}
use Rattle.c_tree.specs.ItemTree.{LengthTree, FieldTree, ParameterTree, FunctionTree, ItemTree}
use Rattle.c_tree.specs.ItemTree.{field_tree, parameter_of, item_of, items_in}
use Rattle.c_tree.specs.ItemTree as tree
use Rattle.c_tree.specs.StmtSpelling.{Typed, int, pointer}
use Rattle.c_tree.specs.ItemSpelling.{SpellsField, single, array, SpellsFields, fields_end}
use Rattle.c_tree.specs.ItemSpelling.{fields_more, SpellsParameters, parameters_last}
use Rattle.c_tree.specs.ItemSpelling.{parameters_more, Signature, signature_none, signature_void}
use Rattle.c_tree.specs.ItemSpelling.{signature_some, ResultType, result_void, result_some}
use Rattle.c_tree.specs.declared.item.Marked.{Marked}
use Rattle.c_tree.specs.declared.item.Marked.TheVariants as mark
use Rattle.c_tree.specs.ItemSpelling.{SpellsTransaction, unmarked, marked_abort, marked_const}
use Rattle.c_tree.specs.ItemSpelling.{SpellsFunction, function}
use Rattle.c_tree.specs.ItemSpelling.{SpellsItem, struct_def, root_decl, transaction}
use Rattle.c_tree.specs.ItemSpelling.{plain_function, SpellsItems, items_end, items_more}
use Rattle.c_tree.specs.ItemSpelling.{SpellsProgram}
use Rattle.c_parser.specs.inside.Fixes.{Fixes, DerivesFrom, IsFollowed, IsOfKind, BeginsResult}
use Rattle.c_parser.specs.inside.Pieces.{StatedAll, stated_all, goes_on, SpellsParameter}
use Rattle.c_parser.specs.inside.Pieces.{typed_name, ParametersTo, SpellsStruct, spells_struct}
use Rattle.c_parser.specs.inside.Pieces.{SpellsRoot, spells_root, Defines, DefinesNone}
use Rattle.c_parser.proofs.Steps.{IsToken}
use Rattle.c_parser.proofs.ForwardStmt.{TypeBegins, typed_begins}
use Rattle.c_parser.proofs.ForwardItem.{function_result}
use Rattle.c_parser.proofs.FixesExpr.{inside, inside_at, led}
use Rattle.c_parser.proofs.FixesStmt.{after, after_at}

pub led_item : {E : Type 0} (r : Result (Item × ℕ) E) (P Q : ℕ → ItemTree → Type 0)
    → IfOk r (λ r. Fixes Q r.1 (item_of r.0)) → DerivesFrom P Q
    → IfOk r (λ r. Fixes P r.1 (item_of r.0))
led_item (Ok x) P Q h leads = led P Q x.1 (item_of x.0) leads h
led_item (Err e) P Q h leads = tt

-- fields
abbrev a_field : TypeTree → Ident → Option LengthTree → FieldTree
a_field t y o = record { ty = t; name = y; len = o }

abbrev a_length : ℤ → ℕ → LengthTree
a_length v a = record { value = v; place = a }

same_field : (t s : TypeTree) (y z : Ident) (o u : Option LengthTree) → t ≡ s → y ≡ z → o ≡ u
    → a_field t y o ≡ a_field s z u
same_field t s y z o u p q r = ap (λ t. a_field t y o) p ∙ ap (λ y. a_field s y o) q
    ∙ ap (λ o. a_field s z o) r

pub field_single : (ts : List Placed) (i m n j : ℕ) (t : TypeTree) (y : Ident)
    → Fixes (Typed ts i) m t → y ≡ ident_at ts m → (m < length ts → n ≡ m + 1)
    → kind_at ts n ≢ kind.OpenSquare → (n < length ts → j ≡ n + 1)
    → Fixes (SpellsField ts i) j (record { ty = t; name = y; len = None })
field_single ts i m n j t y ty name to_n not to_j = record { same = λ k x d. taken d }
  where
    taken : {k : ℕ} {x : FieldTree} → SpellsField ts i k x → (j ≡ k) × (a_field t y None ≡ x)
    taken (single {m = q} {t = s} d was semi) =
        let f = ty.same q s d in
        let a = after_at ts m q n kind.Name f.0 was tt to_n in (
          after_at ts n (q + 1) j kind.Semicolon a semi tt to_j,
          same_field t s y (ident_at ts q) None None f.1 (name ∙ ap (ident_at ts) f.0) refl,
        )
    taken (array {m = q} {t = s} d was opens number close semi) =
        let f = ty.same q s d in
        absurd (not (ap (kind_at ts) (after_at ts m q n kind.Name f.0 was tt to_n) ∙ opens))

pub field_array : (ts : List Placed) (i m n a b c j : ℕ) (t : TypeTree) (y : Ident) (v : ℤ)
    → Fixes (Typed ts i) m t → y ≡ ident_at ts m → (m < length ts → n ≡ m + 1)
    → kind_at ts n ≡ kind.OpenSquare → (n < length ts → a ≡ n + 1) → v ≡ value_at ts a
    → (a < length ts → b ≡ a + 1) → (b < length ts → c ≡ b + 1) → (c < length ts → j ≡ c + 1)
    → Fixes (SpellsField ts i) j (record
    { ty = t; name = y; len = Some (record { value = v; place = a }) })
field_array ts i m n a b c j t y v ty name to_n is to_a value to_b to_c to_j =
    record { same = λ k x d. taken d }
  where
    taken : {k : ℕ} {x : FieldTree} → SpellsField ts i k x
        → (j ≡ k) × (a_field t y (Some (a_length v a)) ≡ x)
    taken (single {m = q} {t = s} d was semi) =
        let f = ty.same q s d in
        let e : kind_at ts n ≡ kind_at ts (q + 1) =
        ap (kind_at ts) (after_at ts m q n kind.Name f.0 was tt to_n) in
        absurd (cc)
    taken (array {m = q} {t = s} d was opens number close semi) =
        let f = ty.same q s d in
        let e = after_at ts m q n kind.Name f.0 was tt to_n in
        let g = after_at ts n (q + 1) a kind.OpenSquare e opens tt to_a in
        let h = after_at ts a (q + 1 + 1) b kind.Number g number tt to_b in
        let l = after_at ts b (q + 1 + 1 + 1) c kind.CloseSquare h close tt to_c in (
          after_at ts c (q + 1 + 1 + 1 + 1) j kind.Semicolon l semi tt to_j,
          same_field t s y (ident_at ts q) (Some (a_length v a))
              (Some (a_length (value_at ts (q + 1 + 1)) (q + 1 + 1))) f.1
              (name ∙ ap (ident_at ts) f.0)
              (ap (λ v. Some (a_length v a)) (value ∙ ap (value_at ts) g)
              ∙ ap (λ a. Some (a_length (value_at ts (q + 1 + 1)) a)) g),
        )

pub record FieldsFrom (ts : List Placed) (i : ℕ) (xs : List FieldTree) (k : ℕ)
    (t : List FieldTree) : Type 0 where
  pub rest : List FieldTree
  pub spelled : SpellsFields ts i k rest
  pub close : kind_at ts k ≡ kind.CloseBrace
  pub joined : xs ++ rest ≡ t

pub fields_begin : (ts : List Placed) (i : ℕ) (xs : List FieldTree) → xs ≡ []
    → DerivesFrom (IsFollowed ts (IsOfKind kind.CloseBrace) (SpellsFields ts i))
    (FieldsFrom ts i xs)
fields_begin ts i xs e = record {
  on = λ k t d.
      record { rest = t; spelled = d.spelled; close = d.following; joined = ap (λ xs. xs ++ t) e };
}

pushed : {A : Type 0} (xs ys rest : List A) (x : A) → ys ≡ xs ++ x ∷ []
    → ys ++ rest ≡ xs ++ x ∷ rest
pushed {A} xs ys rest x e = ap (λ ys. ys ++ rest) e ∙ go xs
  where
    go : (xs : List A) → (xs ++ x ∷ []) ++ rest ≡ xs ++ x ∷ rest
    go [] = refl
    go (y ∷ ys) = ap (λ l. y ∷ l) (go ys)

map_pushed : {A B : Type 0} (f : A → B) (xs ys : List A) (x : A) → ys ≡ xs ++ x ∷ []
    → map f ys ≡ map f xs ++ f x ∷ []
map_pushed {A} {B} f xs ys x e = ap (map f) e ∙ go xs
  where
    go : (xs : List A) → map f (xs ++ x ∷ []) ≡ map f xs ++ f x ∷ []
    go [] = refl
    go (y ∷ ys) = ap (λ l. f y ∷ l) (go ys)

pub fields_more_read : (ts : List Placed) (i m : ℕ) (x : Field) (xs ys : List Field) (P : ℕ
    → List FieldTree → Type 0) → DerivesFrom P (FieldsFrom ts i (map field_tree xs))
    → true ≡ goes_on (kind_at ts i) → Fixes (SpellsField ts i) m (field_tree x) → ys ≡ xs ++ x ∷ []
    → DerivesFrom P (FieldsFrom ts m (map field_tree ys))
fields_more_read ts i m x xs ys P leads goes fixes added = record {
  on = λ k t d.
      let g = leads.on k t d in taken g.spelled g.close g.joined;
}
  where
    taken : {k : ℕ} {t rest : List FieldTree} → SpellsFields ts i k rest
        → kind_at ts k ≡ kind.CloseBrace → map field_tree xs ++ rest ≡ t
        → FieldsFrom ts m (map field_tree ys) k t
    taken fields_end close joined =
        let e : true ≡ goes_on kind.CloseBrace = goes ∙ ap goes_on close in absurd (cc)
    taken {k} (fields_more {m = q} {f = y} {fs = others} one more) close joined =
        let f = fixes.same q y one in
        record {
          rest = others;
          spelled = subst (λ q. SpellsFields ts q k others) (sym f.0) more;
          close = close;
          joined =
              pushed (map field_tree xs) (map field_tree ys) others (field_tree x)
              (map_pushed field_tree xs ys x added)
              ∙ ap (λ x. map field_tree xs ++ x ∷ others) f.1 ∙ joined;
        }

field_begins : {ts : List Placed} {i k : ℕ} {t : FieldTree} → SpellsField ts i k t
    → TypeBegins (kind_at ts i)
field_begins (single d was semi) = typed_begins d
field_begins (array d was opens number close semi) = typed_begins d

type_goes : (k : Kind) → TypeBegins k → goes_on k ≡ true
type_goes kind.CloseBrace h = absurd h
type_goes kind.End h = absurd h
type_goes _ h = refl

append_none : {A : Type 0} (xs : List A) → xs ++ [] ≡ xs
append_none [] = refl
append_none (x ∷ xs) = ap (λ l. x ∷ l) (append_none xs)

pub fields_end_read : (ts : List Placed) (i : ℕ) (xs : List FieldTree) (P : ℕ → List FieldTree
    → Type 0) → DerivesFrom P (FieldsFrom ts i xs) → false ≡ goes_on (kind_at ts i)
    → Fixes P i xs
fields_end_read ts i xs P leads stops = record {
  same = λ k t d.
      let g = leads.on k t d in taken g.spelled g.joined;
}
  where
    taken : {k : ℕ} {t rest : List FieldTree} → SpellsFields ts i k rest → xs ++ rest ≡ t
        → (i ≡ k) × (xs ≡ t)
    taken fields_end joined = (refl, sym (append_none xs) ∙ joined)
    taken (fields_more one more) joined =
        let e = type_goes (kind_at ts i) (field_begins one) in absurd (cc)

-- parameters
abbrev a_parameter : TypeTree → Ident → ParameterTree
a_parameter t y = record { ty = t; name = y }

pub parameter_read : (ts : List Placed) (i m n : ℕ) (t : TypeTree) (y : Ident)
    → Fixes (Typed ts i) m t → y ≡ ident_at ts m → (m < length ts → n ≡ m + 1)
    → Fixes (SpellsParameter ts i) n (record { ty = t; name = y })
parameter_read ts i m n t y ty name to_n = record { same = λ k x d. taken d }
  where
    taken : {k : ℕ} {x : ParameterTree} → SpellsParameter ts i k x → (n ≡ k) × (a_parameter t y ≡ x)
    taken (typed_name {m = q} {t = s} d was) =
        let f = ty.same q s d in (
          after_at ts m q n kind.Name f.0 was tt to_n,
          ap (λ t. a_parameter t y) f.1
              ∙ ap (a_parameter s) (name ∙ ap (ident_at ts) f.0),
        )

-- the tokens after a parameter, up to the closing bracket
pub data MoreParameters (ts : List Placed) : ℕ → ℕ → List ParameterTree → Type 0 where
  no_more : {i : ℕ} → kind_at ts i ≡ kind.CloseRound → MoreParameters ts i i []
  some_more : {i k : ℕ} {ps : List ParameterTree} → kind_at ts i ≡ kind.Comma
      → ParametersTo ts (i + 1) k ps → MoreParameters ts i k ps

pub record ParametersFrom (ts : List Placed) (i : ℕ) (xs : List ParameterTree) (k : ℕ)
    (t : List ParameterTree) : Type 0 where
  pub rest : List ParameterTree
  pub spelled : MoreParameters ts i k rest
  pub joined : xs ++ rest ≡ t

record Split (ts : List Placed) (i k : ℕ) (ps : List ParameterTree) : Type 0 where
  middle : ℕ
  one : ParameterTree
  others : List ParameterTree
  first : SpellsParameter ts i middle one
  more : MoreParameters ts middle k others
  is : one ∷ others ≡ ps

split : {ts : List Placed} {i j k : ℕ} {ps : List ParameterTree} → SpellsParameters ts i j ps
    → j ≡ k + 1 → Split ts i k ps
split {ts} {k = k} (parameters_last {m = m} {t = t} d was close) e =
    let f : m + 1 ≡ k = omega arith in
    record {
      middle = m + 1;
      one = a_parameter t (ident_at ts m);
      others = [];
      first = typed_name d was;
      more = subst (λ k. MoreParameters ts (m + 1) k []) f (no_more close);
      is = refl;
    }
split {ts} (parameters_more {m = m} {t = t} {ps = ps} d was comma rest) e = record {
  middle = m + 1;
  one = a_parameter t (ident_at ts m);
  others = ps;
  first = typed_name d was;
  more = some_more comma (record {
    spelled = subst (λ j. SpellsParameters ts (m + 1 + 1) j ps)
        e rest;
  });
  is = refl;
}

pub parameters_begin : (ts : List Placed) (i m : ℕ) (x : Parameter) (xs ys : List Parameter)
    → Fixes (SpellsParameter ts i) m (parameter_of x) → xs ≡ [] → ys ≡ xs ++ x ∷ []
    → DerivesFrom (ParametersTo ts i) (ParametersFrom ts m (map parameter_of ys))
parameters_begin ts i m x xs ys fixes none added = record {
  on = λ k t d.
      let s = split d.spelled refl in
      let f = fixes.same s.middle s.one s.first in
      record {
        rest = s.others;
        spelled = subst (λ q. MoreParameters ts q k s.others) (sym f.0) s.more;
        joined =
            pushed (map parameter_of xs) (map parameter_of ys) s.others (parameter_of x)
            (map_pushed parameter_of xs ys x added)
            ∙ ap (λ xs. map parameter_of xs ++ parameter_of x ∷ s.others) none
            ∙ ap (λ x. x ∷ s.others) f.1 ∙ s.is;
      };
}

pub parameters_more_read : (ts : List Placed) (i n m : ℕ) (x : Parameter) (xs ys : List Parameter)
    (P : ℕ → List ParameterTree → Type 0)
    → DerivesFrom P (ParametersFrom ts i (map parameter_of xs)) → kind_at ts i ≡ kind.Comma
    → (i < length ts → n ≡ i + 1) → Fixes (SpellsParameter ts n) m (parameter_of x)
    → ys ≡ xs ++ x ∷ [] → DerivesFrom P (ParametersFrom ts m (map parameter_of ys))
parameters_more_read ts i n m x xs ys P leads is to_n fixes added = record {
  on = λ k t d.
      let g = leads.on k t d in taken g.spelled g.joined;
}
  where
    taken : {k : ℕ} {t rest : List ParameterTree} → MoreParameters ts i k rest
        → map parameter_of xs ++ rest ≡ t → ParametersFrom ts m (map parameter_of ys) k t
    taken (no_more was) joined = absurd (cc)
    taken {k} (some_more was d) joined =
        let s = split d.spelled refl in
        let a = after ts i n kind.Comma is tt to_n in
        let f = fixes.same s.middle s.one (subst (λ n. SpellsParameter ts n s.middle s.one) (sym a)
        s.first) in
        record {
          rest = s.others;
          spelled = subst (λ q. MoreParameters ts q k s.others) (sym f.0) s.more;
          joined =
              pushed (map parameter_of xs) (map parameter_of ys) s.others (parameter_of x)
              (map_pushed parameter_of xs ys x added)
              ∙ ap (λ x. map parameter_of xs ++ x ∷ s.others) f.1
              ∙ ap (λ r. map parameter_of xs ++ r) s.is ∙ joined;
        }

pub parameters_end : (ts : List Placed) (i : ℕ) (xs : List ParameterTree) (P : ℕ
    → List ParameterTree → Type 0) → DerivesFrom P (ParametersFrom ts i xs)
    → kind_at ts i ≢ kind.Comma
    → Fixes P i xs
parameters_end ts i xs P leads not = record {
  same = λ k t d.
      let g = leads.on k t d in taken g.spelled g.joined;
}
  where
    taken : {k : ℕ} {t rest : List ParameterTree} → MoreParameters ts i k rest → xs ++ rest ≡ t
        → (i ≡ k) × (xs ≡ t)
    taken (no_more was) joined = (refl, sym (append_none xs) ∙ joined)
    taken (some_more was d) joined = absurd (not was)

-- signatures
parameters_typed : {ts : List Placed} {i j : ℕ} {ps : List ParameterTree}
    → SpellsParameters ts i j ps → TypeBegins (kind_at ts i)
parameters_typed (parameters_last d was close) = typed_begins d
parameters_typed (parameters_more d was comma rest) = typed_begins d

parameters_close : {ts : List Placed} {i j : ℕ} {ps : List ParameterTree}
    → SpellsParameters ts i j ps → (q : ℕ) × (j ≡ q + 1) × (kind_at ts q ≡ kind.CloseRound)
parameters_close (parameters_last {m = m} d was close) = (m + 1, refl, close)
parameters_close (parameters_more d was comma rest) = parameters_close rest

pub signature_empty : (ts : List Placed) (i n : ℕ) (ps : List ParameterTree)
    → kind.CloseRound ≡ kind_at ts i → (i < length ts → n ≡ i + 1) → ps ≡ []
    → Fixes (Signature ts i) n ps
signature_empty ts i n ps is to_n e = record { same = λ k t d. taken d }
  where
    taken : {k : ℕ} {t : List ParameterTree} → Signature ts i k t → (n ≡ k) × (ps ≡ t)
    taken (signature_none was) = (after ts i n kind.CloseRound was tt to_n, e)
    taken (signature_void was close) = absurd (cc)
    taken (signature_some d) = absurd (subst TypeBegins (sym is) (parameters_typed d))

pub signature_of_void : (ts : List Placed) (i n j : ℕ) (ps : List ParameterTree)
    → kind.Void ≡ kind_at ts i → (i < length ts → n ≡ i + 1) → (n < length ts → j ≡ n + 1) → ps ≡ []
    → Fixes (Signature ts i) j ps
signature_of_void ts i n j ps is to_n to_j e = record { same = λ k t d. taken d }
  where
    taken : {k : ℕ} {t : List ParameterTree} → Signature ts i k t → (j ≡ k) × (ps ≡ t)
    taken (signature_none was) = absurd (cc)
    taken (signature_void was close) = (
      after_at ts n (i + 1) j kind.CloseRound (after ts i n kind.Void was tt to_n) close tt to_j,
      e,
    )
    taken (signature_some d) = absurd (subst TypeBegins (sym is) (parameters_typed d))

pub signature_listed : (ts : List Placed) (i m j : ℕ) (ps : List ParameterTree) (s : Kind)
    → s ≡ kind_at ts i → s ≢ kind.CloseRound → s ≢ kind.Void
    → Fixes (ParametersTo ts i) m ps → (m < length ts → j ≡ m + 1) → Fixes (Signature ts i) j ps
signature_listed ts i m j ps s is not_close not_void fixes to_j = record { same = λ k t d. taken d }
  where
    taken : {k : ℕ} {t : List ParameterTree} → Signature ts i k t → (j ≡ k) × (ps ≡ t)
    taken (signature_none was) = absurd (not_close (is ∙ was))
    taken (signature_void was close) = absurd (not_void (is ∙ was))
    taken {k} {t} (signature_some d) =
        let e = parameters_close d in
        let g = fixes.same e.0 t (record
        { spelled = subst (λ k. SpellsParameters ts i k t) e.1 d }) in
        (after_at ts m e.0 j kind.CloseRound g.0 e.2 tt to_j ∙ sym e.1, g.1)

pub result_none : (ts : List Placed) (i n : ℕ) → kind_at ts i ≡ kind.Void
    → (i < length ts → n ≡ i + 1) → Fixes (ResultType ts i) n None
result_none ts i n is to_n = record { same = λ k t d. taken d }
  where
    taken : {k : ℕ} {t : Option TypeTree} → ResultType ts i k t → (n ≡ k) × (None ≡ t)
    taken (result_void was) = (after ts i n kind.Void was tt to_n, refl)
    taken (result_some d) = absurd (subst TypeBegins is (typed_begins d))

pub result_typed : (ts : List Placed) (i j : ℕ) (t : TypeTree) → kind_at ts i ≢ kind.Void
    → Fixes (Typed ts i) j t → Fixes (ResultType ts i) j (Some t)
result_typed ts i j t not fixes = record { same = λ k x d. taken d }
  where
    taken : {k : ℕ} {x : Option TypeTree} → ResultType ts i k x → (j ≡ k) × (Some t ≡ x)
    taken (result_void was) = absurd (not was)
    taken {k} (result_some {t = s} d) = let f = fixes.same k s d in (f.0, ap (λ t. Some t) f.1)

abbrev a_function : Bool → Marked → Option TypeTree → Ident → List ParameterTree → Statements
    → ItemTree
a_function tx b r y ps all = tree.Function (record {
  tx = tx;
  mark = b;
  result_type = r;
  name = y;
  parameters = ps;
  body = all;
})

pub function_read : (ts : List Placed) (tx : Bool) (b : Marked) (i m o a n c j : ℕ)
    (r : Option TypeTree) (y : Ident) (ps : List ParameterTree) (all : Statements)
    → Fixes (ResultType ts i) m r → y ≡ ident_at ts m → (m < length ts → o ≡ m + 1)
    → (o < length ts → a ≡ o + 1) → Fixes (Signature ts a) n ps
    → (n < length ts → c ≡ n + 1) → Fixes (StatedAll ts c) j all
    → Fixes (SpellsFunction ts tx b i) j (tree.Function (record {
      tx = tx;
      mark = b;
      result_type = r;
      name = y;
      parameters = ps;
      body = all;
    }))
function_read ts tx b i m o a n c j r y ps all results name to_o to_a signature to_c body =
    record { same = λ k t d. taken d }
  where
    taken : {k : ℕ} {t : ItemTree} → SpellsFunction ts tx b i k t
        → (j ≡ k) × (a_function tx b r y ps all ≡ t)
    taken (function {m = q} {n = u} {p = p} {r = s} {ps = qs} {all = ss} one was opens two brace
        three close) =
        let f = results.same q s one in
        let l = after_at ts m q o kind.Name f.0 was tt to_o in
        let d = after_at ts o (q + 1) a kind.OpenRound l opens tt to_a in
        let g = signature.same u qs (subst (λ a. Signature ts a u qs) (sym d) two) in
        let e = after_at ts n u c kind.OpenBrace g.0 brace tt to_c in
        let h = body.same (p + 1) ss (subst (λ c. StatedAll ts c (p + 1) ss) (sym e)
        (stated_all three close)) in (
          h.0,
          ap (λ r. a_function tx b r y ps all) f.1 ∙ ap (λ y. a_function tx b s y ps all)
              (name ∙ ap (ident_at ts) f.0)
              ∙ ap (λ ps. a_function tx b s (ident_at ts q) ps all) g.1
              ∙ ap (λ all. a_function tx b s (ident_at ts q) qs all) h.1,
        )

-- structs and the root
pub struct_read : (ts : List Placed) (i n m a c d j : ℕ) (y : Ident) (xs : List FieldTree)
    → (i < length ts → n ≡ i + 1) → y ≡ ident_at ts n → (n < length ts → m ≡ n + 1)
    → (m < length ts → a ≡ m + 1) →
    Fixes (IsFollowed ts (IsOfKind kind.CloseBrace) (SpellsFields ts a)) c xs
    → (c < length ts → d ≡ c + 1) → (d < length ts → j ≡ d + 1)
    → Fixes (SpellsStruct ts i) j (tree.Struct y xs)
struct_read ts i n m a c d j y xs to_n name to_m to_a fields to_d to_j =
    record { same = λ k t h. taken h }
  where
    taken : {k : ℕ} {t : ItemTree} → SpellsStruct ts i k t → (j ≡ k) × (tree.Struct y xs ≡ t)
    taken (spells_struct {n = q} {all = ys} is was opens all close semi) =
        let e = after ts i n kind.Struct is tt to_n in
        let f = after_at ts n (i + 1) m kind.Name e was tt to_m in
        let g = after_at ts m (i + 1 + 1) a kind.OpenBrace f opens tt to_a in
        let h = fields.same q ys (record
        { spelled = subst (λ a. SpellsFields ts a q ys) (sym g) all; following = close }) in
        let l = after_at ts c q d kind.CloseBrace h.0 close tt to_d in (
          after_at ts d (q + 1) j kind.Semicolon l semi tt to_j,
          ap (λ y. tree.Struct y xs) (name ∙ ap (ident_at ts) e)
              ∙ ap (tree.Struct (ident_at ts (i + 1))) h.1,
        )

pub root_read : (ts : List Placed) (i n m r d j : ℕ) (y : Ident) → (i < length ts → n ≡ i + 1)
    → (n < length ts → m ≡ n + 1) → y ≡ ident_at ts m → (m < length ts → r ≡ m + 1)
    → (r < length ts → d ≡ r + 1) → (d < length ts → j ≡ d + 1)
    → Fixes (SpellsRoot ts i) j (tree.Root y r)
root_read ts i n m r d j y to_n to_m name to_r to_d to_j = record { same = λ k t h. taken h }
  where
    taken : {k : ℕ} {t : ItemTree} → SpellsRoot ts i k t → (j ≡ k) × (tree.Root y r ≡ t)
    taken (spells_root is struct was root semi) =
        let e = after ts i n kind.Persistent is tt to_n in
        let f = after_at ts n (i + 1) m kind.Struct e struct tt to_m in
        let g = after_at ts m (i + 1 + 1) r kind.Name f was tt to_r in
        let h = after_at ts r (i + 1 + 1 + 1) d kind.Root g root tt to_d in (
          after_at ts d (i + 1 + 1 + 1 + 1) j kind.Semicolon h semi tt to_j,
          ap (λ y. tree.Root y r) (name ∙ ap (ident_at ts) f)
              ∙ ap (tree.Root (ident_at ts (i + 1 + 1))) g,
        )

-- items, by their first tokens
function_begins : {ts : List Placed} {tx : Bool} {b : Marked} {i k : ℕ} {t : ItemTree}
    → SpellsFunction ts tx b i k t → kind_at ts i ≡ kind.Struct
    → (kind_at ts (i + 1) ≡ kind.Name) × (kind_at ts (i + 1 + 1) ≡ kind.Operator op.Mul)
function_begins (function (result_void v) was opens two brace three close) is = absurd (cc)
function_begins (function (result_some (int y v)) was opens two brace three close) is = absurd (cc)
function_begins (function (result_some (pointer v name star)) was opens two brace three close) is =
    (name, star)

mark_begins : {ts : List Placed} {i k : ℕ} {b : Marked} → SpellsTransaction ts i k b
    → kind_at ts i ≡ kind.Tx
mark_begins (unmarked is) = is
mark_begins (marked_abort is word) = is
mark_begins (marked_const is word) = is

pub item_struct : (ts : List Placed) (i : ℕ) → Defines ts i
    → DerivesFrom (SpellsItem ts i) (SpellsStruct ts i)
item_struct ts i defines = record { on = λ k t d. taken d }
  where
    taken : {k : ℕ} {t : ItemTree} → SpellsItem ts i k t → SpellsStruct ts i k t
    taken (struct_def is was opens one more close semi) =
        spells_struct is was opens (fields_more one more) close semi
    taken (root_decl is struct was root semi) = let e = defines.0 in absurd (cc)
    taken (transaction mark d) = let e = defines.0 in let f = mark_begins mark in absurd (cc)
    taken (plain_function d) =
        let f = function_begins d defines.0 in
        let e = defines.1 f.0 in
        let g = f.1 in absurd (cc)

pub item_root : (ts : List Placed) (i : ℕ) → kind.Persistent ≡ kind_at ts i
    → DerivesFrom (SpellsItem ts i) (SpellsRoot ts i)
item_root ts i be = record { on = λ k t d. taken d }
  where
    no_function : {tx : Bool} {b : Marked} {k : ℕ} {t : ItemTree} → SpellsFunction ts tx b i k t
        → kind.Persistent ≡ kind_at ts i → ⊥
    no_function (function (result_void v) was opens two brace three close) is = cc
    no_function (function (result_some (int y v)) was opens two brace three close) is = cc
    no_function (function (result_some (pointer v name star)) was opens two brace three close) is =
        cc

    taken : {k : ℕ} {t : ItemTree} → SpellsItem ts i k t → SpellsRoot ts i k t
    taken (struct_def is was opens one more close semi) = absurd (cc)
    taken (root_decl is struct was root semi) = spells_root is struct was root semi
    taken (transaction mark d) = let e = mark_begins mark in absurd (cc)
    taken (plain_function d) = absurd (no_function d be)

pub mark_abort : (ts : List Placed) (i n m : ℕ) → (i < length ts → n ≡ i + 1)
    → kind.Abort ≡ kind_at ts n → (n < length ts → m ≡ n + 1)
    → Fixes (IsFollowed ts BeginsResult (SpellsTransaction ts i)) m mark.Abort
mark_abort ts i n m to_n word to_m = record { same = λ k b h. taken h.spelled h.following }
  where
    taken : {k : ℕ} {b : Marked} → SpellsTransaction ts i k b → BeginsResult (kind_at ts k)
        → (m ≡ k) × (mark.Abort ≡ b)
    taken (unmarked is) follows =
        let a = after ts i n kind.Tx is tt to_n in
        absurd (subst BeginsResult (ap (kind_at ts) (sym a) ∙ sym word) follows)
    taken (marked_abort is abort) follows =
        let a = after ts i n kind.Tx is tt to_n in
        (after_at ts n (i + 1) m kind.Abort a abort tt to_m, refl)
    taken (marked_const is const) follows =
        let a = after ts i n kind.Tx is tt to_n in
        let e : kind.Abort ≡ kind.Const = word ∙ ap (kind_at ts) a ∙ const in absurd (cc)

pub mark_const : (ts : List Placed) (i n m : ℕ) → (i < length ts → n ≡ i + 1)
    → kind.Const ≡ kind_at ts n → (n < length ts → m ≡ n + 1)
    → Fixes (IsFollowed ts BeginsResult (SpellsTransaction ts i)) m mark.Const
mark_const ts i n m to_n word to_m = record { same = λ k b h. taken h.spelled h.following }
  where
    taken : {k : ℕ} {b : Marked} → SpellsTransaction ts i k b → BeginsResult (kind_at ts k)
        → (m ≡ k) × (mark.Const ≡ b)
    taken (unmarked is) follows =
        let a = after ts i n kind.Tx is tt to_n in
        absurd (subst BeginsResult (ap (kind_at ts) (sym a) ∙ sym word) follows)
    taken (marked_abort is abort) follows =
        let a = after ts i n kind.Tx is tt to_n in
        let e : kind.Const ≡ kind.Abort = word ∙ ap (kind_at ts) a ∙ abort in absurd (cc)
    taken (marked_const is const) follows =
        let a = after ts i n kind.Tx is tt to_n in
        (after_at ts n (i + 1) m kind.Const a const tt to_m, refl)

pub mark_plain : (ts : List Placed) (i n : ℕ) (s : Kind) → (i < length ts → n ≡ i + 1)
    → s ≡ kind_at ts n → s ≢ kind.Abort → s ≢ kind.Const
    → Fixes (IsFollowed ts BeginsResult (SpellsTransaction ts i)) n mark.Plain
mark_plain ts i n s to_n be not_abort not_const = record { same = λ k b h. taken h.spelled }
  where
    taken : {k : ℕ} {b : Marked} → SpellsTransaction ts i k b → (n ≡ k) × (mark.Plain ≡ b)
    taken (unmarked is) = (after ts i n kind.Tx is tt to_n, refl)
    taken (marked_abort is abort) = absurd (not_abort
        (be ∙ ap (kind_at ts) (after ts i n kind.Tx is tt to_n) ∙ abort))
    taken (marked_const is const) = absurd (not_const
        (be ∙ ap (kind_at ts) (after ts i n kind.Tx is tt to_n) ∙ const))

pub item_transaction : (ts : List Placed) (i n : ℕ) (b : Marked) → kind.Tx ≡ kind_at ts i
    → Fixes (IsFollowed ts BeginsResult (SpellsTransaction ts i)) n b
    → DerivesFrom (SpellsItem ts i) (SpellsFunction ts true b n)
item_transaction ts i n b be fixes = record { on = λ k t d. taken d }
  where
    no_function : {tx : Bool} {c : Marked} {k : ℕ} {t : ItemTree} → SpellsFunction ts tx c i k t
        → kind.Tx ≡ kind_at ts i → ⊥
    no_function (function (result_void v) was opens two brace three close) is = cc
    no_function (function (result_some (int y v)) was opens two brace three close) is = cc
    no_function (function (result_some (pointer v name star)) was opens two brace three close) is =
        cc

    taken : {k : ℕ} {t : ItemTree} → SpellsItem ts i k t → SpellsFunction ts true b n k t
    taken (struct_def is was opens one more close semi) = absurd (cc)
    taken (root_decl is struct was root semi) = absurd (cc)
    taken {k} {t} (transaction {a = c} {m = m} mark d) =
        let f = fixes.same m c (record { spelled = mark; following = function_result d }) in
        subst (λ n. SpellsFunction ts true b n k t) (sym f.0)
        (subst (λ b. SpellsFunction ts true b m k t) (sym f.1) d)
    taken (plain_function d) = absurd (no_function d be)

pub item_function : (ts : List Placed) (i : ℕ) (s : Kind) → s ≡ kind_at ts i → DefinesNone ts i
    → s ≢ kind.Persistent → s ≢ kind.Tx
    → DerivesFrom (SpellsItem ts i) (SpellsFunction ts false mark.Plain i)
item_function ts i s be defines not_root not_tx = record { on = λ k t d. taken d }
  where
    taken : {k : ℕ} {t : ItemTree} → SpellsItem ts i k t → SpellsFunction ts false mark.Plain i k t
    taken (struct_def is was opens one more close semi) = absurd (defines is was opens)
    taken (root_decl is struct was root semi) = absurd (not_root (be ∙ is))
    taken (transaction mark d) = absurd (not_tx (be ∙ mark_begins mark))
    taken (plain_function d) = d

-- the items of the whole list
pub record Whole (ts : List Placed) (i k : ℕ) (t : List ItemTree) : Type 0 where
  pub spelled : SpellsItems ts i k t
  pub all : k ≡ length ts

pub record ItemsFrom (ts : List Placed) (i : ℕ) (xs : List ItemTree) (k : ℕ) (t : List ItemTree) :
    Type 0 where
  pub rest : List ItemTree
  pub spelled : SpellsItems ts i k rest
  pub all : k ≡ length ts
  pub joined : xs ++ rest ≡ t

pub items_begin : (ts : List Placed) (i : ℕ) (xs : List ItemTree) → xs ≡ []
    → DerivesFrom (Whole ts i) (ItemsFrom ts i xs)
items_begin ts i xs e = record {
  on = λ k t d.
      record { rest = t; spelled = d.spelled; all = d.all; joined = ap (λ xs. xs ++ t) e };
}

pub items_more_read : (ts : List Placed) (i m : ℕ) (x : Item) (xs ys : List Item) (P : ℕ
    → List ItemTree → Type 0) → DerivesFrom P (ItemsFrom ts i (items_in xs))
    → i < length ts → Fixes (SpellsItem ts i) m (item_of x) → ys ≡ xs ++ x ∷ []
    → DerivesFrom P (ItemsFrom ts m (items_in ys))
items_more_read ts i m x xs ys P leads within fixes added = record {
  on = λ k t d.
      let g = leads.on k t d in taken g.spelled g.all g.joined;
}
  where
    taken : {k : ℕ} {t rest : List ItemTree} → SpellsItems ts i k rest → k ≡ length ts
        → items_in xs ++ rest ≡ t → ItemsFrom ts m (items_in ys) k t
    taken items_end all joined = absurd (omega arith)
    taken {k} (items_more {m = q} {x = y} {xs = others} one more) all joined =
        let f = fixes.same q y one in
        record {
          rest = others;
          spelled = subst (λ q. SpellsItems ts q k others) (sym f.0) more;
          all = all;
          joined = pushed (items_in xs) (items_in ys) others (item_of x)
              (map_pushed item_of xs ys x added) ∙ ap (λ x. items_in xs ++ x ∷ others) f.1 ∙ joined;
        }

type_token : (k : Kind) → TypeBegins k → IsToken k
type_token kind.End h = h
type_token _ h = tt

function_inside : {ts : List Placed} {tx : Bool} {b : Marked} {i k : ℕ} {t : ItemTree}
    → SpellsFunction ts tx b i k t → i < length ts
function_inside {ts} {i = i} (function (result_void is) was opens two brace three close) =
    inside_at ts i kind.Void is tt
function_inside {ts} {i = i} (function (result_some d) was opens two brace three close) =
    inside ts i (type_token (kind_at ts i) (typed_begins d))

item_inside : {ts : List Placed} {i k : ℕ} {t : ItemTree} → SpellsItem ts i k t → i < length ts
item_inside {ts} {i} (struct_def is was opens one more close semi) =
    inside_at ts i kind.Struct is tt
item_inside {ts} {i} (root_decl is struct was root semi) = inside_at ts i kind.Persistent is tt
item_inside {ts} {i} (transaction mark d) = inside_at ts i kind.Tx (mark_begins mark) tt
item_inside (plain_function d) = function_inside d

pub items_end_read : (ts : List Placed) (i : ℕ) (xs : List ItemTree)
    → DerivesFrom (Whole ts 0) (ItemsFrom ts i xs) → length ts ≤ i → (ys : List ItemTree)
    → SpellsProgram ts ys → xs ≡ ys
items_end_read ts i xs leads past ys d =
    let g = leads.on (length ts) ys (record { spelled = d; all = refl }) in taken g.spelled g.joined
  where
    taken : {k : ℕ} {rest : List ItemTree} → SpellsItems ts i k rest → xs ++ rest ≡ ys → xs ≡ ys
    taken items_end joined = sym (append_none xs) ∙ joined
    taken (items_more one more) joined = let h = item_inside one in absurd (omega arith)

-- `struct NAME {`, by the places that the code looks at
pub third_of : (ts : List Placed) (i n m : ℕ) → (i < length ts → n ≡ i + 1)
    → (n < length ts → m ≡ n + 1) → kind_at ts i ≡ kind.Struct → kind_at ts (i + 1) ≡ kind.Name
    → m ≡ i + 1 + 1
third_of ts i n m to_n to_m is was =
    after_at ts n (i + 1) m kind.Name (after ts i n kind.Struct is tt to_n) was tt to_m

pub defines_some : (ts : List Placed) (i n m : ℕ) → (i < length ts → n ≡ i + 1)
    → (n < length ts → m ≡ n + 1) → kind_at ts i ≡ kind.Struct → kind_at ts m ≡ kind.OpenBrace
    → Defines ts i
defines_some ts i n m to_n to_m is opens =
    (is, λ was. ap (kind_at ts) (sym (third_of ts i n m to_n to_m is was)) ∙ opens)

pub defines_not : (ts : List Placed) (i n m : ℕ) → (i < length ts → n ≡ i + 1)
    → (n < length ts → m ≡ n + 1) → kind_at ts m ≢ kind.OpenBrace → DefinesNone ts i
defines_not ts i n m to_n to_m not =
    λ is was opens. not (ap (kind_at ts) (third_of ts i n m to_n to_m is was) ∙ opens)

pub defines_no_struct : (ts : List Placed) (i : ℕ) → kind_at ts i ≢ kind.Struct → DefinesNone ts i
defines_no_struct ts i not = λ is was opens. not is

pub ruleset defining = (defines_some, defines_not, defines_no_struct)

pub ruleset field_reads = (field_single, field_array)

pub ruleset fields_reads = (fields_begin, fields_more_read, fields_end_read)

pub ruleset parameters_reads = (parameters_begin, parameters_more_read, parameters_end)

pub ruleset signatures = (signature_empty, signature_of_void, signature_listed)

pub ruleset results = (result_none, result_typed)

pub ruleset marks_read = (mark_abort, mark_const, mark_plain)

pub ruleset items_of = (led_item, item_struct, item_root, item_transaction, item_function)

pub ruleset items_reads = (items_begin, items_more_read, items_end_read)
