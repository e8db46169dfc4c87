-- The laws, put together from facts on the tables of a program that breaks no rule.
use Rattle.std.proofs.Common.{◌≡◌, ℕ, ◌+◌, ◌≤◌, Bool, true, false, List, [], ◌∷◌, length}
use Rattle.std.proofs.Common.{map, refl, sym, ap, ◌∙◌, subst, arith}
use Rattle.std.specs.Prelude.{if◌then◌else◌, slice_get, Option, None, Some, option_map}
use Rattle.std.specs.Prelude.{option_and_then}
use Rattle.std.specs.List.{AllByRecursion}
use Rattle.std.proofs.lemmas.List.{length-map}
use Rattle.std.proofs.lemmas.Option.{slice_get-map, none-some, same_Some}
use Rattle.nvm_base.proofs.Lists.{all_at}
use Rattle.c_tree.specs.ItemTree.{FunctionTree}
use Rattle.c_tree.specs.Program.{Program, tree_of}
use Rattle.pool_map.specs.declared.shapes.StructShape.{StructShape}
use Rattle.pool_map.specs.PoolFits.{words_of}
use Rattle.pool_map.specs.declared.limits.TheConstants.{OBJECT_WORDS, ROOT_WORDS}
use Rattle.c_types.specs.Tables.{Tables, StructTree, tables_of, field_names, root_struct}
use Rattle.c_types.specs.Tables as counted
use Rattle.c_types.specs.Statements.{inner_scopes}
use Rattle.c_types.specs.Fault.{breaks}
use Rattle.c_types.specs.Shapes.{field_shape, struct_shape, numbered_in, root_fields}
use Rattle.c_types.specs.Shapes.{transactions_in}
use Rattle.c_types.specs.Declarations.{parameters_broken, function_broken, body_broken}
use Rattle.c_types.specs.Declarations.{structs_broken, whole_struct_broken}
use Rattle.c_types.proofs.Unbroken.{none_left, none_right}
use Rattle.ir.specs.declared.instruction.Instruction.{Instruction}
use Rattle.ir.specs.declared.instruction.Instruction.TheVariants.{Call, Const}
use Rattle.ir.specs.declared.function.IrFunction.{IrFunction}
use Rattle.ir.specs.Places.{instruction_at}
use Rattle.lower.specs.Program.{context_at, lowered_function, lowered}
use Rattle.lower.proofs.Few.{few_parameters}
use Rattle.lower.proofs.Sane.{IsSane, sane, broken_functions, struct_at_place, function_at_place}
use Rattle.tree_law.specs.checked.Law.{ShapesLaw, RootHasWordLaw, CallsLaw, LogsLaw, LimitsLaw}
use Rattle.tree_law.specs.checked.Law.{ConstantsLaw, marked, EntriesLaw}
use Rattle.tree_law.proofs.checked.Words.{fields_counted, struct_words, numbered_one, numbered_few}
use Rattle.tree_law.proofs.checked.Words.{root_counted, spelled_have}
use Rattle.tree_law.proofs.checked.PlainCalls.{IsPlain, IsPlainInstruction, AllPlain}
use Rattle.tree_law.proofs.checked.PlainStatements.{function_plain}
use Rattle.tree_law.proofs.checked.Tokens.{left_word}
use Rattle.tree_law.proofs.checked.ExprConstants.{IsWordConstant, AreWords}
use Rattle.tree_law.proofs.checked.StmtConstants.{FunctionWords, items_words}

-- an element of a mapped list comes from an element of the list
mapped_one : {A B : Type 0} (f : A → B) (xs : List A) (k : ℕ) (y : B)
    → slice_get (map f xs) k ≡ Some y → (x : A) × (slice_get xs k ≡ Some x) × (f x ≡ y)
mapped_one {A} {B} f xs k y e = by_found (slice_get xs k) refl (sym (slice_get-map f xs k) ∙ e)
  where
    some_same : (x : A) → Some (f x) ≡ Some y → f x ≡ y
    some_same x e = cc

    by_found : (o : Option A) → slice_get xs k ≡ o → option_map f o ≡ Some y
        → (x : A) × (slice_get xs k ≡ Some x) × (f x ≡ y)
    by_found None is e = absurd (none-some y e)
    by_found (Some x) is e = (x, is, some_same x e)

broken_structs : (tree : Program) → breaks tree ≡ []
    → structs_broken (tables_of (tree_of tree)) 0 (tables_of (tree_of tree)).structs ≡ []
broken_structs tree e = none_left
    (structs_broken (tables_of (tree_of tree)) 0 (tables_of (tree_of tree)).structs) _ e

-- the root's struct
record HasRoot (t : Tables) : Type 0 where
  place : ℕ
  root : StructTree
  found : slice_get t.structs place ≡ Some root
  fields : root_fields t ≡ root.fields
  same : words_of (map field_shape root.fields) ≡ counted.words_from (field_names root) 0
      root.fields
  some : length root.fields ≤ counted.words_from (field_names root) 0 root.fields
  most : words_of (map field_shape root.fields) ≤ ROOT_WORDS

has_root : (tree : Program) → breaks tree ≡ [] → HasRoot (tables_of (tree_of tree))
has_root tree e =
    let t : Tables = tables_of (tree_of tree) in
    let h : IsSane t = sane tree e in
    let i : ℕ = h.root.0 in
    let s : StructTree = h.root.1 in
    let fields = (h.fields i s h.root.3).1 in
    let words = fields_counted t (field_names s) 0 s.fields fields in
    let whole : whole_struct_broken t i s ≡ [] =
    subst (λ n. whole_struct_broken t n s ≡ []) (zero_plus i)
    (struct_at_place t 0 t.structs i s (broken_structs tree e) h.root.3) in
    record {
      place = i;
      root = s;
      found = h.root.3;
      fields = rw (h.root.2, h.root.3) refl;
      same = words.0;
      some = words.1;
      most = struct_words t s ROOT_WORDS fields (root_counted t i s h.root.2 whole) (omega arith);
    }
  where
    zero_plus : (i : ℕ) → 0 + i ≡ i
    zero_plus i = omega arith

pub shapes : ShapesLaw
shapes tree e =
    let t : Tables = tables_of (tree_of tree) in
    let h : IsSane t = sane tree e in
    let root : HasRoot t = has_root tree e in
    let long : length (map struct_shape (numbered_in t)) ≡ length (numbered_in t) =
    length-map (numbered_in t) struct_shape in
    let less : length (numbered_in t) ≤ length t.structs = numbered_few (root_struct t) 0 t.structs
    in
    record {
      few = omega (arith, long, less, h.structs);
      short = λ k shape is.
          let s : (s : StructTree) × (slice_get (numbered_in t) k ≡ Some s)
          × (struct_shape s ≡ shape) = mapped_one struct_shape (numbered_in t) k shape is in
          let one : (j : ℕ) × (slice_get t.structs j ≡ Some s.0) × _ =
          numbered_one (root_struct t) 0 t.structs k s.0 s.1 in
          subst (λ (x : StructShape). words_of x.fields ≤ OBJECT_WORDS) s.2
          (struct_words t s.0 OBJECT_WORDS (h.fields one.0 s.0 one.1).1 one.2 (omega arith));
      root = subst (λ fs. words_of (map field_shape fs) ≤ ROOT_WORDS) (sym root.fields) root.most;
    }

pub root : RootHasWordLaw
root tree tokens spelled e =
    let t : Tables = tables_of (tree_of tree) in
    let r : HasRoot t = has_root tree e in
    let one : 1 ≤ length r.root.fields = spelled_have spelled r.place r.root r.found in
    subst (λ fs. 1 ≤ words_of (map field_shape fs)) (sym r.fields)
    (some_word (words_of (map field_shape r.root.fields))
    (counted.words_from (field_names r.root) 0 r.root.fields) (length r.root.fields) r.same
    r.some one)
  where
    some_word : (w n m : ℕ) → w ≡ n → m ≤ n → 1 ≤ m → 1 ≤ w
    some_word w n m e a b = omega (arith, e, a, b)

-- a function of the code belongs to a function of the tree
source_of : (tree : Program) (f : ℕ) (u : IrFunction)
    → slice_get (lowered tree).functions f ≡ Some u
    → (x : FunctionTree) × (slice_get (tables_of (tree_of tree)).functions f ≡ Some x)
    × (lowered_function (tables_of (tree_of tree)) tree x ≡ u)
source_of tree f u is = mapped_one (lowered_function (tables_of (tree_of tree)) tree)
    (tables_of (tree_of tree)).functions f u is

-- its body breaks no rule
body_kept : (tree : Program) (f : ℕ) (x : FunctionTree) → breaks tree ≡ []
    → slice_get (tables_of (tree_of tree)).functions f ≡ Some x
    → body_broken (tables_of (tree_of tree)) x ≡ []
body_kept tree f x e is =
    let t : Tables = tables_of (tree_of tree) in
    none_right (function_broken t (0 + f) x) (body_broken t x)
    (function_at_place t 0 t.functions f x (broken_functions tree e) is)

-- an instruction of the code is in the code of a function of the tree
record IsIn (tree : Program) (f p : ℕ) (i : Instruction) : Type 0 where
  source : FunctionTree
  found : slice_get (tables_of (tree_of tree)).functions f ≡ Some source
  stands : slice_get (lowered_function (tables_of (tree_of tree)) tree source).code p ≡ Some i

instruction_in : (tree : Program) (f p : ℕ) (i : Instruction)
    → instruction_at (lowered tree).functions f p ≡ Some i → IsIn tree f p i
instruction_in tree f p i is = by_function (slice_get (lowered tree).functions f) refl is
  where
    by_function : (o : Option IrFunction) → slice_get (lowered tree).functions f ≡ o
        → option_and_then (λ (u : IrFunction). slice_get u.code p) o ≡ Some i → IsIn tree f p i
    by_function None at is = absurd (none-some i is)
    by_function (Some u) at is =
        let x : (x : FunctionTree) × (slice_get (tables_of (tree_of tree)).functions f ≡ Some x)
        × (lowered_function (tables_of (tree_of tree)) tree x ≡ u) = source_of tree f u at in
        record {
          source = x.0;
          found = x.1;
          stands = subst (λ (y : IrFunction). slice_get y.code p ≡ Some i) (sym x.2) is;
        }

-- an instruction of the code is no log, and calls no transaction
plain_at : (tree : Program) (f p : ℕ) (i : Instruction) → breaks tree ≡ []
    → instruction_at (lowered tree).functions f p ≡ Some i
    → IsPlainInstruction (tables_of (tree_of tree)) i
plain_at tree f p i e is =
    let t : Tables = tables_of (tree_of tree) in
    let x : IsIn tree f p i = instruction_in tree f p i is in
    let all : AllPlain t (lowered_function t tree x.source).code =
    function_plain (context_at t tree (length x.source.parameters)) x.source (sane tree e)
    (body_kept tree f x.source e x.found) in
    all_at (IsPlainInstruction t) (lowered_function t tree x.source).code p i all x.stands

pub calls : CallsLaw
calls tree e f p to g args u is found =
    let t : Tables = tables_of (tree_of tree) in
    let plain : IsPlain t g = plain_at tree f p (Call to g args) e is in
    let y : (y : FunctionTree) × (slice_get t.functions g ≡ Some y)
    × (lowered_function t tree y ≡ u) = source_of tree g u found in
    subst (λ (z : IrFunction). z.tx ≡ false) y.2
    (ap (λ (z : FunctionTree). z.tx) (same_Some y.0 plain.0 (sym y.1 ∙ plain.1)) ∙ plain.2)

pub logs : LogsLaw
logs tree e f p x is = plain_at tree f p _ e is

pub limits : LimitsLaw
limits tree e =
    let t : Tables = tables_of (tree_of tree) in
    let h : IsSane t = sane tree e in
    let long : length (map (lowered_function t tree) t.functions) ≡ length t.functions =
    length-map t.functions (lowered_function t tree) in
    record {
      few = omega (arith, long, h.functions);
      parameters = λ f u is.
          let x = source_of tree f u is in
          let few : 0 + length x.0.parameters ≤ 22 =
          few_parameters t (inner_scopes []) 0 x.0.parameters (omega arith)
          (none_left (parameters_broken t (inner_scopes []) 0 x.0.parameters) _
          (body_kept tree f x.0 e x.1)) in
          subst (λ (y : IrFunction). y.parameters ≤ 22) x.2 (omega (arith, few));
      registers = λ f u is.
          let x = source_of tree f u is in
          subst (λ (y : IrFunction). y.registers ≡ y.parameters + length y.code) x.2 refl;
    }

pub constants : ConstantsLaw
constants text list tree left spelled f p to v is =
    let t : Tables = tables_of (tree_of tree) in
    let x : IsIn tree f p (Const to v) = instruction_in tree f p (Const to v) is in
    let all : AllByRecursion (FunctionWords t tree list.tokens (left_word text list left))
    t.functions = items_words t tree list.tokens (left_word text list left) spelled in
    let own : AreWords (lowered_function t tree x.source).code =
    all_at (FunctionWords t tree list.tokens (left_word text list left)) t.functions f
    x.source all x.found in
    all_at IsWordConstant (lowered_function t tree x.source).code p (Const to v) own x.stands

marked_in : (t : Tables) (tree : Program) (fs : List FunctionTree)
    → marked (map (lowered_function t tree) fs) ≡ map (lowered_function t tree) (transactions_in fs)
marked_in t tree [] = refl
marked_in t tree (f ∷ fs) = by_test f.tx (marked_in t tree fs)
  where
    by_test : (b : Bool) → marked (map (lowered_function t tree) fs) ≡ map (lowered_function t tree)
        (transactions_in fs)
        → (if b then lowered_function t tree f ∷ marked (map (lowered_function t tree) fs)
        else marked (map (lowered_function t tree) fs)) ≡ map (lowered_function t tree)
        (if b then f ∷ transactions_in fs else transactions_in fs)
    by_test true rest = ap (λ (us : List IrFunction). lowered_function t tree f ∷ us) rest
    by_test false rest = rest

pub entries : EntriesLaw
entries tree = marked_in (tables_of (tree_of tree)) tree (tables_of (tree_of tree)).functions
