-- The conditions on the names of a statement under which its code does what it means.
use Rattle.std.proofs.Common.{◌≡◌, ℕ, suc, ℤ, List, ◌∷◌}
use Rattle.std.specs.Prelude.{Option, None, Some, option_map}
use Rattle.c_tree.specs.ExprTree as expr
use Rattle.c_tree.specs.ExprTree.{ExprTree, Ident}
use Rattle.c_tree.specs.StmtTree as stmt
use Rattle.c_tree.specs.StmtTree.{StmtTree, Statements, SimpleTree, FirstTree, DeclarationTree}
use Rattle.c_tree.specs.StmtTree.{InitialTree}
use Rattle.c_types.specs.Tables.{declared_type, pointed_struct, number_at}
use Rattle.c_types.specs.Expressions.{type_of}
use Rattle.pool_map.specs.PoolMap.{PoolMap}
use Rattle.c_meaning.specs.Locals.{Local, scopes_of}
use Rattle.c_meaning.specs.Access.{struct_slot, struct_pointed_by}
use Rattle.ir.specs.declared.function.Ir.{Ir}
use Rattle.lower.specs.Names.{Variables, inner_variables, variable_declared, variable_of}
use Rattle.lower.specs.Names.{struct_kind_at}
use Rattle.lower.specs.Lowers.{Context, exp_end, or_end, initial_end, first_end}
use Rattle.lower.specs.Lowers.{variables_after_first, variables_after, stmt_end}
use Rattle.code_meaning.specs.Code.{slot_of}
use Rattle.lower_law.proofs.locals.Locals.{Entry, Agrees, entry_register, scopes_in}
use Rattle.lower_law.proofs.names.Fits.{ExpFits, PointerFits, FieldFits}

module _ (k : Context) (ir : Ir) where
  -- a target that is no variable
  abbrev pub PlaceFits : Variables → List Entry → ExprTree → Type 0
  PlaceFits v es (expr.Root name) = FieldFits k ir v es (expr.Root name)
  PlaceFits v es (expr.Arrow base place name) =
      ExpFits k ir v es base × FieldFits k ir v es (expr.Arrow base place name)
  PlaceFits v es (expr.Index a place i) = PointerFits k ir v es a × ExpFits k ir v es i
  PlaceFits v es (expr.Number n) = ⊥
  PlaceFits v es expr.Null = ⊥
  PlaceFits v es (expr.Variable name) = ⊥
  PlaceFits v es (expr.Call name all) = ⊥
  PlaceFits v es (expr.New place name) = ⊥
  PlaceFits v es (expr.Unary o place a) = ⊥
  PlaceFits v es (expr.Binary o place a b) = ⊥
  PlaceFits v es (expr.Conditional c place a b) = ⊥

  abbrev pub TargetFits : Variables → List Entry → Option Ident → ExprTree → Type 0
  TargetFits v es (Some name) target = (r : ℕ) × (entry_register name.text es ≡ Some r)
  TargetFits v es None target = PlaceFits v es target

  abbrev pub OrFits : Variables → List Entry → Option ExprTree → Type 0
  OrFits v es None = Unit {0}
  OrFits v es (Some e) = ExpFits k ir v es e

  -- the slot of the object that is freed is the same
  abbrev pub FreeFits : Variables → List Entry → ExprTree → Type 0
  FreeFits v es e = (ls : List Local) → scopes_of ls ≡ scopes_in es → (w : PoolMap) (b : ℤ)
      → struct_slot w (option_map (number_at k.tables) (struct_pointed_by k.tables ls e)) b
      ≡ slot_of w (struct_kind_at k.tables (pointed_struct (type_of k.tables v.scopes e))) b

  abbrev pub SimpleFits : Variables → List Entry → SimpleTree → Type 0
  SimpleFits v es (stmt.Assign target o place value) = TargetFits v es (variable_of target) target
      × ExpFits k ir v es value
  SimpleFits v es (stmt.Step target o place) = TargetFits v es (variable_of target) target
  SimpleFits v es (stmt.Call name all) = ExpFits k ir v es (expr.Call name all)
  SimpleFits v es (stmt.Free place pointer) = ExpFits k ir v es pointer × FreeFits v es pointer
  SimpleFits v es (stmt.Abort place) = Unit {0}

  abbrev pub InitialFits : Variables → List Entry → Option InitialTree → Type 0
  InitialFits v es None = Unit {0}
  InitialFits v es (Some i) = ExpFits k ir v es i.value

  abbrev pub entry_in : DeclarationTree → ℕ → Entry
  entry_in d r = record { name = d.name.text; ty = declared_type k.tables d.ty; register = r }

  -- a declared name means the new local, and other names keep their meaning
  abbrev pub DeclarationFits : Variables → List Entry → DeclarationTree → Type 0
  DeclarationFits v es d = InitialFits v es d.initial
      × ((r : ℕ) → Agrees (variable_declared d.name.text (declared_type k.tables d.ty) r v)
      (entry_in d r ∷ es))

  abbrev pub FirstFits : Variables → List Entry → Option FirstTree → Type 0
  FirstFits v es None = Unit {0}
  FirstFits v es (Some (stmt.Declare d)) = DeclarationFits v es d
  FirstFits v es (Some (stmt.Simply x)) = SimpleFits v es x

  abbrev pub ThirdFits : Variables → List Entry → Option SimpleTree → Type 0
  ThirdFits v es None = Unit {0}
  ThirdFits v es (Some x) = SimpleFits v es x

  -- the entries after a declaration whose code begins at p
  abbrev pub first_entries : Option FirstTree → ℕ → List Entry → List Entry
  first_entries None p es = es
  first_entries (Some (stmt.Declare d)) p es = entry_in d (k.node (initial_end d.initial p)) ∷ es
  first_entries (Some (stmt.Simply x)) p es = es

  abbrev pub entries_after : StmtTree → ℕ → List Entry → List Entry
  entries_after (stmt.Declares d) p es = entry_in d (k.node (initial_end d.initial p)) ∷ es
  entries_after stmt.Empty p es = es
  entries_after (stmt.Simple x) p es = es
  entries_after (stmt.Block all) p es = es
  entries_after (stmt.If c a) p es = es
  entries_after (stmt.IfElse c a b) p es = es
  entries_after (stmt.While place c a) p es = es
  entries_after (stmt.Do place a c) p es = es
  entries_after (stmt.For place first c third a) p es = es
  entries_after stmt.Break p es = es
  entries_after stmt.Continue p es = es
  entries_after (stmt.Return place value) p es = es

  abbrev mutual
    pub StmtFits : Variables → List Entry → StmtTree → ℕ → Type 0
    StmtFits v es stmt.Empty p = Unit {0}
    StmtFits v es (stmt.Declares d) p = DeclarationFits v es d
    StmtFits v es (stmt.Simple x) p = SimpleFits v es x
    StmtFits v es (stmt.Block all) p = StatementsFit (inner_variables v) es all p
    StmtFits v es (stmt.If c a) p =
        ExpFits k ir v es c × StmtFits (inner_variables v) es a (suc (exp_end c p))
    StmtFits v es (stmt.IfElse c a b) p =
        ExpFits k ir v es c × StmtFits (inner_variables v) es a (suc (exp_end c p))
        × StmtFits (inner_variables v) es b (suc (stmt_end a (suc (exp_end c p))))
    StmtFits v es (stmt.While place c a) p =
        ExpFits k ir v es c × StmtFits (inner_variables v) es a (suc (exp_end c (suc p)))
    StmtFits v es (stmt.Do place a c) p =
        StmtFits (inner_variables v) es a p × ExpFits k ir v es c
    StmtFits v es (stmt.For place first c third a) p =
        let u : Variables = variables_after_first k first p (inner_variables v) in
        let us : List Entry = first_entries first p es in
        FirstFits (inner_variables v) es first × OrFits u us c × ThirdFits u us third
        × StmtFits (inner_variables u) us a (suc (or_end c (suc (first_end first p))))
    StmtFits v es stmt.Break p = Unit {0}
    StmtFits v es stmt.Continue p = Unit {0}
    StmtFits v es (stmt.Return place value) p = OrFits v es value

    pub StatementsFit : Variables → List Entry → Statements → ℕ → Type 0
    StatementsFit v es stmt.Nothing p = Unit {0}
    StatementsFit v es (stmt.Then x xs) p =
        StmtFits v es x p × StatementsFit (variables_after k x p v) (entries_after x p es) xs
        (stmt_end x p)
