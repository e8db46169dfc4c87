-- All that a program breaks is broken by a part that stands in it, and the other way round.
use Rattle.std.proofs.Common.{◌≡◌, ℕ, ◌+◌, List, [], ◌∷◌, ◌++◌, refl, sym, ap, subst}
use Rattle.std.specs.Prelude.{is_some, slice_get, Option, None, Some}
use Rattle.std.specs.Option.{option_map_or}
use Rattle.c_tree.specs.StmtTree.{TypeTree}
use Rattle.c_tree.specs.ItemTree.{FieldTree, FunctionTree}
use Rattle.c_types.specs.declared.broken.Broken.{Broken}
use Rattle.c_types.specs.declared.broken.Rule.TheVariants.{NoRoot}
use Rattle.c_types.specs.Broken.{unless}
use Rattle.c_types.specs.LeastLaw.{IsAmong}
use Rattle.c_types.specs.Tables.{Tables, StructTree, RootTree, field_names}
use Rattle.c_types.specs.Statements.{inner_scopes, type_broken, statements_broken}
use Rattle.c_types.specs.Declarations.{field_broken, fields_broken, struct_broken}
use Rattle.c_types.specs.Declarations.{whole_struct_broken, structs_broken, root_item_broken}
use Rattle.c_types.specs.Declarations.{roots_broken, parameters_broken, scopes_after_parameters}
use Rattle.c_types.specs.Declarations.{type_given, function_broken, body_broken}
use Rattle.c_types.specs.Declarations.{whole_function_broken, functions_broken, broken_of}
use Rattle.c_types.specs.Looking.{storing, look_broken, looks_broken}
use Rattle.rules_law.specs.rules.Part.{Part}
use Rattle.rules_law.specs.rules.Part as part
use Rattle.rules_law.specs.rules.Stands.{InType, StandsIn}
use Rattle.rules_law.specs.rules.Stands as at
use Rattle.rules_law.proofs.rules.Among.{either, among_left, among_right, each, each_of, of_each}
use Rattle.rules_law.proofs.rules.Own.{own, own_field, own_function}
use Rattle.rules_law.proofs.rules.Found.{Found, further, found_type, found_statements}
use Rattle.rules_law.proofs.rules.Found.{found_parameters}
use Rattle.rules_law.proofs.rules.Put.{put_type, put_statements, put_parameters}

-- the four lists, each made one after another
fields_each : (t : Tables) (names : List (List ℕ)) (i : ℕ) (fs : List FieldTree)
    → fields_broken t names i fs ≡ each (field_broken t names) i fs
fields_each t names i [] = refl
fields_each t names i (f ∷ fs) =
    ap (λ rest. field_broken t names i f ++ rest) (fields_each t names (i + 1) fs)

structs_each : (t : Tables) (i : ℕ) (ss : List StructTree)
    → structs_broken t i ss ≡ each (whole_struct_broken t) i ss
structs_each t i [] = refl
structs_each t i (s ∷ ss) =
    ap (λ rest. whole_struct_broken t i s ++ rest) (structs_each t (i + 1) ss)

roots_each : (t : Tables) (i : ℕ) (rs : List RootTree)
    → roots_broken t i rs ≡ each (root_item_broken t) i rs
roots_each t i [] = refl
roots_each t i (r ∷ rs) = ap (λ rest. root_item_broken t i r ++ rest) (roots_each t (i + 1) rs)

functions_each : (t : Tables) (i : ℕ) (fs : List FunctionTree)
    → functions_broken t i fs ≡ each (whole_function_broken t) i fs
functions_each t i [] = refl
functions_each t i (f ∷ fs) =
    ap (λ rest. whole_function_broken t i f ++ rest) (functions_each t (i + 1) fs)

looks_each : (t : Tables) (i : ℕ) (fs : List FunctionTree)
    → looks_broken t (storing t) fs ≡ each (λ (i : ℕ) (f : FunctionTree).
    look_broken t (storing t) f) i fs
looks_each t i [] = refl
looks_each t i (f ∷ fs) =
    ap (λ rest. look_broken t (storing t) f ++ rest) (looks_each t (i + 1) fs)

-- the rules of functions: each with its body, and then those that are marked `const`
abbrev of_functions : Tables → List Broken
of_functions t = functions_broken t 0 t.functions ++ looks_broken t (storing t) t.functions

-- a rule that is broken at a field of a struct is listed
found_field : (end : ℕ) (t : Tables) (i j : ℕ) (s : StructTree) (f : FieldTree) (b : Broken)
    → slice_get t.structs i ≡ Some s → slice_get s.fields j ≡ Some f
    → IsAmong b (field_broken t (field_names s) j f) → Found t b (StandsIn end t)
found_field end t i j s f b is at_j h =
    either (type_broken t f.ty) (own_field s j f) b h
    (λ h. further t b (found_type t f.ty b h) (λ p e. at.field_type i j is at_j e))
    (λ h. (part.Field s j f, at.field i j is at_j, h))

found_struct : (end : ℕ) (t : Tables) (i : ℕ) (s : StructTree) (b : Broken)
    → slice_get t.structs i ≡ Some s → IsAmong b (whole_struct_broken t i s)
    → Found t b (StandsIn end t)
found_struct end t i s b is h =
    either (struct_broken t i s) (fields_broken t (field_names s) 0 s.fields) b h
    (λ h. (part.Struct i s, at.struct i is, h))
    (λ h. each_of (field_broken t (field_names s)) s.fields b
    (subst (λ xs. IsAmong b xs) (fields_each t (field_names s) 0 s.fields) h)
    (λ j f at_j h. found_field end t i j s f b is at_j h))

-- a function with its parameters and its body
result_found : (end : ℕ) (t : Tables) (i : ℕ) (f : FunctionTree) (b : Broken)
    (o : Option TypeTree) → slice_get t.functions i ≡ Some f → f.result_type ≡ o
    → IsAmong b (option_map_or (type_broken t) o []) → Found t b (StandsIn end t)
result_found end t i f b None is ty h = absurd h
result_found end t i f b (Some x) is ty h =
    further t b (found_type t x b h) (λ p e. at.result_type i is ty e)

found_function : (end : ℕ) (t : Tables) (i : ℕ) (f : FunctionTree) (b : Broken)
    → slice_get t.functions i ≡ Some f → IsAmong b (whole_function_broken t i f)
    → Found t b (StandsIn end t)
found_function end t i f b is h =
    let scopes = scopes_after_parameters t (inner_scopes []) f.parameters in
    let result = option_map_or (type_broken t) f.result_type [] in
    let parameters = parameters_broken t (inner_scopes []) 0 f.parameters in
    let body = statements_broken t (type_given t f.result_type) scopes f.body in
    either (function_broken t i f) (body_broken t f) b h
    (λ h. either result (own_function t i f) b h
    (λ h. result_found end t i f b f.result_type is refl h)
    (λ h. (
      part.Function i f,
      at.function i is,
      among_left (own_function t i f) (look_broken t (storing t) f) b h,
    )))
    (λ h. either parameters body b h
    (λ h. further t b (found_parameters t (inner_scopes []) 0 f.parameters b h)
    (λ p e. at.parameters i is e))
    (λ h. further t b (found_statements t f.result_type scopes f.body b h)
    (λ p e. at.body i is e)))

pub found_whole : (end : ℕ) (t : Tables) (b : Broken) → IsAmong b (broken_of end t)
    → Found t b (StandsIn end t)
found_whole end t b h =
    let one = structs_broken t 0 t.structs in
    let two = roots_broken t 0 t.roots in
    let three = unless (is_some (slice_get t.roots 0)) end NoRoot in
    let four = functions_broken t 0 t.functions in
    let five = looks_broken t (storing t) t.functions in
    either one (two ++ (three ++ (four ++ five))) b h
    (λ h. each_of (whole_struct_broken t) t.structs b
    (subst (λ xs. IsAmong b xs) (structs_each t 0 t.structs) h)
    (λ i s is h. found_struct end t i s b is h))
    (λ h. either two (three ++ (four ++ five)) b h
    (λ h. each_of (root_item_broken t) t.roots b
    (subst (λ xs. IsAmong b xs) (roots_each t 0 t.roots) h)
    (λ i r is h. (part.Root i r, at.root i is, h)))
    (λ h. either three (four ++ five) b h
    (λ h. (part.Whole end, at.whole, h))
    (λ h. either four five b h
    (λ h. each_of (whole_function_broken t) t.functions b
    (subst (λ xs. IsAmong b xs) (functions_each t 0 t.functions) h)
    (λ i f is h. found_function end t i f b is h))
    (λ h. each_of (λ (i : ℕ) (f : FunctionTree). look_broken t (storing t) f) t.functions b
    (subst (λ xs. IsAmong b xs) (looks_each t 0 t.functions) h)
    (λ i f is h. (
      part.Function i f,
      at.function i is,
      among_right (own_function t i f) (look_broken t (storing t) f) b h,
    ))))))

-- the other way
put_struct : (end : ℕ) (t : Tables) (b : Broken) (i : ℕ) (s : StructTree)
    → slice_get t.structs i ≡ Some s → IsAmong b (whole_struct_broken t i s)
    → IsAmong b (broken_of end t)
put_struct end t b i s is h =
    among_left (structs_broken t 0 t.structs) (roots_broken t 0 t.roots
    ++ (unless (is_some (slice_get t.roots 0)) end NoRoot ++ of_functions t)) b
    (subst (λ xs. IsAmong b xs) (sym (structs_each t 0 t.structs))
    (of_each (whole_struct_broken t) t.structs b i s is h))

put_field : (end : ℕ) (t : Tables) (b : Broken) (i j : ℕ) (s : StructTree) (f : FieldTree)
    → slice_get t.structs i ≡ Some s → slice_get s.fields j ≡ Some f
    → IsAmong b (field_broken t (field_names s) j f) → IsAmong b (broken_of end t)
put_field end t b i j s f is at_j h =
    put_struct end t b i s is
    (among_right (struct_broken t i s) (fields_broken t (field_names s) 0 s.fields) b
    (subst (λ xs. IsAmong b xs) (sym (fields_each t (field_names s) 0 s.fields))
    (of_each (field_broken t (field_names s)) s.fields b j f at_j h)))

put_later : (end : ℕ) (t : Tables) (b : Broken)
    → IsAmong b (roots_broken t 0 t.roots ++ (unless (is_some (slice_get t.roots 0)) end NoRoot
    ++ of_functions t)) → IsAmong b (broken_of end t)
put_later end t b h = among_right (structs_broken t 0 t.structs) (roots_broken t 0 t.roots
    ++ (unless (is_some (slice_get t.roots 0)) end NoRoot ++ of_functions t)) b h

put_last : (end : ℕ) (t : Tables) (b : Broken)
    → IsAmong b (unless (is_some (slice_get t.roots 0)) end NoRoot
    ++ of_functions t) → IsAmong b (broken_of end t)
put_last end t b h = put_later end t b (among_right (roots_broken t 0 t.roots)
    (unless (is_some (slice_get t.roots 0)) end NoRoot ++ of_functions t) b h)

put_function : (end : ℕ) (t : Tables) (b : Broken) (i : ℕ) (f : FunctionTree)
    → slice_get t.functions i ≡ Some f → IsAmong b (whole_function_broken t i f)
    → IsAmong b (broken_of end t)
put_function end t b i f is h =
    put_last end t b (among_right (unless (is_some (slice_get t.roots 0)) end NoRoot)
    (of_functions t) b
    (among_left (functions_broken t 0 t.functions) (looks_broken t (storing t) t.functions) b
    (subst (λ xs. IsAmong b xs) (sym (functions_each t 0 t.functions))
    (of_each (whole_function_broken t) t.functions b i f is h))))

put_look : (end : ℕ) (t : Tables) (b : Broken) (i : ℕ) (f : FunctionTree)
    → slice_get t.functions i ≡ Some f → IsAmong b (look_broken t (storing t) f)
    → IsAmong b (broken_of end t)
put_look end t b i f is h =
    put_last end t b (among_right (unless (is_some (slice_get t.roots 0)) end NoRoot)
    (of_functions t) b
    (among_right (functions_broken t 0 t.functions) (looks_broken t (storing t) t.functions) b
    (subst (λ xs. IsAmong b xs) (sym (looks_each t 0 t.functions))
    (of_each (λ (i : ℕ) (f : FunctionTree). look_broken t (storing t) f) t.functions b i f is h))))

put_head : (end : ℕ) (t : Tables) (b : Broken) (i : ℕ) (f : FunctionTree)
    → slice_get t.functions i ≡ Some f → IsAmong b (function_broken t i f)
    → IsAmong b (broken_of end t)
put_head end t b i f is h = put_function end t b i f is
    (among_left (function_broken t i f) (body_broken t f) b h)

put_body : (end : ℕ) (t : Tables) (b : Broken) (i : ℕ) (f : FunctionTree)
    → slice_get t.functions i ≡ Some f → IsAmong b (body_broken t f) → IsAmong b (broken_of end t)
put_body end t b i f is h = put_function end t b i f is
    (among_right (function_broken t i f) (body_broken t f) b h)

pub put_whole : (end : ℕ) (t : Tables) (b : Broken) {p : Part} → StandsIn end t p
    → IsAmong b (own t p) → IsAmong b (broken_of end t)
put_whole end t b at.whole h = put_last end t b
    (among_left (unless (is_some (slice_get t.roots 0)) end NoRoot) (of_functions t) b h)
put_whole end t b (at.struct i {s = s} is) h =
    put_struct end t b i s is
    (among_left (struct_broken t i s) (fields_broken t (field_names s) 0 s.fields) b h)
put_whole end t b (at.field i j {s = s} {f = f} is at_j) h =
    put_field end t b i j s f is at_j
    (among_right (type_broken t f.ty) (own_field s j f) b h)
put_whole end t b (at.field_type i j {s = s} {f = f} is at_j d) h =
    put_field end t b i j s f is at_j
    (among_left (type_broken t f.ty) (own_field s j f) b (put_type t b d h))
put_whole end t b (at.root i {r = r} is) h =
    put_later end t b (among_left (roots_broken t 0 t.roots)
    (unless (is_some (slice_get t.roots 0)) end NoRoot ++ of_functions t) b
    (subst (λ xs. IsAmong b xs) (sym (roots_each t 0 t.roots))
    (of_each (root_item_broken t) t.roots b i r is h)))
put_whole end t b (at.function i {f = f} is) h =
    either (own_function t i f) (look_broken t (storing t) f) b h
    (λ h. put_head end t b i f is
    (among_right (option_map_or (type_broken t) f.result_type []) (own_function t i f) b h))
    (λ h. put_look end t b i f is h)
put_whole end t b (at.result_type i {f = f} {ty = ty} is gives d) h =
    put_head end t b i f is
    (among_left (option_map_or (type_broken t) f.result_type []) (own_function t i f) b
    (subst (λ o. IsAmong b (option_map_or (type_broken t) o [])) (sym gives)
    (put_type t b d h)))
put_whole end t b (at.parameters i {f = f} is d) h =
    put_body end t b i f is
    (among_left (parameters_broken t (inner_scopes []) 0 f.parameters)
    (statements_broken t (type_given t f.result_type)
    (scopes_after_parameters t (inner_scopes []) f.parameters) f.body) b
    (put_parameters t b d h))
put_whole end t b (at.body i {f = f} is d) h =
    put_body end t b i f is
    (among_right (parameters_broken t (inner_scopes []) 0 f.parameters)
    (statements_broken t (type_given t f.result_type)
    (scopes_after_parameters t (inner_scopes []) f.parameters) f.body) b
    (put_statements t f.result_type b d h))
