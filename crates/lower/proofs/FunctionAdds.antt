-- The code written for a function, put together.
use Rattle.std.proofs.Common.{◌≡◌, ℕ, suc, ◌<◌, ◌≤◌, ◌^◌, pos, Bool, true, false, List, [], ◌∷◌}
use Rattle.std.proofs.Common.{◌++◌, length, map, refl, ap, ◌∙◌, arith, append_assoc}
use Rattle.std.specs.Prelude.{if◌then◌else◌}
use Rattle.std.proofs.lemmas.List.{map-append}
use Rattle.c_tree.specs.StmtTree.{Statements}
use Rattle.c_tree.specs.ItemTree.{FunctionTree, ParameterTree}
use Rattle.ir.specs.declared.instruction.Instruction.{Instruction}
use Rattle.ir.specs.declared.instruction.Instruction.TheVariants.{Const, Copy, Return}
use Rattle.lower.specs.Names.{Variables}
use Rattle.lower.specs.Assigned.{is_assigned}
use Rattle.lower.specs.inside.Holes.{leave, hole_filled, fill_from}
use Rattle.lower.specs.Lowers.{Context, statements_end, statements_code}
use Rattle.lower.specs.Program.{parameters_end, parameters_code, variables_after_parameters}
use Rattle.lower.specs.Program.{no_variables, function_code}
use Rattle.lower.specs.inside.Program.{function_end}
use Rattle.lower.specs.inside.Added.{Put, StatementsAdded, ParameterAdded, ParametersAdded}
use Rattle.lower.proofs.ExprAdds.{put_long, one_more, seam}
use Rattle.lower.proofs.StmtAdds.{fill_from_long}
use Rattle.lower.proofs.Filled.{statements_filled, fill_from_after}

-- copies have no holes
copy_filled : (b : Bool) (h place : ℕ) (i : Instruction) (then_code else_code : List Instruction)
    → hole_filled h place i ≡ i → map (hole_filled h place) then_code ≡ then_code
    → map (hole_filled h place) else_code ≡ else_code
    → map (hole_filled h place) (if b then i ∷ then_code else else_code)
    ≡ (if b then i ∷ then_code else else_code)
copy_filled true h place i then_code else_code ei ey en =
    ap (λ x. x ∷ map (hole_filled h place) then_code) ei ∙ ap (λ l. i ∷ l) ey
copy_filled false h place i then_code else_code ei ey en = en

parameters_filled : (k : Context) (body : Statements) (n : ℕ) (xs : List ParameterTree)
    (p h place : ℕ) → map (hole_filled h place) (parameters_code k body n xs p) ≡ parameters_code k
    body n xs p
parameters_filled k body n [] p h place = refl
parameters_filled k body n (x ∷ xs) p h place =
    copy_filled (is_assigned x.name.text body) h place (Copy (k.node (suc p)) n)
    (parameters_code k body (suc n) xs (suc p)) (parameters_code k body (suc n) xs p)
    refl (parameters_filled k body (suc n) xs (suc p) h place)
    (parameters_filled k body (suc n) xs p h place)

pub function_added : (k : Context) (f : FunctionTree) (c c1 c2 c3 c4 c5 : List Instruction)
    (v0 v u : Variables) (end from : ℕ)
    → c ≡ [] → v0 ≡ no_variables → ParametersAdded k f.body f.parameters v0 c c1 v
    → StatementsAdded k v f.body leave leave c1 c2 u → end ≡ length c2 → length c2 ≤ 2 ^ 29
    → c3 ≡ fill_from leave 0 end c2 → Put k (λ to. Const to (pos 0)) c3 c4 from
    → c5 ≡ c4 ++ Return from ∷ [] → c5 ≡ function_code k f
function_added k f c c1 c2 c3 c4 c5 v0 v u end from h0 hv hp hs he small h3 hz h5 =
    let xs : List ParameterTree = f.parameters in
    let p : ℕ = parameters_end f.body xs 0 in
    let q : ℕ = statements_end f.body p in
    let P : List Instruction = parameters_code k f.body 0 xs 0 in
    let W : Variables = variables_after_parameters k f.body 0 xs 0 no_variables in
    let S : List Instruction = statements_code k W f.body leave leave p in
    let F : List Instruction = statements_code k W f.body q q p in
    let e1 : c1 ≡ P = hp.code ∙ ap (λ l. l ++ parameters_code k f.body 0 xs (length l)) h0 in
    let l1 : length c1 ≡ p = hp.long
    ∙ ap (λ (l : List Instruction). parameters_end f.body xs (length l)) h0 in
    let v' : v ≡ W = hp.variables ∙ ap (λ (l : List Instruction).
    variables_after_parameters k f.body 0 xs (length l) v0) h0
    ∙ ap (variables_after_parameters k f.body 0 xs 0) hv in
    let e2 : c2 ≡ P ++ S = hs.code
    ∙ ap (λ x. c1 ++ statements_code k x f.body leave leave (length c1)) v'
    ∙ ap (λ n. c1 ++ statements_code k W f.body leave leave n) l1 ∙ ap (λ l. l ++ S) e1 in
    let l2 : length c2 ≡ q = hs.long ∙ ap (statements_end f.body) l1 in
    let qe : end ≡ q = he ∙ l2 in
    let room : statements_end f.body p < leave = omega (arith, l2, small) in
    let e3 : c3 ≡ map (hole_filled leave end) (P ++ S) =
    h3 ∙ ap (fill_from leave 0 end) e2 ∙ fill_from_after leave [] (P ++ S) end in
    let fs : map (hole_filled leave end) S ≡ F =
    statements_filled k W f.body leave leave p leave end room
    ∙ ap (λ i. statements_code k W f.body i i p) qe in
    let fp : map (hole_filled leave end) P ≡ P = parameters_filled k f.body 0 xs 0 leave end in
    let f3 : c3 ≡ P ++ F = e3 ∙ map-append (hole_filled leave end) P S
    ∙ ap (λ l. l ++ map (hole_filled leave end) S) fp ∙ ap (λ l. P ++ l) fs in
    let l3 : length c3 ≡ q = fill_from_long leave 0 end c2 c3 h3 ∙ l2 in
    let from' : from ≡ k.node (suc q) = hz.register ∙ ap (λ n. k.node (suc n)) l3 in
    let s5 : c5 ≡ c3 ++ (Const from (pos 0) ∷ Return from ∷ []) =
    seam c3 c4 c5 (Const from (pos 0) ∷ []) (Return from ∷ []) hz.code h5 in
    s5 ∙ ap (λ l. l ++ (Const from (pos 0) ∷ Return from ∷ [])) f3
    ∙ append_assoc P F (Const from (pos 0) ∷ Return from ∷ [])
    ∙ ap (λ x. P ++ (F ++ Const x (pos 0) ∷ Return x ∷ [])) from'

pub function_long : (k : Context) (f : FunctionTree) (c c1 c2 c3 c4 c5 : List Instruction)
    (v0 v u : Variables) (end from : ℕ)
    → c ≡ [] → ParametersAdded k f.body f.parameters v0 c c1 v
    → StatementsAdded k v f.body leave leave c1 c2 u
    → c3 ≡ fill_from leave 0 end c2 → Put k (λ to. Const to (pos 0)) c3 c4 from
    → c5 ≡ c4 ++ Return from ∷ [] → length c5 ≡ function_end f
function_long k f c c1 c2 c3 c4 c5 v0 v u end from h0 hp hs h3 hz h5 =
    let l1 : length c1 ≡ parameters_end f.body f.parameters 0 =
    hp.long ∙ ap (λ (l : List Instruction). parameters_end f.body f.parameters (length l)) h0 in
    let l2 : length c2 ≡ statements_end f.body (parameters_end f.body f.parameters 0) =
    hs.long ∙ ap (statements_end f.body) l1 in
    one_more c4 c5 (Return from) h5 ∙ ap suc (put_long k (λ to. Const to (pos 0)) c3 c4 from hz
    ∙ ap suc (fill_from_long leave 0 end c2 c3 h3 ∙ l2))

pub parameter_copied : (k : Context) (n : ℕ) (c c1 : List Instruction) (r : ℕ)
    → Put k (λ to. Copy to n) c c1 r → ParameterAdded k true n c c1 r
parameter_copied k n c c1 r h =
    record { code = h.code ∙ ap (λ x. c ++ Copy x n ∷ []) h.register; register = h.register }

pub parameter_kept : (k : Context) (n : ℕ) (c : List Instruction) → ParameterAdded k false n c c n
parameter_kept k n c = record { code = refl; register = refl }

pub ruleset functions = (parameter_copied, parameter_kept)
