-- Worked examples: the definition of the code's meaning computes.
use Rattle.std.proofs.Common.{◌≡◌, ℕ, pos, negsuc, List, [], ◌∷◌, Option, None, Some, refl, true}
use Rattle.std.proofs.Common.{false}
use Rattle.std.specs.Int.{int_wrap}
use Rattle.nvm_base.specs.declared.op.BinOp.TheVariants as op
use Rattle.pool_map.specs.PoolMap.{PoolMap}
use Rattle.pool_map.specs.declared.shapes.FieldShape.{FieldShape}
use Rattle.pool_map.specs.declared.shapes.Shapes.{Shapes}
use Rattle.pool_map.specs.declared.trap.TrapKind.TheVariants as trap
use Rattle.ir.specs.declared.instruction.Target.TheVariants as aim
use Rattle.ir.specs.declared.instruction.Instruction.{Instruction}
use Rattle.ir.specs.declared.instruction.Instruction.TheVariants.{Const, Bin, Jump, Branch, Load}
use Rattle.ir.specs.declared.instruction.Instruction.TheVariants.{Store, New, Free, Call, Return}
use Rattle.ir.specs.declared.instruction.Instruction.TheVariants.{Tick}
use Rattle.ir.specs.declared.function.Ir.{Ir}
use Rattle.code_meaning.specs.Code.{Ended, Trapped, exec, code_start}

abbrev of_length : Option ℕ → FieldShape
of_length length = record { name = []; unsigned = false; length = length }

-- a root with a word n and an array t of four, and a struct with a word
shapes : Shapes
shapes = record {
  root = of_length None ∷ of_length (Some 4) ∷ [];
  structs = record { name = []; fields = of_length None ∷ [] } ∷ [];
}

code_of : List Instruction → Ir
code_of is = record {
  functions = record { name = []; parameters = 1; registers = 9; tx = true; code = is } ∷ [];
  shapes = shapes;
}

pool : PoolMap
pool = record { root = pos 5 ∷ pos 1 ∷ pos 2 ∷ pos 3 ∷ pos 4 ∷ []; slots = None ∷ None ∷ [] }

-- root.n = root.n + d; return root.n;
inc : Ir
inc = code_of (Load 2 (aim.Root 0 None) ∷ Bin op.Add 3 2 0 ∷ Store (aim.Root 0 None) 3 1
    ∷ Load 5 (aim.Root 0 None) ∷ Return 5 ∷ [])

inc_row : exec inc 9 (code_start 0 (pos 3 ∷ []) pool 7)
    ≡ Ended (record { root = pos 8 ∷ pos 1 ∷ pos 2 ∷ pos 3 ∷ pos 4 ∷ []; slots = None ∷ None ∷ [] })
    (pos 8) 7
unfolding inc code_of shapes pool int_wrap
inc_row = refl

-- return root.t[i];
element : Ir
element = code_of (Load 1 (aim.Root 1 (Some 0)) ∷ Return 1 ∷ [])

element_row : exec element 9 (code_start 0 (pos 3 ∷ []) pool 7) ≡ Ended pool (pos 4) 7
unfolding element code_of shapes pool
element_row = refl

past_row : exec element 9 (code_start 0 (pos 4 ∷ []) pool 7) ≡ Trapped trap.Index
unfolding element code_of shapes pool
past_row = refl

below_row : exec element 9 (code_start 0 (negsuc 0 ∷ []) pool 7) ≡ Trapped trap.Index
unfolding element code_of shapes pool
below_row = refl

-- p = pm_new(..); p->v = d; return p->v;
made : Ir
made = code_of (New 1 1 false 1 ∷ Store (aim.Field 1 1 0 None) 0 1 ∷ Load 2 (aim.Field 1 1 0 None)
    ∷ Return 2 ∷ [])

made_row : exec made 9 (code_start 0 (pos 3 ∷ []) pool 7)
    ≡ Ended (record {
      root = pool.root;
      slots = Some (record { kind = 1; fields = pos 3 ∷ [] })
          ∷ None ∷ [];
    }) (pos 3) 7
unfolding made code_of shapes pool
made_row = refl

-- pm_free(p); return p->v;
late : Ir
late = code_of (New 1 1 false 1 ∷ Free 1 1 1 ∷ Load 2 (aim.Field 1 1 0 None) ∷ Return 2 ∷ [])

late_row : exec late 9 (code_start 0 (pos 3 ∷ []) pool 7) ≡ Trapped trap.Stale
unfolding late code_of shapes pool
late_row = refl

null_row : exec (code_of (Load 2 (aim.Field 1 1 0 None) ∷ [])) 9 (code_start 0 (pos 3 ∷ []) pool 7)
    ≡ Trapped trap.Null
unfolding code_of shapes pool
null_row = refl

-- return 1 / d;
divide_row : exec (code_of (Const 1 (pos 1) ∷ Bin op.Div 2 1 0 ∷ Return 2 ∷ [])) 9
    (code_start 0 (pos 0 ∷ []) pool 7) ≡ Trapped trap.Divide
unfolding code_of shapes pool
divide_row = refl

-- while (1) { }
spin_row : exec (code_of (Tick ∷ Const 1 (pos 1) ∷ Branch 1 4 ∷ Jump 0 ∷ [])) 30
    (code_start 0 (pos 0 ∷ []) pool 3) ≡ Trapped trap.Steps
unfolding code_of shapes pool
spin_row = refl

-- f(d) { if (d) return d + f(d + -1); return 7; }
again : Ir
again = code_of (Branch 0 6 ∷ Const 1 (negsuc 0) ∷ Bin op.Add 2 0 1 ∷ Tick ∷ Call 3 0 (2 ∷ [])
    ∷ Jump 8 ∷ Const 4 (pos 7) ∷ Return 4 ∷ Bin op.Add 5 0 3 ∷ Return 5 ∷ [])

again_row : exec again 60 (code_start 0 (pos 3 ∷ []) pool 5) ≡ Ended pool (pos 13) 2
unfolding again code_of shapes pool int_wrap
again_row = refl
