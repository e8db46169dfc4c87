-- A table to which no step adds has every derived fact.
use Rattle.std.proofs.Common.{◌≡◌, ℕ, Bool, true}
use Rattle.ir.specs.declared.function.Ir.{Ir}
use Rattle.ir.specs.declared.fact.Fact.{Fact}
use Rattle.ir.specs.declared.fact.Fact.TheVariants.{Here}
use Rattle.ir.specs.WellFormed.{IsWellFormed}
use Rattle.ir.specs.Derived.{Passes, Flows}
use Rattle.ir.specs.Derived.Passes.{starts, along, through, past}
use Rattle.ir.specs.Derived.Flows.{first, called, on, across, beside}
use Rattle.clobber_pass.specs.inside.Class.{Class}
use Rattle.clobber_pass.specs.inside.Told.{Matters}
use Rattle.clobber_pass.specs.inside.Calling.{IsCalled}
use Rattle.clobber_pass.specs.inside.Law.{TellsPasses, AllPass, TellsFlows}
use Rattle.clobber_pass.proofs.steps.Fits.{matters_origins, matters_at_call, matters_return}
use Rattle.clobber_pass.proofs.steps.Fits.{matters_stays}

module _ (ir : Ir) (well : IsWellFormed ir) (class : Class) where
  -- the origin of a fact that matters matters too
  pub matters_entry : {f o p : ℕ} {e b : Fact} → Passes ir.functions f o e p b
      → Matters ir.functions class f b → Matters ir.functions class f e
  matters_entry starts h = h
  matters_entry (along {f = f} {p = p} {a = a} {b = b} i d is to m) h =
      matters_entry d (matters_origins ir well class f p i a b is m h)
  matters_entry (through {f = f} {p = p} {g = g} {to = to} {args = args} {x = x} {y = y} {b = b} d
      call r ret same) h =
      matters_entry d (matters_at_call ir well class f p g to args x call
      (matters_entry r (matters_return ir well class f p g to args b y call h same)))
  matters_entry (past d call r ret same) h = matters_entry d h

  module _ (pass : ℕ → Fact → Fact → Bool) (told : (f : ℕ) → IsCalled ir.functions f → Fact → ℕ
      → Fact → Bool) (tells : TellsPasses ir.functions class pass told) where
    pub passes_told : {f p : ℕ} {e b : Fact} (c : IsCalled ir.functions f)
        → Passes ir.functions f 0 e p b → Matters ir.functions class f b → told f c e p b ≡ true
    passes_told c (starts {f = f} {e = e}) h = tells.begins f c e h
    passes_told c (along {f = f} {p = p} {q = q} {e = e} {a = a} {b = b} i d is to m) h =
        let ha = matters_origins ir well class f p i a b is m h in
        (tells.stays f c e (matters_entry d ha)).along p q i a b is to m h (passes_told c d ha)
    passes_told c (through {f = f} {p = p} {g = g} {q = q} {to = to} {args = args} {e = e} {x = x}
        {y = y} {b = b} d call r ret same) h =
        let hy = matters_return ir well class f p g to args b y call h same in
        let hx = matters_entry r hy in
        let hc = matters_at_call ir well class f p g to args x call hx in
        let cg : IsCalled ir.functions g = (f, p, to, args, call) in
        (tells.stays f c e (matters_entry d hc)).through p g to args x y b call hx h
        (tells.ends g cg q x y hx hy ret (passes_told cg r hy)) same (passes_told c d hc)
    passes_told c (past {f = f} {p = p} {g = g} {q = q} {to = to} {args = args} {e = e} {b = b} d
        call r ret same) h =
        let hh = matters_stays ir well class f g to args b h same in
        let cg : IsCalled ir.functions g = (f, p, to, args, call) in
        (tells.stays f c e (matters_entry d h)).past p g to args b call h
        (tells.ends g cg q Here Here hh hh ret (passes_told cg r hh)) same (passes_told c d h)

    pub all_pass : AllPass ir.functions class pass
    all_pass f q e y c h d ret = tells.ends f c q e y (matters_entry d h) h ret (passes_told c d h)

  module _ (pass : ℕ → Fact → Fact → Bool) (all : AllPass ir.functions class pass) (told : ℕ → ℕ
      → Fact → Bool) (tells : TellsFlows ir.functions class pass told) where
    pub flows_told : {f p : ℕ} {b : Fact} → Flows ir.functions f p b
        → Matters ir.functions class f b → told f p b ≡ true
    flows_told (first {f = f} {e = e} t s) h = tells.begins f e h t s
    flows_told (called {f = f} {p = p} {g = g} {to = to} {args = args} {x = x} d call) h =
        tells.enters f p g to args x call h
        (flows_told d (matters_at_call ir well class f p g to args x call h))
    flows_told (on {f = f} {p = p} {q = q} {a = a} {b = b} i d is to m) h =
        (tells.stays f).along p q i a b is to m h
        (flows_told d (matters_origins ir well class f p i a b is m h))
    flows_told (across {f = f} {p = p} {g = g} {q = q} {to = to} {args = args} {x = x} {y = y}
        {b = b} d call r ret same) h =
        let hy = matters_return ir well class f p g to args b y call h same in
        let hx = matters_entry r hy in
        (tells.stays f).through p g to args x y b call hx h
        (all g q x y (f, p, to, args, call) hy r ret) same
        (flows_told d (matters_at_call ir well class f p g to args x call hx))
    flows_told (beside {f = f} {p = p} {g = g} {q = q} {to = to} {args = args} {b = b} d call r
        ret same) h =
        let hh = matters_stays ir well class f g to args b h same in
        (tells.stays f).past p g to args b call h
        (all g q Here Here (f, p, to, args, call) hh r ret) same (flows_told d h)
