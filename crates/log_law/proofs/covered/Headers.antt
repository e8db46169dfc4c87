-- Each store to a header comes from a new or a free.
use Rattle.std.proofs.Common.{◌≡◌, ℕ, zero, suc, ℤ, pos, true, false, List, [], ◌∷◌, ◌++◌, Option}
use Rattle.std.proofs.Common.{None, Some, Result, Ok, Err, refl, subst, inl, inr}
use mathlib.Core.Logic.{◌⊎◌}
use Rattle.pool_map.specs.declared.trap.TrapKind.{TrapKind}
use Rattle.pool_map.specs.PoolFits.{words_of}
use Rattle.pool_map.specs.PoolMap.{PoolMap, least_free}
use Rattle.ir.specs.declared.instruction.Instruction.{Instruction}
use Rattle.ir.specs.declared.instruction.Instruction.TheVariants.{Const, Copy, Bin, Jump, Branch}
use Rattle.ir.specs.declared.instruction.Instruction.TheVariants.{Load, Store, New, Free, Call}
use Rattle.ir.specs.declared.instruction.Instruction.TheVariants.{Return, Tick, Trap, Log}
use Rattle.ir.specs.declared.function.Ir.{Ir}
use Rattle.ir.specs.declared.function.IrFunction.{IrFunction}
use Rattle.ir.specs.declared.site.Site.{Site}
use Rattle.ir.specs.Places.{instruction_at}
use Rattle.ir.specs.Clobber.{IsLogged, WritesHeader}
use Rattle.code_meaning.specs.Code.{CodeState, Here, Move, Goes, Ends, Spot, register_at}
use Rattle.code_meaning.specs.Code.{instruction_step, spot_of, slot_of, base_in, index_in}
use Rattle.code_meaning.specs.Code.{fields_of}
use Rattle.code_meaning.specs.Deeds.{Deed, Reads, Writes, Heads, if_ok, zeros, site, deeds_new}
use Rattle.code_meaning.specs.Deeds.{deeds_at, deeds_of, deeds_on, deeds}
use Rattle.log_law.specs.covered.Covered.{StoresHeader}
use Rattle.log_law.specs.covered.Law.{HeaderLaw}

header_append : (ds es : List Deed) (a : Site) → StoresHeader (ds ++ es) a → StoresHeader ds a
    ⊎ StoresHeader es a
header_append [] es a h = inr h
header_append (Reads s ∷ ds) es a h = header_append ds es a h
header_append (Writes b s v ∷ ds) es a h = header_append ds es a h
header_append (Heads b s v ∷ ds) es a (inl e) = inl (inl e)
header_append (Heads b s v ∷ ds) es a (inr h) =
    elim (header_append ds es a h) [ inl g ↦ inl (inr g) | inr g ↦ inr g ]

header_zeros : (b : Site) (s i n : ℕ) (a : Site) → StoresHeader (zeros b s i n) a → ⊥
header_zeros b s i zero a h = h
header_zeros b s i (suc n) a h = header_zeros b s (suc i) n a h

header_logged : (functions : List IrFunction) (f p : ℕ) (a : Site) → WritesHeader functions f p
    → site f p false ≡ a → IsLogged functions a
header_logged functions f p a is e = subst (λ b. IsLogged functions b) e (inr is)

header_new : (functions : List IrFunction) (f p kind n : ℕ) (o : Option ℕ) (a : Site)
    → WritesHeader functions f p → StoresHeader (deeds_new f p kind n o) a → IsLogged functions a
header_new functions f p kind n None a is h = absurd h
header_new functions f p kind n (Some s) a is (inl e) = header_logged functions f p a is e
header_new functions f p kind n (Some s) a is (inr h) =
    absurd (header_zeros (site f p true) s 0 n a h)

header_free : (functions : List IrFunction) (f p : ℕ) (r : Result ℕ TrapKind) (a : Site)
    → WritesHeader functions f p →
    StoresHeader (if_ok r (λ s. Heads (site f p false) s (pos 0) ∷ []))
    a → IsLogged functions a
header_free functions f p (Err e) a is h = absurd h
header_free functions f p (Ok s) a is (inl e) = header_logged functions f p a is e
header_free functions f p (Ok s) a is (inr h) = absurd h

header_load : (r : Result Spot TrapKind) (a : Site) → StoresHeader (if_ok r (λ s. Reads s ∷ [])) a
    → ⊥
header_load (Err e) a h = h
header_load (Ok s) a h = h

header_store : (r : Result Spot TrapKind) (b : Site) (v : ℤ) (a : Site)
    → StoresHeader (if_ok r (λ s. Writes b s v ∷ [])) a → ⊥
header_store (Err e) b v a h = h
header_store (Ok s) b v a h = h

header_at : (ir : Ir) (f p : ℕ) (regs : List ℤ) (w : PoolMap) (o : Option Instruction) (a : Site)
    → instruction_at ir.functions f p ≡ o → StoresHeader (deeds_at ir.shapes f p regs w o) a
    → IsLogged ir.functions a
header_at ir f p regs w None a is h = absurd h
header_at ir f p regs w (Some (New to kind log_fill line)) a is h =
    header_new ir.functions f p kind (words_of (fields_of ir.shapes kind)) (least_free w) a
    (inl (to, kind, log_fill, line, is)) h
header_at ir f p regs w (Some (Free from kind line)) a is h =
    header_free ir.functions f p (slot_of w kind (register_at regs from)) a
    (inr (from, kind, line, is)) h
header_at ir f p regs w (Some (Load to x)) a is h =
    absurd (header_load (spot_of ir.shapes w x (base_in regs x) (index_in regs x)) a h)
header_at ir f p regs w (Some (Store x from line)) a is h =
    absurd (header_store (spot_of ir.shapes w x (base_in regs x) (index_in regs x)) (site f p false)
    (register_at regs from) a h)
header_at ir f p regs w (Some (Const to v)) a is h = absurd h
header_at ir f p regs w (Some (Copy to from)) a is h = absurd h
header_at ir f p regs w (Some (Bin op to left right)) a is h = absurd h
header_at ir f p regs w (Some (Jump place)) a is h = absurd h
header_at ir f p regs w (Some (Branch on place)) a is h = absurd h
header_at ir f p regs w (Some (Call to g args)) a is h = absurd h
header_at ir f p regs w (Some (Return from)) a is h = absurd h
header_at ir f p regs w (Some Tick) a is h = absurd h
header_at ir f p regs w (Some (Trap kind)) a is h = absurd h
header_at ir f p regs w (Some (Log x)) a is h = absurd h

header_of : (ir : Ir) (c : CodeState) (a : Site) → StoresHeader (deeds_of ir c) a
    → IsLogged ir.functions a
header_of ir (Here f p regs below w t) a h =
    header_at ir f p regs w (instruction_at ir.functions f p) a refl h

header_on : (ir : Ir) (d : CodeState → List Deed) (m : Move) (a : Site)
    → ((c : CodeState) → StoresHeader (d c) a → IsLogged ir.functions a)
    → StoresHeader (deeds_on d m) a → IsLogged ir.functions a
header_on ir d (Goes c) a later h = later c h
header_on ir d (Ends e) a later h = absurd h

pub headers : HeaderLaw
headers ir zero c a h = absurd h
headers ir (suc k) c a h =
    elim (header_append (deeds_of ir c) (deeds_on (deeds ir k) (instruction_step ir c)) a h) [
      | inl now ↦ header_of ir c a now
      | inr rest ↦ header_on ir (deeds ir k) (instruction_step ir c) a
          (λ e g. headers ir k e a g) rest
    ]
