-- Each operation of C on numbers below 2^64 is the machine's on words.
use Rattle.std.proofs.Common.{◌≡◌, ℕ, ◌+◌, ◌-◌, ◌*◌, ◌/◌, ◌%◌, ◌^◌, ◌<◌, ◌≤◌, ℤ, pos, negsuc}
use Rattle.std.proofs.Common.{◌+ℤ◌, ◌-ℤ◌, ◌*ℤ◌, refl, sym, ◌∙◌, ap, arith, Bool, true, false, ltb}
use Rattle.std.proofs.Common.{Option, Some, None, div-le_self, lt_of_le_of_lt}
use Rattle.std.specs.Prelude.{FitsSigned, bit_and, bit_or, bit_xor, ◌==◌, not, nat_lt, nat_le}
use Rattle.std.specs.Prelude.{int_lt, int_le, if◌then◌else◌}
use Rattle.std.specs.Int.{w64, cast_signed, int_wrap}
use Rattle.std.proofs.Math.Nat.{mod-lt, mod-le, mod-eq_of_lt}
use Rattle.std.proofs.lemmas.Nat.{and_le_l, or_lt, xor_lt}
use Rattle.std.proofs.lemmas.Bool.{ltb-true, ltb-false}
use Rattle.std.proofs.lemmas.Int.{SFits-int_wrap, of_z-to_z, to_z-of_z}
use Rattle.std.proofs.lemmas.Int.{wrapping_add-bits, wrapping_sub-bits, wrapping_mul-bits}
use Rattle.nvm_base.specs.Operations.{unsigned, truth}
use Rattle.nvm_base.specs.Operations as word
use Rattle.nvm_base.specs.Applied.{applied}
use Rattle.nvm_base.specs.declared.op.BinOp.{BinOp}
use Rattle.nvm_base.specs.declared.op.BinOp.TheVariants.{Add, Sub, Mul, Div, Rem, Shl, Shr, And, Or}
use Rattle.nvm_base.specs.declared.op.BinOp.TheVariants.{Xor, Lt, Le, Eq, Ne, Ult, Ule, Udiv}
use Rattle.nvm_base.specs.declared.op.BinOp.TheVariants.{Urem, Ushr}
use Rattle.pm_machine.specs.Machine.{word_at}
use Rattle.c_fragment.specs.Meaning.{c_value, one_if}
use Rattle.c_fragment.specs.Translation.{operator_of}

pub unsigned_small : (a : ℤ) → FitsSigned w64 a → unsigned a < 2 ^ 64
unsigned_small (pos a) f = let h = f.sfits in omega arith
unsigned_small (negsuc a) f = omega arith

-- bits whose word is z are z modulo 2^64
from_bits : (x : ℕ) (z : ℤ) → x < 2 ^ 64 → cast_signed w64 x ≡ z → x ≡ unsigned z
from_bits x z small e = sym (of_z-to_z w64 x small) ∙ ap unsigned e

cast_fits : (x : ℕ) → x < 2 ^ 64 → FitsSigned w64 (cast_signed w64 x)
cast_fits x small = by (ltb x (2 ^ 63)) refl
  where
    by : (t : Bool) → ltb x (2 ^ 63) ≡ t → FitsSigned w64 (cast_signed w64 x)
    by true low = let below = ltb-true x (2 ^ 63) low in rw low (record { sfits = omega arith })
    by false high = let above = ltb-false x (2 ^ 63) high in
        rw high (record { sfits = omega arith })

module _ (a b : ℤ) (f : FitsSigned w64 a) (g : FitsSigned w64 b) where
  abbrev u : ℕ
  u = unsigned a

  abbrev v : ℕ
  v = unsigned b

  abbrev both : (ℤ → ℤ → ℤ) → ℤ
  both op = op (cast_signed w64 u) (cast_signed w64 v)

  -- the words of the bits are the words
  there : (op : ℤ → ℤ → ℤ) → both op ≡ op a b
  there op = ap (λ x. op x (cast_signed w64 v)) (to_z-of_z w64 a f)
      ∙ ap (λ x. op a x) (to_z-of_z w64 b g)

  pub add_same : (u + v) % 2 ^ 64 ≡ unsigned (word.add a b)
  add_same = from_bits _ _ (mod-lt (u + v) (omega arith))
      (wrapping_add-bits w64 u v (unsigned_small a f) (unsigned_small b g)
      ∙ there (λ x y. int_wrap w64 (x +ℤ y)))

  sub_same : (u + (2 ^ 64 - v)) % 2 ^ 64 ≡ unsigned (word.sub a b)
  sub_same = from_bits _ _ (mod-lt (u + (2 ^ 64 - v)) (omega arith))
      (wrapping_sub-bits w64 u v (unsigned_small a f) (unsigned_small b g)
      ∙ there (λ x y. int_wrap w64 (x -ℤ y)))

  mul_same : u * v % 2 ^ 64 ≡ unsigned (word.mul a b)
  mul_same = from_bits _ _ (mod-lt (u * v) (omega arith))
      (wrapping_mul-bits w64 u v (unsigned_small a f) (unsigned_small b g)
      ∙ there (λ x y. int_wrap w64 (x *ℤ y)))

  and_small : bit_and u v < 2 ^ 64
  and_small = let small = unsigned_small a f in omega (arith, small, and_le_l u v)

  or_small : bit_or u v < 2 ^ 64
  or_small = or_lt 64 u v (unsigned_small a f) (unsigned_small b g)

  xor_small : bit_xor u v < 2 ^ 64
  xor_small = xor_lt 64 u v (unsigned_small a f) (unsigned_small b g)

  truth_same : (t : Bool) → one_if t ≡ unsigned (truth t)
  truth_same true = refl
  truth_same false = refl

  -- a number below 2^64 is that of the word with its bits
  bits_same : (n : ℕ) → n < 2 ^ 64 → n ≡ unsigned (int_wrap w64 (pos n))
  unfolding int_wrap
  bits_same n small =
      sym (ap (λ (m : ℕ). unsigned (cast_signed w64 m)) (mod-eq_of_lt small)
      ∙ of_z-to_z w64 n small)

  unless_zero_same : (n : ℕ) → n < 2 ^ 64
      → (if v == 0 then 0 else n) ≡ unsigned (if v == 0 then pos 0 else int_wrap w64 (pos n))
  unless_zero_same n small = by (v == 0)
    where
      by : (t : Bool)
          → (if t then 0 else n) ≡ unsigned (if t then pos 0 else int_wrap w64 (pos n))
      by true = refl
      by false = bits_same n small

  pub operation_same : (op : BinOp) → c_value (operator_of op) u v ≡ unsigned (applied op a b)
  operation_same Add = add_same
  operation_same Sub = sub_same
  operation_same Mul = mul_same
  operation_same Div = ap unsigned (there (applied Div))
  operation_same Rem = ap unsigned (there (applied Rem))
  operation_same Shl = ap unsigned (there (applied Shl))
  operation_same Shr = ap unsigned (there (applied Shr))
  operation_same And = sym (of_z-to_z w64 (bit_and u v) and_small)
  operation_same Or = sym (of_z-to_z w64 (bit_or u v) or_small)
  operation_same Xor = sym (of_z-to_z w64 (bit_xor u v) xor_small)
  operation_same Lt = ap unsigned (there (applied Lt))
  operation_same Le = ap unsigned (there (applied Le))
  operation_same Eq = truth_same (u == v)
  operation_same Ne = truth_same (not (u == v))
  operation_same Ult = truth_same (nat_lt u v)
  operation_same Ule = truth_same (nat_le u v)
  operation_same Udiv =
      unless_zero_same (u / v) (lt_of_le_of_lt (div-le_self u v) (unsigned_small a f))
  operation_same Urem =
      unless_zero_same (u % v) (lt_of_le_of_lt (mod-le u v) (unsigned_small a f))
  operation_same Ushr = bits_same (u / 2 ^ (v % 64))
      (lt_of_le_of_lt (div-le_self u (2 ^ (v % 64))) (unsigned_small a f))

  truth_fits : (t : Bool) → FitsSigned w64 (truth t)
  truth_fits true = record { sfits = omega arith }
  truth_fits false = record { sfits = omega arith }

  zero_fits : (t : Bool) (x : ℤ) → FitsSigned w64 x → FitsSigned w64 (if t then pos 0 else x)
  zero_fits true x h = record { sfits = omega arith }
  zero_fits false x h = h

  pub applied_fits : (op : BinOp) → FitsSigned w64 (applied op a b)
  applied_fits Add = SFits-int_wrap w64 _
  applied_fits Sub = SFits-int_wrap w64 _
  applied_fits Mul = SFits-int_wrap w64 _
  applied_fits Div = zero_fits (unsigned b == 0) (word.div a b) (SFits-int_wrap w64 _)
  applied_fits Rem = zero_fits (unsigned b == 0) (word.rem a b) (SFits-int_wrap w64 _)
  applied_fits Shl = SFits-int_wrap w64 _
  applied_fits Shr = SFits-int_wrap w64 _
  applied_fits And = cast_fits (bit_and u v) and_small
  applied_fits Or = cast_fits (bit_or u v) or_small
  applied_fits Xor = cast_fits (bit_xor u v) xor_small
  applied_fits Lt = truth_fits (int_lt a b)
  applied_fits Le = truth_fits (int_le a b)
  applied_fits Eq = truth_fits (u == v)
  applied_fits Ne = truth_fits (not (u == v))
  applied_fits Ult = truth_fits (nat_lt u v)
  applied_fits Ule = truth_fits (nat_le u v)
  applied_fits Udiv = zero_fits (unsigned b == 0) (word.udiv a b) (SFits-int_wrap w64 _)
  applied_fits Urem = zero_fits (unsigned b == 0) (word.urem a b) (SFits-int_wrap w64 _)
  applied_fits Ushr = SFits-int_wrap w64 _

-- the heap word at a word is that at its number, since the heap is small
abbrev pub word_of : (H x : ℕ) → Option ℕ
word_of H x = if nat_lt x H then Some x else None

pub word_same : (H : ℕ) (y : ℤ) → H ≤ 2 ^ 63 → FitsSigned w64 y
    → word_at H y ≡ word_of H (unsigned y)
word_same H (pos k) small f = refl
word_same H (negsuc k) small f = by (nat_lt (unsigned (negsuc k)) H) refl
  where
    by : (t : Bool) → nat_lt (unsigned (negsuc k)) H ≡ t → None ≡ word_of H (unsigned (negsuc k))
    by true low = let h = f.sfits in
        let below = ltb-true (unsigned (negsuc k)) H low in absurd (omega arith)
    by false high = rw high refl
