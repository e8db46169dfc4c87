-- What a crash leaves is an image.
use Rattle.std.proofs.Common.{◌≡◌, inl, inr, ℕ, ◌/◌, ◌<◌, ◌≤◌, nat_lt, Bool, true, false, ℤ, List}
use Rattle.std.proofs.Common.{[], refl, ap, cond, sym, ◌∙◌, subst, ◌+◌, ◌*◌, arith, Option, Some}
use Rattle.std.proofs.Common.{None, pos}
use Rattle.std.specs.Prelude.{slice_index_or}
use Rattle.std.proofs.lemmas.Bool.{ltb-false, ltb-true, lt-ltb, le-ltb}
use Rattle.cache_model.specs.Cache.{Words, Memory, view}
use Rattle.cache_model.specs.Image.{IsVersion, IsImage}
use Rattle.file_pmem.specs.File.{Copies, FileLines, MayLeave, AmongCopies, IsCopy, AgreesAt}
use Rattle.file_pmem.specs.File.{HoldsWords}
use Rattle.file_pmem.specs.Mirror.{CoversCopies, IsHeld, MarksFit, Mirrors, IsMirror}
use Rattle.file_pmem.proofs.Lines.{newest_fenced}

-- what a crash leaves, and past the last line what the device has
whole : Memory → Words → Words
whole m left p = cond (nat_lt (p / 8) m.lines) (left p) ((m.cache (p / 8)).newest p)

whole_in : (m : Memory) (left : Words) (p : ℕ) → p / 8 < m.lines → whole m left p ≡ left p
unfolding whole
whole_in m left p lt =
    ap (λ (b : Bool). cond b (left p) ((m.cache (p / 8)).newest p)) (lt-ltb (p / 8) m.lines lt)

whole_out : (m : Memory) (left : Words) (p : ℕ) → m.lines ≤ p / 8
    → whole m left p ≡ (m.cache (p / 8)).newest p
unfolding whole
whole_out m left p le =
    ap (λ (b : Bool). cond b (left p) ((m.cache (p / 8)).newest p)) (le-ltb (p / 8) m.lines le)

abbrev OfLine : Memory → Words → ℕ → Type 0
OfLine m image l = (v : Words) × IsVersion (m.cache l) v × ((p : ℕ) → p / 8 ≡ l → image p ≡ v p)

line_in : (f : FileLines) (m : Memory) (left : Words) (l : ℕ) → l < m.lines → CoversCopies f m
    → MayLeave f m.lines left → OfLine m (whole m left) l
line_in f m left l lt covers leaves =
    let copy = leaves l lt in
    let held : IsHeld (m.cache l) l copy.0 = covers l lt copy.0 copy.1 in (
      held.0,
      held.1,
      λ p e. whole_in m left p (subst (λ (j : ℕ). j < m.lines) (sym e) lt)
          ∙ sym (copy.2 p e) ∙ held.2 p e,
    )

line_out : (m : Memory) (left : Words) (l : ℕ) → m.lines ≤ l → OfLine m (whole m left) l
line_out m left l le = (
  (m.cache l).newest,
  inl refl,
  λ p e. whole_out m left p (subst (λ (j : ℕ). m.lines ≤ j) (sym e) le)
      ∙ ap (λ (j : ℕ). (m.cache j).newest p) e,
)

line_of : (b : Bool) (f : FileLines) (m : Memory) (left : Words) (l : ℕ) → nat_lt l m.lines ≡ b
    → CoversCopies f m → MayLeave f m.lines left → OfLine m (whole m left) l
line_of true f m left l is covers leaves =
    line_in f m left l (ltb-true l m.lines is) covers leaves
line_of false f m left l is covers leaves = line_out m left l (ltb-false l m.lines is)

alone : (y : Copies) (v : List ℤ) → y.older ≡ [] → IsCopy y v → v ≡ y.newest
alone y v none (inl e) = e
alone y v none (inr h) = absurd (subst (λ (us : List (List ℤ)). AmongCopies us v) none h)

pub crash : (f : FileLines) (m : Memory) (left : Words) → CoversCopies f m
    → MayLeave f m.lines left →
    (image : Words) × IsImage m.cache image × ((p : ℕ) → p / 8 < m.lines → left p ≡ image p)
crash f m left covers leaves = (
  whole m left,
  λ l. line_of (nat_lt l m.lines) f m left l refl covers leaves,
  λ p lt. sym (whole_in m left p lt),
)

pub attach : (f : FileLines) (m : Memory) → ((l : ℕ) → (f l).older ≡ [])
    → ((l : ℕ) → l < m.lines → AgreesAt l (f l).newest (m.cache l).newest) → MarksFit m
    → Mirrors f m
attach f m settled same marks = record {
  covers = λ l lt v copy. (
    (m.cache l).newest,
    inl refl,
    subst (λ (x : List ℤ). AgreesAt l x (m.cache l).newest)
        (sym (alone (f l) v (settled l) copy)) (same l lt),
  );
  ahead = λ l lt. ((m.cache l).newest, newest_fenced (m.cache l), same l lt);
  marks = marks;
}

word_in : (l n p : ℕ) → l < n → p / 8 ≡ l → p < 8 * n
word_in l n p lt e =
    let place : p < 8 * (p / 8) + 8 = omega arith in
    let near : p < 8 * l + 8 = subst (λ (k : ℕ). p < 8 * k + 8) e place in
    omega arith

pub holds : (a : Option FileLines) (m : Memory) (words : List ℤ) → HoldsWords a m.lines words
    → ((p : ℕ) → p < 8 * m.lines → view m.cache p ≡ slice_index_or words p (pos 0)) → MarksFit m
    → IsMirror a m
unfolding view
holds None m words h same marks = tt
holds (Some f) m words h same marks = attach f m h.0
    (λ l lt p e. h.1 l lt p e ∙ sym (same p (word_in l m.lines p lt e))
    ∙ ap (λ (k : ℕ). (m.cache k).newest p) e)
    marks
