-- The words of a file, read line after line.
use Rattle.std.proofs.Common.{◌≡◌, ⊎_elim, ℕ, ◌+◌, ◌*◌, ◌/◌, ◌%◌, ◌<◌, List, [], ◌++◌, ℤ}
use Rattle.std.proofs.Common.{pos, ap, sym, ◌∙◌, subst, arith, length, get_or, Option, Some, None}
use Rattle.std.proofs.lemmas.Bool.{cases_eq}
use Rattle.std.proofs.lemmas.List.{get_or_append_left, get_or-append-add}
use Rattle.file_pmem.specs.File.{Copies, FileLines, AgreesAt, StaysFile, ReadsFile, HoldsWords}
use Rattle.file_pmem.specs.File.{SyncsFile, HoldsNewest}
use Rattle.file_pmem.specs.inside.Reading.{KeepsNewest}

-- the first n lines were read, and nothing older is left
pub read_none : (a b : Option FileLines) → SyncsFile a b → HoldsWords b 0 []
read_none None None is = tt
read_none (Some f) (Some g) is =
    (λ l. ap (λ (y : Copies). y.older) (is l), λ l lt. absurd (let h : ⊥ = omega arith in h))
read_none None (Some g) is = absurd is
read_none (Some f) None is = absurd is

line_read : (f : FileLines) (n : ℕ) (ws v : List ℤ) → length ws ≡ 8 * n
    → ((l : ℕ) → l < n → AgreesAt l (f l).newest (λ p. get_or ws p (pos 0))) → v ≡ (f n).newest
    → (l : ℕ) → l < n + 1 → AgreesAt l (f l).newest (λ p. get_or (ws ++ v) p (pos 0))
line_read f n ws v len h is l lt p e = ⊎_elim
    (λ (here : l ≡ n).
    let q : 8 * (p / 8) + p % 8 ≡ p = omega arith in
    let at : p ≡ length ws + p % 8 =
    sym q ∙ ap (λ (k : ℕ). 8 * k + p % 8) (e ∙ here) ∙ ap (λ (k : ℕ). k + p % 8) (sym len) in
    ap (λ (k : ℕ). get_or (f k).newest (p % 8) (pos 0)) here
    ∙ ap (λ (x : List ℤ). get_or x (p % 8) (pos 0)) (sym is)
    ∙ sym (get_or-append-add ws v (p % 8) (pos 0))
    ∙ ap (λ (k : ℕ). get_or (ws ++ v) k (pos 0)) (sym at))
    (λ (other : l ≡ n → ⊥).
    let before : p / 8 < n = subst (λ (k : ℕ). k < n) (sym e) (omega arith) in
    h l (omega arith) p e ∙ sym (get_or_append_left ws v (pos 0) p (omega (arith, before, len))))
    (cases_eq l n)

pub read_line_more : (a b : Option FileLines) (n : ℕ) (ws v : List ℤ) → length ws ≡ 8 * n
    → ReadsFile a n v → StaysFile a b → HoldsWords a n ws → HoldsWords b (n + 1) (ws ++ v)
read_line_more None None n ws v len is stays h = tt
read_line_more (Some f) (Some g) n ws v len is stays h = (
  λ l. ap (λ (y : Copies). y.older) (stays l) ∙ h.0 l,
  λ l lt. subst (λ (y : Copies). AgreesAt l y.newest (λ p. get_or (ws ++ v) p (pos 0)))
      (sym (stays l)) (line_read f n ws v len h.1 is l lt),
)
read_line_more None (Some g) n ws v len is stays h = absurd stays
read_line_more (Some f) None n ws v len is stays h = absurd stays

-- a sync and a read leave the newest copies

pub newest_synced : (a b : Option FileLines) → SyncsFile a b → KeepsNewest a b
newest_synced None None is = tt
newest_synced (Some f) (Some g) is = λ k. ap (λ (y : Copies). y.newest) (is k)
newest_synced None (Some g) is = absurd is
newest_synced (Some f) None is = absurd is

pub newest_stays : (a b c : Option FileLines) → StaysFile b c → KeepsNewest a b → KeepsNewest a c
newest_stays None None None is h = tt
newest_stays (Some f) (Some g) (Some k) is h =
    λ l. ap (λ (y : Copies). y.newest) (is l) ∙ h l
newest_stays None None (Some k) is h = absurd is
newest_stays (Some f) (Some g) None is h = absurd is
newest_stays None (Some g) c is h = absurd h
newest_stays (Some f) None c is h = absurd h

pub newest_held : (a b : Option FileLines) (n : ℕ) (ws : List ℤ) → KeepsNewest a b
    → HoldsWords b n ws → HoldsNewest a n ws
newest_held None b n ws is h = tt
newest_held (Some f) None n ws is h = absurd is
newest_held (Some f) (Some g) n ws is h = λ l lt.
    subst (λ (x : List ℤ). AgreesAt l x (λ p. get_or ws p (pos 0))) (is l) (h.1 l lt)

pub ruleset reading =
    (read_none, read_line_more, newest_synced, newest_stays, newest_held)
