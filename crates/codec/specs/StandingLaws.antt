-- Laws of bytes that stand in a sheet.
--
--   stands-none                no bytes
--   stands-split               what is before and what is behind them
--   stands-front, stands-back  bytes in two parts
--   stands-cut                 in a sheet that is cut behind them, the same stand
--   stands-all, all-stand      a sheet that is such bytes from its first to its last
use Rattle.std.specs.Prelude.{ℕ, ◌+◌, ◌-◌, ◌≤◌, ◌≡◌, refl, List, [], ◌++◌, length, take, drop}
use Rattle.std.proofs.Common.{sym, ◌∙◌, ap, subst, append_assoc, arith, take-append-drop, length-drop, length-append, drop-drop, drop_at, length-take-le}
use Rattle.std.proofs.Math.Seq.{take-append_seam, take-length}
use Rattle.std.proofs.lemmas.List.{take-append-le, drop-append-le}
use Rattle.codec.specs.NumberLaws.{Stands}

-- no byte stands anywhere
pub stands-none : (s : List ℕ) (at : ℕ) → at ≤ length s → Stands s at [] at
stands-none s at h = let z : at - at ≡ 0 = omega arith in record { bytes = rw z; behind = omega arith; within = h }

-- bytes that stand in a sheet, between what is before and what is behind them
pub stands-split : {s l : List ℕ} {at to : ℕ} → Stands s at l to → (s ≡ take at s ++ (l ++ drop to s)) × (length (take at s) ≡ at) × (length (take at s ++ l) ≡ to)
stands-split {s} {l} {at} {to} h =
    let e : at + (to - at) ≡ to = omega (arith, h.behind) in
    let back : drop to s ≡ drop (to - at) (drop at s) = sym (drop-drop (to - at) at s ∙ ap (λ k. drop k s) e) in
    let all : take at s ++ (l ++ drop to s) ≡ s = rw (← h.bytes, back, take-append-drop, take-append-drop) in
    let front : length (take at s) ≡ at = length-take-le at s (omega (arith, h.behind, h.within)) in
    (sym all, front, omega (arith, length-append (take at s) l, front, h.behind))

-- the reverse
stands-between : (s pre l post : List ℕ) (at to : ℕ) → s ≡ pre ++ (l ++ post) → length pre ≡ at → to ≡ at + length l → Stands s at l to
stands-between s pre l post at to e f g =
    let z : to - at ≡ length l = omega arith in
    record {
      bytes = rw (z, e, drop_at pre (l ++ post) at f, take-append_seam l post);
      behind = g;
      within = rw e (omega (arith, length-append pre (l ++ post), length-append l post));
    }

-- what stands as one stands side by side: the first part
pub stands-front : (s l k : List ℕ) (at to : ℕ) → Stands s at (l ++ k) to → Stands s at l (at + length l)
stands-front s l k at to h =
    let q = stands-split h in
    stands-between s (take at s) l (k ++ drop to s) at (at + length l) (q.0 ∙ simp append_assoc) q.1 refl

-- the second part
pub stands-back : (s l k : List ℕ) (at to : ℕ) → Stands s at (l ++ k) to → Stands s (at + length l) k to
stands-back s l k at to h =
    let q = stands-split h in
    stands-between s (take at s ++ l) k (drop to s) (at + length l) to (q.0 ∙ simp append_assoc)
    (omega (arith, length-append (take at s) l, q.1))
    (omega (arith, length-append l k, h.behind))

-- what stands in the front part of a sheet stands in that part
stands-part : (u v l : List ℕ) (at to : ℕ) → Stands (u ++ v) at l to → to ≤ length u → Stands u at l to
stands-part u v l at to h k = record {
  bytes =
      sym (take-append-le (to - at) (drop at u) v (omega (arith, length-drop at u)))
      ∙ ap (take (to - at)) (sym (drop-append-le at u v (omega (arith, h.behind))))
      ∙ h.bytes;
  behind = h.behind;
  within = k;
}

-- what stands before a place stands in the sheet cut there
pub stands-cut : (s : List ℕ) (cut : ℕ) (l : List ℕ) (at to : ℕ) → cut ≤ length s → to ≤ cut → Stands s at l to → Stands (take cut s) at l to
stands-cut s cut l at to h k w =
    let e : length (take cut s) ≡ cut = length-take-le cut s h in
    stands-part (take cut s) (drop cut s) l at to (subst (λ t. Stands t at l to) (sym (take-append-drop cut s)) w) (omega arith)

-- what stands from the first byte to the last is the sheet
pub stands-all : (s l : List ℕ) → Stands s 0 l (length s) → s ≡ l
stands-all s l h = let z : length s - 0 ≡ length s = omega arith in sym (rw z (take-length s)) ∙ h.bytes

-- bytes that are the sheet stand from its first byte to its last
pub all-stand : (s l : List ℕ) → s ≡ l → Stands s 0 l (length s)
all-stand s l e =
    let z : length s - 0 ≡ length s = omega arith in
    record { bytes = ap (λ n. take n s) z ∙ take-length s ∙ e; behind = omega (arith, ap length e); within = omega arith }
