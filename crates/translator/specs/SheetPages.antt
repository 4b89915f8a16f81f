-- A page with the sheet of an accepted nest holds the sheet's bytes, and the place behind them is their number.
--
--   Writable                       operations that can all be written
--   page-then, last_on             where there is room for them, they stand on the page
--   sheet-writable                 the operations of a nest in range can all be written
--   AtFront                        bytes at the front of a page, and nothing behind them
--   sheet-page                     the page of an accepted nest
use Prim.Native.Nat.{ℕ, zero, suc, ◌+◌, ◌≤◌, ◌<◌}
use Rattle.std.specs.Prelude.{◌≡◌, refl, Bool, cond, ◌&&◌, length, get_or, take, eqb, leb, ℤ, pos, negsuc, nat_abs, ◌≤ℤ◌}
use Rattle.std.proofs.Common.{◌∙◌, ap, arith, add-zero, length-append}
use mathlib.Core.List.{List, [], ◌∷◌, ◌++◌, map, append_assoc, append-nil}
use Rattle.std.proofs.Math.Bool.{true, false}
use Rattle.std.proofs.lemmas.List.Edits.{sets, sets-eq}
use Rattle.std.proofs.Math.Seq.{length-sets, take-append_seam}
use Rattle.std.specs.Int.Signed.{non_neg}
use borrow.Author.Tests.{le-leb, le-ltb, ne_eqb}
use Rattle.codec.specs.Operations.{operation_in_range, operation_bytes, calculation_in_range, calculation_bytes, action_code, is_base, bytes_of_all}
use Rattle.codec.specs.BytewiseLaws.{all_append}
use Rattle.codec.specs.Writing.{written_to, bytes_after}
use Rattle.codec.specs.declared.header.Kind.{Kind}
use Rattle.codec.specs.declared.header.Kind.TheVariants.{Load, Store}
use Rattle.codec.specs.declared.operation.Operation.{Operation}
use Rattle.codec.specs.declared.operation.Operation.TheVariants as op
use Rattle.codec.specs.declared.operation.Calculation.{Calculation}
use Rattle.engine.specs.Addresses.{no_elements}
use Rattle.engine.specs.AllowedLaws.{test_plain}
use Rattle.engine.proofs.ByteSteps.{sets-append}
use Rattle.translator.specs.Fields.{term_of}
use Rattle.translator.specs.NestSheets.{modifier_of, modifiers_at, modifier_op, dimension_of, dimension_ops, stream_ops, sheet_ops, run_op, calculation_of, sheet_of}
use Rattle.translator.specs.Acceptance.{AccessInRange, InRange, Accepted}
use Rattle.translator.specs.NestWritten.{action-small}
use Rattle.translator.specs.KeptRules.{coupling-in}
use Rattle.translator.specs.RoomLaws.{sheet-most}
use Rattle.translator.specs.Pages.{Blank, put_one, put_all, put_calculation, SheetPage}
use Rattle.translator.specs.declared.nest.Access.{Access}
use Rattle.translator.specs.declared.nest.Nest.{Nest}
use Rattle.translator.specs.declared.write.Page.{Page}

-- ---- onto a page

-- a page with bytes more, at its place
abbrev on_page : List ℕ → Page → Page
on_page bytes p = record { bytes = sets p.bytes p.at bytes; at = p.at + length bytes }

-- a page has room for n bytes more
abbrev Room : ℕ → Page → Type 0
Room n p = p.at + n ≤ length p.bytes

-- an operation in range for which there is room stands on the page
put_on : (o : Operation) (p : Page) → operation_in_range o ≡ true → Room (length (operation_bytes 0 o)) p → put_one o p ≡ on_page (operation_bytes 0 o) p
unfolding put_one written_to bytes_after
put_on o p e h = rw (e, le-leb (p.at + length (operation_bytes 0 o)) (length p.bytes) h)

-- a calculation in range for which there is room stands on the page
last_on : (c : Calculation) (p : Page) → calculation_in_range c ≡ true → Room (length (calculation_bytes c)) p → put_calculation c p ≡ on_page (calculation_bytes c) p
unfolding put_calculation written_to bytes_after
last_on c p e h = rw (e, le-leb (p.at + length (calculation_bytes c)) (length p.bytes) h)

-- operations that can all be written
unfoldable pub Writable : List Operation → Type 0
Writable [] = Unit {0}
Writable (o ∷ os) = (operation_in_range o ≡ true) × Writable os

-- bytes on a page, then others, are both on it, one behind the other
then-on : (a b : List ℕ) (p : Page) → on_page b (on_page a p) ≡ on_page (a ++ b) p
then-on a b p =
    let e : p.at + length a + length b ≡ p.at + (length a + length b) = omega arith in
    rw (sets-append p.bytes p.at a b, length-append a b, e)

-- operations that can all be written, and for which there is room, stand on the page
page-then : (os : List Operation) (p : Page) → Writable os → Room (length (bytes_of_all os)) p → put_all os p ≡ on_page (bytes_of_all os) p
unfolding put_all Writable bytes_of_all
page-then [] p w h = rw (add-zero p.at)
page-then (o ∷ os) p w h =
    let a = operation_bytes 0 o in
    let l : length (a ++ bytes_of_all os) ≡ length a + length (bytes_of_all os) = length-append a (bytes_of_all os) in
    ap (put_all os) (put_on o p w.0 (omega arith))
    ∙ page-then os (on_page a p) w.1 (rw (length-sets p.bytes p.at a) (omega arith))
    ∙ then-on a (bytes_of_all os) p

-- ---- the operations of a nest

-- the operations of two lists can all be written if those of each can
writable_then : (os ps : List Operation) → Writable os → Writable ps → Writable (os ++ ps)
unfolding Writable
writable_then [] ps v w = w
writable_then (o ∷ os) ps v w = (v.0, writable_then os ps v.1 w)

-- "base address | 0 to 1,048,576": such a base is in range
base-in : (z : ℤ) → pos 0 ≤ℤ z → z ≤ℤ pos 1048576 → (non_neg z && is_base (nat_abs z)) ≡ true
base-in (pos n) h k = (test_plain (leb n 1048576)).1 k.le
base-in (negsuc n) h k = absurd h.le

module _ (m : Nest) (r : InRange m) (register : ℕ) (small : register ≤ 31) where
  -- the modifier of a term can be written
  term_in : (d t : ℕ) → t < d → d < m.loops → operation_in_range (modifier_op register (modifier_of m d t)) ≡ true
  unfolding operation_in_range
  term_in d t h k =
      rw
      (le-leb register 31 small, le-leb t 6 (omega (arith, r.loops-most)), le-leb (nat_abs (term_of m t d)) 1048576 (r.terms t d h k))

  -- the modifiers of a dimension can all be written
  terms-in : (d t n : ℕ) → t + n ≤ d → d < m.loops → Writable (map (modifier_op register) (modifiers_at m d t n))
  unfolding Writable modifiers_at
  terms-in d t zero h k = tt
  terms-in d t (suc n) h k = by (eqb (nat_abs (term_of m t d)) 0) (terms-in d (suc t) n (omega arith) k)
    where
      by : (b : Bool) → Writable (map (modifier_op register) (modifiers_at m d (suc t) n))
          → Writable (map (modifier_op register) (cond b (modifiers_at m d (suc t) n) (modifier_of m d t ∷ modifiers_at m d (suc t) n)))
      by true w = w
      by false w = (term_in d t (omega arith) k, w)

  module _ (a : Access) (q : AccessInRange m.loops a) where
    -- a dimension can be written
    dimension-in : (d : ℕ) → d < m.loops → operation_in_range (op.Dimension (dimension_of m register a d)) ≡ true
    unfolding operation_in_range
    dimension-in d h =
        rw (
          le-leb register 31 small,
          le-leb (get_or m.counts d 0) 4096 (r.counts d h),
          le-leb (nat_abs (get_or a.strides d no_elements).0) 1048576 (q.strides d h),
        )

    -- the dimensions with their modifiers can all be written
    dimensions-in : (d n : ℕ) → d + n ≤ m.loops → Writable (dimension_ops m register a d n)
    unfolding Writable dimension_ops
    dimensions-in d zero h = tt
    dimensions-in d (suc n) h = (
      dimension-in d (omega arith),
      writable_then (map (modifier_op register) (modifiers_at m d 0 d)) (dimension_ops m register a (suc d) n) (terms-in d 0 d (omega arith) (omega arith))
          (dimensions-in (suc d) n (omega arith)),
    )

    -- the operations of a stream can all be written
    stream-in : (kind : Kind) → Writable (stream_ops m register kind a)
    unfolding Writable operation_in_range
    stream-in kind = (
      rw
          (le-leb register 31 small, coupling-in m.coupled (omega (arith, r.coupled, r.loops-most)), base-in a.base.0 q.base-least q.base-most),
      writable_then (dimension_ops m register a 0 m.loops) (op.End register ∷ []) (dimensions-in 0 m.loops (omega arith)) (le-leb register 31 small, tt),
    )

-- the operations of a nest in range can all be written
pub sheet-writable : (m : Nest) → InRange m → Writable (sheet_ops m ++ (run_op ∷ []))
unfolding Writable operation_in_range
sheet-writable m r =
    writable_then (sheet_ops m) (run_op ∷ [])
    (writable_then (stream_ops m 1 Load m.first) (stream_ops m 2 Load m.second ++ stream_ops m 3 Store m.destination)
    (stream-in m r 1 (omega arith) m.first r.first Load)
    (writable_then (stream_ops m 2 Load m.second) (stream_ops m 3 Store m.destination) (stream-in m r 2 (omega arith) m.second r.second Load)
    (stream-in m r 3 (omega arith) m.destination r.destination Store)))
    (refl, tt)

-- ---- the page

-- bytes that stand at the front of a page, the place behind them being their number
pub record AtFront (p : Page) (bytes : List ℕ) : Type 0 where
  pub behind : p.at ≡ length bytes
  pub front : take (length bytes) p.bytes ≡ bytes
  pub fits : length bytes ≤ 1024

-- bytes on a blank page
blank-on : (b : Page) (bytes : List ℕ) → Blank b → length bytes ≤ 1024 → AtFront (on_page bytes b) bytes
blank-on b bytes e h = record {
  behind = rw e.start (omega arith);
  front = rw (e.start, sets-eq bytes b.bytes 0 (omega (arith, e.long))) (take-append_seam bytes _);
  fits = h;
}

-- the calculation of a nest in range can be written: it is no copy
calculation-in : (m : Nest) → InRange m → calculation_in_range (calculation_of m) ≡ true
calculation-in m r = rw (ne_eqb (action_code m.action) 0 (λ e. omega (arith, r.operation)), le-ltb 7 (action_code m.action) (action-small m.action))

-- the page of an accepted nest
module _ (m : Nest) (p : Page) (a : Accepted m) (s : SheetPage m p) where
  -- the bytes of all operations, the run the last of them
  abbrev body : List ℕ
  body = bytes_of_all (sheet_ops m ++ (run_op ∷ []))

  -- the bytes of the calculation
  abbrev last : List ℕ
  last = calculation_bytes (calculation_of m)

  -- together they are the sheet
  sheet-is : body ++ last ≡ sheet_of m
  unfolding sheet_of bytes_of_all
  sheet-is =
      rw (all_append (sheet_ops m) (run_op ∷ []), append-nil (operation_bytes 0 run_op))
      (append_assoc (bytes_of_all (sheet_ops m)) (operation_bytes 0 run_op) last)

  -- together they are at most 1,024
  short : length body + length last ≤ 1024
  short = omega (arith, sheet-most m a.range.loops-most a.few, ap length sheet-is, length-append body last)

  -- the page is a blank one with the sheet's bytes on it
  sheet-on : p ≡ on_page (sheet_of m) s.blank
  sheet-on =
      let b = s.blank in
      let e = s.empty in
      s.written
      ∙ ap (put_calculation (calculation_of m)) (page-then (sheet_ops m ++ (run_op ∷ [])) b (sheet-writable m a.range) (omega (arith, e.start, e.long, short)))
      ∙ last_on (calculation_of m) (on_page body b) (calculation-in m a.range)
      (rw (length-sets b.bytes b.at body) (omega (arith, e.start, e.long, short)))
      ∙ then-on body last b
      ∙ ap (λ l. on_page l b) sheet-is

  -- it holds the sheet's bytes
  pub sheet-page : AtFront p (sheet_of m)
  sheet-page = rw sheet-on (blank-on s.blank (sheet_of m) s.empty (omega (arith, sheet-most m a.range.loops-most a.few)))
