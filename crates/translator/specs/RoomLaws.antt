-- The sheet of an accepted nest, and its length.
--
--   number-most, number_small     a number has at most five bytes, one below 128 has one
--   sheet-most                    a sheet has at most 559 bytes
use Prim.Native.Nat.{ℕ, zero, suc, ◌+◌, ◌*◌, ◌%◌, ◌/◌, ◌≤◌, ◌<◌}
use Rattle.std.specs.Prelude.{◌≡◌, Bool, cond, get_or, ltb, eqb, nat_abs}
use Rattle.std.proofs.Common.{ap}
use mathlib.Core.List.{List, [], ◌∷◌, ◌++◌, map}
use Rattle.std.proofs.Math.Bool.{true, false}
use native.Mathlib.Omega.{arith}
use Rattle.std.proofs.Math.ListN.{length, length-append}
use Rattle.codec.specs.Numbers.{groups_of, number_bytes, unsigned_of}
use Rattle.codec.specs.NumberLaws.{last-group}
use Rattle.codec.specs.Headers.{word_of}
use Rattle.codec.specs.Operations.{operation_bytes, calculation_bytes, behaviour_code, action_code, bytes_of_all}
use Rattle.codec.specs.declared.header.Kind.{Kind}
use Rattle.codec.specs.declared.header.Kind.TheVariants.{Load, Store}
use Rattle.codec.specs.declared.operation.Behaviour.{Behaviour}
use Rattle.codec.specs.declared.operation.Behaviour.TheVariants.{Add, Subtract}
use Rattle.codec.specs.declared.operation.Operation.{Operation}
use Rattle.codec.specs.declared.operation.Operation.TheVariants as op
use Rattle.engine.specs.Addresses.{no_elements}
use Rattle.translator.specs.Fields.{term_of}
use Rattle.translator.specs.NestRules.{nonzero_of}
use Rattle.translator.specs.ModifierLaws.{modifiers-count}
use Rattle.translator.specs.NestSheets.{behaviour_of, modifier_of, modifiers_at, modifiers_from, modifiers_of, header_for, dimension_of, modifier_op, dimension_ops, stream_ops, sheet_ops, run_op, calculation_of, sheet_of}
use Rattle.translator.specs.NestWritten.{action-small}
use Rattle.translator.specs.declared.nest.Access.{Access}
use Rattle.translator.specs.declared.nest.Nest.{Nest}

-- ---- numbers

-- of n + 1 groups at the most
groups-most : (n v : ℕ) → length (groups_of n v) ≤ suc n
unfolding groups_of
groups-most zero v = omega arith
groups-most (suc n) v = go (ltb v 128) (groups-most n (v / 128))
  where
    go : (b : Bool) → length (groups_of n (v / 128)) ≤ suc n → length (cond b (v ∷ []) ((v % 128 + 128) ∷ groups_of n (v / 128))) ≤ suc (suc n)
    go true h = omega arith
    go false h = omega arith

-- "At most five groups"
pub number-most : (v : ℕ) → length (number_bytes v) ≤ 5
number-most v = groups-most 4 v

-- one group
pub number_small : (v : ℕ) → v < 128 → length (number_bytes v) ≡ 1
number_small v h = ap length (last-group 4 v h)

-- ---- operations

-- the bytes of operations joined
bytes-append : (xs ys : List Operation) → length (bytes_of_all (xs ++ ys)) ≡ length (bytes_of_all xs) + length (bytes_of_all ys)
unfolding bytes_of_all
bytes-append [] ys = omega arith
bytes-append (x ∷ xs) ys =
    omega (arith, length-append (operation_bytes 0 x) (bytes_of_all (xs ++ ys)), length-append (operation_bytes 0 x) (bytes_of_all xs), bytes-append xs ys)

-- behaviours have small codes
behaviour-small : (b : Behaviour) → behaviour_code b < 128
behaviour-small Add = omega arith
behaviour-small Subtract = omega arith

module _ (m : Nest) (register : ℕ) (h : register < 128) where
  -- a modifier has at most ten bytes
  modifier-most : (o t : ℕ) → t < 128 → length (operation_bytes 0 (modifier_op register (modifier_of m o t))) ≤ 10
  unfolding operation_bytes
  modifier-most o t l =
      simp length-append
      (omega (arith, number_small 3 (omega arith), number_small register h, number_small t l, number_small 0 (omega arith), number_small (behaviour_code (behaviour_of (term_of m t o))) (behaviour-small (behaviour_of (term_of m t o))), number-most (nat_abs (term_of m t o))))

  -- the modifiers of a dimension
  modifiers-most : (o t n : ℕ) → t + n ≤ 7
      → length (bytes_of_all (map (modifier_op register) (modifiers_at m o t n))) ≤ 10 * length (modifiers_at m o t n)
  unfolding bytes_of_all modifiers_at
  modifiers-most o t zero l = omega arith
  modifiers-most o t (suc n) l = go (eqb (nat_abs (term_of m t o)) 0) (modifiers-most o (suc t) n (omega arith))
    where
      go : (b : Bool) → length (bytes_of_all (map (modifier_op register) (modifiers_at m o (suc t) n))) ≤ 10 * length (modifiers_at m o (suc t) n)
          → length (bytes_of_all (map (modifier_op register) (cond b (modifiers_at m o (suc t) n) (modifier_of m o t ∷ modifiers_at m o (suc t) n))))
          ≤ 10 * length (cond b (modifiers_at m o (suc t) n) (modifier_of m o t ∷ modifiers_at m o (suc t) n))
      go true e = e
      go false e =
          simp length-append (omega (arith, modifier-most o t (omega arith)))

  -- a dimension has at most thirteen bytes
  dimension-most : (a : Access) (d : ℕ) → length (operation_bytes 0 (op.Dimension (dimension_of m register a d))) ≤ 13
  unfolding operation_bytes
  dimension-most a d =
      simp length-append
      (omega (arith, number_small 2 (omega arith), number_small register h, number_small 0 (omega arith), number-most (get_or m.counts d 0), number-most (unsigned_of (get_or a.strides d no_elements).0)))

  -- dimensions, each followed by its modifiers
  dimensions-most : (a : Access) (d n : ℕ) → d + n ≤ 7 → length (bytes_of_all (dimension_ops m register a d n)) ≤ 13 * n + 10 * length (modifiers_from m d n)
  unfolding bytes_of_all dimension_ops modifiers_from
  dimensions-most a d zero l = omega arith
  dimensions-most a d (suc n) l =
      let here : List Operation = op.Dimension (dimension_of m register a d) ∷ map (modifier_op register) (modifiers_at m d 0 d) in
      let first = operation_bytes 0 (op.Dimension (dimension_of m register a d)) in
      omega (
        arith,
        bytes-append here (dimension_ops m register a (suc d) n),
        length-append first (bytes_of_all (map (modifier_op register) (modifiers_at m d 0 d))),
        dimension-most a d,
        modifiers-most d 0 d (omega arith),
        dimensions-most a (suc d) n (omega arith),
        length-append (modifiers_at m d 0 d) (modifiers_from m (suc d) n),
      )

  -- open has at most eleven bytes
  open-most : (kind : Kind) (a : Access) → length (operation_bytes 0 (op.Open (header_for m register kind) a.base)) ≤ 11
  unfolding operation_bytes
  open-most kind a =
      simp length-append (omega (arith, number_small 1 (omega arith), number-most (word_of (header_for m register kind) + 0), number-most (nat_abs a.base.0)))

  -- end has at most two bytes
  end-most : length (bytes_of_all (op.End register ∷ [])) ≤ 2
  unfolding bytes_of_all operation_bytes
  end-most = simp length-append (omega (arith, number_small 4 (omega arith), number_small register h))

  -- a stream
  stream-most : (kind : Kind) (a : Access) → m.loops ≤ 7 → length (modifiers_of m) ≤ 8 → length (bytes_of_all (stream_ops m register kind a)) ≤ 184
  unfolding bytes_of_all operation_bytes
  stream-most kind a l k =
      let opened = operation_bytes 0 (op.Open (header_for m register kind) a.base) in
      omega (
        arith,
        bytes-append (op.Open (header_for m register kind) a.base ∷ dimension_ops m register a 0 m.loops) (op.End register ∷ []),
        length-append opened (bytes_of_all (dimension_ops m register a 0 m.loops)),
        open-most kind a,
        end-most,
        dimensions-most a 0 m.loops (omega arith),
      )

-- the run and its calculation
end-length : (m : Nest) → length (operation_bytes 0 run_op ++ calculation_bytes (calculation_of m)) ≤ 7
unfolding operation_bytes calculation_bytes
end-length m =
    let action : action_code m.action < 128 = omega (arith, action-small m.action) in
    simp length-append
    (omega (arith, number_small 5 (omega arith), number_small 1 (omega arith), number_small 2 (omega arith), number_small 3 (omega arith), number_small (action_code m.action) action))

-- a sheet
pub sheet-most : (m : Nest) → m.loops ≤ 7 → nonzero_of m ≤ 8 → length (sheet_of m) ≤ 559
unfolding sheet_of
sheet-most m l k =
    let few : length (modifiers_of m) ≤ 8 = omega (arith, modifiers-count m) in
    let a = stream_ops m 1 Load m.first in
    let b = stream_ops m 2 Load m.second in
    let c = stream_ops m 3 Store m.destination in
    omega (
      arith,
      length-append (bytes_of_all (sheet_ops m)) (operation_bytes 0 run_op ++ calculation_bytes (calculation_of m)),
      bytes-append a (b ++ c),
      bytes-append b c,
      stream-most m 1 (omega arith) Load m.first l few,
      stream-most m 2 (omega arith) Load m.second l few,
      stream-most m 3 (omega arith) Store m.destination l few,
      end-length m,
    )
