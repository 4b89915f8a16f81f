-- Laws of writing a sheet onto a page.
--
--   put_then                         some operations, then others
--   terms-next, terms-end            the modifiers of one dimension, term by term
--   dimensions-next, dimensions-end  the dimensions, one by one
--   stream-put, sheet-put            a stream, and all three with the run
use Rattle.std.specs.Prelude.{ℕ, suc, ◌+◌, ◌-◌, ◌≤◌, ◌<◌, ◌≡◌, refl, List, [], ◌∷◌, ◌++◌, map, Bool, true, false, cond, eqb, nat_abs}
use Rattle.std.proofs.Common.{◌∙◌, ap, arith}
use Rattle.codec.specs.declared.header.Kind.{Kind}
use Rattle.codec.specs.declared.header.Kind.TheVariants.{Load, Store}
use Rattle.codec.specs.declared.operation.Operation.{Operation}
use Rattle.codec.specs.declared.operation.Operation.TheVariants as op
use Rattle.engine.specs.declared.stream.Modifier.{Modifier}
use Rattle.translator.specs.Fields.{term_of}
use Rattle.translator.specs.NestSheets.{modifier_of, modifiers_at, modifier_op, header_for, dimension_of, dimension_ops, stream_ops, sheet_ops, run_op}
use Rattle.translator.specs.Pages.{put_one, put_all}
use Rattle.translator.specs.declared.nest.Access.{Access}
use Rattle.translator.specs.declared.nest.Nest.{Nest}
use Rattle.translator.specs.declared.write.Page.{Page}

-- some operations, then others
pub put_then : (os ps : List Operation) (p : Page) → put_all (os ++ ps) p ≡ put_all ps (put_all os p)
unfolding put_all
put_then [] ps p = refl
put_then (o ∷ os) ps p = put_then os ps (put_one o p)

-- one modifier that is left out, or written before the others
by_cond : (b : Bool) (register : ℕ) (xs : List Modifier) (q : Modifier) (p : Page)
    → put_all (map (modifier_op register) (cond b xs (q ∷ xs))) p ≡ put_all (map (modifier_op register) xs) (cond b p (put_one (modifier_op register q) p))
unfolding put_all
by_cond true register xs q p = refl
by_cond false register xs q p = refl

-- the term of loop t, then those of the loops outside it, up to loop d
pub terms-next : (m : Nest) (register d t : ℕ) (p : Page) → t < d
    → put_all (map (modifier_op register) (modifiers_at m d t (d - t))) p
    ≡ put_all (map (modifier_op register) (modifiers_at m d (t + 1) (d - (t + 1))))
    (cond (eqb (nat_abs (term_of m t d)) 0) p (put_one (modifier_op register (modifier_of m d t)) p))
unfolding modifiers_at
terms-next m register d t p h =
    let e : d - t ≡ suc (d - (t + 1)) = omega arith in
    let f : t + 1 ≡ suc t = omega arith in
    rw (e, f) (by_cond (eqb (nat_abs (term_of m t d)) 0) register (modifiers_at m d (suc t) (d - suc t)) (modifier_of m d t) p)

-- no term is left: nothing more is written
pub terms-end : (m : Nest) (register d t : ℕ) (p : Page) → d ≤ t → put_all (map (modifier_op register) (modifiers_at m d t (d - t))) p ≡ p
unfolding modifiers_at put_all
terms-end m register d t p h = let e : d - t ≡ 0 = omega arith in rw e

-- dimension d with its modifiers, then those outside it, up to n
pub dimensions-next : (m : Nest) (register : ℕ) (a : Access) (d n : ℕ) (p : Page) → d < n
    → put_all (dimension_ops m register a d (n - d)) p
    ≡ put_all (dimension_ops m register a (d + 1) (n - (d + 1)))
    (put_all (map (modifier_op register) (modifiers_at m d 0 d)) (put_one (op.Dimension (dimension_of m register a d)) p))
unfolding dimension_ops put_all
dimensions-next m register a d n p h =
    let e : n - d ≡ suc (n - (d + 1)) = omega arith in
    let f : d + 1 ≡ suc d = omega arith in
    rw (e, f)
    (put_then (map (modifier_op register) (modifiers_at m d 0 d)) (dimension_ops m register a (suc d) (n - suc d)) (put_one (op.Dimension (dimension_of m register a d)) p))

-- no dimension is left: nothing more is written
pub dimensions-end : (m : Nest) (register : ℕ) (a : Access) (d n : ℕ) (p : Page) → n ≤ d → put_all (dimension_ops m register a d (n - d)) p ≡ p
unfolding dimension_ops put_all
dimensions-end m register a d n p h = let e : n - d ≡ 0 = omega arith in rw e

-- open, the dimensions, end
pub stream-put : (m : Nest) (register : ℕ) (kind : Kind) (a : Access) (p : Page)
    → put_all (stream_ops m register kind a) p
    ≡ put_one (op.End register) (put_all (dimension_ops m register a 0 m.loops) (put_one (op.Open (header_for m register kind) a.base) p))
unfolding put_all
stream-put m register kind a p =
    put_then (dimension_ops m register a 0 m.loops) (op.End register ∷ []) (put_one (op.Open (header_for m register kind) a.base) p)

-- two loads, a store, the run
pub sheet-put : (m : Nest) (p : Page)
    → put_all (sheet_ops m ++ (run_op ∷ [])) p
    ≡ put_one run_op (put_all (stream_ops m 3 Store m.destination) (put_all (stream_ops m 2 Load m.second) (put_all (stream_ops m 1 Load m.first) p)))
unfolding put_all
sheet-put m p =
    put_then (sheet_ops m) (run_op ∷ []) p
    ∙ ap (put_one run_op)
    (put_then (stream_ops m 1 Load m.first) (stream_ops m 2 Load m.second ++ stream_ops m 3 Store m.destination) p
    ∙ put_then (stream_ops m 2 Load m.second) (stream_ops m 3 Store m.destination) (put_all (stream_ops m 1 Load m.first) p))
