-- Registers stay good.
--
--   holding-good, read-good, written-good      a good register with other lanes; read; written
--   outcome_fits                               the lanes that a destination takes
--   effect-good                                all registers after a calculation
use Rattle.std.specs.Prelude.{◌≡◌, ℕ, ◌+◌, ◌*◌, ◌<◌, ◌≤◌, Bool, true, false, cond, ◌||◌, List, ◌++◌, length, replicate, ◌==◌, refl, Ok}
use Rattle.std.proofs.Common.{sym, ◌∙◌, subst, arith, length-take, length-append, eqb-true}
use Rattle.codec.specs.declared.operation.Task.{Task}
use Rattle.codec.specs.declared.operation.Task.TheVariants.{Each, All}
use Rattle.codec.specs.declared.operation.Calculation.{Calculation}
use Rattle.engine.specs.Memory.{joined, packed, holding}
use Rattle.engine.specs.Registers.{is_open, next_chunk, stops_for, moved_by, reg}
use Rattle.engine.specs.Calculate.{World, given, results, refusal_of, read_from, written_to, effect}
use Rattle.engine.specs.Good.{IsWidth, Standing, Good, AllGood}
use Rattle.engine.specs.GoodLaws.{moved-good}
use Rattle.engine.specs.ComeLaws.{next-within, past-chunk, past-most}
use Rattle.engine.specs.CalculationLaws.{Named}
use Rattle.engine.specs.EffectLaws.{effect-reg, effect-length, read-open, read-shut, written-open, written-shut, given-fits, results-length, room}
use Rattle.engine.specs.Lanes.{outcome_count}
use Rattle.engine.specs.LaneLaws.{width-range}
use Rattle.engine.specs.declared.register.Register.{Register}

-- packed lanes are 64 bytes
packed-length : (width : ℕ) (xs : List ℕ) → length (packed width xs) ≡ 64
packed-length width xs = omega (arith, length-take 64 (joined width xs ++ replicate 64 0), length-append (joined width xs) (replicate 64 0))

-- a good register stays so with other lanes that fit
pub holding-good : (vl width : ℕ) (xs : List ℕ) (r : Register) → Good vl r → IsWidth width → length xs * width ≤ vl → Good vl (holding width xs r)
unfolding holding
holding-good vl width xs r g i h = record {
  width = i;
  lanes = packed-length width xs;
  valid = h;
  pattern = g.pattern;
  indices = g.indices;
  unmoved = g.unmoved;
  opened = λ o. (stands (g.opened o).0, (g.opened o).1);
  finished = λ o. (stands (g.finished o).0, (g.finished o).1);
}
  where
    stands : Standing r → Standing (holding width xs r)
    stands s = record { accepted = s.accepted; index = s.index; height = s.height }

-- a good register is so after it was read
pub read-good : (vl : ℕ) (memory : List ℕ) (r : Register) → 8 ≤ vl → Good vl r → Good vl (read_from vl memory r)
unfolding moved_by holding
read-good vl memory r l g = go (is_open r.state) refl
  where
    go : (b : Bool) → is_open r.state ≡ b → Good vl (read_from vl memory r)
    go true e =
        subst (Good vl) (sym (read-open vl memory r e))
        (moved-good vl (holding r.width (given vl memory r) r)
        (holding-good vl r.width (given vl memory r) r g g.width (given-fits vl memory r g))
        (g.opened e).0.accepted
        (r.moved + stops_for r (length (next_chunk vl r)))
        (omega (arith, past-chunk vl r l g e, next-within vl r g e)))
    go false e = subst (Good vl) (sym (read-shut vl memory r e)) g

-- a good register is so after it was written
pub written-good : (vl width : ℕ) (xs : List ℕ) (r : Register) → 8 ≤ vl → Good vl r → IsWidth width → length xs * width ≤ vl
    → (is_open r.state ≡ true → length xs ≤ length (next_chunk vl r)) → Good vl (written_to width xs r)
unfolding moved_by
written-good vl width xs r l g i h k = go (is_open r.state) refl
  where
    go : (b : Bool) → is_open r.state ≡ b → Good vl (written_to width xs r)
    go true e =
        subst (Good vl) (sym (written-open width xs r e))
        (moved-good vl r g (g.opened e).0.accepted (r.moved + stops_for r (length xs)) (omega (arith, past-most vl r l g e (length xs) (k e), next-within vl r g e)))
    go false e = subst (Good vl) (sym (written-shut width xs r e)) (holding-good vl width xs r g i h)

-- the lanes that the destination takes fit the vector length, if those of a source do
pub outcome_fits : (t : Task) (vl n width : ℕ) → 8 ≤ vl → IsWidth width → n * width ≤ vl → outcome_count t n * width ≤ vl
outcome_fits (Each action) vl n width l i h = h
outcome_fits (All fold) vl n width l i h = omega (arith, width-range width i)

-- all registers stay good
pub effect-good : (vl : ℕ) (c : Calculation) (w : World) → 8 ≤ vl → AllGood vl w.machine → Named c → refusal_of vl c w ≡ Ok tt → AllGood vl (effect vl c w).machine
effect-good vl c w l g nm e = record { all = effect-length vl c w ∙ g.all; good = each }
  where
    a : Register
    a = reg w.machine c.first

    each : (i : ℕ) → i < 32 → Good vl (reg (effect vl c w).machine i)
    each i h =
        subst (Good vl) (sym (effect-reg vl c w i (omega (arith, g.all)))) (go (i == c.destination) refl (i == c.first || i == c.second))
      where
        go : (d : Bool) → (i == c.destination) ≡ d → (s : Bool)
            → Good vl (cond d (written_to a.width (results vl c w) (reg w.machine i)) (cond s (read_from vl w.memory (reg w.machine i)) (reg w.machine i)))
        go true p s =
            let f : Good vl a = g.good c.first nm.first in
            written-good vl a.width (results vl c w) (reg w.machine i) l (g.good i h) f.width
            (subst (λ n. n * a.width ≤ vl) (sym (results-length vl c w e)) (outcome_fits c.task vl _ a.width l f.width (given-fits vl w.memory a f)))
            (subst (λ j. is_open (reg w.machine j).state ≡ true → length (results vl c w) ≤ length (next_chunk vl (reg w.machine j))) (sym (eqb-true _ _ p)) (room vl c w e))
        go false p true = read-good vl w.memory (reg w.machine i) l (g.good i h)
        go false p false = g.good i h
