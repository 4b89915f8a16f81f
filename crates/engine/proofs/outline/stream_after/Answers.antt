-- `outline::stream_after` meets its contract: the registers that a sheet's operations leave are good, so the loops of an ended stream can be walked.
use Rattle.std.proofs.Common.{◌≡◌, ℕ, ◌<◌, Bool, true, false, ◌||◌, List, sym, refl, ap, ◌∙◌, subst, arith}
use lib.ListN.{get_or-eq_default}
use Rattle.codec.specs.NumberLaws.{AreBytes}
use Rattle.engine.specs.Registers.{is_open, is_finished, shape_of, no_register, fresh_machine, reg}
use Rattle.engine.specs.Sheets.{operations_from}
use Rattle.engine.specs.Good.{Accepted, Good, AllGood}
use Rattle.engine.specs.GoodLaws.{fresh-machine-good, width-most}
use Rattle.engine.specs.ComeLaws.{IsStream, shut-finished}
use Rattle.engine.specs.SheetLaws.{operations-good}
use Rattle.engine.specs.Outlines.{IsKept}
use Rattle.engine.specs.declared.register.Register.{Register}
use Rattle.engine.specs.declared.register.Machine.{Machine}
use Rattle.engine.proofs.outline.stream_after.Goals as goal

-- the registers that the operations leave are good
left : (s : List ℕ) (most : ℕ) → AreBytes s → AllGood 8 (operations_from most s 0 fresh_machine).machine
left s most p = (operations-good 8 most s 0 fresh_machine p (fresh-machine-good 8)).good

-- there are 32 of them
above : (m : Machine) (i : ℕ) → AllGood 8 m → 31 < i → reg m i ≡ no_register
above m i g h = get_or-eq_default m.registers no_register (omega (arith, g.all))

-- a stream that was ended can be walked
accepted : (r : Register) → Good 8 r → IsStream r → Accepted (shape_of r)
accepted r g e = go (is_open r.state) refl
  where
    go : (b : Bool) → is_open r.state ≡ b → Accepted (shape_of r)
    go true o = (g.opened o).0.accepted
    go false o = (g.finished (shut-finished r.state e o)).0.accepted

-- of a register whose stream was ended its stream is kept
kept : (m n : Machine) (i : ℕ) → m ≡ n → AllGood 8 n → i < 32 → IsStream (reg m i) → IsKept (reg n i) (record { pattern = (reg m i).pattern; width = (reg m i).width })
kept m n i e g h k =
    let r : Good 8 (reg m i) = subst (λ x. Good 8 (reg x i)) (sym e) (g.good i h) in
    record {
      told = ap (λ x. is_open (reg x i).state || is_finished (reg x i).state) (sym e) ∙ k;
      pattern = ap (λ x. (reg x i).pattern) e;
      width = ap (λ x. (reg x i).width) e;
      walkable = (r.pattern, width-most (reg m i).width r.width, accepted (reg m i) r k);
    }

pub returns-then-register-gt31 : goal.returns-then-register-gt31
returns-then-register-gt31 c =
    let a = c in
    ap (λ r. is_open r.state || is_finished r.state) (above _ a.args.register (left a.args.sheet.now a.args.most (λ i. (c.type_inv.sheet i).fits)) c.if-register-gt31.true)

pub returns : goal.returns
returns c =
    let a = c in
    let u = c.set_up-settled in
    kept u.result.machine _ a.args.register (ap (λ q. q.machine) u.ensures) (left a.args.sheet.now a.args.most (λ i. (c.type_inv.sheet i).fits)) (omega (arith, c.if-register-gt31.false))
    (sym c.has_stream.ensures ∙ c.if-not-has_stream.false)
