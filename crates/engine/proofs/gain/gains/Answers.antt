-- `gain::gains` meets its contract: after k turns both numbers are the gains of the first k modifiers.
use Rattle.std.proofs.Common.{List, sym, ◌∙◌, arith}
use Rattle.codec.specs.declared.operation.Behaviour.TheVariants.{Add, Subtract}
use Rattle.engine.specs.Loops.{modifiers_of}
use Rattle.engine.specs.declared.stream.Modifier.{Modifier}
use Rattle.engine.proofs.GainSteps.{gain-start}
use Rattle.engine.proofs.GainTurns.{same-told, ranged-modifier, moves-small, away, other, adds, takes}
use Rattle.engine.proofs.gain.gains.Goals as goal
use Rattle.engine.proofs.gain.gains.Goals.{then-m-d+then-eq+in-Add, then-m-d+then-eq+in-Subtract, else-m-d, else-m-d-via-then-m-d+else-eq, else-m-d-via-else-m-d}

pub loop-m-init : goal.loop-m-init
loop-m-init c =
    let ms = modifiers_of c.args.shape.now in
    (sym (gain-start c.args.q Add c.args.d _ ms), sym (gain-start c.args.q Subtract c.args.d _ ms), (omega arith, omega arith))

pub loop-m-preserved : goal.loop-m-preserved
loop-m-preserved c =
    let a = c.args in
    let k = c.loop-m.m-index in
    let ms : List Modifier = modifiers_of a.shape.now in
    let h = c.loop-m-test.true in
    let r = ranged-modifier a.shape.now c.requires.0 k h in
    let small = moves-small a.shape.now c.requires.0 a.index.now c.requires.1 k h in
    elim c.if-m-d.branch [
      | then-m-d+then-eq+in-Add w ↦
          let e = adds ms a.q a.d a.index.now k h (sym (same-told _ _) ∙ sym w.eq.ensures ∙ w.if-eq.true) w.if-m-d.true r.below w.in-Add.is in
          (omega (arith, w.up-is, e.0), omega (arith, w.down-is, e.1), (omega (arith, w.up-is, small), omega (arith, w.down-is)))
      | then-m-d+then-eq+in-Subtract w ↦
          let e = takes ms a.q a.d a.index.now k h (sym (same-told _ _) ∙ sym w.eq.ensures ∙ w.if-eq.true) w.if-m-d.true r.below w.in-Subtract.is in
          (omega (arith, w.up-is, e.0), omega (arith, w.down-is, e.1), (omega (arith, w.up-is), omega (arith, w.down-is, small)))
      | else-m-d w ↦
          elim w.else-m-d.branch [
            | else-m-d-via-then-m-d+else-eq w' ↦
                let o = sym (same-told _ _) ∙ sym w'.eq.ensures ∙ w'.if-eq.false in
                let e0 = other ms a.q a.d a.index.now k h Add o in
                let e1 = other ms a.q a.d a.index.now k h Subtract o in
                (omega (arith, w.up-is, e0), omega (arith, w.down-is, e1), (omega (arith, w.up-is), omega (arith, w.down-is)))
            | else-m-d-via-else-m-d w' ↦
                let e0 = away ms a.q a.d a.index.now k h Add w'.if-m-d.false in
                let e1 = away ms a.q a.d a.index.now k h Subtract w'.if-m-d.false in
                (omega (arith, w.up-is, e0), omega (arith, w.down-is, e1), (omega (arith, w.up-is), omega (arith, w.down-is)))
          ]
    ]
