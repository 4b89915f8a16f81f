-- What the question for the end of stream is told of a stream before anything of it has moved: whether it is finished at end (02, 3/14).
--
--   ended-told, ended-told-uncoupled   of a coupled stream; of an uncoupled one
use Rattle.std.specs.Prelude.{◌≡◌, ℕ, suc, ◌≤◌, cond, ◌↔◌, List, [], ◌∷◌, length, nat_le, refl, Ok, true, Some, None}
use Rattle.std.proofs.Common.{sym, ◌∙◌, ap, arith, le-leb}
use Rattle.std.proofs.lemmas.Bool.{lt-leb}
use Rattle.engine.specs.Loops.{elements}
use Rattle.engine.specs.Registers.{state_after}
use Rattle.engine.specs.Questions.{ask_end}
use Rattle.engine.specs.Given.{Stream, stops_of, pattern_of, AtMoment}
use Rattle.engine.specs.PassFlags.{outers_of, finished-coupled, finished-uncoupled}
use Rattle.engine.specs.declared.register.State.{State}
use Rattle.engine.specs.declared.register.State.TheVariants.{Open, Finished}
use Rattle.engine.specs.declared.register.Machine.{Machine}

-- finished where there is no stop
none-finished : {A : Type 0} (l : List A) → (cond (nat_le (length l) 0) Finished Open ≡ Finished) ↔ ([] ≡ l)
none-finished l = (there l, λ e. ap (λ b. cond b Finished Open) (le-leb (length l) 0 (omega (arith, ap length e))))
  where
    there : {A : Type 0} (l : List A) → cond (nat_le (length l) 0) Finished Open ≡ Finished → [] ≡ l
    there [] e = refl
    there (x ∷ l) e =
        absurd
        (let f : ◌≡◌ {A = State} Open Finished = ap (λ b. cond b Finished Open) (sym (lt-leb (suc (length l)) 0 (omega arith))) ∙ e in
        let z : ◌≡◌ {A = ℕ} 0 1 = cc in
        omega arith)

-- the stream t in register i, as end left it
module _ (t : Stream) (m : Machine) (i : ℕ) (a : AtMoment t [] m i) where
  -- it is told yes exactly if the stream is finished with nothing moved
  told : (ask_end m i ≡ Ok true) ↔ (state_after (pattern_of t).shape 0 ≡ Finished)
  told =
      let x = none-finished (stops_of t) in
      (λ y. x.1 (a.end-yes.0 y), λ y. a.end-yes.1 (x.0 y))

  -- 02, 3/14: "Such a stream finishes after its last coupled pass, and is finished at end only if there is none": the outer loops reach no pass
  -- of that dimension; and then it is
  pub ended-told : (c : ℕ) → t.header.coupling ≡ Some c → c ≤ length t.dimensions → (ask_end m i ≡ Ok true) ↔ (outers_of (pattern_of t).shape c ≡ [])
  ended-told c e h = let x = finished-coupled (pattern_of t).shape c e h in (λ y. x.0 (told.0 y), λ y. told.1 (x.1 y))

  -- 01: "or finishes it at once if it has no elements", of an uncoupled stream
  pub ended-told-uncoupled : t.header.coupling ≡ None → (ask_end m i ≡ Ok true) ↔ (elements (pattern_of t).shape ≡ [])
  ended-told-uncoupled e = let x = finished-uncoupled (pattern_of t).shape e in (λ y. x.0 (told.0 y), λ y. told.1 (x.1 y))
