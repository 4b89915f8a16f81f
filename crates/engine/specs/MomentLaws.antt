-- A stream at a moment.
--
--   flagged                          a flag is set exactly if the last stop gone past is the last of its pass
--   end-told, flag-told              what both questions are told of a stream
--   inside-most, inside-stream, inside-finished   how many stops it has gone past; open or finished; finished exactly if all
--   inside-moment                    a stream that has gone past some of its stops, at that moment
use Rattle.std.specs.Prelude.{◌≡◌, ℕ, zero, suc, ◌-◌, ◌<◌, ◌≤◌, Bool, true, false, cond, not, ◌||◌, ◌⊎◌, ◌↔◌, List, [], ◌++◌, length, drop, nat_le, slice_index_or, refl, Ok, Result}
use Rattle.std.proofs.Common.{sym, ◌∙◌, subst, inl, inr, ⊎_elim, append-nil, arith, length-append, length-drop, drop_of_length-le}
use Rattle.std.proofs.Math.Path.{ap}
use borrow.Author.Tests.{leb-true, le-leb, le-ltb, ne_eqb}
use Rattle.codec.specs.TestLaws.{never}
use Rattle.codec.specs.declared.refusal.Refusal.{Refusal}
use Rattle.engine.specs.Configure.{Covers}
use Rattle.engine.specs.Loops.{size_at}
use Rattle.engine.specs.StopLaws.{among-append, stops-elements}
use Rattle.engine.specs.Chunks.{stops, height, flag}
use Rattle.engine.specs.FlagLaws.{flag-all, flag-set, flag-clear}
use Rattle.engine.specs.Registers.{is_open, is_finished, shape_of, reg}
use Rattle.engine.specs.Questions.{unless, ask_flag, ask_end}
use Rattle.engine.specs.GoodLaws.{more}
use Rattle.engine.specs.CalculationLaws.{nothing}
use Rattle.engine.specs.ComeLaws.{IsStream, ended-stream}
use Rattle.engine.specs.Given.{Stream, stops_of, elements_in, pattern_of, Flagged, last, differs, AtMoment}
use Rattle.engine.specs.GivenLaws.{Bears, InRegister}
use Rattle.engine.specs.declared.stream.Shape.{Shape}
use Rattle.engine.specs.declared.stream.Pattern.{Pattern}
use Rattle.engine.specs.declared.register.State.TheVariants.{Open, Finished}
use Rattle.engine.specs.declared.register.Register.{Register}
use Rattle.engine.specs.declared.register.Machine.{Machine}

-- ---- flags

-- a flag is set exactly if the last stop gone past is the last of its pass
pub flagged : (s : Shape) → Covers s.dims s.coupling → (n d : ℕ) → n ≤ length (stops s) → d ≤ s.dims → (flag (height s n) d ≡ true) ↔ Flagged (stops s) n d
flagged s c zero d h k = go (length (stops s)) refl
  where
    go : (all : ℕ) → length (stops s) ≡ all → (flag (height s 0) d ≡ true) ↔ Flagged (stops s) 0 d
    go zero e = (λ f. last (sym e), λ f. flag-all s 0 d (omega arith) k)
    go (suc all) e = (λ f. never (sym (flag-clear s d (omega arith)) ∙ f), λ f. absurd (none f))
      where
        none : Flagged (stops s) 0 d → ⊥
        none (last q) = omega arith
        none (differs q r) = omega arith
flagged s c (suc n) d h k =
    let (to, from) = flag-set s (suc n) c d (omega arith) h k in
    (λ f. ⊎_elim last (differs (omega arith)) (to f), λ f. from (either f))
  where
    either : Flagged (stops s) (suc n) d
        → (suc n ≡ length (stops s)) ⊎ (¬ (drop d (slice_index_or (stops s) (suc n - 1) []) ≡ drop d (slice_index_or (stops s) (suc n) [])))
    either (last q) = inl q
    either (differs q r) = inr r

-- ---- questions

-- a question that is told yes or no
told : (b : Bool) (a : Result Bool Refusal) (P : Type 0) → a ≡ Ok b → (b ≡ true) ↔ P → ((a ≡ Ok true) ↔ P) × ((a ≡ Ok false) ↔ (¬ P))
told true a P e f = ((λ q. f.0 refl, λ p. e), (λ q. absurd (let z : ◌≡◌ {A = ℕ} 0 1 = cc in omega arith), λ n. absurd (n (f.0 refl))))
told false a P e f = ((λ q. absurd (let z : ◌≡◌ {A = ℕ} 0 1 = cc in omega arith), λ p. never (f.1 p)), (λ q p. never (f.1 p), λ n. e))

module _ (m : Machine) (i : ℕ) (h : i < 32) (s : IsStream (reg m i)) where
  -- the question for the end of a stream is told whether it is finished
  pub end-told : ask_end m i ≡ Ok (is_finished (reg m i).state)
  unfolding ask_end
  end-told =
      ap (λ y. unless y (is_finished (reg m i).state))
      (more _ _ _ (le-ltb 31 i (omega arith)) (more _ _ _ (ap not s) nothing))

  -- the question for a flag whether it is set
  pub flag-told : (d : ℕ) → 1 ≤ d → d ≤ 7 → d ≤ (shape_of (reg m i)).dims → ask_flag m i d ≡ Ok (flag (reg m i).height d)
  unfolding ask_flag
  flag-told d p q k =
      ap (λ y. unless y (flag (reg m i).height d))
      (more _ _ _ (rw (le-ltb 31 i (omega arith), ne_eqb d 0 (λ e. omega arith), le-ltb 7 d q))
      (more _ _ _ (ap not s) (more _ _ _ (le-ltb (shape_of (reg m i)).dims d k) nothing)))

-- ---- a moment

-- none is left to come
abbrev none_left : Stream → List (List ℕ) → Bool
none_left t so_far = nat_le (length (stops_of t)) (length so_far)

-- finished exactly if none is left
is-finished : (b : Bool) → is_finished (cond b Finished Open) ≡ b
is-finished true = refl
is-finished false = refl

module _ (t : Stream) (so_far : List (List ℕ)) (r : Register) (s : InRegister t so_far r) where
  -- it has gone past no more stops than there are
  pub inside-most : length so_far ≤ length (stops_of t)
  inside-most = omega (arith, ap length s.each-once, length-append so_far (drop (length so_far) (stops_of t)))

  -- the stream is open or finished
  pub inside-stream : IsStream r
  inside-stream = subst (λ k. (is_open k || is_finished k) ≡ true) (sym s.state) (ended-stream (none_left t so_far))

  -- it has gone past all where none is left
  none-left : length (stops_of t) ≤ length so_far → so_far ≡ stops_of t
  none-left h = sym (append-nil so_far) ∙ ap (λ l. so_far ++ l) (sym (drop_of_length-le (stops_of t) h)) ∙ s.each-once

  -- it is finished exactly if it has gone past all
  pub inside-finished : (is_finished r.state ≡ true) ↔ (so_far ≡ stops_of t)
  inside-finished =
      let f : is_finished r.state ≡ none_left t so_far = ap is_finished s.state ∙ is-finished (none_left t so_far) in
      (λ e. none-left (leb-true (length (stops_of t)) (length so_far) (sym f ∙ e)), λ e. f ∙ le-leb (length (stops_of t)) (length so_far) (omega (arith, ap length e)))

  -- its state by whether none is left
  state-by : (b : Bool) → none_left t so_far ≡ b → r.state ≡ cond b Finished Open
  state-by b e = s.state ∙ ap (λ y. cond y Finished Open) e

  -- where some are to come it is open
  going_on : ¬ (drop (length so_far) (stops_of t) ≡ []) → r.state ≡ Open
  going_on n = go (none_left t so_far) refl
    where
      go : (b : Bool) → none_left t so_far ≡ b → r.state ≡ Open
      go true e = absurd (n (drop_of_length-le (stops_of t) (leb-true _ _ e)))
      go false e = state-by false e

  -- where none is, finished
  finished : drop (length so_far) (stops_of t) ≡ [] → r.state ≡ Finished
  finished e = state-by true (le-leb (length (stops_of t)) (length so_far) (omega (arith, ap length e, length-drop (length so_far) (stops_of t))))

-- a stream in a register that has gone past some of its stops, at that moment
pub inside-moment : (t : Stream) (so_far : List (List ℕ)) (m : Machine) (i : ℕ) → i < 32 → InRegister t so_far (reg m i) → AtMoment t so_far m i
inside-moment t so_far m i h s =
    let r : Register = reg m i in
    let b : Bears t r = s.bears in
    let stream : IsStream r = inside-stream t so_far r s in
    let end = told (is_finished r.state) (ask_end m i) (so_far ≡ stops_of t) (end-told m i h stream) (inside-finished t so_far r s) in
    record {
      pattern = b.pattern;
      kind = b.kind;
      width = b.width;
      to_come = drop (length so_far) (stops_of t);
      each-stop = s.each-once;
      each-once =
          sym (among-append (size_at (pattern_of t).shape) so_far (drop (length so_far) (stops_of t)))
          ∙ ap (elements_in t) s.each-once
          ∙ stops-elements (pattern_of t).shape s.covers;
      going_on = going_on t so_far r s;
      finished = finished t so_far r s;
      end-yes = end.0;
      end-no = end.1;
      flag-yes = λ d p q. (flags d p q).0;
      flag-no = λ d p q. (flags d p q).1;
    }
  where
    flags : (d : ℕ) → 1 ≤ d → d ≤ length t.dimensions
        → ((ask_flag m i d ≡ Ok true) ↔ Flagged (stops_of t) (length so_far) d) × ((ask_flag m i d ≡ Ok false) ↔ (¬ Flagged (stops_of t) (length so_far) d))
    flags d p q =
        told (flag (reg m i).height d) (ask_flag m i d) (Flagged (stops_of t) (length so_far) d)
        (flag-told m i h (inside-stream t so_far (reg m i) s) d p (omega (arith, s.bears.most))
        (subst (λ (y : Pattern). d ≤ y.shape.dims) (sym s.bears.pattern) q))
        (subst (λ y. (flag y d ≡ true) ↔ Flagged (stops_of t) (length so_far) d) (sym s.height)
        (flagged (pattern_of t).shape s.covers (length so_far) d (inside-most t so_far (reg m i) s) q))
