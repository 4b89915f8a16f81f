-- A nest read whole, as the code keeps it.
--
--   head-refused, rest-refused, nest-trailing, nest-ruled   each way in which reading ends
--   read-ranged              a nest that was read is in range and tidy
use Rattle.engine.specs.Checks.{Why}
use Rattle.std.specs.Prelude.{ℕ, ◌≤◌, ◌<◌, ◌≡◌, ◌⊎◌, List, length, Ok, Err}
use Rattle.std.proofs.Common.{sym, ◌∙◌, subst, inl, inr, arith, lt-ltb, le-ltb}
use Rattle.codec.specs.NumberLaws.{AreBytes}
use Rattle.codec.specs.declared.refusal.Refusal.{Refusal}
use Rattle.codec.specs.declared.number.Cursor.{Cursor}
use Rattle.codec.specs.declared.refusal.Refusal.TheVariants.{OutOfRange}
use Rattle.codec.specs.declared.refusal.Refused.{Refused}
use Rattle.engine.specs.ShapeCheck.{check_shape}
use Rattle.translator.specs.Fields.{Field, head_fields, rest_fields, no_nest}
use Rattle.translator.specs.Reading.{up_to, read_from, refused, unless, whole_at, nest_at, nested_of}
use Rattle.translator.specs.Acceptance.{InRange, Tidy, Stand, AtFault}
use Rattle.translator.specs.NestStands.{stood}
use Rattle.translator.specs.NestingLaws.{read_through, read-fault, read-either}
use Rattle.translator.specs.RuleLaws.{checks-shape}
use Rattle.translator.specs.Parts.{part_of}
use Rattle.translator.specs.Keeping.{kept_shape}
use Rattle.translator.specs.KeepingLaws.{kept-shape}
use Rattle.translator.specs.declared.nest.Nest.{Nest}

-- ---- numbers that were read

-- they stand there
read-stands : (s : List ℕ) → AreBytes s → (fs : List Field) (at : ℕ) (m n : Nest) (to : ℕ) → read_from s fs at m ≡ up_to n to → Stand s fs at m to n
read-stands s p fs at m n to e = by (read-either s p fs at m)
  where
    by : ((x : Refusal) × (place : ℕ) × AtFault s x place fs at m) ⊎ ((k : Nest) × (end : ℕ) × Stand s fs at m end k) → Stand s fs at m to n
    by (inl (x, place, h)) = absurd (let q = read-fault s p x place fs at m h in let z : ◌≡◌ {A = ℕ} 0 1 = cc in omega arith)
    by (inr (k, end, h)) =
        let q = read_through s fs at end m k h in
        let z : k ≡ n = cc in
        let w : end ≡ to = cc in
        subst (λ x. Stand s fs at m to x) z (subst (λ x. Stand s fs at m x k) w h)

module _ (s : List ℕ) (p : AreBytes s) (a b : Nest) (c d : Cursor) (f : part_of (Ok (a, c)) ≡ read_from s head_fields 0 no_nest)
    (g : part_of (Ok (b, d)) ≡ read_from s (rest_fields a.loops) c.at a) where
  -- the nest is in range and tidy
  pub read-ranged : InRange b × Tidy b
  read-ranged =
      let one = read-stands s p head_fields 0 no_nest a c.at (sym f) in
      let two = read-stands s p (rest_fields a.loops) c.at a b d.at (sym g) in
      let q = stood s c.at d.at a b one two in
      (q.0, q.1)

  -- what is left to look at: bytes after the numbers, and the rules
  whole : nest_at s ≡ whole_at s b d.at
  unfolding nest_at
  whole = rw (sym f, sym g)

  -- "bytes after .. a nest"
  pub nest-trailing : d.at < length s → refused OutOfRange d.at ≡ nest_at s
  nest-trailing t = sym (whole ∙ rw (lt-ltb d.at (length s) t))

  -- the rules, as the engine checks the shape
  pub nest-ruled : length s ≤ d.at → (w : Why) → w ≡ check_shape (kept_shape b) → unless w b ≡ nest_at s
  nest-ruled t w e =
      let q = read-ranged in
      sym (whole ∙ rw (le-ltb d.at (length s) t, checks-shape b q.0 q.1, sym (kept-shape b), sym e))

-- ---- refusals

-- among the first four numbers
pub head-refused : (s : List ℕ) (r : Refused) → part_of (Err r) ≡ read_from s head_fields 0 no_nest → nested_of (Err r) ≡ nest_at s
unfolding nest_at
head-refused s r f = sym (rw (sym f))

-- behind them
pub rest-refused : (s : List ℕ) (a : Nest) (c : Cursor) (r : Refused) → part_of (Ok (a, c)) ≡ read_from s head_fields 0 no_nest
    → part_of (Err r) ≡ read_from s (rest_fields a.loops) c.at a → nested_of (Err r) ≡ nest_at s
unfolding nest_at
rest-refused s a c r f g = sym (rw (sym f, sym g))
