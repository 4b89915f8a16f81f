-- Running registers taken as operands.
--
--   taken-row, row-taken          a chunk of the present row
--   across-asked, across-taken   a chunk that leaves its row
use Rattle.std.proofs.Common.{◌≡◌, ℕ, ◌+◌, ◌<◌, ◌≤◌, Bool, true, false, cond, eqb, List, [], length, take, set, sym, refl, ap, ◌∙◌, subst, arith, ne_eqb}
use Rattle.engine.specs.Chunks.{nothing_at}
use Rattle.engine.specs.Registers.{is_open}
use Rattle.engine.specs.Places.{place_at, in_row, ends_at, Ready}
use Rattle.engine.specs.Stretches.{progression, joined_in}
use Rattle.engine.specs.Runnings.{place_of, view_of, Remembers, Near, behind, listed_in, row_ahead, Looks}
use Rattle.engine.specs.Operands.{Taken}
use Rattle.engine.proofs.Looking.{Going, going, here_place, looked, full-count, full-addressed, full-gone, size-told, part-within, row-long, near, inner-small}
use Rattle.engine.proofs.Carrying.{taken_live}
use Rattle.engine.specs.declared.stream.Pattern.{Pattern}
use Rattle.engine.specs.declared.register.State.TheVariants.{Open}
use Rattle.engine.specs.declared.running.Running.{Running}
use Rattle.engine.specs.declared.ahead.Ahead.{Ahead}
use Rattle.engine.specs.declared.part.Part.{Part}

-- the next elements of the present row
pub taken-row : (p : Pattern) (row : List ℕ) (q : Running) → Ready (view_of p [] row q) → place_of row q ≡ place_at p q.width (set row 0 q.index)
    → is_open q.state ≡ true → ends_at p.shape.coupling true 1 ≡ false → (n plain : ℕ) → 1 ≤ n → n ≤ 64 → q.index + n < q.size
    → (xs : List Part) → length xs ≡ 64 → joined_in (take 1 xs) ≡ progression q.address.0 q.step.0 n → Taken p row q n plain row xs (row_ahead n q)
taken-row p row q y m live through n plain some most b xs l listed =
    let r = view_of p [] row q in
    let z : 0 < length row = omega (arith, row-long p row q y) in
    let full : eqb q.size 0 ≡ false = ne_eqb q.size 0 (λ w. omega arith) in
    let held : nothing_at p.shape q.moved ≡ false = sym (size-told p row q y m) ∙ full in
    let g = part-within r y n 0 row q.index q.address q.size q.step q.height [] (going r y held n (place_of row q) m) z n some (omega arith) b through in
    let e : 0 + n ≡ n = omega arith in
    let g = subst (λ j. Going r n j (in_row row (q.index + n) (row_ahead n q).address q.size q.step) 1 (progression q.address.0 q.step.0 n)) e g in
    taken_live p row row q n plain _ (row_ahead n q) live refl
    (omega arith)
    (looked p row q y n n n _ row (behind (row_ahead n q) q) (full-count p row q y held n n (omega (arith, g.rest)))
    (full-addressed p row q y held n n (omega (arith, g.rest)) _ (listed ∙ g.addressed))
    (full-gone p row q y held n n (omega (arith, g.rest))) true
    (in_row row (q.index + n) (row_ahead n q).address q.size q.step) 1 g.onward
    (λ lanes. ap (λ b. view_of p lanes row (stands_at b)) full) (λ t. here_place r y n n _ 1 _ g))
    l
  where
    -- behind the part, where the size is 0 or not
    stands_at : Bool → Running
    stands_at b =
        let o = row_ahead n q in
        record {
          state = Open;
          kind = q.kind;
          width = q.width;
          valid = q.valid;
          moved = q.moved + cond b 1 n;
          height = 1;
          index = o.index;
          address = o.address;
          size = q.size;
          step = q.step;
        }

-- an open stream that stays in its row, or leaves it
module _ (p : Pattern) (row : List ℕ) (q : Running) (n plain : ℕ) (most : n ≤ 64)
    (known : (is_open q.state ≡ true → Ready (view_of p [] row q)) × Remembers p row q) (live : is_open q.state ≡ true) where
  pub row-requires : Near q.address q.step × ((n ≤ 64) × (q.index ≤ 4096))
  row-requires = (near p row q (known.0 live) (known.1 live), (most, omega (arith, inner-small p row q (known.0 live))))

  pub row-taken : (ends_at p.shape.coupling true 1 ≡ false) × ((1 ≤ n) × (q.index + n < q.size)) → (xs : List Part) (o : Ahead) → o ≡ row_ahead n q
      → length xs ≡ 64 → joined_in (take 1 xs) ≡ progression q.address.0 q.step.0 n → Taken p row q n plain row xs o
  row-taken h xs o e l listed =
      subst (Taken p row q n plain row xs) (sym e) (taken-row p row q (known.0 live) (known.1 live) live h.0 n plain h.1.0 most h.1.1 xs l listed)

  -- `r` is the register once more
  pub across-asked : (r : Running) → r ≡ q
      → (Ready (view_of p [] row r) × (place_of row r ≡ place_at p r.width (set row 0 r.index))) × (n ≤ 64)
  across-asked r e =
      (subst (λ t. Ready (view_of p [] row t) × (place_of row t ≡ place_at p t.width (set row 0 t.index))) (sym e) (known.0 live, known.1 live), most)

  pub across-taken : (r : Running) → r ≡ q → (after : List ℕ) (xs : List Part) (o : Ahead)
      → ((o.live ≡ true) × ((o.parts ≤ 64) × Looks p row r n o.count (listed_in o xs) after (behind o r))) × (length xs ≡ 64) → Taken p row q n plain after xs o
  across-taken r e after xs o k =
      taken_live p row after q n plain xs o live k.0.0 k.0.1.0 (subst (λ t. Looks p row t n o.count (listed_in o xs) after (behind o t)) e k.0.1.1) k.1
