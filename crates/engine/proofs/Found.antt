-- What a search that stands at a position of the elements, or of the stops, has found.
--
--   stands, nothing               a search stands where what is to come says, or past the last element
--   found, below, there, small    one that found an element stands at it: its position and index
--   lies                          and its address
--   arrives-element, arrives-some, element-here, arrives   a search over stops has arrived where what is to come says
--   comes-same, to-first, to_none, entered, stop-below, stop-here   what is to come, pass by pass; where the search has arrived
--   stop-lies, held-told          its address; whether it is an element
use Rattle.std.specs.Prelude.{None}
use Rattle.std.proofs.Common.{◌≡◌, ℕ, zero, suc, ◌-◌, ◌<◌, ◌≤◌, Bool, true, false, cond, not, ltb, Option, List, [], ◌∷◌, ◌++◌, map, length, get_or, take, drop, replicate, sym, refl, ap, ◌∙◌, subst, arith, drop_at, ltb-true, le-ltb, lt-ltb}
use lib.ListN.{length-replicate}
use lib.Dec.{leb-suc-suc}
use Rattle.std.specs.Option.{is_some}
use Rattle.engine.specs.Loops.{size_at, join, loops, elements}
use Rattle.engine.specs.Chunks.{or_one, pass_stops, stops, is_element, nothing_at}
use Rattle.engine.specs.Addresses.{address}
use Rattle.engine.specs.AddressLaws.{Small}
use Rattle.engine.specs.Good.{Accepted}
use Rattle.engine.specs.Registers.{index_of}
use Rattle.engine.specs.Walk.{at, is_none, bare, Element, Stands, Stop, Arrives, Comes, comes_empty}
use Rattle.engine.specs.IndexLaws.{roomy, element-length, element-small, address-index}
use Rattle.engine.specs.StopLaws.{stops-uncoupled, stop-length}
use Rattle.engine.specs.StopWalk.{Passing, pass-start, nothing-bare, nothing-uncoupled, covers}
use Rattle.engine.specs.StopPlaces.{stop-told}
use Rattle.std.specs.Bool.{then_some}
use Rattle.engine.specs.declared.walk.Arrival.{Arrival}
use Rattle.engine.specs.declared.walk.Arrival.TheVariants as arrival
use Rattle.engine.specs.declared.stream.Shape.{Shape}
use Rattle.engine.specs.declared.stream.Pattern.{Pattern}

-- false is not true
never_true : {A : Type 0} → ◌≡◌ {A = Bool} false true → A
never_true e = absurd (let y : ◌≡◌ {A = ℕ} 0 1 = cc in omega arith)

never : {A : Type 0} (x : List ℕ) (t : List (List ℕ)) → ◌≡◌ {A = List (List ℕ)} [] (x ∷ t) → A
never x t e = absurd (let z : ◌≡◌ {A = ℕ} 0 1 = cc in omega arith)

found_at : (l : List (List ℕ)) (k : ℕ) (found : Bool) (index : List ℕ) (t : List (List ℕ))
    → map index_of (drop k l) ≡ cond found (index ∷ t) []
    → (found ≡ ltb k (length l)) × (found ≡ true → index ≡ index_of (get_or l k []))
found_at [] zero true index t e = never index t e
found_at [] (suc k) true index t e = never index t e
found_at [] zero false index t e = (sym (le-ltb 0 0 (omega arith)), λ z. absurd (let y : ◌≡◌ {A = ℕ} 0 1 = cc in omega arith))
found_at [] (suc k) false index t e = (sym (le-ltb (suc k) 0 (omega arith)), λ z. absurd (let y : ◌≡◌ {A = ℕ} 0 1 = cc in omega arith))
found_at (x ∷ l) zero true index t e = (sym (lt-ltb 0 (suc (length l)) (omega arith)), λ z. cc)
found_at (x ∷ l) zero false index t e = never (index_of x) (map index_of l) (sym e)
found_at (x ∷ l) (suc k) found index t e =
    let r = found_at l k found index t e in
    (r.0 ∙ sym (leb-suc-suc (suc k) (length l)), r.1)

pub stands : (s : Shape) (k : ℕ) (found : Bool) (index : List ℕ) (t : List (List ℕ))
    → map index_of (drop k (elements s)) ≡ cond found (index ∷ t) [] → Stands s k found index
stands s k found index t e = let r = found_at (elements s) k found index t e in record { told = r.0; here = r.1 }

-- past the last element there is none
pub nothing : (s : Shape) (k : ℕ) (index : List ℕ) → length (elements s) ≤ k → Stands s k false index
nothing s k index h = record {
  told = sym (le-ltb k (length (elements s)) h);
  here = λ e. absurd (let z : ◌≡◌ {A = ℕ} 0 1 = cc in omega arith);
}

-- a search that found an element stands at it
pub found : {s : Shape} {k : ℕ} {b : Bool} {v : List ℕ} → b ≡ true → Stands s k b v → Stands s k true v
found {s} {k} {b} {v} e h = subst (λ x. Stands s k x v) e h

-- the element at which a walk stands
pub below : {s : Shape} {k : ℕ} {v : List ℕ} → Stands s k true v → k < length (elements s)
below h = ltb-true _ _ (sym h.told)

pub there : {s : Shape} {k : ℕ} {v : List ℕ} → Stands s k true v → Element s v
there {s} {k} h = record { position = k; below = below h; here = h.here refl }

pub small : {s : Shape} {k : ℕ} {v : List ℕ} → Stands s k true v → Accepted s → Small v
small {s} {k} {v} h a j = omega (arith, element-small s a v (there h) j)

pub lies : (p : Pattern) (w : ℕ) {k : ℕ} {v : List ℕ} → Stands p.shape k true v → Accepted p.shape
    → address p w v ≡ address p w (get_or (elements p.shape) k [])
lies p w {k} h a =
    ap (address p w) (h.here refl)
    ∙ address-index p w (get_or (elements p.shape) k []) (element-length p.shape (roomy p.shape a) k (below h)) a.ranged.dims

-- ---- stops

-- uncoupled, a search over the stops is one over the elements
pub arrives-element : (s : Shape) → s.coupling ≡ None → (k : ℕ) (found : Bool) (index : List ℕ) → Stands s k found index → Arrives s k found false index
arrives-element s e k found index h =
    let u : elements s ≡ stops s = sym (stops-uncoupled s e) in
    let t : found ≡ ltb k (length (stops s)) = subst (λ l. found ≡ ltb k (length l)) u h.told in
    record {
      told = t;
      here = λ y. h.here y ∙ ap (λ l. index_of (get_or l k [])) u;
      nothing = λ y. sym (nothing-uncoupled s e k (ltb-true k (length (stops s)) (sym t ∙ y)));
    }

-- the same, where the code says so by an option
pub arrives-some : (s : Shape) (k : ℕ) (found : Bool) (r : Option Arrival) (index : List ℕ) → r ≡ then_some found arrival.Element → Arrives s k found false index
    → Arrives s k (is_some r) (comes_empty r) index
arrives-some s k true r index e h = rw e h
arrives-some s k false r index e h = rw e h

-- and a stop is an element
pub element-here : (s : Shape) → s.coupling ≡ None → (v : List ℕ) (empty : Bool) → Stop s v empty → Element s v
element-here s e v empty t =
    let u : stops s ≡ elements s = stops-uncoupled s e in
    record { position = t.position; below = subst (λ l. t.position < length l) u t.below; here = t.here ∙ ap (λ l. index_of (get_or l t.position [])) u }

module _ (s : Shape) (c : ℕ) where
  -- coupled, a search that says what comes first of the stops from a position on has arrived there
  pub arrives : Passing s c → (k : ℕ) (found empty : Bool) (index : List ℕ) → Comes s c (map index_of (drop k (stops s))) found empty index → Arrives s k found empty index
  arrives p k found empty index h =
      let r = found_at (stops s) k found index h.later h.list in
      record {
        told = r.0;
        here = r.1;
        nothing = λ e.
            h.nothing e
            ∙ ap (λ v. bare (size_at s) c (drop c v)) (r.1 e)
            ∙ sym (nothing-bare s c p k (ltb-true k (length (stops s)) (sym r.0 ∙ e)));
      }

  -- the same of the same stops
  pub comes-same : {l m : List (List ℕ)} {found empty : Bool} {index : List ℕ} → l ≡ m → Comes s c m found empty index → Comes s c l found empty index
  comes-same e h = record { later = h.later; list = e ∙ h.list; nothing = h.nothing }

  -- where one is to come, those behind change nothing
  comes-more : (l m : List (List ℕ)) (found empty : Bool) (index : List ℕ) → found ≡ true → Comes s c l found empty index → Comes s c (l ++ m) found empty index
  comes-more l m true empty index e h = record { later = h.later ++ m; list = ap (λ y. y ++ m) h.list; nothing = h.nothing }
  comes-more l m false empty index e h = never_true e

  -- passes to come, where a search has found one: the first of them
  pub to-first : (os : List (List ℕ)) (o : List ℕ) (later : List (List ℕ)) (b : Bool) → os ≡ cond b (o ∷ later) [] → b ≡ true
      → (found empty : Bool) (index : List ℕ) → found ≡ true → Comes s c (pass_stops (size_at s) c o) found empty index
      → Comes s c (join (map (pass_stops (size_at s) c) os)) found empty index
  unfolding join
  to-first os o later b e y found empty index t h =
      comes-same (ap (λ l. join (map (pass_stops (size_at s) c) l)) (e ∙ ap (λ x. cond x (o ∷ later) []) y))
      (comes-more (pass_stops (size_at s) c o) (join (map (pass_stops (size_at s) c) later)) found empty index t h)

  -- and where it has found none
  pub to_none : (os l : List (List ℕ)) (b : Bool) → os ≡ cond b l [] → b ≡ false → (empty : Bool) (index : List ℕ)
      → Comes s c (join (map (pass_stops (size_at s) c) os)) false empty index
  unfolding join
  to_none os l b e y empty index =
      record { later = []; list = ap (λ m. join (map (pass_stops (size_at s) c) m)) (e ∙ ap (λ x. cond x l []) y); nothing = λ t. never_true t }

  -- a pass entered: from zeros on the search finds its first element, or it has none, and its stop is at the zeros
  pub entered : 1 ≤ c → (outer v to : List ℕ) (t : List (List ℕ)) (found : Bool) → v ≡ replicate c 0 ++ outer
      → at (size_at s) 0 c (c - 1) v ≡ cond found (to ∷ t) [] → drop c to ≡ drop c v
      → Comes s c (pass_stops (size_at s) c outer) true (not found) (cond found to v)
  unfolding pass_stops
  entered p outer v to t found e a d = go found a
    where
      behind : drop c v ≡ outer
      behind = ap (drop c) e ∙ drop_at (replicate c 0) outer c (length-replicate c 0)

      go : (found : Bool) → at (size_at s) 0 c (c - 1) v ≡ cond found (to ∷ t) [] → Comes s c (pass_stops (size_at s) c outer) true (not found) (cond found to v)
      go true a =
          let l : loops (size_at s) 0 c outer ≡ to ∷ t = pass-start (size_at s) c outer p v e ∙ a in
          record { later = t; list = ap (or_one (replicate c 0 ++ outer)) l; nothing = λ _. sym (ap (bare (size_at s) c) (d ∙ behind) ∙ ap is_none l) }
      go false a =
          let l : loops (size_at s) 0 c outer ≡ [] = pass-start (size_at s) c outer p v e ∙ a in
          record { later = []; list = ap (or_one (replicate c 0 ++ outer)) l ∙ ap (λ u. u ∷ []) (sym e); nothing = λ _. sym (ap (bare (size_at s) c) behind ∙ ap is_none l) }

-- the stop at which a walk has arrived
pub stop-below : {s : Shape} {k : ℕ} {empty : Bool} {v : List ℕ} → Arrives s k true empty v → k < length (stops s)
stop-below {s} {k} h = ltb-true k (length (stops s)) (sym h.told)

pub stop-here : {s : Shape} {k : ℕ} {empty : Bool} {v : List ℕ} → Arrives s k true empty v → Stop s v empty
stop-here {s} {k} h = record { position = k; below = stop-below h; here = h.here refl; told = h.nothing refl }

-- and its address
pub stop-lies : (p : Pattern) (w : ℕ) {k : ℕ} {empty : Bool} {v : List ℕ} → Arrives p.shape k true empty v → Accepted p.shape
    → address p w v ≡ address p w (get_or (stops p.shape) k [])
stop-lies p w {k} h a =
    ap (address p w) (h.here refl)
    ∙ address-index p w (get_or (stops p.shape) k []) (stop-length p.shape (covers p.shape a) k (stop-below h)) a.ranged.dims

-- a stop that is a coupled pass without elements is no element by its indices
pub held-told : (s : Shape) → Accepted s → (v : List ℕ) (empty : Bool) → Stop s v empty → empty ≡ not (is_element (size_at s) 0 (take s.dims v))
held-told s y v empty t =
    t.told
    ∙ twice (nothing_at s t.position)
    ∙ ap not (sym (stop-told s y t.position t.below) ∙ ap (λ w. is_element (size_at s) 0 (take s.dims w)) (sym t.here))
  where
    twice : (b : Bool) → b ≡ not (not b)
    twice true = refl
    twice false = refl
