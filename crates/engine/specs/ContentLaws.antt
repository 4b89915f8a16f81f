-- What registers hold before any calculation, and what moving and writing leave.
--
--   applied-empty, turns-empty, before-empty   every register that a sheet's operations leave is empty
--   turns-kept, before-fresh   one that they do not name is fresh
--   moved-content              a stream that moves on leaves its register's content as it is: a store's "stays so"
--   holding-width, holding-contents   a register that takes lanes has their width, and gives them
--   lanewise-at                lane k is of lane k of both sources, in this order
--   stored_last                "writes them in lane order": the last lane is written last
use Rattle.std.specs.Prelude.{◌≡◌, ℕ, zero, suc, ◌*◌, ◌^◌, ◌<◌, ◌≤◌, List, [], ◌∷◌, ◌++◌, length, slice_index, refl}
use Rattle.std.proofs.Common.{sym, ◌∙◌, ap, subst, arith}
use Rattle.std.proofs.lemmas.List.{get_or-replicate}
use Rattle.std.proofs.lemmas.List.Edits.{sets}
use Rattle.codec.specs.declared.operation.Operation.{Operation}
use Rattle.codec.specs.declared.operation.Operation.TheVariants as op
use Rattle.engine.specs.Memory.{spot, little_endian, stored, contents, holding}
use Rattle.engine.specs.Lanes.{lanewise}
use Rattle.engine.specs.Registers.{fresh, no_register, moved_to, moved_by, fresh_machine, reg}
use Rattle.engine.specs.Configure.{register_of, applied}
use Rattle.engine.specs.GoodLaws.{set-each, put_other}
use Rattle.engine.specs.PackedLaws.{lanes-packed}
use Rattle.engine.specs.Promise1.{OperationInRange, Turns, DoneBefore, after}
use Rattle.engine.specs.Promise2.{Empty, AllEmpty, Unnamed, Fresh}
use Rattle.engine.specs.declared.stream.Pattern.{Pattern}
use Rattle.engine.specs.declared.register.Register.{Register}
use Rattle.engine.specs.declared.register.Machine.{Machine}

-- ---- before any calculation

-- an operation leaves its register so
pub applied-empty : (o : Operation) (r : Register) → Empty r → Empty (applied o r)
unfolding moved_by
applied-empty (op.Open h base) r e = record { valid = refl; lanes = refl }
applied-empty (op.Dimension d) r e = record { valid = e.valid; lanes = e.lanes }
applied-empty (op.Modifier m) r e = record { valid = e.valid; lanes = e.lanes }
applied-empty (op.End i) r e = record { valid = e.valid; lanes = e.lanes }
applied-empty (op.Run i n) r e = e

-- an operation in range is of one of the 32
below : (o : Operation) → OperationInRange o → register_of o < 32
below (op.Open h base) r = omega (arith, r.0)
below (op.Dimension d) r = omega (arith, r.0)
below (op.Modifier m) r = omega (arith, r.0)
below (op.End i) r = omega (arith, r)
below (op.Run i n) r = omega (arith, r.0)

-- operations in turn leave all of them so
pub turns-empty : (s : List ℕ) (os : List Operation) (at to : ℕ) (m n : Machine) → AllEmpty m → Turns s at m os to n → AllEmpty n
unfolding Turns
turns-empty s [] at to m n a t = subst AllEmpty t.1 a
turns-empty s (o ∷ os) at to m n a t =
    turns-empty s os t.0 to (after o m) n
    (λ i h.
    set-each Empty m.registers (register_of o) i (applied o (reg m (register_of o))) no_register
    (applied-empty o (reg m (register_of o)) (a (register_of o) (below o t.1.range))) (a i h))
    t.3

-- so is every register that the operations of a sheet leave
pub before-empty : (s : List ℕ) (os : List Operation) (at : ℕ) (m : Machine) → DoneBefore s os at m → AllEmpty m
before-empty s os at m b =
    turns-empty s os 0 at fresh_machine m
    (λ i h. subst Empty (sym (get_or-replicate 32 i fresh no_register h)) (record { valid = refl; lanes = refl })) b

-- a register that no operation names stays as it is
turns-kept : (s : List ℕ) (os : List Operation) (at to : ℕ) (m n : Machine) (i : ℕ) → Unnamed i os → Turns s at m os to n → reg n i ≡ reg m i
unfolding Turns Unnamed
turns-kept s [] at to m n i u t = ap (λ k. reg k i) (sym t.1)
turns-kept s (o ∷ os) at to m n i u t =
    turns-kept s os t.0 to (after o m) n i u.1 t.3
    ∙ put_other m (register_of o) i (applied o (reg m (register_of o))) (λ e. u.0 (sym e))

-- so it is fresh
pub before-fresh : (s : List ℕ) (os : List Operation) (at : ℕ) (m : Machine) → DoneBefore s os at m → (i : ℕ) → i < 32 → Unnamed i os → Fresh (reg m i)
before-fresh s os at m b i h u =
    subst Fresh (sym (turns-kept s os 0 at fresh_machine m i u b ∙ get_or-replicate 32 i fresh no_register h))
    (record { plain = refl; width = refl; empty = record { valid = refl; lanes = refl } })

-- ---- moving and writing

-- a stream that moves on leaves its register's content: "a store stream's register stays so"
pub moved-content : (n : ℕ) (r : Register) → ((moved_to n r).valid ≡ r.valid) × ((moved_to n r).lanes ≡ r.lanes)
moved-content n r = (refl, refl)

-- "takes the lanes and width"
pub holding-width : (width : ℕ) (xs : List ℕ) (r : Register) → (holding width xs r).width ≡ width
unfolding holding
holding-width width xs r = refl

-- lanes that a register took are those that it gives
pub holding-contents : (width : ℕ) (xs : List ℕ) (r : Register) → ((k : ℕ) → slice_index xs k < 2 ^ (8 * width)) → length xs * width ≤ 64
    → contents (holding width xs r) ≡ xs
unfolding holding
holding-contents width xs r h p = lanes-packed width xs h p

-- lane k is the operation of lane k of the first source and lane k of the second, in this order
pub lanewise-at : (f : ℕ → ℕ → ℕ) (xs ys : List ℕ) (k : ℕ) → k < length xs → k < length ys
    → slice_index (lanewise f xs ys) k ≡ f (slice_index xs k) (slice_index ys k)
unfolding lanewise
lanewise-at f [] ys k h q = absurd (omega arith)
lanewise-at f (x ∷ xs) [] k h q = absurd (omega arith)
lanewise-at f (x ∷ xs) (y ∷ ys) zero h q = refl
lanewise-at f (x ∷ xs) (y ∷ ys) (suc k) h q = lanewise-at f xs ys k (omega arith) (omega arith)

-- "writes them in lane order": of as many lanes as elements the last is written last, over all before it
pub stored_last : (p : Pattern) (width : ℕ) (memory : List ℕ) (vs : List (List ℕ)) (xs : List ℕ) (v : List ℕ) (x : ℕ) → length vs ≡ length xs
    → stored p width memory (vs ++ (v ∷ [])) (xs ++ (x ∷ [])) ≡ sets (stored p width memory vs xs) (spot p width v) (little_endian width x)
unfolding stored
stored_last p width memory [] [] v x e = refl
stored_last p width memory [] (y ∷ xs) v x e = absurd (omega arith)
stored_last p width memory (u ∷ vs) [] v x e = absurd (omega arith)
stored_last p width memory (u ∷ vs) (y ∷ xs) v x e =
    stored_last p width (sets memory (spot p width u) (little_endian width y)) vs xs v x (omega arith)
