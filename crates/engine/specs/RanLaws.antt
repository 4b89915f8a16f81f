-- The history of a run: execute has one, and one answer at most has one.
--
--   turned-ran                a run of its calculations in turn has a history
--   ran_named, ran-followed   one that has a history: its calculations name registers; its worlds and what it moved are the engine's
--   ran-turned                it is a run of its calculations in turn
--   execute-ran, ran-one      execute has a history; two answers that have one are the same
use Rattle.std.specs.Prelude.{◌≡◌, ℕ, ◌/◌, ◌%◌, ◌<◌, ◌≤◌, List, length, get_or, slice_index_or}
use Rattle.std.proofs.Common.{sym, ◌∙◌, ap, subst, arith}
use Rattle.std.proofs.lemmas.List.{length-map}
use Rattle.engine.specs.Registers.{reg}
use Rattle.engine.specs.Calculate.{World, refusal_of}
use Rattle.engine.specs.Run.{Progress, begun, execute}
use Rattle.engine.specs.HistoryLaws.{AllNamed}
use Rattle.engine.specs.EndLaws.{Running}
use Rattle.engine.specs.Histories.{Entry, Follow, no_placed, in_turn, Ran}
use Rattle.engine.specs.Reasons.{CalculationRefused}
use Rattle.engine.specs.ReasonLaws.{calculation-refused}
use Rattle.engine.specs.TurnLaws.{Turned, turned-one}
use Rattle.engine.specs.RoundLaws.{execute-turned}
use Rattle.engine.specs.EntryLaws.{named-turns, entries_of, entry_calculations, entries-calculations, entries-length, entries-world, entries-follow, Followed, followed}
use Rattle.engine.specs.declared.run.Placed.{Placed}

module _ (vl loop : ℕ) (body : List Placed) (w : World) (u : Running vl loop body (begun w)) (some : 1 ≤ length body) where
  -- a run of its calculations in turn has a history
  pub turned-ran : (r : Progress) → Turned vl loop body w r → Ran vl loop body w r
  turned-ran r t = record {
    entries = es;
    follow =
        subst (Follow vl w es) (sym t.world)
        (entries-follow vl u.lanes w cs (named-turns body cs some u.named t.turns) u.good t.completed);
    turns = λ k h. ap (λ l. get_or l k no_placed) (entries-calculations vl w cs) ∙ t.turns k (omega (arith, n));
    calculations = t.count ∙ sym n;
    passes = t.passes ∙ ap (λ m. m / length body) (sym n);
    began = λ k h e. ap (λ x. (reg x.machine loop).state) (entries-world vl w cs k) ∙ t.began k (omega (arith, n)) e;
    done = λ v. let d = t.done v in (ap (λ m. m % length body) n ∙ d.0, d.1);
    refused = λ x at v.
        let d = t.refused x at v in
        let c : in_turn body (length cs) ≡ in_turn body (length es) = ap (in_turn body) (sym n) in (
          subst (λ p. CalculationRefused vl p.calculation r.world x) c ((calculation-refused vl _ r.world x).0 d.0),
          d.1 ∙ ap (λ p. p.place) c,
          λ e. d.2 (ap (λ m. m % length body) (sym n) ∙ e),
        );
  }
    where
      cs : List Placed
      cs = t.calculations

      es : List Entry
      es = entries_of vl w cs

      n : length es ≡ length cs
      n = entries-length vl w cs

  -- the calculations of a run that has a history are those of the body in turn
  ran-turns : (r : Progress) (h : Ran vl loop body w r) (k : ℕ) → k < length (entry_calculations h.entries)
      → slice_index_or (entry_calculations h.entries) k no_placed ≡ in_turn body k
  ran-turns r h k p = h.turns k (omega (arith, length-map h.entries (λ (e : Entry). e.calculation)))

  -- they name registers
  pub ran_named : (r : Progress) (h : Ran vl loop body w r) → AllNamed (entry_calculations h.entries)
  ran_named r h = named-turns body (entry_calculations h.entries) some u.named (ran-turns r h)

  -- none of them is refused, and its worlds and what it moved are theirs
  pub ran-followed : (r : Progress) (h : Ran vl loop body w r) → Followed vl w h.entries r.world
  ran-followed r h = followed vl u.lanes w h.entries r.world (ran_named r h) u.good h.follow

  -- so it is one of its calculations in turn
  pub ran-turned : (r : Progress) → Ran vl loop body w r → Turned vl loop body w r
  ran-turned r h = record {
    calculations = cs;
    turns = ran-turns r h;
    completed = f.completed;
    world = f.world;
    count = h.calculations ∙ sym n;
    passes = h.passes ∙ ap (λ m. m / length body) (sym n);
    began = λ k p e. ap (λ x. (reg x.machine loop).state) (sym (f.worlds k)) ∙ h.began k (omega (arith, n)) e;
    done = λ v. let d = h.done v in (ap (λ m. m % length body) n ∙ d.0, d.1);
    refused = λ x at v.
        let d = h.refused x at v in
        let c : in_turn body (length cs) ≡ in_turn body (length es) = ap (in_turn body) n in (
          ap (λ p. refusal_of vl p.calculation r.world) c ∙ (calculation-refused vl _ r.world x).1 d.0,
          d.1 ∙ ap (λ p. p.place) (sym c),
          λ e. d.2 (ap (λ m. m % length body) (sym n) ∙ e),
        );
  }
    where
      es : List Entry
      es = h.entries

      cs : List Placed
      cs = entry_calculations es

      n : length cs ≡ length es
      n = length-map es (λ (e : Entry). e.calculation)

      f : Followed vl w es r.world
      f = ran-followed r h

  -- execute has a history
  pub execute-ran : Ran vl loop body w (execute vl loop body w)
  execute-ran = turned-ran (execute vl loop body w) (execute-turned vl loop body w u some)

  -- two answers that have one are the same
  pub ran-one : (r q : Progress) → Ran vl loop body w r → Ran vl loop body w q → r ≡ q
  ran-one r q a b = turned-one vl loop body w r q (ran-turned r a) (ran-turned q b)
