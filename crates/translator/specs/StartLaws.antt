-- The sheet of an accepted nest before its run: its operations are accepted in turn, and leave three streams in step.
--
--   register_for, kind_for     the register and the kind of each access
--   body                     the one calculation of the run, with its place
--   Started, started         the machine that the operations leave, and the run behind them
use Rattle.std.specs.Prelude.{ℕ, ◌+◌, ◌≤◌, ◌<◌, ◌≡◌, refl, ◌≢◌, List, [], ◌∷◌, ◌++◌, length}
use Rattle.std.proofs.Common.{◌∙◌, subst, ⊎_elim, arith}
use Rattle.std.proofs.Math.Path.{ap}
use Rattle.codec.specs.NumberLaws.{AreBytes, Stands}
use Rattle.codec.specs.StandingLaws.{stands-front, stands-back, all-stand}
use Rattle.codec.specs.HeaderLaws.{free-none}
use Rattle.codec.specs.Operations.{operation_bytes, bytes_of_all, calculation_bytes}
use Rattle.codec.specs.BytewiseLaws.{Bytewise, bytes-append, operation-bytes, calculation-bytes, all_append}
use Rattle.codec.specs.declared.header.Kind.{Kind}
use Rattle.codec.specs.declared.header.Kind.TheVariants.{Load, Store}
use Rattle.codec.specs.declared.operation.Operation.{Operation}
use Rattle.engine.specs.Registers.{fresh_machine, reg}
use Rattle.engine.specs.Given.{Stream, none, ended}
use Rattle.engine.specs.GivenLaws.{Has, fresh-has}
use Rattle.engine.specs.Offered.{ended-streaming}
use Rattle.engine.specs.InStep.{Streaming}
use Rattle.engine.specs.Promise1.{RunAt, DoneBefore}
use Rattle.engine.specs.ReadingLaws.{in-range}
use Rattle.engine.specs.StandLaws.{turns-append, body-one}
use Rattle.engine.specs.GivingLaws.{Leads, leads-bytes, DoneInTurn, leads-done}
use Rattle.engine.specs.declared.register.Machine.{Machine}
use Rattle.engine.specs.declared.run.Placed.{Placed}
use Rattle.translator.specs.Fields.{Role, first, second, destination, access_of}
use Rattle.translator.specs.Nests.{width_of}
use Rattle.translator.specs.NestSheets.{stream_of, pattern_for, stream_ops, sheet_ops, run_op, calculation_of, sheet_of}
use Rattle.translator.specs.Acceptance.{Accepted}
use Rattle.translator.specs.NestWritten.{action-small}
use Rattle.translator.specs.PatternLaws.{tidy-access, pattern-same}
use Rattle.translator.specs.NestStreams.{stream-gives}
use Rattle.translator.specs.declared.nest.Nest.{Nest}

-- "The sheet uses registers 1, 2, 3"
abbrev pub register_for : Role → ℕ
register_for first = 1
register_for second = 2
register_for destination = 3

-- both sources are loads, the destination is a store
abbrev pub kind_for : Role → Kind
kind_for first = Load
kind_for second = Load
kind_for destination = Store

-- the one calculation of the run, at a place
abbrev pub body : Nest → ℕ → Placed
body m place = record { place = place; calculation = calculation_of m }

-- an access streams in a register, by the nest's pattern, from its start
abbrev pub Streams : Nest → Role → Machine → Type 0
Streams m a n = Streaming (pattern_for m (access_of a m)) (kind_for a) (width_of m) 0 (reg n (register_for a))

-- the machine that the operations of a sheet leave, and the run behind them
pub record Started (m : Nest) : Type 0 where
  pub bytes : AreBytes (sheet_of m)
  pub machine : Machine
  pub place : ℕ
  pub before : DoneBefore (sheet_of m) (sheet_ops m) place machine
  pub from : ℕ
  pub run_at : RunAt (sheet_of m) place 1 (body m from ∷ []) (length (sheet_of m))
  pub streams : (a : Role) → Streams m a machine

module _ (m : Nest) (ac : Accepted m) where
  -- what the sheet gives for an access
  abbrev stream : Role → Stream
  stream a = stream_of m (register_for a) (kind_for a) (access_of a m)

  -- the operations that give it
  abbrev ops : Role → List Operation
  ops a = stream_ops m (register_for a) (kind_for a) (access_of a m)

  -- their bytes
  abbrev bytes : Role → List ℕ
  bytes a = bytes_of_all (ops a)

  -- its register is one of the 32
  low : (a : Role) → register_for a ≤ 31
  low first = omega arith
  low second = omega arith
  low destination = omega arith

  -- none of the operations is refused
  gives : (a : Role) → Leads (register_for a) none (ops a) (ended (stream a))
  gives a = stream-gives m ac (register_for a) (low a) (kind_for a) (access_of a m) (tidy-access m ac a)

  -- the bytes are bytes
  are : (a : Role) → Bytewise (bytes a)
  are a = leads-bytes (register_for a) none (ended (stream a)) (ops a) (gives a)

  -- ---- the sheet

  -- all three streams
  abbrev ops_bytes : List ℕ
  ops_bytes = bytes first ++ (bytes second ++ bytes destination)

  -- the run
  abbrev run_bytes : List ℕ
  run_bytes = operation_bytes 0 run_op ++ calculation_bytes (calculation_of m)

  -- the sheet is both
  sheet-bytes : sheet_of m ≡ ops_bytes ++ run_bytes
  unfolding sheet_of
  sheet-bytes =
      ap (λ l. l ++ run_bytes) (all_append (ops first) (ops second ++ ops destination) ∙ ap (λ l. bytes first ++ l) (all_append (ops second) (ops destination)))

  -- its bytes are bytes
  sheet-are : Bytewise (sheet_of m)
  sheet-are =
      let run = operation-bytes run_op ((in-range run_op).1 (omega arith, (omega arith, omega arith))) in
      let calculation = calculation-bytes (calculation_of m) (omega arith) (omega arith) (omega arith) in
      rw sheet-bytes (bytes-append (bytes-append (are first) (bytes-append (are second) (are destination))) (bytes-append run calculation))

  -- the place behind the first stream
  abbrev at1 : ℕ
  at1 = 0 + length (bytes first)

  -- behind the second
  abbrev at2 : ℕ
  at2 = at1 + length (bytes second)

  -- behind all three: that of the run
  abbrev at3 : ℕ
  at3 = 0 + length ops_bytes

  -- where each part stands: all of it
  whole : Stands (sheet_of m) 0 (ops_bytes ++ run_bytes) (length (sheet_of m))
  whole = all-stand (sheet_of m) (ops_bytes ++ run_bytes) sheet-bytes

  -- the operations of all three streams, in front
  ops-stand : Stands (sheet_of m) 0 ops_bytes at3
  ops-stand = stands-front (sheet_of m) ops_bytes run_bytes 0 (length (sheet_of m)) whole

  -- those of the first stream
  first-stands : Stands (sheet_of m) 0 (bytes first) at1
  first-stands = stands-front (sheet_of m) (bytes first) (bytes second ++ bytes destination) 0 at3 ops-stand

  -- those of the second and the third, behind it
  rest-stands : Stands (sheet_of m) at1 (bytes second ++ bytes destination) at3
  rest-stands = stands-back (sheet_of m) (bytes first) (bytes second ++ bytes destination) 0 at3 ops-stand

  -- the run, behind all of them
  run-stands : Stands (sheet_of m) at3 run_bytes (length (sheet_of m))
  run-stands = stands-back (sheet_of m) ops_bytes run_bytes 0 (length (sheet_of m)) whole

  -- ---- its operations, in turn

  -- one stream, from a machine whose register has nothing
  turned : (a : Role) (at to : ℕ) (n : Machine) → length n.registers ≡ 32 → Has none (reg n (register_for a)) → Stands (sheet_of m) at (bytes a) to
      → DoneInTurn (sheet_of m) (register_for a) (ops a) (ended (stream a)) at to n
  turned a at to n all h s =
      leads-done (sheet_of m) (register_for a) (omega (arith, low a)) (ops a) none (ended (stream a)) at to n all (gives a) h s

  -- the first
  turned1 : DoneInTurn (sheet_of m) 1 (ops first) (ended (stream first)) 0 at1 fresh_machine
  turned1 = turned first 0 at1 fresh_machine refl (fresh-has 1 (omega arith)) first-stands

  -- another register has nothing after the first stream
  after1 : (i : ℕ) → i < 32 → i ≢ 1 → Has none (reg turned1.machine i)
  after1 i h n = turned1.others i none h n (fresh-has i h)

  -- the second
  turned2 : DoneInTurn (sheet_of m) 2 (ops second) (ended (stream second)) at1 at2 turned1.machine
  turned2 =
      turned second at1 at2 turned1.machine turned1.all (after1 2 (omega arith) (λ e. omega arith))
      (stands-front (sheet_of m) (bytes second) (bytes destination) at1 at3 rest-stands)

  -- the third
  turned3 : DoneInTurn (sheet_of m) 3 (ops destination) (ended (stream destination)) at2 at3 turned2.machine
  turned3 =
      turned destination at2 at3 turned2.machine turned2.all
      (turned2.others 3 none (omega arith) (λ e. omega arith) (after1 3 (omega arith) (λ e. omega arith)))
      (stands-back (sheet_of m) (bytes second) (bytes destination) at1 at3 rest-stands)

  -- the machine behind them
  abbrev last : Machine
  last = turned3.machine

  -- all operations, in turn
  in-turn : DoneBefore (sheet_of m) (sheet_ops m) at3 last
  in-turn =
      turns-append (sheet_of m) 0 fresh_machine (ops first) at1 turned1.machine (ops second ++ ops destination) at3 last turned1.turns
      (turns-append (sheet_of m) at1 turned1.machine (ops second) at2 turned2.machine (ops destination) at3 last turned2.turns turned3.turns)

  -- each register has its stream in the end
  has : (a : Role) → Has (ended (stream a)) (reg last (register_for a))
  has first =
      turned3.others 1 (ended (stream first)) (omega arith) (λ e. omega arith)
      (turned2.others 1 (ended (stream first)) (omega arith) (λ e. omega arith) turned1.own)
  has second = turned3.others 2 (ended (stream second)) (omega arith) (λ e. omega arith) turned2.own
  has destination = turned3.own

  -- ---- its run

  -- the place of its calculation
  abbrev runs : ℕ
  runs = at3 + length (operation_bytes 0 run_op)

  -- it is read whole, with no byte behind it
  run-there : RunAt (sheet_of m) at3 1 (body m runs ∷ []) (length (sheet_of m))
  run-there = record {
    from = runs;
    written = record {
      free = 0;
      is_free = free-none;
      range = (omega arith, (omega arith, omega arith));
      stands = stands-front (sheet_of m) (operation_bytes 0 run_op) (calculation_bytes (calculation_of m)) at3 (length (sheet_of m)) run-stands;
    };
    body =
        body-one (sheet_of m) runs (calculation_of m) (length (sheet_of m))
        (record {
          destination = omega arith;
          first = omega arith;
          second = omega arith;
          alone = ⊎_elim (λ e. absurd (omega (arith, ac.range.operation))) (λ e. absurd (omega (arith, action-small m.action)));
          stands = stands-back (sheet_of m) (operation_bytes 0 run_op) (calculation_bytes (calculation_of m)) at3 (length (sheet_of m)) run-stands;
        });
  }

  -- all of it
  pub started : Started m
  started = record {
    bytes = sheet-are.are;
    machine = last;
    place = at3;
    before = in-turn;
    from = runs;
    run_at = run-there;
    streams = λ a.
        subst (λ p. Streaming p (kind_for a) (width_of m) 0 (reg last (register_for a))) (pattern-same m ac (register_for a) (kind_for a) (access_of a m) (tidy-access m ac a))
        (ended-streaming (stream a) (reg last (register_for a)) (has a));
  }
