-- Operations of one register that stand in a sheet, accepted in turn by what was given for the register so far.
--
--   Offers, Leads                an operation that is not refused; operations that lead from what was given to what is given then
--   leads-none, leads-first, leads-append   none; one operation, then others; in two parts
--   leads-bytes                  their bytes
--   offers-accepts               an operation that is not refused is accepted
--   DoneInTurn, leads-done         they are done in turn; their register has what they give, every other what it had
use Rattle.std.specs.Prelude.{◌≡◌, ℕ, ◌+◌, ◌<◌, ◌≢◌, List, [], ◌∷◌, ◌++◌, length, refl, Ok}
use Rattle.std.proofs.Common.{sym, ◌∙◌, subst, arith, length-set}
use Rattle.codec.specs.NumberLaws.{Stands}
use Rattle.codec.specs.StandingLaws.{stands-front, stands-back}
use Rattle.codec.specs.HeaderLaws.{free-none}
use Rattle.codec.specs.Operations.{operation_bytes, bytes_of_all}
use Rattle.codec.specs.BytewiseLaws.{Bytewise, bytes-none, bytes-append, operation-bytes}
use Rattle.codec.specs.declared.operation.Operation.{Operation}
use Rattle.engine.specs.Checks.{first_of}
use Rattle.engine.specs.Registers.{reg}
use Rattle.engine.specs.Configure.{register_of, applied, why_not}
use Rattle.engine.specs.Allowed.{Accepts}
use Rattle.engine.specs.AllowedLaws.{accepts-clear}
use Rattle.engine.specs.Given.{Given, given_by}
use Rattle.engine.specs.GivenLaws.{Has, after-has, other-given}
use Rattle.engine.specs.Offered.{checks_given, offered}
use Rattle.engine.specs.ReadingLaws.{in-range}
use Rattle.engine.specs.Promise1.{Configures, OperationInRange, after, Turns}
use Rattle.engine.specs.declared.register.Machine.{Machine}

-- an operation of register i that is in range and not refused, after what was given for the register
pub record Offers (i : ℕ) (g : Given) (o : Operation) : Type 0 where
  pub register : register_of o ≡ i
  pub configures : Configures o
  pub range : OperationInRange o
  pub clear : first_of (checks_given o g) ≡ Ok tt

-- operations of register i that lead from g to h
unfoldable pub Leads : ℕ → Given → List Operation → Given → Type 0
Leads i g [] h = g ≡ h
Leads i g (o ∷ os) h = Offers i g o × Leads i (given_by i o g) os h

-- none
pub leads-none : (i : ℕ) (g h : Given) → g ≡ h → Leads i g [] h
unfolding Leads
leads-none i g h e = e

-- one operation, then others
pub leads-first : (i : ℕ) (g h k : Given) (o : Operation) (os : List Operation) → Offers i g o → given_by i o g ≡ h → Leads i h os k → Leads i g (o ∷ os) k
unfolding Leads
leads-first i g h k o os f e t = (f, subst (λ y. Leads i y os k) (sym e) t)

-- in two parts
pub leads-append : (i : ℕ) (g h k : Given) (os ps : List Operation) → Leads i g os h → Leads i h ps k → Leads i g (os ++ ps) k
unfolding Leads
leads-append i g h k [] ps p q = subst (λ y. Leads i y ps k) (sym p) q
leads-append i g h k (o ∷ os) ps p q = (p.0, leads-append i (given_by i o g) h k os ps p.1 q)

-- their bytes
pub leads-bytes : (i : ℕ) (g h : Given) (os : List Operation) → Leads i g os h → Bytewise (bytes_of_all os)
unfolding Leads bytes_of_all
leads-bytes i g h [] p = bytes-none
leads-bytes i g h (o ∷ os) p =
    bytes-append (operation-bytes o ((in-range o).1 p.0.range)) (leads-bytes i (given_by i o g) h os p.1)

-- an operation that is not refused, after what its register has, is accepted
pub offers-accepts : (i : ℕ) (g : Given) (o : Operation) (m : Machine) → Offers i g o → Has g (reg m i) → Accepts o (reg m (register_of o))
unfolding why_not
offers-accepts i g o m f h =
    (accepts-clear o m f.configures).0 (offered o g (reg m (register_of o)) (subst (λ j. Has g (reg m j)) (sym f.register) h) ∙ f.clear)

-- operations of register i that are done in turn: the register has h then, and every other what it had
pub record DoneInTurn (s : List ℕ) (i : ℕ) (os : List Operation) (h : Given) (at to : ℕ) (m : Machine) : Type 0 where
  pub machine : Machine
  pub turns : Turns s at m os to machine
  pub all : length machine.registers ≡ 32
  pub own : Has h (reg machine i)
  pub others : (j : ℕ) (x : Given) → j < 32 → j ≢ i → Has x (reg m j) → Has x (reg machine j)

-- where their bytes stand in a sheet, they are
pub leads-done : (s : List ℕ) (i : ℕ) → i < 32 → (os : List Operation) (g h : Given) (at to : ℕ) (m : Machine) → length m.registers ≡ 32 → Leads i g os h
    → Has g (reg m i) → Stands s at (bytes_of_all os) to → DoneInTurn s i os h at to m
unfolding Leads Turns bytes_of_all
leads-done s i below [] g h at to m all gives has stands = record {
  machine = m;
  turns = (omega (arith, stands.behind), refl);
  all = all;
  own = subst (λ y. Has y (reg m i)) gives has;
  others = λ j x b n k. k;
}
leads-done s i below (o ∷ os) g h at to m all gives has stands =
    let f : Offers i g o = gives.0 in
    let a : Accepts o (reg m (register_of o)) = offers-accepts i g o m f has in
    let same : length (after o m).registers ≡ 32 = length-set m.registers (register_of o) (applied o (reg m (register_of o))) ∙ all in
    let r = leads-done s i below os (given_by i o g) h (at + length (operation_bytes 0 o)) to (after o m) same gives.1
    (after-has o m i g (omega arith) a has) (stands-back s (operation_bytes 0 o) (bytes_of_all os) at to stands) in
    record {
      machine = r.machine;
      turns = (
        at + length (operation_bytes 0 o),
        record { free = 0; is_free = free-none; range = f.range; stands = stands-front s (operation_bytes 0 o) (bytes_of_all os) at to stands },
        a,
        r.turns,
      );
      all = r.all;
      own = r.own;
      others = λ j x b n k. r.others j x b n
          (subst (λ y. Has y (reg (after o m) j)) (other-given j o x (λ e. n (e ∙ f.register))) (after-has o m j x (omega arith) a k));
    }
