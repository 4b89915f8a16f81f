-- The registers of a machine laid out for a run.
--
--   no_running, beginning         past the 32; a register at the start of a run
--   pattern_at                    the descriptors of register i
--   view_at, registers_in          the register that the i-th running one stands for; all of them
--   LaidOut                      arrays of 32, in which every open stream remembers its next stop
use Rattle.std.specs.Prelude.{◌≡◌, ℕ, zero, suc, ◌<◌, List, [], ◌∷◌, length, slice_index, slice_index_or}
use Rattle.codec.specs.declared.header.Kind.TheVariants.{Load}
use Rattle.engine.specs.Addresses.{no_bytes}
use Rattle.engine.specs.Registers.{no_register}
use Rattle.engine.specs.Runnings.{view_of, Remembers}
use Rattle.engine.specs.declared.place.Spot.{Spot}
use Rattle.engine.specs.declared.register.State.TheVariants.{Plain}
use Rattle.engine.specs.declared.register.Register.{Register}
use Rattle.engine.specs.declared.running.Running.{Running}
use Rattle.engine.specs.declared.stream.Pattern.{Pattern}

-- what `get_or` gives past the 32 running registers
abbrev pub no_running : Running
no_running = record { state = Plain; kind = Load; width = 0; valid = 0; moved = 0; height = 0; index = 0; address = no_bytes; size = 0; step = no_bytes }

-- a register at the start of a run, with where its next stop lies
abbrev pub beginning : Register → Spot → Running
beginning r s = record {
  state = r.state;
  kind = r.kind;
  width = r.width;
  valid = r.valid;
  moved = r.moved;
  height = r.height;
  index = slice_index r.index 0;
  address = s.address;
  size = s.size;
  step = s.step;
}

-- the descriptors of register i, which do not change in a run
abbrev pub pattern_at : List Register → ℕ → Pattern
pattern_at kept i = (slice_index_or kept i no_register).pattern

module _ (kept : List Register) (lanes indices : List (List ℕ)) (all : List Running) where
  -- the register that the i-th running one stands for
  abbrev pub view_at : ℕ → Register
  view_at i = view_of (pattern_at kept i) (slice_index_or lanes i []) (slice_index_or indices i []) (slice_index_or all i no_running)

  -- the next n of them, from the i-th on
  unfoldable pub views_from : ℕ → ℕ → List Register
  views_from i zero = []
  views_from i (suc n) = view_at i ∷ views_from (suc i) n

  -- all registers
  abbrev pub registers_in : List Register
  registers_in = views_from 0 32

  -- arrays of 32, in which every open stream remembers its next stop
  pub record LaidOut : Type 0 where
    pub registers32 : length kept ≡ 32
    pub lanes32 : length lanes ≡ 32
    pub indices32 : length indices ≡ 32
    pub all32 : length all ≡ 32
    pub remembers : (i : ℕ) → i < 32 → Remembers (pattern_at kept i) (slice_index_or indices i []) (slice_index_or all i no_running)
