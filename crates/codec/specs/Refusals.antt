-- Refusals and their numbers.
--
--   number_of               the number that document 01's table gives a refusal
--   role_number, lane_of, operand_of   the two numbers more that 14 carries
--   numbered, rolled, one-role, one_number   a refusal is known by these three
--   is-numbered            any but 14 by its own number alone
--   err_at                 a refusal with its place, as an answer
use Rattle.std.specs.Prelude.{ℕ, zero, suc, ◌≡◌, refl, false, Result, Err, eqb}
use Rattle.std.proofs.Common.{sym, ◌∙◌, ap}
use Rattle.codec.specs.TestLaws.{never}
use Rattle.codec.specs.declared.refusal.Role.{Role}
use Rattle.codec.specs.declared.refusal.Role.TheVariants as role
use Rattle.codec.specs.declared.refusal.Refused.{Refused}
use Rattle.codec.specs.declared.refusal.Refusal.{Refusal}
use Rattle.codec.specs.declared.refusal.Refusal.TheVariants.{BadNumber, OutOfRange, FixedBits, NotCarried, WrongState, TooMany, Misplaced, LowHigh, Product, WrongKind, StreamEnded, Widths, LaneCounts, Outside, Lengths, LoopRegister, NoRoom, NoLanes}

-- 01, "Refusal numbers": the table; 02, 2/14: "18, no lanes for smallest, largest or first largest"
abbrev pub number_of : Refusal → ℕ
number_of BadNumber = 1
number_of OutOfRange = 2
number_of FixedBits = 3
number_of NotCarried = 4
number_of WrongState = 5
number_of TooMany = 6
number_of Misplaced = 7
number_of LowHigh = 8
number_of Product = 9
number_of WrongKind = 10
number_of StreamEnded = 11
number_of Widths = 12
number_of LaneCounts = 13
number_of (Outside lane role) = 14
number_of Lengths = 15
number_of LoopRegister = 16
number_of NoRoom = 17
number_of NoLanes = 18

-- 02, 1/14: "whether the first source, second source or destination was at fault": 0, 1, 2, in the order in which they are looked at
abbrev pub role_number : Role → ℕ
role_number role.First = 0
role_number role.Second = 1
role_number role.Destination = 2

-- 02, 1/14: "which lane, counted from 0, is the first outside"; only 14 carries it, any other has 0
abbrev pub lane_of : Refusal → ℕ
lane_of BadNumber = 0
lane_of OutOfRange = 0
lane_of FixedBits = 0
lane_of NotCarried = 0
lane_of WrongState = 0
lane_of TooMany = 0
lane_of Misplaced = 0
lane_of LowHigh = 0
lane_of Product = 0
lane_of WrongKind = 0
lane_of StreamEnded = 0
lane_of Widths = 0
lane_of LaneCounts = 0
lane_of (Outside lane role) = lane
lane_of Lengths = 0
lane_of LoopRegister = 0
lane_of NoRoom = 0
lane_of NoLanes = 0

-- 02, 1/14: the operand at fault; only 14 carries it, any other has 0
abbrev pub operand_of : Refusal → ℕ
operand_of BadNumber = 0
operand_of OutOfRange = 0
operand_of FixedBits = 0
operand_of NotCarried = 0
operand_of WrongState = 0
operand_of TooMany = 0
operand_of Misplaced = 0
operand_of LowHigh = 0
operand_of Product = 0
operand_of WrongKind = 0
operand_of StreamEnded = 0
operand_of Widths = 0
operand_of LaneCounts = 0
operand_of (Outside lane role) = role_number role
operand_of Lengths = 0
operand_of LoopRegister = 0
operand_of NoRoom = 0
operand_of NoLanes = 0

-- what is refused is refused at a place: its first byte, of an operation or a calculation
abbrev pub err_at : {A : Type 0} → ℕ → Refusal → Result A Refused
err_at place x = Err (record { refusal = x; place = place })

-- the operand that has a number, 0 to 2; any other number, which none has, gives the last
abbrev pub rolled : ℕ → Role
rolled zero = role.First
rolled (suc zero) = role.Second
rolled (suc (suc n)) = role.Destination

-- an operand is the one that has its number
pub one-role : (r : Role) → rolled (role_number r) ≡ r
one-role role.First = refl
one-role role.Second = refl
one-role role.Destination = refl

-- the refusal that has a number, 1 to 18, and of 14 that lane and operand; any other number, which no refusal has, gives the first or the
-- last
abbrev pub numbered : ℕ → ℕ → ℕ → Refusal
numbered zero lane operand = BadNumber
numbered (suc zero) lane operand = BadNumber
numbered (suc (suc zero)) lane operand = OutOfRange
numbered (suc (suc (suc zero))) lane operand = FixedBits
numbered (suc (suc (suc (suc zero)))) lane operand = NotCarried
numbered (suc (suc (suc (suc (suc zero))))) lane operand = WrongState
numbered (suc (suc (suc (suc (suc (suc zero)))))) lane operand = TooMany
numbered (suc (suc (suc (suc (suc (suc (suc zero))))))) lane operand = Misplaced
numbered (suc (suc (suc (suc (suc (suc (suc (suc zero)))))))) lane operand = LowHigh
numbered (suc (suc (suc (suc (suc (suc (suc (suc (suc zero))))))))) lane operand = Product
numbered (suc (suc (suc (suc (suc (suc (suc (suc (suc (suc zero)))))))))) lane operand = WrongKind
numbered (suc (suc (suc (suc (suc (suc (suc (suc (suc (suc (suc zero))))))))))) lane operand = StreamEnded
numbered (suc (suc (suc (suc (suc (suc (suc (suc (suc (suc (suc (suc zero)))))))))))) lane operand = Widths
numbered (suc (suc (suc (suc (suc (suc (suc (suc (suc (suc (suc (suc (suc zero))))))))))))) lane operand = LaneCounts
numbered (suc (suc (suc (suc (suc (suc (suc (suc (suc (suc (suc (suc (suc (suc zero)))))))))))))) lane operand = Outside lane (rolled operand)
numbered (suc (suc (suc (suc (suc (suc (suc (suc (suc (suc (suc (suc (suc (suc (suc zero))))))))))))))) lane operand = Lengths
numbered (suc (suc (suc (suc (suc (suc (suc (suc (suc (suc (suc (suc (suc (suc (suc (suc zero)))))))))))))))) lane operand = LoopRegister
numbered (suc (suc (suc (suc (suc (suc (suc (suc (suc (suc (suc (suc (suc (suc (suc (suc (suc zero))))))))))))))))) lane operand = NoRoom
numbered (suc (suc (suc (suc (suc (suc (suc (suc (suc (suc (suc (suc (suc (suc (suc (suc (suc (suc n)))))))))))))))))) lane operand = NoLanes

-- a refusal is the one that has its three numbers
pub one_number : (x : Refusal) → numbered (number_of x) (lane_of x) (operand_of x) ≡ x
one_number BadNumber = refl
one_number OutOfRange = refl
one_number FixedBits = refl
one_number NotCarried = refl
one_number WrongState = refl
one_number TooMany = refl
one_number Misplaced = refl
one_number LowHigh = refl
one_number Product = refl
one_number WrongKind = refl
one_number StreamEnded = refl
one_number Widths = refl
one_number LaneCounts = refl
one_number (Outside lane role) = ap (Outside lane) (one-role role)
one_number Lengths = refl
one_number LoopRegister = refl
one_number NoRoom = refl
one_number NoLanes = refl

-- any but 14 is known by its own number
pub is-numbered : (x : Refusal) (n : ℕ) → number_of x ≡ n → eqb n 14 ≡ false → x ≡ numbered n 0 0
is-numbered BadNumber n e f = ap (λ k. numbered k 0 0) e
is-numbered OutOfRange n e f = ap (λ k. numbered k 0 0) e
is-numbered FixedBits n e f = ap (λ k. numbered k 0 0) e
is-numbered NotCarried n e f = ap (λ k. numbered k 0 0) e
is-numbered WrongState n e f = ap (λ k. numbered k 0 0) e
is-numbered TooMany n e f = ap (λ k. numbered k 0 0) e
is-numbered Misplaced n e f = ap (λ k. numbered k 0 0) e
is-numbered LowHigh n e f = ap (λ k. numbered k 0 0) e
is-numbered Product n e f = ap (λ k. numbered k 0 0) e
is-numbered WrongKind n e f = ap (λ k. numbered k 0 0) e
is-numbered StreamEnded n e f = ap (λ k. numbered k 0 0) e
is-numbered Widths n e f = ap (λ k. numbered k 0 0) e
is-numbered LaneCounts n e f = ap (λ k. numbered k 0 0) e
is-numbered (Outside lane role) n e f = never (sym f ∙ ap (λ k. eqb k 14) (sym e))
is-numbered Lengths n e f = ap (λ k. numbered k 0 0) e
is-numbered LoopRegister n e f = ap (λ k. numbered k 0 0) e
is-numbered NoRoom n e f = ap (λ k. numbered k 0 0) e
is-numbered NoLanes n e f = ap (λ k. numbered k 0 0) e
