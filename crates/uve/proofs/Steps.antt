-- One flag, one number, one register more.
use Rattle.std.proofs.Common.{◌≡◌, ℕ, zero, suc, ◌+◌, ◌-◌, ◌*◌, ◌/◌, ◌%◌, ◌^◌, ◌<◌, ◌≤◌, List, ◌++◌, length, get_or, drop, refl, sym, ap, ◌∙◌, append_assoc, Ok, Err, add-one, arith, drop-cons, drop-drop, pow-add, w64}
use Rattle.std.proofs.Math.Nat.{pow-suc, div-div-eq-div-mul}
use Rattle.std.proofs.lemmas.List.Edits.{sets, sets-eq}
use lib.ListN.{drop_of_length-le}
use borrow.Rule.Slice.PartMut.{put_mid}
use Rattle.std.specs.Int.{byte_at, bytes_low_first, to_le_bytes}
use Rattle.engine.specs.Memory.{little_endian, joined}
use Rattle.engine.specs.ByteLaws.{length-little}
use Rattle.engine.specs.Registers.{reg}
use Rattle.engine.specs.Run.{Verdict, number_given, Progress}
use Rattle.engine.specs.declared.register.Machine.{Machine}
use Rattle.engine.proofs.ByteSteps.{sets-append}
use Rattle.uve.specs.Reports.{bytes_of64, head_numbers, flag_digit, flags_from, lane_numbers, register_numbers, registers_from, mask_numbers, report_of, refused_number}
use Rattle.uve.specs.JoinedLaws.{joined-append, length-joined}
use Rattle.uve.specs.ReportLaws.{register-length}

-- ---- flags

-- one dimension below those that were looked at
pub flag-next : (dims height d : ℕ) → d < 8 → flags_from dims height d (8 - d) ≡ flag_digit dims height d + 2 * flags_from dims height (d + 1) (8 - (d + 1))
unfolding flags_from
flag-next dims height d h =
    let e : 8 - d ≡ suc (8 - (d + 1)) = omega arith in
    rw (e, add-one)

pub flag-none : (dims height d : ℕ) → flags_from dims height d 0 ≡ 0
unfolding flags_from
flag-none dims height d = refl

-- one binary digit more
pub doubled : (b x n m : ℕ) → b ≤ 1 → x < 2 ^ n → m ≡ suc n → b + 2 * x < 2 ^ m
doubled b x n m p h e =
    let f : m ≡ n + 1 = omega arith in
    let g : 2 ^ (n + 1) ≡ 2 ^ n * 2 = pow-add 2 n 1 in
    rw (f, g) (omega arith)

-- ---- bytes

byte_at-is : (i n : ℕ) → byte_at i n ≡ n / 256 ^ i % 256
byte_at-is zero n = omega arith
byte_at-is (suc i) n = refl

bytes_from : (i k n : ℕ) → bytes_low_first i k n ≡ little_endian k (n / 256 ^ i)
unfolding little_endian
bytes_from i zero n = refl
bytes_from i (suc k) n =
    let e : n / 256 ^ suc i ≡ n / 256 ^ i / 256 = rw (pow-suc 256 i) (sym (div-div-eq-div-mul n (256 ^ i) 256)) in
    rw (byte_at-is i n, bytes_from (suc i) k n, e)

-- the bytes of a number
pub bytes-little : (n : ℕ) → to_le_bytes w64 n ≡ little_endian 8 n
bytes-little n =
    let e : n / 1 ≡ n = omega arith in
    bytes_from 0 8 n ∙ ap (little_endian 8) e

-- bytes that are copied into a part
pub copied : (l : List ℕ) (i k : ℕ) (ys zs : List ℕ) → ys ≡ zs → length zs ≡ k → i + k ≤ length l → put_mid i k l ys ≡ sets l i zs
copied l i k ys zs e n h =
    rw (e, ← n, drop-drop, ← append_assoc) (sym (sets-eq zs l i (omega arith)))

-- ---- numbers

-- the next number is put, and the rest is to be put behind it
pub number_put : (l : List ℕ) (at i : ℕ) (ns : List ℕ) → i < length ns
    → sets l (at + 8 * i) (bytes_of64 (drop i ns)) ≡ sets (sets l (at + 8 * i) (little_endian 8 (get_or ns i 0))) (at + 8 * (i + 1)) (bytes_of64 (drop (i + 1) ns))
unfolding joined
number_put l at i ns h =
    let e : at + 8 * suc i ≡ at + 8 * i + 8 = omega arith in
    rw (add-one, drop-cons ns i 0 h, e, sets-append, length-little)

pub all-put : (l : List ℕ) (at i : ℕ) (ns : List ℕ) → length ns ≤ i → sets l at (bytes_of64 (drop i ns)) ≡ l
unfolding joined
all-put l at i ns h = rw (drop_of_length-le ns {i = i} h)

-- ---- a register

-- six numbers are put, and the lane numbers behind them
pub lanes-put : (l : List ℕ) (at : ℕ) (six lanes ns : List ℕ) → length six ≡ 6 → ns ≡ six ++ lane_numbers lanes
    → sets (sets l at (bytes_of64 six)) (at + 48) (bytes_of64 (lane_numbers lanes)) ≡ sets l at (bytes_of64 ns)
lanes-put l at six lanes ns n e =
    let f : at + 48 ≡ at + length (bytes_of64 six) = omega (arith, n, length-joined 8 six) in
    rw (e, f, joined-append 8 six, sets-append)

-- ---- a report

-- the number of a run's refusal
pub given-refused : (v : Verdict) → refused_number v ≡ number_given v
given-refused (Ok _) = refl
given-refused (Err x) = refl

-- the first eight numbers are put
pub head-put : (l : List ℕ) (p : Progress)
    → sets l 0 (bytes_of64 (report_of p)) ≡ sets (sets l 0 (bytes_of64 (head_numbers p.verdict p.report))) 64 (bytes_of64 (registers_from p.world.machine 0 32 ++ mask_numbers))
unfolding report_of head_numbers
head-put l p =
    let head = head_numbers p.verdict p.report in
    rw (joined-append 8 head (registers_from p.world.machine 0 32 ++ mask_numbers), sets-append l 0 (bytes_of64 head), length-joined 8 head)

-- the next register is put, and the rest is to be put behind it
pub register-put : (l : List ℕ) (m : Machine) (i : ℕ) → i < 32
    → sets l (64 + 112 * i) (bytes_of64 (registers_from m i (32 - i) ++ mask_numbers))
    ≡ sets (sets l (64 + 112 * i) (bytes_of64 (register_numbers (reg m i)))) (64 + 112 * (i + 1)) (bytes_of64 (registers_from m (i + 1) (32 - (i + 1)) ++ mask_numbers))
unfolding registers_from
register-put l m i h =
    let e : 32 - i ≡ suc (32 - (i + 1)) = omega arith in
    let f : 64 + 112 * i + 14 * 8 ≡ 64 + 112 * suc i = omega arith in
    let now = register_numbers (reg m i) in
    rw (e, add-one, append_assoc, joined-append 8 now, sets-append l (64 + 112 * i) (bytes_of64 now), length-joined 8 now, register-length, f)

-- the masks are left
pub registers-put : (l : List ℕ) (m : Machine) (i : ℕ) → i ≡ 32
    → sets l (64 + 112 * i) (bytes_of64 (registers_from m i (32 - i) ++ mask_numbers)) ≡ sets l 3648 (bytes_of64 mask_numbers)
unfolding registers_from
registers-put l m i e = rw e
