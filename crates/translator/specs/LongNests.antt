-- The longest nests, computed from the definitions: 195 bytes in range, and 151 that are accepted.
--
--   times                          bytes repeated
--   long_count, long_term, long_access, long_loop   numbers as long as they can be
--   longest, longest_accepted       the nests
--   lengths                        their lengths, and what is answered
use Rattle.std.specs.Prelude.{ℕ, zero, suc, ◌≡◌, refl, List, [], ◌∷◌, ◌++◌, length, replicate}
use Rattle.translator.specs.RefusedNests.{accepted, refused_with, judged}

-- n times the same bytes
unfoldable pub times : ℕ → List ℕ → List ℕ
times zero l = []
times (suc n) l = l ++ times n l

-- a count of 128
unfoldable pub long_count : List ℕ
long_count = 0x80 ∷ 0x01 ∷ []

-- a term, or a stride, of 1,048,576
unfoldable pub long_term : List ℕ
long_term = 0x80 ∷ 0x80 ∷ 0x80 ∷ 0x01 ∷ []

-- an access from 16,384 on, with seven such strides
unfoldable pub long_access : List ℕ
long_access = (0x80 ∷ 0x80 ∷ 0x01 ∷ []) ++ times 7 long_term

-- a loop with n terms, all of them long
unfoldable pub long_loop : ℕ → List ℕ
long_loop n = long_count ++ times n long_term

-- seven loops, every number as long as it can be
unfoldable pub longest : List ℕ
longest =
    (0x00 ∷ 0x07 ∷ 0x00 ∷ 0x01 ∷ [])
    ++ (long_loop 6 ++ (long_loop 5 ++ (long_loop 4 ++ (long_loop 3 ++ (long_loop 2 ++ (long_loop 1 ++ (long_loop 0 ++ times 3 long_access)))))))

-- two counts of 128, the others 1; eight long terms, for loops of one visit; every stride long
unfoldable pub longest_accepted : List ℕ
longest_accepted =
    (0x00 ∷ 0x07 ∷ 0x00 ∷ 0x01 ∷ [])
    ++ ((long_count ++ (0x00 ∷ times 5 long_term))
    ++ ((long_loop 3 ++ (0x00 ∷ 0x00 ∷ []))
    ++ ((0x01 ∷ replicate 4 0) ++ ((0x01 ∷ replicate 3 0) ++ ((0x01 ∷ replicate 2 0) ++ ((0x01 ∷ 0x00 ∷ []) ++ (0x01 ∷ times 3 long_access)))))))

-- 21 terms are too many: 6; with eight of them it is accepted
pub lengths :
    (length longest ≡ 195)
    × (judged longest ≡ refused_with 6 0)
    × (length longest_accepted ≡ 151)
    × (judged longest_accepted ≡ accepted)
unfolding judged times long_count long_term long_access long_loop longest longest_accepted
lengths = (refl, refl, refl, refl)
