use Rattle.std.proofs.Common.{◌≡◌, ℕ, ◌+◌, List, ◌++◌, take, drop, sym, ap, ◌∙◌, subst, rules}
use lib.Seq.{take-add}
use Rattle.std.specs.Prelude.{Option}
use Rattle.std.specs.Io.KnownBytes.{Consumes}
use Rattle.std.proofs.KnownBytes.{Consumes-trans}
use Rattle.words.proofs.file.take_all.Goals as goal

-- what was read stands behind what had been read before
read_more : (a b c : Option (List ℕ)) (old new : List ℕ) (count got : ℕ) → take count new ≡ take count old → Consumes a b (take count old)
    → Consumes b c (take got (drop count new)) → Consumes a c (take (count + got) new)
read_more a b c old new count got front before read =
    subst (Consumes a c) (ap (λ l. l ++ take got (drop count new)) (sym front) ∙ sym (take-add count got new)) (Consumes-trans a b c _ _ before read)

pub loop-count-preserved : goal.loop-count-preserved
loop-count-preserved g c =
    let read = c.in-Ok.ensures in
    (search rules, search rules, read_more _ _ _ _ _ c.loop-count.count c.in-Ok.got read.front c.loop-count.invariant.2 read.ok)
