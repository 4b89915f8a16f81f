-- What is refused, and nothing else: the proof.
--
--   unrefused    "not refused" exactly if the plain conditions hold; refused for the first thing wanted that is lacking; a refused one alters nothing
use Rattle.engine.specs.GoodLaws.{configured-kept}
use Rattle.engine.specs.AllowedLaws.{fits-allowed, accepts-clear, loops-on}
use Rattle.engine.specs.StepLaws.{step-refused}
use Rattle.engine.specs.CalculatesLaws.{calculates-clear}
use Rattle.engine.specs.ReasonLaws.{operation-refused, calculation-refused, flag-refused, end-of-stream-refused}
use Rattle.engine.specs.Promise1.{Unrefused}

-- what is refused, and nothing else
pub unrefused : Unrefused
unrefused = record {
  lengths = fits-allowed;
  operation = accepts-clear;
  loop = loops-on;
  calculation = calculates-clear;
  operation-refused = operation-refused;
  calculation-refused = calculation-refused;
  flag-refused = flag-refused;
  end_refused = end-of-stream-refused;
  operation-kept = configured-kept;
  calculation-kept = step-refused;
}
