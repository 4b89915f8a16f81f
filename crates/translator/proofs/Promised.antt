-- All that is promised of loop nests: which bytes are a nest, what translating does to the room, what the visits are, the plain loop.
--
--   promised
use Rattle.translator.specs.Promise3.{Promised}
use Rattle.translator.proofs.Nesting.{nesting}
use Rattle.translator.proofs.Translating.{translating}
use Rattle.translator.proofs.Visiting.{visiting}
use Rattle.translator.proofs.Promise3.{promise3}

-- of every nest, room, vector length and memory
pub promised : Promised
promised = record { nesting = nesting; translating = translating; visiting = visiting; plain = promise3 }
