-- A sheet as the code writes it: operation by operation, onto a page of 1,024 bytes.
--
--   Blank                              a page on which nothing is written
--   place_after, put_one, put_all, put_calculation   one operation more, those of a list, one calculation more
--   SheetPage                          a page with the sheet of a nest
use Rattle.std.specs.Prelude.{ℕ, ◌≡◌, List, [], ◌∷◌, ◌++◌, length, Result, Ok, Err}
use Rattle.codec.specs.Operations.{operation_in_range, operation_bytes, calculation_in_range, calculation_bytes}
use Rattle.codec.specs.Writing.{written_to, bytes_after}
use Rattle.codec.specs.declared.operation.Operation.{Operation}
use Rattle.codec.specs.declared.operation.Calculation.{Calculation}
use Rattle.codec.specs.declared.writing.Unwritten.{Unwritten}
use Rattle.translator.specs.NestSheets.{sheet_ops, run_op, calculation_of}
use Rattle.translator.specs.declared.nest.Nest.{Nest}
use Rattle.translator.specs.declared.write.Page.{Page}

-- a page of 1,024 bytes on which nothing is written
pub record Blank (p : Page) : Type 0 where
  pub start : p.at ≡ 0
  pub long : length p.bytes ≡ 1024

-- the place behind what was written; where nothing was, the place as it was
abbrev pub place_after : Result ℕ Unwritten → ℕ → ℕ
place_after (Ok behind) at = behind
place_after (Err why) at = at

-- a page with one operation more
unfoldable pub put_one : Operation → Page → Page
put_one o p = record {
  bytes = bytes_after (operation_in_range o) (operation_bytes 0 o) p.bytes p.at;
  at = place_after (written_to (operation_in_range o) (operation_bytes 0 o) p.at (length p.bytes)) p.at;
}

-- a page with the operations of a list more, in order
unfoldable pub put_all : List Operation → Page → Page
put_all [] p = p
put_all (o ∷ os) p = put_all os (put_one o p)

-- a page with one calculation more
unfoldable pub put_calculation : Calculation → Page → Page
put_calculation c p = record {
  bytes = bytes_after (calculation_in_range c) (calculation_bytes c) p.bytes p.at;
  at = place_after (written_to (calculation_in_range c) (calculation_bytes c) p.at (length p.bytes)) p.at;
}

-- a page with the sheet of a nest: a blank one, and on it the operations, the run and the calculation
pub record SheetPage (m : Nest) (r : Page) : Type 0 where
  pub blank : Page
  pub empty : Blank blank
  pub written : r ≡ put_calculation (calculation_of m) (put_all (sheet_ops m ++ (run_op ∷ [])) blank)
