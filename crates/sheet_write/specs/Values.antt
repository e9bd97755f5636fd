-- How many lines the values of pages take, for the contracts of private functions. Assumes nothing.
use Rattle.std.specs.Prelude.{ℕ, zero, suc, ◌+◌, List, drop}
use Rattle.numbers.specs.Numbers.{number_at}
use Rattle.sheet.specs.Sheets.{line_count}

-- how many of the first n values of 8 bytes are not 0
unfoldable pub nonzeros : ℕ → List ℕ → ℕ
nonzeros zero bytes = 0
nonzeros (suc n) bytes = line_count (number_at bytes 0 8) + nonzeros n (drop 8 bytes)
