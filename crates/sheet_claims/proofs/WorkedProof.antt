-- The worked sheets, computed. Assumes nothing.
use Rattle.std.proofs.Common.{refl}
use Rattle.numbers.specs.Numbers.{number_at}
use Rattle.pages.specs.Pages.{page_of}
use Rattle.order.specs.Order.{page_number}
use Rattle.texts.specs.Digits.{digit, hex, number}
use Rattle.texts.specs.Fields.{fields, joined}
use Rattle.sheet.specs.Lines.{line}
use Rattle.sheet.specs.Sheets.{word_lines, pages_words, page_lines, plain_lines, pages_of, insert, ascended, saved_of, sheet_lines, text}
use Rattle.sheet_claims.specs.Worked.{bytes_in, Worked}

pub worked : Worked
unfolding bytes_in page_of page_number digit hex number fields line joined number_at word_lines pages_words page_lines plain_lines pages_of insert ascended saved_of sheet_lines text
worked = record { smallest = refl; switch = refl; both_pages = refl }
