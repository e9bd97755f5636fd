-- Three whole sheets, letter for letter: the first is the smallest, the second has a line of each kind, the third two pages (docs/RULES.md, "Run sheets"). All other
-- claims speak of `text`; these rows say what it looks like. Assumes nothing.
use Rattle.std.specs.Prelude.{ℕ, ◌≡◌, List, [], ◌∷◌, ◌++◌, replicate}
use Prim.Native.Char.{code}
use Prim.Native.String.{String, [] as end, ◌∷◌ as ◌then◌}
use Rattle.sheet.specs.Sheets.{Saved, saved_of, text}

-- the characters of a text, as bytes
unfoldable pub bytes_in : String → List ℕ
bytes_in end = []
bytes_in (c then s) = code c ∷ bytes_in s

-- user code in 64-bit mode, with a shadow stack that ends at 1FF0
abbrev pub user_state : List ℕ
user_state = 2 ∷ 3 ∷ 1 ∷ 1 ∷ 0 ∷ 0x400000 ∷ 0x5010 ∷ 0x1ff0 ∷ 0 ∷ 0xffffffff ∷ []

-- no page, no instruction
abbrev pub smallest : Saved
smallest = record { state = user_state; pages = []; words = [] }

-- the page 2000 with a token at 2FF0, and RSTORSSP to it
abbrev pub switch : Saved
switch = record {
  state = user_state;
  pages = record { entry = 0x2001; bytes = replicate 0xff0 0 ++ (0xf9 ∷ 0x2f ∷ replicate 14 0) } ∷ [];
  words = 3 ∷ 5 ∷ 0x2ff0 ∷ 0 ∷ [];
}

-- two pages, listed the last first: 5000 with two words, of which the second has every digit, and 1000 with one
abbrev pub both_pages : Saved
both_pages = saved_of (record {
  state = user_state;
  pages = 0x5003 ∷ 0x1001 ∷ [];
  bytes = replicate 0xff0 0 ++ (1 ∷ 0 ∷ 0 ∷ 0 ∷ 0 ∷ 0 ∷ 0 ∷ 0 ∷ 0xef ∷ 0xcd ∷ 0xab ∷ 0x89 ∷ 0x67 ∷ 0x45 ∷ 0x23 ∷ 0x01 ∷ (0x10 ∷ replicate 0xfff 0));
  words = [];
})

abbrev pub head_text : String
head_text = "sheet\tx0000000000000001\nstate\tx0000000000000002\tx0000000000000003\tx0000000000000001\tx0000000000000001\tx0000000000000000\tx0000000000400000\tx0000000000005010\tx0000000000001ff0\tx0000000000000000\tx00000000ffffffff\n"

abbrev pub switch_text : String
switch_text = "page\tx0000000000002001\nword\tx0000000000002ff0\tx0000000000002ff9\ndo\tx0000000000000003\tx0000000000000005\tx0000000000002ff0\tx0000000000000000\n"

abbrev pub both_text : String
both_text = "page\tx0000000000001001\npage\tx0000000000005003\nword\tx0000000000001000\tx0000000000000010\nword\tx0000000000005ff0\tx0000000000000001\nword\tx0000000000005ff8\tx0123456789abcdef\n"

pub record Worked : Type 0 where
  pub smallest : text smallest ≡ bytes_in head_text
  pub switch : text switch ≡ bytes_in head_text ++ bytes_in switch_text
  pub both_pages : text both_pages ≡ bytes_in head_text ++ bytes_in both_text
