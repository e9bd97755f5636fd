-- What a descriptor says, and where a selector leads (docs/RULES.md, "The descriptor table"). Assumes nothing.
use Rattle.std.specs.Prelude.{ℕ, ◌+◌, ◌*◌, ◌/◌, ◌%◌, ◌^◌, Bool, cond, List, eqb, leb, Option, Some, None, Result, Ok, Err}
use Rattle.numbers.specs.Numbers.{held}
use Rattle.descriptors.specs.declared.Class.{Class}
use Rattle.descriptors.specs.declared.Class.TheVariants.{Code, Gate, Other}
use Rattle.descriptors.specs.declared.Descriptor.{Descriptor}
use Rattle.descriptors.specs.declared.Unselected.{Unselected}
use Rattle.descriptors.specs.declared.Unselected.TheVariants.{Null, Local, Outside}

-- ---- a descriptor, as one number of 64 bits

-- `count` bits of a number, from bit `low` on
abbrev pub bits : ℕ → ℕ → ℕ → ℕ
bits low count number = number / 2 ^ low % 2 ^ count

-- one bit, as a test
abbrev pub is_set : ℕ → ℕ → Bool
is_set place number = eqb (bits place 1 number) 1

-- bits 43 to 40
abbrev pub type_of : ℕ → ℕ
type_of number = bits 40 4 number

-- With S (bit 44) set, a code segment is one whose type has its upper bit set; with S clear, type 12 is a 64-bit call gate.
unfoldable pub class_of : ℕ → Class
class_of number = cond (is_set 44 number) (cond (leb 8 (type_of number)) Code Other) (cond (eqb (type_of number) 12) Gate Other)

unfoldable pub base_of : ℕ → ℕ
base_of number = bits 56 8 number * 2 ^ 24 + bits 16 24 number

-- 20 bits
abbrev pub limit_of : ℕ → ℕ
limit_of number = bits 48 4 number * 2 ^ 16 + bits 0 16 number

-- in bytes: with G (bit 55) set, the limit counts units of 4,096
unfoldable pub scaled_limit : ℕ → ℕ
scaled_limit number = cond (is_set 55 number) (limit_of number * 4096 + 4095) (limit_of number)

-- conforming, DPL, P, L and D
unfoldable pub descriptor_of : ℕ → Descriptor
descriptor_of number = record {
  class = class_of number;
  conforming = is_set 42 number;
  dpl = bits 45 2 number;
  present = is_set 47 number;
  long = is_set 53 number;
  wide = is_set 54 number;
  base = base_of number;
  limit = scaled_limit number;
}

-- ---- a selector

-- its RPL: bits 1 and 0
abbrev pub rpl_of : ℕ → ℕ
rpl_of selector = selector % 4

-- the 8 bytes of its descriptor, if they lie inside the table
abbrev pub found : Option ℕ → Result Descriptor Unselected
found (Some number) = Ok (descriptor_of number)
found None = Err Outside

-- Where it leads: null with bits 15 to 2 all 0; to the local table with bit 2 set; else to the descriptor whose index is bits 15 to 3.
unfoldable pub selected : List ℕ → ℕ → Result Descriptor Unselected
selected table selector =
    cond (eqb (selector / 4) 0) (Err Null)
    (cond (eqb (selector / 4 % 2) 1) (Err Local)
    (found (held table (selector / 8 * 8) 8)))
