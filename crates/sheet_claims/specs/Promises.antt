-- Every claim on sheets in one place. The theorem `promised` (proofs/Promised.antt) is of the type here, so a claim that lost its proof
-- would be an error. Assumes nothing.
use Rattle.sheet_claims.specs.Numerals.{NumberRead, OnlyNumbers}
use Rattle.sheet_claims.specs.Worked.{Worked}
use Rattle.sheet_claims.specs.RoundTrips.{SavedSheeted, ReadsBack, WritesBack}
use Rattle.sheet_claims.specs.FirstBadLine.{FromOne, Before, NotHere}
use Rattle.sheet_claims.specs.EqualMeaning.{EqualText, EqualWrites}
use Rattle.sheet_claims.specs.LentBuffers.{LongestText, WrittenRead, PagesReadBack, ReadWritten, ReadUntouched, WriteUntouched, ReadRoom, WriteRoom, ReadRoomLast, WriteRoomLast}

pub record Promises : Type 0 where
  pub number_read : NumberRead
  pub only_numbers : OnlyNumbers
  pub worked : Worked
  pub saved_sheeted : SavedSheeted
  pub reads_back : ReadsBack
  pub writes_back : WritesBack
  pub from_one : FromOne
  pub before : Before
  pub not_here : NotHere
  pub equal_text : EqualText
  pub equal_writes : EqualWrites
  pub longest_text : LongestText
  pub written_read : WrittenRead
  pub pages_read_back : PagesReadBack
  pub read_written : ReadWritten
  pub read_untouched : ReadUntouched
  pub write_untouched : WriteUntouched
  pub read_room : ReadRoom
  pub write_room : WriteRoom
  pub read_room_last : ReadRoomLast
  pub write_room_last : WriteRoomLast
