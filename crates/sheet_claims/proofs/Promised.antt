-- Every claim on sheets is proved. Assumes nothing.
use Rattle.sheet_claims.specs.Promises.{Promises}
use Rattle.sheet_claims.proofs.NumeralsProof.{number_read, only_numbers}
use Rattle.sheet_claims.proofs.WorkedProof.{worked}
use Rattle.sheet_claims.proofs.RoundTripsProof.{reads_back, writes_back}
use Rattle.sheet_claims.proofs.FirstBadLineProof.{from_one, before, not_here}
use Rattle.sheet_claims.proofs.EqualMeaningProof.{equal_text, equal_writes}
use Rattle.sheet_claims.proofs.RoomProof.{read_room, write_room, read_room_last, write_room_last}
use Rattle.sheet_claims.proofs.LentBuffersProof.{saved_sheeted, longest_text, written_read, pages_read_back, read_written, read_untouched, write_untouched}

pub promised : Promises
promised = record {
  number_read = number_read;
  only_numbers = only_numbers;
  worked = worked;
  saved_sheeted = saved_sheeted;
  reads_back = reads_back;
  writes_back = writes_back;
  from_one = from_one;
  before = before;
  not_here = not_here;
  equal_text = equal_text;
  equal_writes = equal_writes;
  longest_text = longest_text;
  written_read = written_read;
  pages_read_back = pages_read_back;
  read_written = read_written;
  read_untouched = read_untouched;
  write_untouched = write_untouched;
  read_room = read_room;
  write_room = write_room;
  read_room_last = read_room_last;
  write_room_last = write_room_last;
}
