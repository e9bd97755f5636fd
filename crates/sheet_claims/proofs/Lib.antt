-- The theorems on run sheets, each of the type of that name in specs/, and what they stand on. All of it is said of lists of lines: of
-- bytes only the laws on single lines speak (sheet's proofs/LineLaws).
--
--     NumeralsProof         number_read, only_numbers
--     WorkedProof           worked
--     RoundTripsProof       reads_back, writes_back
--     FirstBadLineProof     from_one, before, not_here
--     EqualMeaningProof     equal_text, equal_writes
--     LentBuffersProof      saved_sheeted, longest_text, written_read, pages_read_back, read_written, read_untouched, write_untouched
--     RoomProof             read_room, write_room, read_room_last, write_room_last
--     Promised              promised: all of them
--     SavedLaws             lent_whole, ascended_valid, saved_back: from the lent buffers to a sheet and back

pub mod NumeralsProof
pub mod WorkedProof
pub mod RoundTripsProof
pub mod FirstBadLineProof
pub mod EqualMeaningProof
pub mod RoomProof
pub mod Promised
pub mod SavedLaws
pub mod LentBuffersProof
mod Bytes
mod LineKinds
mod Plain
mod WordsRead
mod StagesRead
mod SheetLines
mod WordsTaken
mod StagesTaken
mod Outcomes
mod LookAhead
mod Ordered
mod LentPages
