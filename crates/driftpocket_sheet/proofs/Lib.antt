-- A call's number with a report that is too short.

mod Laws
