-- What came of an access, with the access that it is held against where it cannot be done. Assumes nothing.
use Rattle.std.specs.Prelude.{Result, Ok, Err}
use Rattle.accesses.specs.declared.access.Access.{Access}
use Rattle.accesses.specs.declared.reach.Failure.{Failure}
use Rattle.memory.specs.declared.blocked.Blocked.{Blocked}

abbrev pub against : {A : Type 0} → Access → Result A Failure → Result A Blocked
against a (Ok found) = Ok found
against a (Err failure) = Err (record { access = a; failure = failure })
