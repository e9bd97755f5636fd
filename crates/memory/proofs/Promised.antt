-- The claims on bytes that all lie on one page are proved. Assumes nothing.
use Rattle.memory.specs.Promises.{Promises}
use Rattle.memory.proofs.OnePage.{first_byte_decides, one_page_exactly}

pub promised : Promises
promised = record { first_byte_decides = first_byte_decides; one_page_exactly = one_page_exactly }
