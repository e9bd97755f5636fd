-- The words of a state, and the call as the code has it.

mod Laws
