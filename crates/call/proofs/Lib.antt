-- Laws that belong to no one function of near CALL.
mod CallWays
