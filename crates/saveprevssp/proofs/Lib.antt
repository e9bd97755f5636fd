-- Laws that belong to no one function of SAVEPREVSSP.
mod SaveprevsspWays
