-- Laws that belong to no one function of INCSSP.
mod IncsspWays
