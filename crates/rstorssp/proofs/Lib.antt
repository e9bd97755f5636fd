-- Laws that belong to no one function of RSTORSSP.
mod RstorsspWays
