-- Laws that belong to no one function of WRSS.
mod WrssWays
