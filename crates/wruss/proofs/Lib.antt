-- Laws that belong to no one function of WRUSS.
mod WrussWays
