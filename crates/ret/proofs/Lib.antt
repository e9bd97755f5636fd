-- Laws that belong to no one function of Near RET.
mod RetWays
