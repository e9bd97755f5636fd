-- Laws that belong to no one function: LineLaws on lines of a word and numbers, RunLaws on the run that is left, TextLaws on what is read.
mod LineLaws
mod RunLaws
mod TextLaws
