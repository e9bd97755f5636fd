-- Laws that belong to no one function: on the access language.
pub mod Laws
