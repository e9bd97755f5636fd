-- What a reader of the contracts must believe is in Stores. Places serves the contracts of private functions.
pub mod Stores
pub mod Places
