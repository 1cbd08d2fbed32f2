-- What a search for labels that are used twice has on the way.
pub mod Listed
