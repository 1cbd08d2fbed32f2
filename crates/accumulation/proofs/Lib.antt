-- What one store, one donor and one cell of the pass leave in the tail; what the whole pass says of the routes.
pub mod Stores
pub mod Walk
pub mod Routes
