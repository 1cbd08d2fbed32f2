-- One crew's trace on its way, and what the turns of a run go by.
pub mod Going
pub mod Standing
