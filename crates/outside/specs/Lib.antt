-- Seeds   the marks while voids on open sides are sought, and the cells of a side
pub mod Seeds
