-- Sides   the cells of the four sides
-- Seeds   marks and queue while voids on open sides are sought, and what the search makes of them
pub mod Sides
pub mod Seeds
