-- Loaded   a sheet that stands in the work buffer by its keys
pub mod Loaded
