-- What public contracts cite.
pub mod Standing
-- What private contracts cite.
pub mod Parts
