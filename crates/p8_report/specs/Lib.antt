-- What public contracts cite.
pub mod Text
-- Internal.
pub mod Origins
