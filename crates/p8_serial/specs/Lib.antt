-- What public contracts cite.
pub mod Serial
pub mod Typed
pub mod Laws
-- Internal.
pub mod Receiving
