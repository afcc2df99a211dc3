pub mod ChainPlaces
pub mod FirstTokens
