-- Records kept as words: laid, and compared.
pub mod Laws
pub mod Words
pub mod Same
