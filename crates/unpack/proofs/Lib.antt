pub mod Rising
pub mod Same
pub mod Left
pub mod Apart
pub mod Outcome
pub mod SameSet
pub mod Suffice
pub mod RoundTrip
pub mod OnePacking
mod Fixed
