pub mod BusLaws
pub mod RateLaws
pub mod TailLaws
pub mod SizeLaws
pub mod Laws
pub mod KnownLaws
