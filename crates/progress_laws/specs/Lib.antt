pub mod Laws
pub mod HostFacts
