pub mod Cut
pub mod Serial
pub mod SerialWay
