pub mod Dutiful
pub mod Due
pub mod HostsDo
pub mod ServersDo
pub mod RunsGoOn
pub mod Begun
