pub mod Fuel
