pub mod Stations
