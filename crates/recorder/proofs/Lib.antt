mod Laying
pub mod Packing
