pub mod Reader
pub mod Reads
pub mod Records
pub mod Script
pub mod Table
