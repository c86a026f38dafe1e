pub mod Tables
pub mod Writes
pub mod Sound
pub mod Sieves
pub mod Growth
pub mod Numbers
pub mod Links
pub mod Copies
