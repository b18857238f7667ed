pub mod Catalogue
pub mod Rows
pub mod Crc
pub mod Contents
pub mod Codec
pub mod PairLists
pub mod Tables
pub mod Held
