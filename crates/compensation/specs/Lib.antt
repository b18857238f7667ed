pub mod Admitted
pub mod Division
pub mod Figures
pub mod Formulas
pub mod Ranges
pub mod Refusals
pub mod Texts
