pub mod Totals
pub mod Demand
pub mod Faults
pub mod AnyTables
pub mod Packages
pub mod Cutoffs
