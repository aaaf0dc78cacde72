pub mod Label
pub mod PathTable
pub mod Reconciliation
pub mod Laws
