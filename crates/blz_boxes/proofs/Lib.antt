pub mod Cuts
pub mod Records
pub mod LatestRows
pub mod NumberRows
pub mod Tables
pub mod KeptWidths
