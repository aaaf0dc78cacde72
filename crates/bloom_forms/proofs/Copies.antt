-- Roots, and the copies that they stand for.
pub mod RootsLaw
pub mod Copying
pub mod Origins
pub mod Arrived
pub mod Runs
pub mod ModuleOrigins
pub mod StockOrigins
pub mod AllOrigins
pub mod AttributesLemmas
