-- What a step leaves and puts out.
pub mod Equated
pub mod SameEnds
pub mod Standing
pub mod StockStanding
pub mod OverTables
pub mod Wide
pub mod StockWidths
pub mod EquationsLemmas
pub mod StepsLemmas
