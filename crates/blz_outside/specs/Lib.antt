pub mod Counts
pub mod Files
pub mod MemFiles
pub mod MemSink
pub mod RealEnd
pub mod Sink
