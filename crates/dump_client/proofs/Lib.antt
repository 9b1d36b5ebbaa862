pub mod ComingBytes
