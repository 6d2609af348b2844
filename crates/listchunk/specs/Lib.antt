pub mod ListChunk
