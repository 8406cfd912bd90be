pub mod PrototypeLaws
