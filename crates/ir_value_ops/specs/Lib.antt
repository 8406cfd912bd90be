pub mod ValueOps
