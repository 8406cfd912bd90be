pub mod Prototypes
