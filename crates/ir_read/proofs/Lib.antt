pub mod Ends
pub mod OneAnswer
pub mod Settled
pub mod SomeAnswer
