pub mod Begun
pub mod BlockParts
pub mod EntityLaws
pub mod Placing
pub mod Unended
pub mod Walks
