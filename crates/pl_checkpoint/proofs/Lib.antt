pub mod Told
pub mod Others
pub mod EntryParts
pub mod DeploymentRead
