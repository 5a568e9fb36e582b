-- Laws of the chain and of the recordings that stand.
pub mod Counting
pub mod Chain
pub mod Standing
pub mod Pairs
pub mod Stops
pub mod Telling
pub mod Loops
pub mod Held
pub mod Links
pub mod Pushing
pub mod Entering
pub mod Growing
pub mod Putting
pub mod Calls
pub mod Order
pub mod Laws
