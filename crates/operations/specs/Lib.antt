-- What an operation sees, what each plans, and the effects that an action stands for.
pub mod Deeds
pub mod Seen
pub mod Plans
pub mod Rows
pub mod Effects
pub mod Answers
