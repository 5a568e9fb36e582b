-- Demand 3: the book, lists of steps and extensions, and the claim about them; and tours that have come to the same blocks (ticket
-- 14).
pub mod Book
pub mod Steps
pub mod Claim
pub mod Alike
