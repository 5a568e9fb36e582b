-- What a table's rows and references mean: document 01, "The table" and the operands of "Operations".
pub mod Reference
pub mod Row
pub mod Operands
pub mod Table
