pub mod Words
pub mod Forms
pub mod Grammar
pub mod Reading
pub mod Program
pub mod Walking
