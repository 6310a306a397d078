pub mod Parameters
pub mod Numbers
unfoldable pub use Parameters.*
unfoldable pub use Numbers.*
