pub mod LineReads
pub mod Bytes
pub mod Rows
pub mod Numbers
unfoldable pub use LineReads.*
unfoldable pub use Bytes.*
unfoldable pub use Rows.*
unfoldable pub use Numbers.*
