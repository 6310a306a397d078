pub mod Links
pub mod Entries
unfoldable pub use Links.*
unfoldable pub use Entries.*
