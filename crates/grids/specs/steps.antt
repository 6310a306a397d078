pub mod Adding
pub mod Ends
pub mod Syncs
pub mod Lines
unfoldable pub use Adding.*
unfoldable pub use Ends.*
unfoldable pub use Syncs.*
unfoldable pub use Lines.*
