pub mod Names
pub mod Kinds
pub mod Queries
pub mod Methods
pub mod Refusals
pub mod WrittenRefusals
unfoldable pub use Names.*
unfoldable pub use Kinds.*
unfoldable pub use Queries.*
unfoldable pub use Methods.*
unfoldable pub use Refusals.*
unfoldable pub use WrittenRefusals.*
