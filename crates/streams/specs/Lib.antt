pub mod Names
pub mod Counts
pub mod Sinks
pub mod Sending
pub mod Sources
unfoldable pub use Names.*
unfoldable pub use Counts.*
unfoldable pub use Sinks.*
unfoldable pub use Sending.*
unfoldable pub use Sources.*
