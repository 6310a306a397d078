pub mod Gathering
pub mod Pens
pub mod Runs
pub mod Holding
pub mod Strokes
unfoldable pub use Gathering.*
unfoldable pub use Pens.*
unfoldable pub use Runs.*
unfoldable pub use Holding.*
unfoldable pub use Strokes.*
