pub mod Names
pub mod Parts
pub mod Damaging
pub mod Counts
pub mod Repairs
pub mod Spans
pub mod steps
unfoldable pub use Names.*
unfoldable pub use Parts.*
unfoldable pub use Damaging.*
unfoldable pub use Counts.*
unfoldable pub use Repairs.*
unfoldable pub use Spans.*
unfoldable pub use steps.*
