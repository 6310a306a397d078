pub mod Names
pub mod steps
pub mod Calls
unfoldable pub use Names.*
unfoldable pub use steps.*
unfoldable pub use Calls.*
