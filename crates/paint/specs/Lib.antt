pub mod Names
pub mod Doupdates
pub mod Changes
pub mod steps
unfoldable pub use Names.*
unfoldable pub use Doupdates.*
unfoldable pub use Changes.*
unfoldable pub use steps.*
