pub mod Names
pub mod Files
pub mod Serving
pub mod steps
unfoldable pub use Names.*
unfoldable pub use Files.*
unfoldable pub use Serving.*
unfoldable pub use steps.*
