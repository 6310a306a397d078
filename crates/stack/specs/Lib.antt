pub mod Names
pub mod Nodes
pub mod Indexes
pub mod Tables
pub mod Calls
pub mod steps
unfoldable pub use Names.*
unfoldable pub use Nodes.*
unfoldable pub use Indexes.*
unfoldable pub use Tables.*
unfoldable pub use Calls.*
unfoldable pub use steps.*
