pub mod Names
pub mod States
pub mod Runs
pub mod Reads
pub mod Ends
pub mod Showing
pub mod Methods
pub mod Histories
pub mod EndsOfScripts
pub mod steps
unfoldable pub use Names.*
unfoldable pub use States.*
unfoldable pub use Runs.*
unfoldable pub use Reads.*
unfoldable pub use Ends.*
unfoldable pub use Showing.*
unfoldable pub use Methods.*
unfoldable pub use Histories.*
unfoldable pub use EndsOfScripts.*
unfoldable pub use steps.*
