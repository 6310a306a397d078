pub mod Names
pub mod Faults
pub mod Findings
pub mod Everywhere
pub mod CheckCommand
pub mod steps
unfoldable pub use Names.*
unfoldable pub use Faults.*
unfoldable pub use Findings.*
unfoldable pub use Everywhere.*
unfoldable pub use CheckCommand.*
unfoldable pub use steps.*
