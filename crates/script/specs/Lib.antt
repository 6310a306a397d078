pub mod Names
pub mod Characters
pub mod Words
pub mod Texts
pub mod Pieces
pub mod Readings
pub mod Lines
pub mod Log
pub mod steps
unfoldable pub use Names.*
unfoldable pub use Characters.*
unfoldable pub use Words.*
unfoldable pub use Texts.*
unfoldable pub use Pieces.*
unfoldable pub use Readings.*
unfoldable pub use Lines.*
unfoldable pub use Log.*
unfoldable pub use steps.*
