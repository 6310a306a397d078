pub mod Names
pub mod Items
pub mod Terminals
pub mod Streams
pub mod Spelling
pub mod Difference
pub mod Pages
pub mod Parameters
pub mod steps
pub mod Readers
unfoldable pub use Names.*
unfoldable pub use Items.*
unfoldable pub use Terminals.*
unfoldable pub use Streams.*
unfoldable pub use Spelling.*
unfoldable pub use Difference.*
unfoldable pub use Pages.*
unfoldable pub use Parameters.*
unfoldable pub use steps.*
unfoldable pub use Readers.*
