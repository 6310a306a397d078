pub mod Names
pub mod Desks
pub mod Calling
pub mod Covers
pub mod Giving
pub mod KindLaws
pub mod steps
unfoldable pub use Names.*
unfoldable pub use Desks.*
unfoldable pub use Calling.*
unfoldable pub use Covers.*
unfoldable pub use Giving.*
unfoldable pub use KindLaws.*
unfoldable pub use steps.*
