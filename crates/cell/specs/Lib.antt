pub mod Names
pub mod Limits
pub mod Attributes
pub mod Glyphs
pub mod ShownCells
pub mod Packing
pub mod PackingLaws
pub mod Pictures
pub mod Differences
pub mod EqualityLaws
pub mod Grids
pub mod Refusals
pub mod VirtualScreens
unfoldable pub use Names.*
unfoldable pub use Limits.*
unfoldable pub use Attributes.*
unfoldable pub use Glyphs.*
unfoldable pub use ShownCells.*
unfoldable pub use Packing.*
unfoldable pub use PackingLaws.*
unfoldable pub use Pictures.*
unfoldable pub use Differences.*
unfoldable pub use EqualityLaws.*
unfoldable pub use Grids.*
unfoldable pub use Refusals.*
unfoldable pub use VirtualScreens.*
