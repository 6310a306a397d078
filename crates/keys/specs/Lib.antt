pub mod Names
pub mod PressedKeys
pub mod Characters
pub mod Grammar
pub mod Numerals
pub mod Meanings
pub mod Readings
pub mod Sequences
unfoldable pub use Names.*
unfoldable pub use PressedKeys.*
unfoldable pub use Characters.*
unfoldable pub use Grammar.*
unfoldable pub use Numerals.*
unfoldable pub use Meanings.*
unfoldable pub use Readings.*
unfoldable pub use Sequences.*
