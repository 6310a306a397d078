pub mod Feeding
pub mod Sizing
unfoldable pub use Feeding.*
unfoldable pub use Sizing.*
