pub mod Opening
pub mod Painting
pub mod Places
unfoldable pub use Opening.*
unfoldable pub use Painting.*
unfoldable pub use Places.*
