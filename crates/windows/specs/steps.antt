pub mod State
pub mod Writes
unfoldable pub use State.*
unfoldable pub use Writes.*
