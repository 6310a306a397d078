pub mod Owners
unfoldable pub use Owners.*
