pub mod Changes
pub mod Outcomes
unfoldable pub use Changes.*
unfoldable pub use Outcomes.*
