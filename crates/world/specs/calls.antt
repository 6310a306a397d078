pub mod Rules
pub mod RefusedCalls
pub mod Making
pub mod Writing
pub mod Given
pub mod Copying
pub mod Queries
pub mod Stacking
pub mod Refresh
pub mod Dispatch
pub mod Affected
pub mod Written
unfoldable pub use Rules.*
unfoldable pub use RefusedCalls.*
unfoldable pub use Making.*
unfoldable pub use Writing.*
unfoldable pub use Given.*
unfoldable pub use Copying.*
unfoldable pub use Queries.*
unfoldable pub use Stacking.*
unfoldable pub use Refresh.*
unfoldable pub use Dispatch.*
unfoldable pub use Affected.*
unfoldable pub use Written.*
