pub mod Names
pub mod KeptSlots
pub mod Slots
pub mod Changes
pub mod Touches
pub mod Inks
pub mod Tables
pub mod Calls
pub mod Questions
pub mod Copies
pub mod steps
unfoldable pub use Names.*
unfoldable pub use KeptSlots.*
unfoldable pub use Slots.*
unfoldable pub use Changes.*
unfoldable pub use Touches.*
unfoldable pub use Inks.*
unfoldable pub use Tables.*
unfoldable pub use Calls.*
unfoldable pub use Questions.*
unfoldable pub use Copies.*
unfoldable pub use steps.*
