pub mod Names
pub mod Settings
pub mod WindowMaps
pub mod PanelOrder
pub mod Worlds
pub mod Sound
pub mod Rows
pub mod Drawings
pub mod Frames
pub mod Sharing
pub mod Typing
pub mod Effects
pub mod Replies
pub mod calls
unfoldable pub use Names.*
unfoldable pub use Settings.*
unfoldable pub use WindowMaps.*
unfoldable pub use PanelOrder.*
unfoldable pub use Worlds.*
unfoldable pub use Sound.*
unfoldable pub use Rows.*
unfoldable pub use Drawings.*
unfoldable pub use Frames.*
unfoldable pub use Sharing.*
unfoldable pub use Typing.*
unfoldable pub use Effects.*
unfoldable pub use Replies.*
unfoldable pub use calls.*
