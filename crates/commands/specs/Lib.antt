pub mod Names
pub mod Closing
pub mod CommandLine
pub mod Printing
pub mod Written
pub mod Escapes
pub mod Statuses
pub mod RefusedWords
pub mod Opening
pub mod ShowCommand
pub mod steps
unfoldable pub use Names.*
unfoldable pub use Closing.*
unfoldable pub use CommandLine.*
unfoldable pub use Printing.*
unfoldable pub use Written.*
unfoldable pub use Escapes.*
unfoldable pub use Statuses.*
unfoldable pub use RefusedWords.*
unfoldable pub use Opening.*
unfoldable pub use ShowCommand.*
unfoldable pub use steps.*
