pub mod Answers
pub mod Quiet
pub mod AnswerLaws
pub mod Counting
unfoldable pub use Answers.*
unfoldable pub use Quiet.*
unfoldable pub use AnswerLaws.*
unfoldable pub use Counting.*
