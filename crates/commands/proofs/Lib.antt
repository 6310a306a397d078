-- What the definition of the command line says of some words, for its reader
pub mod Examples
-- What clap says of this program's command line; for `command`, `job` and others
pub mod JobLemmas
-- A text is written piece by piece; for `print`, `put`, `put_lines` and others, and for `checks`
pub mod PutLemmas
-- Where clap refuses nothing of the words, the subcommand at which its walk stops is one of the program's; for `TakenLemmas`
pub mod KindIsNamed
-- Where clap refuses nothing of the words, they name a subcommand; for `job`
pub mod TakenLemmas
-- The text of a picture around one of its lines; for `put_lines`
pub mod PictureTexts
-- A stream is read into a terminal piece by piece; for `read_stream`
pub mod FeedingLemmas
-- A program to which subcommands are added in turn; for `command`
pub mod SubcommandLemmas
-- What is said of an error, by its kind; for `usage`
pub mod RefusedLemmas
