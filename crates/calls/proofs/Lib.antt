-- The answers of a call are of its kind; for `make`, `find`
pub mod AnswerKinds
-- What each call is refused by, and which only ask, call by call; for `laws`
pub mod CallLaws
