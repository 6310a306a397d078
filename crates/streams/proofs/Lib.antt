-- Texts that are sent one after another; for `send`
pub mod Sends
