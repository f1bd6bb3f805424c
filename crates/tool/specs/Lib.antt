-- The command-line tool: its verbs, what a command line asks for, and the reply.
pub mod Verbs
pub mod Texts
pub mod Calls
pub mod Replies
pub mod Rows
pub mod Inner
