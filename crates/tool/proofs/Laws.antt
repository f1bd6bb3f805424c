-- The table of verbs, a command line read word by word, parameters held to a limit, the lengths of texts, replies put part by part, a part
-- of a tape and a list of runs told, the two streams of a reply, and a reply of each verb.
pub mod Verbs
pub mod Calls
pub mod Held
pub mod Lengths
pub mod Parts
pub mod Cuts
pub mod Runs
pub mod Replies
pub mod Examples
